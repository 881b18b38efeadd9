-- Where elements begin and end in a list of records.
use Rattle.std.proofs.Common.{◌≡◌, ◌==◌, ◌&&◌, ℕ, inl, inr, Bool, true, false, not, List, [], ◌∷◌, ◌++◌, refl, sym, ap}
use Rattle.std.proofs.Common.{◌∙◌, subst, append_assoc, Option, Some, None}
use Rattle.std.proofs.lemmas.Bool.{and_parts, or_left, or_right}
use Rattle.gds_elements.specs.Types.{boundary, path, sref, aref, text, endel}
use Rattle.lvl_grammar.specs.Order.{Order, nothing, one, next, either, many, IsWord, Begins, has}
use Rattle.gds_elements.specs.Order.{opens, an_element}
use Rattle.gds_elements.specs.Rec.{Rec, kinds}
use Rattle.gds_elements.specs.inside.Reading.{HasRead, IsAfter, IsReading}
use Rattle.gds_elements.specs.declared.element.Drawn.{Drawn}
use Rattle.gds_elements.specs.declared.element.Element.{Element}
use Rattle.gds_elements.specs.declared.element.State.{State}
use Rattle.gds_elements.specs.declared.element.State.TheVariants.{Boundary, Path, Sref, Aref, Text}
use Rattle.gds_elements.specs.declared.boundary.BoundaryStage.{BoundaryStage}
use Rattle.gds_elements.specs.declared.boundary.BoundaryStage.TheVariants.{Layer}
use Rattle.gds_elements.specs.declared.path.PathStage.{PathStage}
use Rattle.gds_elements.specs.declared.path.PathStage.TheVariants.{Layer as PathLayer}
use Rattle.gds_elements.specs.declared.sref.SrefStage.{SrefStage}
use Rattle.gds_elements.specs.declared.sref.SrefStage.TheVariants.{Name as SrefName}
use Rattle.gds_elements.specs.declared.aref.ArefStage.{ArefStage}
use Rattle.gds_elements.specs.declared.aref.ArefStage.TheVariants.{Name as ArefName}
use Rattle.gds_elements.specs.declared.text.TextStage.{TextStage}
use Rattle.gds_elements.specs.declared.text.TextStage.TheVariants.{Layer as TextLayer}
use Rattle.gds_elements.specs.inside.Boundary.{left as boundary_left}
use Rattle.gds_elements.specs.inside.Path.{left as path_left}
use Rattle.gds_elements.specs.inside.Sref.{left as sref_left}
use Rattle.gds_elements.specs.inside.Aref.{left as aref_left}
use Rattle.gds_elements.specs.inside.Text.{left as text_left}
use Rattle.lvl_grammar.specs.inside.After.{can_be_empty}
use Rattle.lvl_grammar.proofs.Orders.{at_type, type_same}
use Rattle.lvl_grammar.proofs.Leads.{leads_unwhole}
use Rattle.gds_elements.proofs.Leads.{leads_begins}
use Rattle.gds_elements.proofs.Words.{Stands, stands_append, stands_left, has_all}

-- the words of the order end with the type, and have it nowhere else
ends_with : ℕ → Order → Bool
ends_with k nothing = false
ends_with k (one j) = j == k
ends_with k (next a b) = not (has a k) && ends_with k b
ends_with k (either a b) = ends_with k a && ends_with k b
ends_with k (many a) = false

-- the list ends with the type and has it nowhere else
record EndsOnce (k : ℕ) (w : List ℕ) : Type 0 where
  before : List ℕ
  is : w ≡ before ++ k ∷ []
  nowhere : Stands k before → ⊥

not_so : (a : Bool) → not a ≡ true → a ≡ true → ⊥
not_so true e f = cc
not_so false e f = cc

ends_once : (k : ℕ) (a : Order) (w : List ℕ) → ends_with k a ≡ true → IsWord a w → EndsOnce k w
unfolding ends_with
ends_once k nothing w e h = cc
ends_once k (one j) w e h = record { before = []; is = h ∙ ap (λ i. i ∷ []) (type_same j k e); nowhere = λ s. s }
ends_once k (next a b) w e h =
    let p = and_parts (not (has a k)) (ends_with k b) e in
    let r = ends_once k b h.1 p.1 h.3 in
    record {
      before = h.0 ++ r.before;
      is = h.4 ∙ ap (λ l. h.0 ++ l) r.is ∙ sym (append_assoc h.0 r.before (k ∷ []));
      nowhere = λ s. elim (stands_append k h.0 r.before s) [
        | inl x ↦ not_so (has a k) p.0 (has_all a k h.0 h.2 x)
        | inr y ↦ r.nowhere y
      ];
    }
ends_once k (either a b) w e h =
    let p = and_parts (ends_with k a) (ends_with k b) e in
    elim h [ inl x ↦ ends_once k a w p.0 x | inr y ↦ ends_once k b w p.1 y ]
ends_once k (many a) w e h = cc

no_end : (k : ℕ) (u x : List ℕ) → (u ++ k ∷ []) ++ x ≡ [] → ⊥
no_end k [] x e = cc
no_end k (a ∷ u) x e = cc

one_end : (k : ℕ) (u v x : List ℕ) → (Stands k v → ⊥) → (u ++ k ∷ []) ++ x ≡ v ++ k ∷ [] → x ≡ []
one_end k [] [] x n e = cc
one_end k [] (y ∷ v) x n e = (let h : k ≡ y = cc in absurd (n (inl h)))
one_end k (a ∷ u) [] x n e = (let t : (u ++ k ∷ []) ++ x ≡ [] = cc in absurd (no_end k u x t))
one_end k (a ∷ u) (y ∷ v) x n e = (let t : (u ++ k ∷ []) ++ x ≡ v ++ k ∷ [] = cc in one_end k u v x (λ s. n (inr s)) t)

-- nothing follows a complete element
pub nothing_follows : (w u : List ℕ) → IsWord an_element w → IsWord an_element (w ++ u) → u ≡ []
unfolding ends_with
nothing_follows w u h g =
    let p = ends_once endel an_element w refl h in
    let q = ends_once endel an_element (w ++ u) refl g in
    one_end endel p.before q.before u q.nowhere (ap (λ l. l ++ u) (sym p.is) ∙ q.is)

-- before each record that may come next, something is missing
boundary_more : (p : BoundaryStage) → can_be_empty (boundary_left p) ≡ false
boundary_more Layer = refl
boundary_more _ = refl

path_more : (p : PathStage) → can_be_empty (path_left p) ≡ false
path_more PathLayer = refl
path_more _ = refl

sref_more : (p : SrefStage) → can_be_empty (sref_left p) ≡ false
sref_more SrefName = refl
sref_more _ = refl

aref_more : (p : ArefStage) → can_be_empty (aref_left p) ≡ false
aref_more ArefName = refl
aref_more _ = refl

text_more : (p : TextStage) → can_be_empty (text_left p) ≡ false
text_more TextLayer = refl
text_more _ = refl

state_begins : (s : State) (piece : List Rec) → HasRead s piece → Begins an_element (kinds piece)
state_begins (Boundary b) piece h = leads_begins (kinds piece) (boundary_left b.stage) h.leads
state_begins (Path p) piece h = leads_begins (kinds piece) (path_left p.stage) h.leads
state_begins (Sref s) piece h = leads_begins (kinds piece) (sref_left s.stage) h.leads
state_begins (Aref a) piece h = leads_begins (kinds piece) (aref_left a.stage) h.leads
state_begins (Text t) piece h = leads_begins (kinds piece) (text_left t.stage) h.leads

state_unfinished : (s : State) (piece : List Rec) → HasRead s piece → IsWord an_element (kinds piece) → ⊥
state_unfinished (Boundary b) piece h =
    leads_unwhole an_element (kinds piece) (boundary_left b.stage) (boundary_more b.stage) h.leads
state_unfinished (Path p) piece h =
    leads_unwhole an_element (kinds piece) (path_left p.stage) (path_more p.stage) h.leads
state_unfinished (Sref s) piece h =
    leads_unwhole an_element (kinds piece) (sref_left s.stage) (sref_more s.stage) h.leads
state_unfinished (Aref a) piece h =
    leads_unwhole an_element (kinds piece) (aref_left a.stage) (aref_more a.stage) h.leads
state_unfinished (Text t) piece h =
    leads_unwhole an_element (kinds piece) (text_left t.stage) (text_more t.stage) h.leads

after_begins : (s : State) (o : Option Drawn) (piece : List Rec) → IsAfter HasRead s o piece
    → Begins an_element (kinds piece)
after_begins s None piece h = state_begins s piece h
after_begins s (Some d) piece h = leads_begins (kinds piece) (one endel) h.leads

after_unfinished : (s : State) (o : Option Drawn) (piece : List Rec) → IsAfter HasRead s o piece
    → IsWord an_element (kinds piece) → ⊥
after_unfinished s None piece h = state_unfinished s piece h
after_unfinished s (Some d) piece h = leads_unwhole an_element (kinds piece) (one endel) refl h.leads

-- the records that an element has read begin an element
pub reading_begins : (e : Element) (piece : List Rec) → IsReading e piece → Begins an_element (kinds piece)
reading_begins e piece h = after_begins e.state e.drawn piece h

-- and aren't a complete one
pub reading_unfinished : (e : Element) (piece : List Rec) → IsReading e piece → IsWord an_element (kinds piece) → ⊥
reading_unfinished e piece h = after_unfinished e.state e.drawn piece h

-- what comes after the first record, in an order that begins with one type or another
abbrev pub after_first : Order → Order
after_first (next a b) = b
after_first (either a b) = either (after_first a) (after_first b)
after_first a = nothing

begins_with_one : Order → Bool
begins_with_one (next (one j) b) = true
begins_with_one (either a b) = begins_with_one a && begins_with_one b
begins_with_one a = false

stands_in_word : (a : Order) (o k : ℕ) (w : List ℕ) → begins_with_one a ≡ true → IsWord a (o ∷ w) → Stands k w
    → has (after_first a) k ≡ true
unfolding begins_with_one
stands_in_word nothing o k w e h s = cc
stands_in_word (one j) o k w e h s = cc
stands_in_word (next nothing b) o k w e h s = cc
stands_in_word (next (one j) b) o k w e h s =
    let f : o ∷ w ≡ j ∷ h.1 = h.4 ∙ ap (λ l. l ++ h.1) h.2 in
    let t : w ≡ h.1 = cc in
    has_all b k h.1 h.3 (subst (Stands k) t s)
stands_in_word (next (next c d) b) o k w e h s = cc
stands_in_word (next (either c d) b) o k w e h s = cc
stands_in_word (next (many c) b) o k w e h s = cc
stands_in_word (either a b) o k w e h s =
    let p = and_parts (begins_with_one a) (begins_with_one b) e in
    elim h [
      | inl x ↦ or_left (has (after_first a) k) (has (after_first b) k) (stands_in_word a o k w p.0 x s)
      | inr y ↦ or_right (has (after_first a) k) (has (after_first b) k) (stands_in_word b o k w p.1 y s)
    ]
stands_in_word (many a) o k w e h s = cc

-- what comes after the first record of an element
abbrev pub after_opener : Order
after_opener = after_first an_element

pub stands_after : (o k : ℕ) (w : List ℕ) → Begins an_element (o ∷ w) → Stands k w → has after_opener k ≡ true
unfolding begins_with_one
stands_after o k w (more, h) s = stands_in_word an_element o k (w ++ more) refl h (stands_left k w more s)

no_opener : ℕ → Type 0
no_opener k = has after_opener k ≡ true → opens k ≡ false

opener_apart : (k j : ℕ) → no_opener j → (k == j ≡ false → no_opener k) → no_opener k
opener_apart k j = at_type no_opener k j

-- no type that opens an element is in one after its first record
pub opens_first : (o k : ℕ) (w : List ℕ) → Begins an_element (o ∷ w) → Stands k w → opens k ≡ false
unfolding no_opener
opens_first o k w b s =
    opener_apart k boundary (λ e. cc)
    (λ a. opener_apart k path (λ e. cc)
    (λ c. opener_apart k sref (λ e. cc) (λ d. opener_apart k aref (λ e. cc) (λ f. opener_apart k text (λ e. cc)
    (λ g e. rw (a, c, d, f, g) refl))))) (stands_after o k w b s)

-- nor is a type that no element has
pub stands_not : (o k : ℕ) (w : List ℕ) → has after_opener k ≡ false → Begins an_element (o ∷ w) → Stands k w → ⊥
stands_not o k w n b s = (let z : false ≡ true = sym n ∙ stands_after o k w b s in cc)
