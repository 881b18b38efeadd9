-- Where an element begins and ends among the records of a structure.
use Rattle.std.proofs.Common.{◌≡◌, ◌==◌, ◌||◌, ◌⊎◌, ℕ, Bool, true, false, List, [], ◌∷◌, ◌++◌, Some, refl, sym, ap, ◌∙◌}
use Rattle.std.proofs.Common.{subst, append_assoc, inl, inr, Option, None}
use Rattle.std.proofs.lemmas.List.{append-nil}
use Rattle.std.proofs.lemmas.Bool.{or_parts}
use Rattle.std.specs.List.{flat_map}
use Rattle.gds_elements.specs.Types.{boundary, path, sref, aref, text, endstr}
use Rattle.lvl_grammar.specs.Order.{IsWord, Begins}
use Rattle.gds_elements.specs.Order.{an_element, opens}
use Rattle.gds_elements.specs.Rec.{Rec, kinds, opener}
use Rattle.gds_elements.specs.inside.Reading.{HasRead, IsAfter, IsReading}
use Rattle.gds_elements.specs.declared.element.Drawn.{Drawn}
use Rattle.gds_elements.specs.declared.element.Element.{Element}
use Rattle.gds_elements.specs.declared.element.State.{State}
use Rattle.gds_elements.specs.declared.element.State.TheVariants.{Boundary, Path, Sref, Aref, Text}
use Rattle.lvl_grammar.specs.inside.After.{after_first, IsWordOfOne, LeadsTo}
use Rattle.lvl_grammar.proofs.Orders.{first_taken, some_word, some_word-is, empty_word}
use Rattle.gds_elements.proofs.Elements.{reading_begins, reading_unfinished, nothing_follows}
use Rattle.gds_library.specs.Order.{a_library}
use Rattle.gds_library.specs.inside.Stage.{left, to_end_of_structure}
use Rattle.gds_library.specs.declared.stage.LibraryStage.TheVariants.{Elements}

-- no element begins with the type
pub record OpensNone (k : ℕ) : Type 0 where
  pub boundary : k == boundary ≡ false
  pub path : k == path ≡ false
  pub sref : k == sref ≡ false
  pub aref : k == aref ≡ false
  pub text : k == text ≡ false

pub opens_none : (k : ℕ) → opens k ≡ false → OpensNone k
opens_none k e =
    let a = or_parts ((((k == boundary) || (k == path)) || (k == sref)) || (k == aref)) (k == text) e in
    let b = or_parts (((k == boundary) || (k == path)) || (k == sref)) (k == aref) a.0 in
    let c = or_parts ((k == boundary) || (k == path)) (k == sref) b.0 in
    let d = or_parts (k == boundary) (k == path) c.0 in
    record { boundary = d.0; path = d.1; sref = c.1; aref = b.1; text = a.1 }

opens_at : (b : Bool) (k : ℕ) (w : List ℕ) → opens k ≡ b → IsWord an_element (k ∷ w) → opens k ≡ true
opens_at true k w e h = e
opens_at false k w e h =
    let n = opens_none k e in
    let z : after_first an_element k ≡ [] = rw (n.boundary, n.path, n.sref, n.aref, n.text) refl in
    absurd (subst (λ l. IsWordOfOne l w) z (first_taken an_element k w h))

-- an element begins with a type that opens one
pub begins_open : (k : ℕ) (w : List ℕ) → Begins an_element (k ∷ w) → opens k ≡ true
begins_open k w (more, h) = opens_at (opens k) k (w ++ more) refl h

-- types that begin an element and aren't a complete one
pub record IsOpen (p : List ℕ) : Type 0 where
  pub first : ℕ
  pub rest : List ℕ
  pub parts : p ≡ first ∷ rest
  pub begun : Begins an_element p
  pub unended : IsWord an_element p → ⊥

state_opened : (s : State) (piece : List Rec) → HasRead s piece → (k : ℕ) × (opener piece ≡ Some k)
state_opened (Boundary b) piece h = (boundary, h.opened)
state_opened (Path p) piece h = (path, h.opened)
state_opened (Sref s) piece h = (sref, h.opened)
state_opened (Aref a) piece h = (aref, h.opened)
state_opened (Text t) piece h = (text, h.opened)

after_opened : (s : State) (o : Option Drawn) (piece : List Rec) → IsAfter HasRead s o piece
    → (k : ℕ) × (opener piece ≡ Some k)
after_opened s None piece h = state_opened s piece h
after_opened s (Some d) piece h = h.opened

open_by : (k : ℕ) (piece : List Rec) → opener piece ≡ Some k → Begins an_element (kinds piece)
    → (IsWord an_element (kinds piece) → ⊥) → IsOpen (kinds piece)
open_by k [] e b n = cc
open_by k (r ∷ rs) e b n = record { first = r.kind; rest = kinds rs; parts = refl; begun = b; unended = n }

-- an element that is being read is open
pub reading_open : (e : Element) (piece : List Rec) → IsReading e piece → IsOpen (kinds piece)
reading_open e piece h =
    let o = after_opened e.state e.drawn piece h in
    open_by o.0 piece o.1 (reading_begins e piece h) (reading_unfinished e piece h)

-- if two lists begin the same list, one of them begins the other
comparable : (a b x y : List ℕ) → a ++ x ≡ b ++ y
    → ((t : List ℕ) × (b ≡ a ++ t) × (x ≡ t ++ y)) ⊎ ((t : List ℕ) × (a ≡ b ++ t) × (y ≡ t ++ x))
comparable [] b x y e = inl (b, refl, e)
comparable (i ∷ a) [] x y e = inr (i ∷ a, refl, sym e)
comparable (i ∷ a) (j ∷ b) x y e =
    let f : i ≡ j = cc in
    let g : a ++ x ≡ b ++ y = cc in
    elim (comparable a b x y g) [
      | inl p ↦ inl (p.0, ap (λ k. k ∷ b) (sym f) ∙ ap (λ l. i ∷ l) p.1, p.2)
      | inr p ↦ inr (p.0, ap (λ k. k ∷ a) f ∙ ap (λ l. j ∷ l) p.1, p.2)
    ]

left_nil : (t m : List ℕ) → t ++ m ≡ [] → t ≡ []
left_nil [] m e = refl
left_nil (i ∷ t) m e = cc

-- an element followed by the end of a structure
pub join_element : (a w : List ℕ) → IsWord an_element a → IsWord to_end_of_structure w
    → IsWord to_end_of_structure (a ++ w)
join_element a w x h = (
  a ++ h.0,
  h.1,
  (a ∷ h.2.0, (x, h.2.1), ap (λ i. a ++ i) h.2.2),
  h.3,
  ap (λ i. a ++ i) h.4
      ∙ sym (append_assoc a h.0 h.1),
)

-- if a type that opens an element comes next in a structure, so does an element
first_element : (k : ℕ) (w : List ℕ) → opens k ≡ true → IsWord to_end_of_structure (k ∷ w)
    → (x y : List ℕ) × IsWord an_element x × IsWord to_end_of_structure y × (k ∷ w ≡ x ++ y)
first_element k w o (u, v, ([], all, e), h, f) =
    let g : k ∷ w ≡ endstr ∷ h.1 = f ∙ ap (λ i. i ++ v) e ∙ h.4 ∙ ap (λ i. i ++ h.1) h.2 in
    let t : k ≡ endstr = cc in
    let y : false ≡ true = subst (λ i. opens i ≡ true) t o in
    cc
first_element k w o (u, v, (x ∷ ws, all, e), h, f) = (
  x,
  flat_map (λ u. u) ws ++ v,
  all.0,
  (flat_map (λ u. u) ws, v, (ws, all.1, refl), h, refl),
  f ∙ ap (λ i. i ++ v) e
      ∙ append_assoc x (flat_map (λ u. u) ws) v,
)

-- what comes after an open element in a structure is the rest of the element, and then the rest of the structure
pub split_open : (p v : List ℕ) → IsOpen p → IsWord to_end_of_structure (p ++ v)
    → (u w : List ℕ) × (v ≡ u ++ w) × IsWord an_element (p ++ u) × IsWord to_end_of_structure w
split_open p v o h =
    let z = first_element o.first (o.rest ++ v) (begins_open o.first o.rest (subst (Begins an_element) o.parts o.begun))
    (subst (λ i. IsWord to_end_of_structure (i ++ v)) o.parts h) in
    let e : p ++ v ≡ z.0 ++ z.1 = ap (λ i. i ++ v) o.parts ∙ z.4 in
    elim (comparable p z.0 v z.1 e) [
      | inl t ↦ (t.0, z.1, t.2, subst (IsWord an_element) t.1 z.2, z.3)
      | inr t ↦
          let more = o.begun.0 in
          let none = nothing_follows z.0 (t.0 ++ more) z.2
          (subst (IsWord an_element) (ap (λ l. l ++ more) t.1 ∙ append_assoc z.0 t.0 more) o.begun.1) in
          absurd (o.unended (subst (IsWord an_element)
          (sym (t.1 ∙ ap (λ l. z.0 ++ l) (left_nil t.0 more none) ∙ append-nil z.0)) z.2))
    ]

-- what comes after a complete element in a structure is the rest of the structure
pub split_whole : (k : ℕ) (a v : List ℕ) → IsWord an_element (k ∷ a) → IsWord to_end_of_structure ((k ∷ a) ++ v)
    → IsWord to_end_of_structure v
split_whole k a v w h =
    let z = first_element k (a ++ v) (begins_open k a ([], subst (IsWord an_element) (sym (append-nil (k ∷ a))) w)) h in
    elim (comparable (k ∷ a) z.0 v z.1 z.4) [
      | inl t ↦ (let none = nothing_follows (k ∷ a) t.0 w (subst (IsWord an_element) t.1 z.2) in
          subst (IsWord to_end_of_structure) (sym (t.2 ∙ ap (λ l. l ++ z.1) none)) z.3)
      | inr t ↦ (let none = nothing_follows z.0 t.0 z.2 (subst (IsWord an_element) t.1 w) in
          subst (IsWord to_end_of_structure) (t.2 ∙ ap (λ l. l ++ v) none) z.3)
    ]

-- after a complete element, the next may come
leads_past : (b a : List ℕ) (v : List ℕ) → IsWord an_element a → IsWord to_end_of_structure (a ++ v)
    → IsWord to_end_of_structure v
leads_past b [] v w h = h
leads_past b (k ∷ a) v w h = split_whole k a v w h

pub leads_element : (b a : List ℕ) → LeadsTo a_library b (left Elements) → IsWord an_element a
    → LeadsTo a_library (b ++ a) (left Elements)
leads_element b a h w v = (
  λ x. leads_past b a v w ((h (a ++ v)).0 (subst (IsWord a_library) (append_assoc b a v) x)),
  λ y. subst (IsWord a_library) (sym (append_assoc b a v)) ((h (a ++ v)).1 (join_element a v w y)),
)

-- within a structure, the beginning of an element begins a library
pub begins_inside : (b p : List ℕ) → LeadsTo a_library b (left Elements) → Begins an_element p
    → Begins a_library (b ++ p)
begins_inside b p h g =
    let more = g.0 ++ some_word to_end_of_structure in (
      more,
      subst (IsWord a_library) (sym (append_assoc b p more)) ((h (p ++ more)).1
          (subst (IsWord to_end_of_structure) (append_assoc p g.0 (some_word to_end_of_structure))
          (join_element (p ++ g.0) (some_word to_end_of_structure) g.1 (some_word-is to_end_of_structure)))),
    )

first_goes : (p u w more : List ℕ) (k : ℕ) → (IsWord an_element p → ⊥) → k ∷ more ≡ u ++ w → IsWord an_element (p ++ u)
    → Begins an_element (p ++ k ∷ [])
first_goes p [] w more k n e h = absurd (n (subst (IsWord an_element) (append-nil p) h))
first_goes p (i ∷ u) w more k n e h =
    let g : i ≡ k = cc in
    (u, subst (IsWord an_element) (ap (λ j. p ++ (j ∷ u)) g ∙ sym (append_assoc p (k ∷ []) u)) h)

-- what continues a library in an open element continues the element
pub open_goes : (b p : List ℕ) (k : ℕ) → LeadsTo a_library b (left Elements) → IsOpen p
    → Begins a_library ((b ++ p) ++ k ∷ []) → Begins an_element (p ++ k ∷ [])
open_goes b p k h o (more, x) =
    let e : ((b ++ p) ++ k ∷ []) ++ more ≡ b ++ (p ++ (k ∷ more)) = append_assoc (b ++ p) (k ∷ []) more ∙ append_assoc b
    p (k ∷ more) in
    let z = split_open p (k ∷ more) o ((h (p ++ (k ∷ more))).0 (subst (IsWord a_library) e x)) in
    first_goes p z.0 z.1 more k o.unended z.2 z.3

some_left : (u w : List ℕ) → [] ≡ u ++ w → IsWord to_end_of_structure w → ⊥
some_left [] w e h =
    (let z : false ≡ true = empty_word to_end_of_structure (subst (IsWord to_end_of_structure) (sym e) h) in cc)
some_left (i ∷ u) w e h = cc

-- while an element is open, the library isn't whole
pub open_unwhole : (b p : List ℕ) → LeadsTo a_library b (left Elements) → IsOpen p → IsWord a_library (b ++ p) → ⊥
open_unwhole b p h o x =
    let z = split_open p [] o ((h (p ++ [])).0 (subst (λ i. IsWord a_library (b ++ i)) (sym (append-nil p)) x)) in
    some_left z.0 z.1 z.2 z.4
