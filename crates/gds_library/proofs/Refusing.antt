-- Why a record outside of elements is refused: the one rule that it breaches.
use Rattle.std.proofs.Common.{◌≡◌, ◌==◌, ℕ, ◌<◌, ◌≤◌, ◌⊎◌, true, false, List, [], ◌∷◌, ◌++◌, length, Some, None, map}
use Rattle.std.proofs.Common.{refl, sym, ap, ◌∙◌, subst, inl, inr, arith, length-append}
use Rattle.std.specs.Prelude.{◌≢◌, Option}
use Rattle.lvl_path.specs.Figure.{figure_rings}
use Rattle.lvl_cells.specs.Cells.{drawn, kept}
use Rattle.gds_elements.specs.Types.{bgnstr, strname}
use Rattle.lvl_grammar.specs.Order.{Begins}
use Rattle.gds_elements.specs.Rec.{Rec, kinds, is_type}
use Rattle.gds_elements.specs.Rules.{IsKnown, IsMisplacedAs, ValueBreaches}
use Rattle.gds_elements.specs.declared.fault.Misplaced.{Misplaced as Misplacement}
use Rattle.gds_elements.specs.declared.fault.ElementRule.{ElementRule}
use Rattle.gds_elements.proofs.Leads.{misplaced_as, says_carried}
use Rattle.gds_elements.proofs.OneRule.{one_misplaced, not_misplaced, is_value, value_breaches}
use Rattle.lvl_refusal.specs.Refused.{Says}
use Rattle.lvl_refusal.specs.declared.Cause.{Cause}
use Rattle.gds_library.specs.declared.fault.GdsKind.{GdsKind}
use Rattle.gds_library.specs.declared.fault.GdsKind.TheVariants.{Record, Misplaced, Element, Name, AfterEnd}
use Rattle.gds_library.specs.declared.fault.GdsKind.TheVariants.{TooManyCells}
use Rattle.gds_elements.proofs.Fields.{kinds-snoc}
use Rattle.lvl_grammar.proofs.Orders.{same_type}
use Rattle.gds_library.specs.Order.{a_library}
use Rattle.gds_library.specs.Drawn.{KeptCell}
use Rattle.gds_library.specs.inside.Stage.{after}
use Rattle.gds_library.specs.Rec.{pieces}
use Rattle.gds_library.specs.Values.{drawing, drawings}
use Rattle.gds_library.specs.Rules.{InOrder, Breaches, BreachesOnly}
use Rattle.gds_library.specs.inside.Faults.{IsFault}
use Rattle.gds_library.specs.inside.Shown.{shown_at}
use Rattle.gds_library.specs.inside.Holds.{Holds}
use Rattle.gds_library.specs.declared.stage.LibraryStage.{LibraryStage}
use Rattle.gds_library.specs.declared.stage.LibraryStage.TheVariants.{Structures, StrName, Elements}
use Rattle.gds_library.specs.declared.builder.Builder.{Builder}
use Rattle.gds_library.proofs.Places.{OpensNothing, leads_on, leads_nowhere, leads_begins}
use Rattle.gds_library.proofs.Outside.{outside_after, known_after}
use Rattle.lvl_profile.specs.declared.profile.Profile.{Profile}

length-map : {A B : Type 0} (f : A → B) (xs : List A) → length (map f xs) ≡ length xs
length-map f [] = refl
length-map f (x ∷ xs) = omega (arith, length-map f xs)

pub kept_many : (rs : List Rec) → length (kept figure_rings (drawings rs)) ≡ length (pieces (is_type bgnstr) rs)
kept_many rs = length-map (drawn figure_rings) (drawings rs) ∙ length-map drawing (pieces (is_type bgnstr) rs)

-- the library so far has the complete cells, and at most one more
shown_many : (p : LibraryStage) (b : Builder) → length b.cells.cells ≤ length (shown_at p b)
shown_many StrName b = omega (arith, length-append {A = KeptCell})
shown_many Elements b = omega (arith, length-append {A = KeptCell})
shown_many _ b = omega arith

-- if a cell may begin, the library so far has the complete cells only
pub cells_shown : (p q : LibraryStage) (b : Builder) → after p bgnstr ≡ Some q
    → length (shown_at p b) ≡ length b.cells.cells
cells_shown Structures q b e = refl
cells_shown _ q b e = cc

stands_at : (b : Builder) (rs : List Rec) (r : Rec) (o : Option LibraryStage) → Holds b rs → after b.stage r.kind ≡ o
    → o ≢ None → InOrder rs r
stands_at b rs r None h e n = absurd (n refl)
stands_at b rs r (Some q) h e n =
    subst (Begins a_library) (sym (kinds-snoc rs r))
    (leads_begins (kinds rs ++ r.kind ∷ []) q (leads_on (kinds rs) b.stage q r.kind h.leads
    (λ _. (outside_after b.stage q r.kind e).opens) e))

-- if the table has a place after the record, the record may come next
stands : (b : Builder) (rs : List Rec) (r : Rec) → Holds b rs → after b.stage r.kind ≢ None → InOrder rs r
stands b rs r h n = stands_at b rs r (after b.stage r.kind) h refl n

-- if it has none, the record may not
nowhere : (b : Builder) (rs : List Rec) (r : Rec) → Holds b rs → OpensNothing b.stage r.kind
    → after b.stage r.kind ≡ None → InOrder rs r → ⊥
nowhere b rs r h o e g =
    leads_nowhere (kinds rs) b.stage r.kind h.leads o e (subst (Begins a_library) (kinds-snoc rs r) g)

-- a fault by the table is a breach after the records that lead there
pub law_fault : (profile : Profile) (b : Builder) (rs : List Rec) (r : Rec) (f : GdsKind) → Holds b rs
    → OpensNothing b.stage r.kind
    → r.kind < 60 → IsFault profile.limits b.stage (length b.cells.cells) r.kind r.payload f → Breaches profile rs r f
law_fault profile b rs r (Record f) h o l x = absurd x
law_fault profile b rs r (Misplaced m) h o l x = misplaced_as (InOrder rs r) r m (nowhere b rs r h o x.1) l x.0
law_fault profile b rs r (Element k) h o l x = absurd x
law_fault profile b rs r Name h o l x = (stands b rs r h x.1, x.0, x.2)
law_fault profile b rs r AfterEnd h o l x = absurd x
law_fault profile b rs r TooManyCells h o l x =
    (stands b rs r h x.1, x.0, omega (arith, x.2, shown_many b.stage b, ap (λ ds. length ds) h.shown, kept_many rs))

pub is_not : (k j : ℕ) → k == j ≡ false → k ≡ j → ⊥
is_not k j n e = (let z : true ≡ false = sym (same_type k j e) ∙ n in cc)

known_at : (b : Builder) (rs : List Rec) (r : Rec) (t : Option LibraryStage) → Holds b rs → OpensNothing b.stage r.kind
    → r.kind < 60 → InOrder rs r → after b.stage r.kind ≡ t → IsKnown r.kind
known_at b rs r None h o l g e = absurd (nowhere b rs r h o e g)
known_at b rs r (Some q) h o l g e = known_after b.stage q r.kind l e

-- a record that may come next is of a known type
order_known : (b : Builder) (rs : List Rec) (r : Rec) → Holds b rs → OpensNothing b.stage r.kind → r.kind < 60
    → InOrder rs r → IsKnown r.kind
order_known b rs r h o l g = known_at b rs r (after b.stage r.kind) h o l g refl

-- a record breaches no rule of an element if none tests its type
pub no_rule : (profile : Profile) (piece : List Rec) (r : Rec) (k : ElementRule) → is_value r.kind ≡ false
    → ValueBreaches profile piece r k → ⊥
no_rule profile piece r k v x = (let z : true ≡ false = sym (value_breaches profile piece r k x) ∙ v in cc)

-- a record that may not come next breaches no other rule
misplaced_only : (profile : Profile) (rs : List Rec) (r : Rec) (m : Misplacement) → (InOrder rs r → ⊥)
    → IsMisplacedAs (InOrder rs r) r m
    → BreachesOnly profile rs r (Misplaced m)
misplaced_only profile rs r m n x (Record f) y = absurd y
misplaced_only profile rs r m n x (Misplaced j) y =
    ap (λ (i : Misplacement). Misplaced i) (one_misplaced (InOrder rs r) r j m y x)
misplaced_only profile rs r m n x (Element k) y = absurd (n y.0)
misplaced_only profile rs r m n x Name y = absurd (n y.0)
misplaced_only profile rs r m n x AfterEnd y = absurd y
misplaced_only profile rs r m n x TooManyCells y = absurd (n y.0)

-- one that may come next, and whose value no rule of an element tests, can only breach Name and TooManyCells
one_value : (profile : Profile) (rs : List Rec) (r : Rec) → is_value r.kind ≡ false → InOrder rs r → IsKnown r.kind
    → (k : GdsKind)
    → Breaches profile rs r k → ((k ≡ Name) × (r.kind ≡ strname)) ⊎ ((k ≡ TooManyCells) × (r.kind ≡ bgnstr))
one_value profile rs r v g i (Record f) x = absurd x
one_value profile rs r v g i (Misplaced m) x = absurd (not_misplaced (InOrder rs r) r m g i x)
one_value profile rs r v g i (Element k) x = absurd (no_rule profile _ r k v x.1)
one_value profile rs r v g i Name x = inl (refl, x.1)
one_value profile rs r v g i AfterEnd x = absurd x
one_value profile rs r v g i TooManyCells x = inr (refl, x.1)

value_at : (profile : Profile) (b : Builder) (rs : List Rec) (r : Rec) (t : Option LibraryStage) → Holds b rs
    → OpensNothing b.stage r.kind
    → r.kind < 60 → after b.stage r.kind ≡ t → t ≢ None
    → (k : GdsKind) → Breaches profile rs r k → ((k ≡ Name) × (r.kind ≡ strname)) ⊎ ((k ≡ TooManyCells)
    × (r.kind ≡ bgnstr))
value_at profile b rs r None h o l e n = absurd (n refl)
value_at profile b rs r (Some q) h o l e n =
    let g = stands_at b rs r (Some q) h e n in
    one_value profile rs r (outside_after b.stage q r.kind e).value g (order_known b rs r h o l g)

value_only : (profile : Profile) (b : Builder) (rs : List Rec) (r : Rec) → Holds b rs → OpensNothing b.stage r.kind
    → r.kind < 60
    → after b.stage r.kind ≢ None
    → (k : GdsKind) → Breaches profile rs r k → ((k ≡ Name) × (r.kind ≡ strname)) ⊎ ((k ≡ TooManyCells)
    × (r.kind ≡ bgnstr))
value_only profile b rs r h o l n = value_at profile b rs r (after b.stage r.kind) h o l refl n

-- a fault by the table is the only breach
law_only : (profile : Profile) (b : Builder) (rs : List Rec) (r : Rec) (f : GdsKind) → Holds b rs
    → OpensNothing b.stage r.kind
    → r.kind < 60 → IsFault profile.limits b.stage (length b.cells.cells) r.kind r.payload f
    → BreachesOnly profile rs r f
law_only profile b rs r (Record f) h o l x = absurd x
law_only profile b rs r (Misplaced m) h o l x =
    (let n = nowhere b rs r h o x.1 in misplaced_only profile rs r m n (misplaced_as (InOrder rs r) r m n l x.0))
law_only profile b rs r (Element k) h o l x = absurd x
law_only profile b rs r Name h o l x =
    λ i y. elim (value_only profile b rs r h o l x.1 i y) [ inl z ↦ z.0 | inr z ↦ absurd (omega (arith, x.0, z.1)) ]
law_only profile b rs r AfterEnd h o l x = absurd x
law_only profile b rs r TooManyCells h o l x =
    λ i y. elim (value_only profile b rs r h o l x.1 i y) [ inl z ↦ absurd (omega (arith, x.0, z.1)) | inr z ↦ z.0 ]

pub says_fault : (profile : Profile) (b : Builder) (rs : List Rec) (r : Rec) (e : Cause GdsKind) → Holds b rs
    → OpensNothing b.stage r.kind → r.kind < 60
    → Says e (IsFault profile.limits b.stage (length b.cells.cells) r.kind r.payload)
    → Says e (λ k. Breaches profile rs r k × BreachesOnly profile rs r k)
says_fault profile b rs r e h o l x =
    says_carried e (IsFault profile.limits b.stage (length b.cells.cells) r.kind r.payload)
    (λ k. Breaches profile rs r k
    × BreachesOnly profile rs r k) (λ f y. (law_fault profile b rs r f h o l y, law_only profile b rs r f h o l y)) x
