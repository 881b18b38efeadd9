-- Placements whose targets have names are references to these names.
use Rattle.std.proofs.Common.{◌≡◌, ◌<◌, ◌+◌, ℕ, zero, suc, get_or, List, [], ◌∷◌, ◌++◌, map, length, take, drop}
use Rattle.std.proofs.Common.{All, refl}
use Rattle.std.proofs.Common.{true, false, Option, Some, None, sym, ap, subst, arith, ◌∙◌, pos}
use Rattle.std.specs.Prelude.{flat_map, IfSome, IsSome}
use Rattle.std.specs.List.{slice_get, AllZip}
use Rattle.std.proofs.Math.Seq.{drop-cons}
use Rattle.std.proofs.lemmas.Grind.{flat_map-append}
use Rattle.std.proofs.lemmas.List.{append-nil, get_or_default, take-append-drop, take_more}
use Rattle.std.proofs.lemmas.List.Elements.{All-append, All-cons, All-get_or, All-head, All-nil, All-tail}
use Rattle.std.proofs.lemmas.Option.{slice_get-get_or}
use Rattle.lvl_grid.specs.declared.map.Turn.TheVariants.{R0}
use Rattle.lvl_cells.specs.Cells.{PlainPlacement, reference_to}
use Rattle.oasis_records.specs.declared.cell.CellName.{CellName}
use Rattle.oasis_records.specs.declared.cell.CellRef.{CellRef}
use Rattle.oasis_records.specs.declared.cell.CellRef.TheVariants.{Number, Name}
use Rattle.oasis_stream.specs.Names.{name_of, meant}
use Rattle.oasis_library.specs.Names.{IsNamed, IsReference, IsUnnamed, number_in}
use Rattle.oasis_library.specs.declared.placement.Target.{Target}
use Rattle.oasis_library.specs.declared.placement.Target.TheVariants.{Number as ByNumber}
use Rattle.oasis_library.specs.inside.Kept.{target_ref, placed_from}
use Rattle.oasis_library.specs.inside.Resolved.{IsNameOf}
use Rattle.oasis_library.proofs.Placing.{HaveTargets}
use Rattle.oasis_library.proofs.Resolving.{unnamed_there}

-- the number of the cell that a placement places, if it is given by one
abbrev pub number_from : List Target → PlainPlacement → List ℕ
number_from targets p = number_in (placed_from targets p).cell

abbrev nothing : PlainPlacement
nothing = record { key = 0; flip = false; turn = R0; at = record { x = pos 0; y = pos 0 }; shifts = [] }

-- the target of the placement at an index
target_at : (targets : List Target) (ps : List PlainPlacement) (j key : ℕ) (target : Target)
    → HaveTargets targets ps → j < length ps → IfSome (slice_get ps j) (λ p. key ≡ p.key)
    → target ≡ get_or targets key target → number_from targets (get_or ps j nothing) ≡ number_in (target_ref target)
target_at targets ps j key target have h k is =
    let p : PlainPlacement = get_or ps j nothing in
    let same : key ≡ p.key =
    subst (λ o. IfSome o (λ (q : PlainPlacement). key ≡ q.key)) (slice_get-get_or ps j nothing h) k in
    let low : p.key < length targets =
    All-get_or (λ (q : PlainPlacement). q.key < length targets) ps j nothing h have in
    ap (λ t. number_in (target_ref t))
    (sym (is ∙ (ap (λ i. get_or targets i target) same ∙ get_or_default targets p.key target (ByNumber 0) low)))

pub unnamed_at : (given : List CellName) (targets : List Target) (ps : List PlainPlacement) (j key : ℕ)
    (target : Target) (n : ℕ)
    → HaveTargets targets ps → j < length ps → IfSome (slice_get ps j) (λ p. key ≡ p.key)
    → target ≡ get_or targets key target
    → All (IsNamed given) (flat_map (number_from targets) (take j ps))
    → IsUnnamed given (number_in (target_ref target)) n → IsUnnamed given (flat_map (number_from targets) ps) n
unnamed_at given targets ps j key target n have h k is named u =
    let p : PlainPlacement = get_or ps j nothing in
    unnamed_there (number_from targets) given ps (take j ps) (drop j ps) (drop (suc j) ps) p n (take-append-drop j ps)
    (drop-cons ps j nothing h) named
    (subst (λ l. IsUnnamed given l n) (sym (target_at targets ps j key target have h k is)) u)

pub named_more : (given : List CellName) (targets : List Target) (ps : List PlainPlacement) (j key : ℕ)
    (target : Target)
    → HaveTargets targets ps → j < length ps → IfSome (slice_get ps j) (λ p. key ≡ p.key)
    → target ≡ get_or targets key target
    → All (IsNamed given) (flat_map (number_from targets) (take j ps))
    → All (IsNamed given) (number_in (target_ref target))
    → All (IsNamed given) (flat_map (number_from targets) (take (j + 1) ps))
named_more given targets ps j key target have h k is named one =
    let p : PlainPlacement = get_or ps j nothing in
    let f : PlainPlacement → List ℕ = number_from targets in
    let more : flat_map f (take (j + 1) ps) ≡ flat_map f (take j ps) ++ f p =
    ap (flat_map f) (take_more ps j nothing h)
    ∙ (flat_map-append f (take j ps) (p ∷ []) ∙ ap (λ l. flat_map f (take j ps) ++ l) (append-nil (f p))) in
    subst (All (IsNamed given)) (sym more)
    (All-append (IsNamed given) (flat_map f (take j ps)) (f p) named
    (subst (All (IsNamed given)) (sym (target_at targets ps j key target have h k is)) one))

some_there : {A : Type 0} (o : Option A) → IsSome o → (x : A) × (o ≡ Some x)
some_there None h = let z : false ≡ true = h in cc
some_there (Some x) h = (x, refl)

-- a cell whose number has a name means that name
meant_is : (given : List CellName) (cell : CellRef) (t : List ℕ) → All (IsNamed given) (number_in cell)
    → ((s : List ℕ) → meant given cell ≡ Some s → t ≡ s) → meant given cell ≡ Some t
meant_is given (Number n) t named is =
    let some = some_there (name_of given n) (All-head (IsNamed given) n [] named) in
    some.1 ∙ ap (λ s. Some s) (sym (is some.0 some.1))
meant_is given (Name s) t named is = ap (λ u. Some u) (sym (is s refl))

zip_at : {A B : Type 0} (R : A → B → Type 0) (xs : List A) (ys : List B) (i : ℕ) (d : A) (e : B) → AllZip R xs ys
    → i < length xs → R (get_or xs i d) (get_or ys i e)
zip_at R [] [] i d e h low = absurd (omega (arith, low))
zip_at R [] (y ∷ ys) i d e h low = absurd h
zip_at R (x ∷ xs) [] i d e h low = absurd h
zip_at R (x ∷ xs) (y ∷ ys) zero d e h low = h.0
zip_at R (x ∷ xs) (y ∷ ys) (suc i) d e h low = zip_at R xs ys i d e h.1 (omega (arith, low))

all_left : (P : ℕ → Type 0) (xs ys : List ℕ) → All P (xs ++ ys) → All P xs
all_left P [] ys h = All-nil P
all_left P (x ∷ xs) ys h =
    All-cons P x xs (All-head P x (xs ++ ys) h) (all_left P xs ys (All-tail P x (xs ++ ys) h))

all_right : (P : ℕ → Type 0) (xs ys : List ℕ) → All P (xs ++ ys) → All P ys
all_right P [] ys h = h
all_right P (x ∷ xs) ys h = all_right P xs ys (All-tail P x (xs ++ ys) h)

-- each placement is a reference to the name of its target
pub references_are : (given : List CellName) (targets : List Target) (named : List (List ℕ)) (ps : List PlainPlacement)
    → AllZip (IsNameOf given) targets named → HaveTargets targets ps
    → All (IsNamed given) (flat_map (number_from targets) ps)
    → AllZip (IsReference given) (map (placed_from targets) ps) (map (reference_to named) ps)
references_are given targets named [] names have h = tt
references_are given targets named (p ∷ ps) names have h =
    let low : p.key < length targets = All-head (λ (q : PlainPlacement). q.key < length targets) p ps have in
    let own : All (IsNamed given) (number_from targets p) =
    all_left (IsNamed given) (number_from targets p) (flat_map (number_from targets) ps) h in
    let rest : All (IsNamed given) (flat_map (number_from targets) ps) =
    all_right (IsNamed given) (number_from targets p) (flat_map (number_from targets) ps) h in (
      record {
        cell =
            meant_is given (target_ref (get_or targets p.key (ByNumber 0))) (get_or named p.key []) own
            (zip_at (IsNameOf given) targets named p.key (ByNumber 0) [] names low);
        flip = refl;
        turn = refl;
        at = refl;
        shifts = refl;
      },
      references_are given targets named ps names
          (All-tail (λ (q : PlainPlacement). q.key < length targets) p ps have) rest,
    )
