-- The steps of a visit.
use Rattle.std.proofs.Common.{◌≡◌, ◌<◌, ◌≤◌, ◌+◌, ◌-◌, ℕ, List, [], ◌∷◌, length, drop, slice_get, Option, Some}
use Rattle.std.proofs.Common.{Contains, refl, sym, ap, subst, ◌∙◌, arith}
use Rattle.std.specs.Option.{option_map_or}
use Rattle.std.proofs.lemmas.Option.{slice_get_within}
use Rattle.lvl_cells.proofs.Sequences.{one_answer}
use Rattle.lvl_grid.specs.declared.map.Map.{Map}
use Rattle.lvl_grid.specs.Turn.{image, FitsPoint}
use Rattle.lvl_cells.specs.Cells.{PlainCell, PlainReference, Rings, map_at, cell_named}
use Rattle.lvl_cells.specs.Chains.{IsComposed}
use Rattle.lvl_cells.specs.Checks.{IsTargetOf}
use Rattle.lvl_flat.specs.declared.visit.Visit.{Visit}
use Rattle.lvl_flat.specs.inside.Passing.{at_place}
use Rattle.lvl_flat.specs.inside.Visits.{Pick, picks_from, pending}
use Rattle.lvl_flat.specs.inside.Walking.{references_left}
use Rattle.lvl_flat.specs.Placing.{IsPlacing}
use Rattle.lvl_flat.specs.inside.Steps.{IsPast, IsInto, IsOut}
use Rattle.lvl_flat.proofs.Picks.{pick_next, pick_last, picks_past}

-- the picks that a visit of a known cell has still to follow
pub pending_at : (cells : List (PlainCell Rings)) (v : Visit) (c : PlainCell Rings) → slice_get cells v.cell ≡ Some c
    → pending cells v ≡ picks_from (drop v.reference c.references) v.place
pending_at cells v c at =
    let f : Option (PlainCell Rings) → List Pick =
    λ o. option_map_or (λ (b : PlainCell Rings). picks_from (drop v.reference b.references) v.place) o [] in
    ap f at

-- the picks that a visit has still to follow depend on its cell, its reference and its place only
pub pending_alike : (cells : List (PlainCell Rings)) (u v : Visit) → u.cell ≡ v.cell → u.reference ≡ v.reference
    → u.place ≡ v.place → pending cells v ≡ pending cells u
pending_alike cells u v cell reference place =
    let f : ℕ → ℕ → ℕ → List Pick =
    λ i j k. option_map_or (λ (b : PlainCell Rings). picks_from (drop j b.references) k) (slice_get cells i) [] in
    sym (ap (λ i. f i u.reference u.place) cell
    ∙ (ap (λ j. f v.cell j u.place) reference ∙ ap (f v.cell v.reference) place))

-- and so does the number of references that it hasn't finished
pub left_alike : (cells : List (PlainCell Rings)) (u v : Visit) → u.cell ≡ v.cell → u.reference ≡ v.reference
    → references_left cells v ≡ references_left cells u
left_alike cells u v cell reference =
    let f : ℕ → ℕ → ℕ =
    λ i j. option_map_or (λ (b : PlainCell Rings). length b.references - j) (slice_get cells i) 0 in
    sym (ap (λ i. f i u.reference) cell ∙ ap (f v.cell) reference)

left_at : (cells : List (PlainCell Rings)) (v : Visit) (c : PlainCell Rings) → slice_get cells v.cell ≡ Some c
    → references_left cells v ≡ length c.references - v.reference
left_at cells v c at =
    let f : Option (PlainCell Rings) → ℕ =
    λ o. option_map_or (λ (b : PlainCell Rings). length b.references - v.reference) o 0 in
    ap f at

pub step_done : (cells : List (PlainCell Rings)) (v : Visit) (c : PlainCell Rings) → slice_get cells v.cell ≡ Some c
    → length c.references ≤ v.reference → pending cells v ≡ []
step_done cells v c at past = pending_at cells v c at ∙ picks_past c.references v.reference v.place past

pub step_past : (cells : List (PlainCell Rings)) (v : Visit) (c : PlainCell Rings) (r : PlainReference)
    → slice_get cells v.cell ≡ Some c → slice_get c.references v.reference ≡ Some r → length r.shifts ≤ v.place
    → IsPast cells v (record { cell = v.cell; map = v.map; reference = v.reference + 1; place = 0; row = 0 })
step_past cells v c r at there past =
    let rest : Visit = record { cell = v.cell; map = v.map; reference = v.reference + 1; place = 0; row = 0 } in
    let inside : v.reference < length c.references = slice_get_within c.references v.reference r there in
    record {
      pending_is =
          pending_at cells v c at
          ∙ (pick_last c.references v.reference v.place r there past ∙ sym (pending_at cells rest c at));
      map_is = refl;
      cell_is = refl;
      fewer = omega (arith, left_at cells v c at, left_at cells rest c at, inside);
    }

-- the target of a reference, and the pick at its place
record Picked (cells : List (PlainCell Rings)) (v : Visit) (t : ℕ) (inner : Map) : Type 0 where
  pick : Pick
  next : PlainCell Rings
  pending_is : pending cells v
      ≡ pick ∷ pending cells (at_place v (v.place + 1))
  named : cell_named cells pick.0.cell ≡ Some next
  there : slice_get cells t ≡ Some next
  map_is : inner ≡ map_at pick.0 pick.1

picked : (cells : List (PlainCell Rings)) (v : Visit) (c : PlainCell Rings) (r : PlainReference) (t : ℕ) (inner : Map)
    → slice_get cells v.cell ≡ Some c → slice_get c.references v.reference ≡ Some r
    → IsPlacing r v.place inner → IsTargetOf cells v.cell v.reference t → Picked cells v t inner
picked cells v c r t inner at there place target =
    let rest : Visit = at_place v (v.place + 1) in
    let cell : target.cell ≡ c = one_answer target.cell_is at in
    let references_are : Some target.reference ≡ Some r =
    sym target.reference_is ∙ (ap (λ (b : PlainCell Rings). slice_get b.references v.reference) cell ∙ there) in
    let reference : target.reference ≡ r = cc in
    record {
      pick = (r, place.shift);
      next = target.target;
      pending_is =
          pending_at cells v c at
          ∙ (pick_next c.references v.reference v.place r place.shift there place.there
          ∙ ap (λ ps. (r, place.shift) ∷ ps) (sym (pending_at cells rest c at)));
      named = subst (λ (q : PlainReference). cell_named cells q.cell ≡ Some target.target) reference target.named;
      there = target.target_is;
      map_is = place.map_is;
    }

pub step_into : (cells : List (PlainCell Rings)) (v : Visit) (c : PlainCell Rings) (r : PlainReference) (t : ℕ)
    (inner m : Map) → slice_get cells v.cell ≡ Some c → slice_get c.references v.reference ≡ Some r
    → IsPlacing r v.place inner → IsTargetOf cells v.cell v.reference t → IsComposed v.map inner m → FitsPoint m.at
    → IsInto cells v t m (at_place v (v.place + 1))
step_into cells v c r t inner m at there place target whole fits =
    let p = picked cells v c r t inner at there place target in
    record {
      pick = p.pick;
      next = p.next;
      pending_is = p.pending_is;
      named = p.named;
      there = p.there;
      placed = subst (λ (n : Map). IsComposed v.map n m) p.map_is whole;
      in_range = fits;
      map_is = refl;
      cell_is = refl;
      reference_is = refl;
    }

pub step_out : (cells : List (PlainCell Rings)) (v : Visit) (c : PlainCell Rings) (r : PlainReference) (t : ℕ)
    (inner : Map) → slice_get cells v.cell ≡ Some c → slice_get c.references v.reference ≡ Some r
    → IsPlacing r v.place inner → IsTargetOf cells v.cell v.reference t → (FitsPoint (image v.map inner.at) → ⊥)
    → IsOut cells v t
step_out cells v c r t inner at there place target out =
    let p = picked cells v c r t inner at there place target in
    record {
      pick = p.pick;
      next = p.next;
      has = subst (λ ps. Contains ps p.pick) (sym p.pending_is) (0, omega arith, refl);
      named = p.named;
      there = p.there;
      out = λ fits. out (subst (λ (n : Map). FitsPoint (image v.map n.at)) (sym p.map_is) fits);
    }
