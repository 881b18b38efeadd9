-- The target of a reference, looked up in its row.
use Rattle.std.proofs.Common.{◌≡◌, ℕ, List, map, Option, Some, None, IfSome, IfNone, sym, ◌∙◌, subst, arith}
use Rattle.std.specs.List.{slice_get, IsDistinct}
use Rattle.std.specs.Str.{bytes_eq}
use Rattle.std.proofs.lemmas.Option.{slice_get_within}
use Rattle.lvl_cells.specs.Cells.{PlainCell, PlainReference, Rings, names, cell_named}
use Rattle.lvl_cells.specs.Checks.{IsTargetOf, HasReference}
use Rattle.lvl_cells.specs.inside.Steps.{AreAllTargets}
use Rattle.lvl_cells.proofs.Arcs.{cell_at, row_of, reference_in_row}
use Rattle.lvl_cells.proofs.Orders.{rows_long}
use Rattle.lvl_cells.proofs.Sequences.{one_answer, item_there}
use Rattle.lvl_cells.proofs.Summing.{named_at, row_fits}

target_is : (cells : List (PlainCell Rings)) (targets : List (List ℕ)) (i j k : ℕ) (ts : List ℕ)
    → IsDistinct bytes_eq (names cells) → AreAllTargets cells targets → slice_get targets i ≡ Some ts
    → slice_get ts j ≡ Some k → IsTargetOf cells i j k
target_is cells targets i j k ts d t hi hj =
    let c = item_there cells i (omega (arith, slice_get_within targets i ts hi, rows_long cells targets t)) in
    let row = row_of cells targets i c.0 t c.1 in
    let same : row.0 ≡ ts = one_answer row.1 hi in
    let here : map (slice_get (names cells)) ts ≡ map (λ (r : PlainReference). Some r.cell) c.0.references =
    subst
    (λ (u : List ℕ).
    map (slice_get (names cells)) u ≡ map (λ (r : PlainReference). Some r.cell) c.0.references) same
    row.2 in
    let from = reference_in_row (names cells) ts c.0.references j k here hj in
    let to = cell_at cells k from.0.cell from.2 in
    record {
      cell = c.0;
      reference = from.0;
      target = to.0;
      cell_is = c.1;
      reference_is = from.1;
      target_is = to.1;
      named = subst (λ (n : List ℕ). cell_named cells n ≡ Some to.0) to.2 (named_at cells k to.0 d to.1);
    }

-- what is found in the row is the target
pub target_found : (cells : List (PlainCell Rings)) (targets : List (List ℕ)) (i j : ℕ) (ts : List ℕ)
    (o : Option ℕ) → IsDistinct bytes_eq (names cells) → AreAllTargets cells targets → slice_get targets i ≡ Some ts
    → o ≡ slice_get ts j → IfSome o (IsTargetOf cells i j)
target_found cells targets i j ts None d t hi e = tt
target_found cells targets i j ts (Some k) d t hi e = target_is cells targets i j k ts d t hi (sym e)

-- past the end of the row there is no reference
pub target_past : (cells : List (PlainCell Rings)) (targets : List (List ℕ)) (i j : ℕ) (ts : List ℕ)
    (o : Option ℕ) → AreAllTargets cells targets → slice_get targets i ≡ Some ts → o ≡ slice_get ts j
    → IfNone o (¬ HasReference cells i j)
target_past cells targets i j ts (Some k) t hi e = tt
target_past cells targets i j ts None t hi e =
    λ w.
    let long = row_fits cells targets i w.0 ts t w.1 hi in
    let at = item_there ts j (omega (arith, w.2, long.0)) in
    let s : None ≡ Some at.0 = e ∙ at.1 in
    cc
