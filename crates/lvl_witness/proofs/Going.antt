-- Each move leaves fewer.
use Rattle.std.proofs.Common.{◌≡◌, ◌<◌, ◌+◌, ◌-◌, ◌++◌, ℕ, List, [], ◌∷◌, length, ap, arith}
use Rattle.std.proofs.lemmas.List.Sums.{sum_by_push}
use Rattle.lvl_grid.specs.declared.point.Square.{Square}
use Rattle.lvl_grid.specs.declared.map.Map.{Map}
use Rattle.lvl_cells.specs.Cells.{PlainCell, Rings}
use Rattle.lvl_cells.specs.Soundness.{AreLinked, IsOrder}
use Rattle.lvl_flat.specs.inside.Walking.{toil}
use Rattle.lvl_witness.specs.declared.frame.Frame.{Frame}
use Rattle.lvl_witness.specs.declared.witness.Step.{Step}
use Rattle.lvl_witness.specs.inside.Moves.{begun, frame_weight, references_left, Enters}
use Rattle.lvl_witness.specs.inside.Searching.{work_left}
use Rattle.lvl_witness.proofs.Covering.{weight_begun, weight_entered}
use Rattle.lvl_witness.proofs.Skipping.{left_at}

pub less_out : (cells : List (PlainCell Rings)) (front : List Frame) (f : Frame)
    → work_left cells front < work_left cells (front ++ f ∷ [])
less_out cells front f =
    omega (arith, sum_by_push (frame_weight toil cells) front f, sum_by_push (λ g. 1 + references_left cells g) front f)

pub less_into : (cells : List (PlainCell Rings)) (order : List ℕ) (q : Square) (front : List Frame) (f : Frame)
    (step : Step) (m : Map) (rest : Frame) → AreLinked cells → IsOrder cells order → Enters cells q f step m rest
    → work_left cells ((front ++ rest ∷ []) ++ begun step.cell m ∷ []) < work_left cells (front ++ f ∷ [])
less_into cells order q front f step m rest linked ordered e =
    let left : Frame → ℕ = λ g. 1 + references_left cells g in
    let child : Frame = begun step.cell m in
    let same : references_left cells rest ≡ references_left cells f =
    ap (references_left cells) e.rest_is in
    let all : references_left cells child ≡ length e.next.references - 0 = left_at cells child e.next e.leads.cell_is in
    omega (
      arith,
      same,
      all,
      e.skipped.less toil,
      weight_entered toil cells q f step m rest e,
      weight_begun toil cells order step.cell m e.next linked ordered e.leads.cell_is,
      sum_by_push (frame_weight toil cells) front f,
      sum_by_push (frame_weight toil cells) front rest,
      sum_by_push (frame_weight toil cells) (front ++ rest ∷ []) child,
      sum_by_push left front f,
      sum_by_push left front rest,
      sum_by_push left (front ++ rest ∷ []) child,
    )

-- a cell that isn't entered
pub less_known : (cells : List (PlainCell Rings)) (order : List ℕ) (q : Square) (front : List Frame) (f : Frame)
    (step : Step) (m : Map) (rest : Frame) → AreLinked cells → IsOrder cells order → Enters cells q f step m rest
    → work_left cells (front ++ rest ∷ []) < work_left cells (front ++ f ∷ [])
less_known cells order q front f step m rest linked ordered e =
    let more = less_into cells order q front f step m rest linked ordered e in
    let less = less_out cells (front ++ rest ∷ []) (begun step.cell m) in
    omega (arith, more, less)
