use Rattle.std.proofs.Common.{◌≡◌, ◌<◌, List, Some, IfSome, IfNone, length, ap, sym, subst, arith}
use Rattle.std.specs.List.{slice_get}
use Rattle.std.proofs.lemmas.Option.{slice_get_within}
use Rattle.lvl_cells.specs.Cells.{PlainCell, Rings}
use Rattle.lvl_cells.specs.Checks.{Settled, IsTargetOf, HasReference}
use Rattle.lvl_cells.proofs.Looking.{target_found, target_past}
use Rattle.lvl_cells.proofs.Orders.{rows_long}
use Rattle.lvl_cells.proofs.linked.Linked.target.Goals as goal

pub returns-then-cell-len-clause-past : goal.returns-then-cell-len-clause-past
returns-then-cell-len-clause-past c = λ w.
    let same : c.self.inside.cells.now ≡ c.args.self.now.cells = ap (λ (s : Settled). s.cells) c.self.view_is in
    let low : c.args.cell < length c.self.inside.cells.now =
    slice_get_within c.self.inside.cells.now c.args.cell w.0
    (subst (λ (l : List (PlainCell Rings)). slice_get l c.args.cell ≡ Some w.0) (sym same) w.1) in
    absurd (omega (
      arith,
      low,
      rows_long c.self.inside.cells.now c.self.inside.targets.now c.self.invariant.targets,
      c.if-cell-len.true,
      c.len.ensures,
    ))

pub returns-clause-target : goal.returns-clause-target
returns-clause-target c =
    let same : c.self.inside.cells.now ≡ c.args.self.now.cells = ap (λ (s : Settled). s.cells) c.self.view_is in
    subst (λ (l : List (PlainCell Rings)). IfSome c.get.result (IsTargetOf l c.args.cell c.args.reference)) same
    (target_found c.self.inside.cells.now c.self.inside.targets.now c.args.cell c.args.reference c.row.result c.get.result
    c.self.invariant.linked.distinct c.self.invariant.targets c.row.ensures c.get.ensures)

pub returns-clause-past : goal.returns-clause-past
returns-clause-past c =
    let same : c.self.inside.cells.now ≡ c.args.self.now.cells = ap (λ (s : Settled). s.cells) c.self.view_is in
    subst (λ (l : List (PlainCell Rings)). IfNone c.get.result (¬ HasReference l c.args.cell c.args.reference)) same
    (target_past c.self.inside.cells.now c.self.inside.targets.now c.args.cell c.args.reference c.row.result c.get.result
    c.self.invariant.targets c.row.ensures c.get.ensures)
