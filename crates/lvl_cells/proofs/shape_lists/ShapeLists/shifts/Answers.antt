use Rattle.std.proofs.Common.{◌≡◌, ◌≢◌, ◌<◌, length, arith, sym, ◌∙◌, ap}
use Rattle.lvl_cells.specs.Cells.{shape_at}
use Rattle.lvl_cells.specs.inside.Spans.{numbered}
use Rattle.lvl_cells.proofs.Spanned.{in_spans, shifts_read, numbered_is}
use Rattle.lvl_cells.proofs.shape_lists.ShapeLists.shifts.Goals as goal

pub index-requires : goal.index-requires
index-requires c =
    let there : c.args.i < length c.self.inside.spans.items = in_spans _ _ _ _ _ c.args.i c.self.view_is c.requires in
    omega (arith, there, c.self.inside.spans.ok.0)

pub index-requires-in_default : goal.index-requires-in_default
index-requires-in_default c =
    let number =
    (shifts_read _ _ _ _ _ c.args.i c.index.result.now c.self.invariant c.self.view_is c.requires
    c.index.ensures).0 in
    omega (arith, number, c.in_default, c.self.inside.shifts.ok.0)

pub returns-in-0-clause-none : goal.returns-in-0-clause-none
returns-in-0-clause-none c =
    let shifts : numbered c.self.inside.shifts.items c.index.result.now.shifts
    ≡ (shape_at c.args.self.now c.args.i).shifts =
    (shifts_read _ _ _ _ _ c.args.i c.index.result.now c.self.invariant c.self.view_is c.requires c.index.ensures).1 in
    sym (ap (λ n. numbered c.self.inside.shifts.items n) (sym c.in-0.is) ∙ shifts)

pub returns-in_default-clause-some : goal.returns-in_default-clause-some
returns-in_default-clause-some c =
    let some : c.index.result.now.shifts ≢ 0 = omega (arith, c.in_default) in
    let read =
    shifts_read _ _ _ _ _ c.args.i c.index.result.now c.self.invariant c.self.view_is c.requires c.index.ensures in
    c.index-in_default.ensures
    ∙ (sym (numbered_is c.self.inside.shifts.items c.index.result.now.shifts c.index-in_default.result.now some
    read.0) ∙ read.1)
