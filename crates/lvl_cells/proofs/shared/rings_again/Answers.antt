use Rattle.std.proofs.Common.{◌≤◌, length, arith}
use Rattle.lvl_cells.specs.declared.shared.KeptFigure.{KeptFigure}
use Rattle.lvl_cells.proofs.Spanned.{again}
use Rattle.lvl_cells.proofs.shared.rings_again.Goals as goal

pub returns : goal.returns
returns c =
    let f : KeptFigure =
    record { begin = c.args.last.now.begin; end = c.args.last.now.end; by = c.in_ok-by.by } in
    let all : length c.args.figure.now ≤ c.loop-j.j = omega (arith, c.loop-j-test.false) in
    again c.args.rings.now c.args.figure.now f c.requires.order c.requires.inside c.requires.few
    (omega (arith, c.if-last-begin.false)) (λ i low. c.loop-j.invariant i (omega (arith, low, all)))
