use Rattle.std.proofs.Common.{◌≡◌, ◌<◌, ◌+◌, ◌-◌, sym, length, arith}
use Rattle.lvl_grid.proofs.Pieces.{begin-first, begin-next}
use Rattle.lvl_cells.proofs.rows.begin.Goals as goal

pub returns-then-i-eq0 : goal.returns-then-i-eq0
returns-then-i-eq0 c = rw c.if-i-eq0.true (sym (begin-first c.args.ends.now))

pub returns : goal.returns
returns c =
    let one : c.args.i - 1 + 1 ≡ c.args.i = omega (arith, c.if-i-eq0.false) in
    let at : c.args.i - 1 + 1 < length c.args.ends.now = omega (arith, one, c.requires) in
    sym (rw one at (begin-next 0 c.args.ends.now (c.args.i - 1) 0 at))
