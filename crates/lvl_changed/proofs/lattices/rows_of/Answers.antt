use Rattle.lvl_changed.specs.declared.lattices.Lattice.{Lattice}
use Rattle.lvl_changed.proofs.Rowing.{rows_lattice}
use Rattle.lvl_changed.proofs.lattices.rows_of.Goals as goal

pub returns : goal.returns
returns c =
    let l : Lattice = c.in_ok-found.found in
    let is = c.in_ok-found.ensures in
    rows_lattice c.args.shifts.now c.in_ok-line.line l.across l.up l.columns l.rows is.columns is.is
    c.in_ok-line.ensures.same
