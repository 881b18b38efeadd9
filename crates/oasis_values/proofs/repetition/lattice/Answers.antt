use Rattle.oasis_values.proofs.Places.{lattice_is}
use Rattle.oasis_values.proofs.repetition.lattice.Goals as goal

pub returns : goal.returns
returns c =
    lattice_is c.args.a c.args.m c.args.b c.args.n c.lattice.result c.requires c.lattice.ensures.some
    c.lattice.ensures.same
