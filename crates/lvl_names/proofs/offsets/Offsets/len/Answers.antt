use Rattle.std.proofs.Common.{length, sym, ap, ◌∙◌, subst}
use Rattle.lvl_names.specs.Shifts.{StartsAtZero}
use Rattle.lvl_names.proofs.Lattices.{lattice_long, lattice_zero, seen_lattice, kept_corner}
use Rattle.lvl_names.proofs.offsets.Offsets.len.Goals as goal

pub returns-in-Lattice-clause-count : goal.returns-in-Lattice-clause-count
returns-in-Lattice-clause-count c =
    let k = c.in-Lattice in
    sym (lattice_long k.field-0 k.m k.field-2 k.n)
    ∙ ap length (seen_lattice c.self.inside.kept k.field-0 k.m k.field-2 k.n c.args.self.now k.is c.self.view_is)

pub returns-in-Lattice-clause-zero_first : goal.returns-in-Lattice-clause-zero_first
returns-in-Lattice-clause-zero_first c =
    let k = c.in-Lattice in
    subst StartsAtZero (seen_lattice c.self.inside.kept k.field-0 k.m k.field-2 k.n c.args.self.now k.is c.self.view_is)
    (lattice_zero k.field-0 k.m k.field-2 k.n
    (kept_corner c.self.inside.kept k.field-0 k.m k.field-2 k.n k.is c.self.invariant))
