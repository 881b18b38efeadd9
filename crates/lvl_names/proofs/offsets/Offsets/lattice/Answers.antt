use Rattle.std.proofs.Common.{refl}
use Rattle.lvl_names.proofs.Lattices.{far_corner}
use Rattle.lvl_names.proofs.offsets.Offsets.lattice.Goals as goal

pub returns-then-not-has_far_corner-clause-some : goal.returns-then-not-has_far_corner-clause-some
returns-then-not-has_far_corner-clause-some c =
    (λ e. cc, λ l. c.if-not-has_far_corner.ensures.1 ((far_corner c.args.a c.args.m c.args.b c.args.n).1 l))

pub returns-clause-some : goal.returns-clause-some
returns-clause-some c =
    (λ e. (far_corner c.args.a c.args.m c.args.b c.args.n).0 (c.if-not-has_far_corner.ensures.0 refl), λ l. refl)
