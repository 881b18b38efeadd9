use Rattle.std.proofs.Common.{List, Some, sym, ap, ◌∙◌, arith}
use Rattle.std.specs.List.{slice_get}
use Rattle.std.proofs.lemmas.Grind.{common_steps}
use Rattle.std.proofs.lemmas.Option.{gets}
use Rattle.lvl_grid.specs.declared.point.Point.{Point}
use Rattle.lvl_names.proofs.Lattices.{place_fits, lattice_at, lattice_past, seen_lattice, kept_corner}
use Rattle.lvl_names.proofs.offsets.Offsets.at.Goals as goal

pub returns-then-k-m : goal.returns-then-k-m
returns-then-k-m c =
    let k = c.in-Lattice in
    sym (lattice_past k.a k.m k.b k.n c.args.k c.if-k-m.true)
    ∙ ap (λ (l : List Point). slice_get l c.args.k)
    (seen_lattice c.self.inside.kept k.a k.m k.b k.n c.args.self.now k.is c.self.view_is)

pub point_at-requires-clause-xs : goal.point_at-requires-clause-xs
point_at-requires-clause-xs c =
    let k = c.in-Lattice in
    (place_fits k.a k.m k.b k.n c.args.k (kept_corner c.self.inside.kept k.a k.m k.b k.n k.is c.self.invariant)
    c.if-k-m.false).0

pub point_at-requires-clause-ys : goal.point_at-requires-clause-ys
point_at-requires-clause-ys c =
    let k = c.in-Lattice in
    (place_fits k.a k.m k.b k.n c.args.k (kept_corner c.self.inside.kept k.a k.m k.b k.n k.is c.self.invariant)
    c.if-k-m.false).1

pub returns-else-k-m : goal.returns-else-k-m
returns-else-k-m c =
    let k = c.in-Lattice in
    ap Some c.point_at.ensures
    ∙ (sym (lattice_at k.a k.m k.b k.n c.args.k c.if-k-m.false)
    ∙ ap (λ (l : List Point). slice_get l c.args.k)
    (seen_lattice c.self.inside.kept k.a k.m k.b k.n c.args.self.now k.is c.self.view_is))

pub returns-in-List : goal.returns-in-List
returns-in-List c = grind (arith, common_steps, gets)
