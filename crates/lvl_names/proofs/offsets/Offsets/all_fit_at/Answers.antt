use Rattle.std.proofs.Common.{◌↔◌, List, IsTrue, All, subst}
use Rattle.lvl_grid.specs.declared.point.Point.{Point}
use Rattle.lvl_grid.specs.Turn.{shifted, FitsPoint}
use Rattle.lvl_names.proofs.Lattices.{seen_lattice}
use Rattle.lvl_names.proofs.offsets.Offsets.all_fit_at.Goals as goal

pub returns-in-Lattice : goal.returns-in-Lattice
returns-in-Lattice c =
    let k = c.in-Lattice in
    subst (λ (l : List Point). IsTrue c.lattice_fits_moved.result ↔ All (λ e. FitsPoint (shifted c.args.at e)) l)
    (seen_lattice c.self.inside.kept k.a k.m k.b k.n c.args.self.now k.is c.self.view_is)
    c.lattice_fits_moved.ensures
