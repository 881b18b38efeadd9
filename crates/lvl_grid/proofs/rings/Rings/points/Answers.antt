use Rattle.std.proofs.Common.{sym, ap, ◌∙◌, List}
use Rattle.std.specs.Prelude.{flat_map}
use Rattle.lvl_grid.specs.declared.point.Point.{Point}
use Rattle.lvl_grid.proofs.Cuts.{joined_cut}
use Rattle.lvl_grid.proofs.rings.Rings.points.Goals as goal

pub returns : goal.returns
returns c =
    c.deref.ensures.value
    ∙ (sym (joined_cut 0 c.self.inside.ends.items c.self.inside.points.items c.self.invariant.rising)
    ∙ ap (λ (rings : List (List Point)). flat_map (λ ring. ring) rings) c.self.view_is)
