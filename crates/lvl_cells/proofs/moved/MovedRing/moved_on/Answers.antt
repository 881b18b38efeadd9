use Rattle.std.proofs.Common.{List, map, inr, sym, ap, subst, ◌∙◌}
use Rattle.lvl_grid.specs.declared.point.Point.{Point}
use Rattle.lvl_grid.specs.Turn.{shifted}
use Rattle.lvl_grid.specs.Winding.{IsRing}
use Rattle.lvl_cells.specs.inside.Outlines.{ring_of}
use Rattle.lvl_cells.proofs.Moving.{IsRing-moved, all_fit_between, moved_twice}
use Rattle.lvl_cells.proofs.moved.MovedRing.moved_on.Goals as goal

pub new-requires-clause-ring : goal.new-requires-clause-ring
new-requires-clause-ring c = record {
  ring = c.self.invariant.0.ring;
  fits =
      inr (all_fit_between c.in_ok-by.by c.in_ok-least.least c.in_ok-least.greatest (ring_of c.self.inside.outline)
      c.in_ok-least.ensures c.in_ok-moved.ensures.0 c.in_ok-moved-2.ensures.0);
}

pub returns-clause-is : goal.returns-clause-is
returns-clause-is c =
    let points : List Point = ring_of c.self.inside.outline in
    c.new.ensures
    ∙ (ap (λ b. map (shifted b) points) c.in_ok-by.ensures.1
    ∙ (sym (moved_twice c.args.shift c.self.inside.by points) ∙ ap (map (shifted c.args.shift)) c.self.view_is))

pub returns-clause-ring : goal.returns-clause-ring
returns-clause-ring c =
    subst IsRing (sym c.new.ensures)
    (IsRing-moved c.in_ok-by.by (ring_of c.self.inside.outline) c.self.invariant.0.ring)
