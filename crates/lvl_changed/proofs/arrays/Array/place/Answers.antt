use Rattle.std.proofs.Common.{sym, ap, ◌∙◌}
use Rattle.lvl_grid.specs.declared.point.Point.{Point}
use Rattle.lvl_grid.specs.declared.map.Map.{Map}
use Rattle.lvl_changed.proofs.arrays.Array.place.Goals as goal

pub returns : goal.returns
returns c =
    let of : Point → Map = λ p. record { flip = c.args.self.now.by.flip; turn = c.args.self.now.by.turn; at = p } in
    record {
      shift = c.in_ok-at.field-0;
      there = sym c.at.ensures ∙ c.in_ok-at.was;
      map_is = ap of c.in_ok-at-2.ensures.1;
    }
