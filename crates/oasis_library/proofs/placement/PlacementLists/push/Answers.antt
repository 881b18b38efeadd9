use Rattle.std.proofs.Common.{◌∙◌, List, ap, map, refl}
use Rattle.lvl_cells.specs.Cells.{PlainPlacement}
use Rattle.oasis_library.specs.declared.placement.Target.{Target}
use Rattle.oasis_library.specs.inside.Kept.{placed_from}
use Rattle.oasis_library.proofs.Placing.{one_more}
use Rattle.oasis_library.proofs.placement.PlacementLists.push.Goals as goal

pub returns : goal.returns
returns c =
    let targets : List Target = c.key_of.new.targets.items in
    let added : PlainPlacement = record {
      key = c.in_ok-key.key;
      flip = c.args.by.flip;
      turn = c.args.by.turn;
      at = c.args.by.at;
      shifts = c.args.shifts;
    } in
    ap (map (placed_from targets)) c.in_ok-push.ensures.added
    ∙ one_more _ targets c.self.inside.placements added c.args.cell.now c.args.by c.args.shifts c.args.self.now
    c.key_of.ensures.before c.self.invariant c.self.view_is c.in_ok-key.ensures.key refl
