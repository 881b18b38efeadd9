use Rattle.std.proofs.Common.{arith}
use Rattle.lvl_cells.proofs.Orders.{rows_long, targets_within}
use Rattle.lvl_cells.proofs.Roots.{referred_from_target, target_from_referred}
use Rattle.lvl_cells.proofs.top.referred_in.Goals as goal

pub referred_cells-requires : goal.referred_cells-requires
referred_cells-requires c = targets_within c.args.cells.now c.args.targets.now c.requires.targets

pub returns : goal.returns
returns c =
    let cells = c.args.cells.now in
    let targets = c.args.targets.now in
    let all = c.requires.targets in record {
      long = omega (arith, c.in_ok-referred.ensures.long, rows_long cells targets all, c.in_ok-referred.referred.ok.0);
      marked = λ k name at. (
        λ h. referred_from_target cells targets k name all at ((c.in_ok-referred.ensures.marked k).0 h),
        λ h.
            (c.in_ok-referred.ensures.marked k).1
            (target_from_referred cells targets k name c.requires.linked all at h),
      );
    }
