use Rattle.std.proofs.lemmas.Slice.Eq.{slice_eq-Decides}
use Rattle.lvl_sweep.proofs.BandLists.{pair_decides}
use Rattle.lvl_sweep.proofs.rows.are_same.Goals as goal

pub returns : goal.returns
returns c = slice_eq-Decides pair_decides c.args.first.now c.args.second.now c.eq.result c.eq.ensures
