use Rattle.std.proofs.Common.{◌<◌, length, arith}
use Rattle.std.proofs.lemmas.Option.{slice_get_within}
use Rattle.lvl_cells.proofs.Sequences.{item_there}
use Rattle.lvl_cells.proofs.round.first_of.Goals as goal

pub returns : goal.returns
returns c =
    let first = item_there c.args.round.now c.loop-k.first c.loop-k.invariant.within in
    record {
      visit = first.0;
      there = first.1;
      least =
          λ j w h. let low : j < length c.args.round.now = slice_get_within c.args.round.now j w h in
          c.loop-k.invariant.least j first.0 w (omega arith) first.1 h;
    }
