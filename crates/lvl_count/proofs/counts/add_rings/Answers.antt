use Rattle.std.proofs.Common.{◌<◌, ◌+◌, ◌^◌, ℕ, get_or, arith}
use Rattle.lvl_count.specs.declared.counts.LayerRings.{LayerRings}
use Rattle.lvl_count.proofs.Adding.{added_at}
use Rattle.lvl_count.proofs.counts.add_rings.Goals as goal

pub overflow_add-counts : goal.overflow_add-counts
overflow_add-counts c =
    let at = c.index_of-index.ensures in
    let index : ℕ = c.index_of-index.result in
    let no : LayerRings = record { layer = record { layer = 0; datatype = 0 }; rings = 0 } in
    let few : (get_or c.args.counts.now index no).rings + c.args.rings < 2 ^ 64 =
    c.requires.few index no at.low (at.layer_is no) in
    omega (arith, few)

pub returns : goal.returns
returns c =
    let no : LayerRings = record { layer = record { layer = 0; datatype = 0 }; rings = 0 } in
    added_at c.args.counts.now c.args.layer c.args.rings c.index_of-index.result no c.requires.sorted
    c.index_of-index.ensures
