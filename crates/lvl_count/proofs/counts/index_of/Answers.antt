use Rattle.std.proofs.Common.{rules}
use Rattle.std.proofs.lemmas.List.Sorted.{IsPartitionPoint-from_clause}
use Rattle.lvl_count.specs.declared.counts.LayerRings.{LayerRings}
use Rattle.lvl_count.proofs.Adding.{comes, comes_if, parted, found_at}
use Rattle.lvl_count.proofs.counts.index_of.Goals as goal

pub returns : goal.returns
returns c =
    found_at c.args.counts.now c.args.layer c.partition_point.result c.requires.sorted c.requires.there
    (IsPartitionPoint-from_clause (λ (y : LayerRings). comes y.layer c.args.layer) c.args.counts.now
    c.partition_point.result c.partition_point.ensures.partitioned
    (parted c.args.counts.now c.args.layer c.requires.sorted)
    (λ a r f' k. (comes_if a.0.now.layer c.args.layer r (search rules), search rules)))
