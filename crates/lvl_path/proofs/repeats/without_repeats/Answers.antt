use Rattle.std.proofs.Common.{◌∙◌}
use Rattle.std.proofs.lemmas.List.Filters.{dedup_is}
use Rattle.lvl_path.specs.Repeats.{same_point}
use Rattle.lvl_path.proofs.Repeating.{deduped}
use Rattle.lvl_path.proofs.repeats.without_repeats.Goals as goal

pub returns : goal.returns
returns c = dedup_is same_point _ _ c.dedup.ensures.filtered ∙ deduped c.args.points.items
