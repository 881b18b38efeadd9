use Rattle.std.proofs.Common.{List}
use Rattle.std.proofs.lemmas.List.Sorted.{Contains-permutation, IsPermutation-sym}
use Rattle.lvl_changed.specs.declared.placements.Placement.{Placement}
use Rattle.lvl_changed.proofs.placements.sort_places.Goals as goal

pub returns : goal.returns
returns c = λ p.
    let old : List Placement = c.args.placements.now.items in
    let new : List Placement = c.sort_unstable_by_key.new.self.items in
    let moved = c.sort_unstable_by_key.ensures.permutation in (
      λ a. Contains-permutation old new p moved a,
      λ a. Contains-permutation new old p (IsPermutation-sym old new moved) a,
    )
