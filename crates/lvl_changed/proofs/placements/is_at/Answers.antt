use Rattle.std.proofs.Common.{◌≡◌, List, Some, slice_get, sym, ◌∙◌, arith}
use Rattle.std.proofs.lemmas.Grind.{common_steps}
use Rattle.std.proofs.lemmas.Option.{gets, slice_get_within, get_or_from_slice_get}
use Rattle.lvl_changed.specs.declared.placements.Placement.{Placement}
use Rattle.lvl_changed.proofs.Same.{placement_decides}
use Rattle.lvl_changed.proofs.placements.is_at.Goals as goal

pub returns-in-Some : goal.returns-in-Some
returns-in-Some c = λ h.
    let xs : List Placement = c.args.placements.now in
    let p : Placement = c.args.placement.now in
    let q : Placement = c.in-Some.found.now in
    let at : slice_get xs c.args.at ≡ Some q = grind (arith, common_steps, gets, c.in-Some.ensures.lookup) in
    let same : q ≡ p = (placement_decides q p).0 (sym c.eq.ensures ∙ h) in
    (c.args.at, slice_get_within xs c.args.at q at, get_or_from_slice_get xs c.args.at q p at ∙ same)
