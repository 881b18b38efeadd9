use Rattle.std.proofs.Common.{◌≡◌, List, ap, ◌∙◌, ◌++◌, subst}
use Rattle.std.proofs.lemmas.List.{append-nil}
use Rattle.lvl_changed.specs.declared.arrays.Array.{Array}
use Rattle.lvl_changed.specs.declared.placements.Placement.{Placement}
use Rattle.lvl_changed.specs.inside.Arrays.{all_places, every_place, AreListed}
use Rattle.lvl_changed.proofs.references.in_places.Goals as goal

pub returns : goal.returns
returns c =
    let ps : List Placement = c.args.singles.items in
    let none : ps ++ every_place c.new.result.items ≡ ps =
    ap (λ (as' : List Array). ps ++ every_place as') c.new.ensures.items ∙ append-nil ps in
    subst
    (λ (qs : List Placement). AreListed qs (all_places c.list_alone.new.placed) c.args.arrays.now c.args.others.now) none
    c.in_ok-list_alone.ensures
