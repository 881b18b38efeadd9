use Rattle.std.proofs.Common.{List, subst}
use Rattle.lvl_changed.specs.declared.placements.Placement.{Placement}
use Rattle.lvl_changed.specs.inside.Placements.{AreLeftPlaces}
use Rattle.lvl_changed.proofs.LeftPlaces.{have_same, left_same, singles_left}
use Rattle.lvl_changed.proofs.references.left_singles.Goals as goal

pub returns-clause-ours : goal.returns-clause-ours
returns-clause-ours c =
    let ps : List Placement = c.args.first.singles.items in
    let qs : List Placement = c.args.second.singles.items in
    let sorted : List Placement = c.sort_places.new.placements.items in
    let others : List Placement = c.sort_places-2.new.placements.items in
    let left : List Placement = c.in_ok-ours.ours.items in
    let missing : AreLeftPlaces sorted others left =
    subst (λ (us : List Placement). AreLeftPlaces us others left) c.deref.ensures.value
    (subst (λ (us : List Placement). AreLeftPlaces c.deref.result.now us left) c.deref-2.ensures.value
    c.in_ok-ours.ensures) in
    singles_left ps qs left c.args.first.arrays.items c.args.second.arrays.items
    (left_same ps qs sorted others left (have_same ps sorted c.sort_places.ensures)
    (have_same qs others c.sort_places-2.ensures) missing)

pub returns-clause-theirs : goal.returns-clause-theirs
returns-clause-theirs c =
    let ps : List Placement = c.args.first.singles.items in
    let qs : List Placement = c.args.second.singles.items in
    let sorted : List Placement = c.sort_places.new.placements.items in
    let others : List Placement = c.sort_places-2.new.placements.items in
    let left : List Placement = c.in_ok-theirs.theirs.items in
    let missing : AreLeftPlaces others sorted left =
    subst (λ (us : List Placement). AreLeftPlaces us sorted left) c.deref-3.ensures.value
    (subst (λ (us : List Placement). AreLeftPlaces c.deref-3.result.now us left) c.deref-4.ensures.value
    c.in_ok-theirs.ensures) in
    singles_left qs ps left c.args.second.arrays.items c.args.first.arrays.items
    (left_same qs ps others sorted left (have_same qs others c.sort_places-2.ensures)
    (have_same ps sorted c.sort_places.ensures) missing)
