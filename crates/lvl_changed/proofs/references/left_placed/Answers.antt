use Rattle.std.proofs.Common.{List}
use Rattle.std.proofs.lemmas.Result.{IfOk-weaker}
use Rattle.lvl_changed.specs.declared.placements.Placement.{Placement}
use Rattle.lvl_changed.specs.inside.Arrays.{all_places}
use Rattle.lvl_changed.proofs.LeftPlaces.{left_further}
use Rattle.lvl_changed.proofs.references.left_placed.Goals as goal

pub returns-clause-ours : goal.returns-clause-ours
returns-clause-ours c =
    let ps : List Placement = all_places c.args.first in
    let qs : List Placement = all_places c.args.second in
    let ps2 : List Placement = all_places c.in_ok-first.first in
    let qs2 : List Placement = all_places c.in_ok-first.second in
    let ps3 : List Placement = all_places c.in_ok-first-2.first in
    let qs3 : List Placement = all_places c.in_ok-first-2.second in
    IfOk-weaker c.left_singles.result _ _
    (λ left last. left_further ps qs ps2 qs2 (all_places left.0) c.in_ok-first.ensures.ours c.in_ok-first.ensures.theirs
    (left_further ps2 qs2 ps3 qs3 (all_places left.0) c.in_ok-first-2.ensures.ours c.in_ok-first-2.ensures.theirs last))
    c.left_singles.ensures.ours

pub returns-clause-theirs : goal.returns-clause-theirs
returns-clause-theirs c =
    let ps : List Placement = all_places c.args.first in
    let qs : List Placement = all_places c.args.second in
    let ps2 : List Placement = all_places c.in_ok-first.first in
    let qs2 : List Placement = all_places c.in_ok-first.second in
    let ps3 : List Placement = all_places c.in_ok-first-2.first in
    let qs3 : List Placement = all_places c.in_ok-first-2.second in
    IfOk-weaker c.left_singles.result _ _
    (λ left last. left_further qs ps qs2 ps2 (all_places left.1) c.in_ok-first.ensures.theirs c.in_ok-first.ensures.ours
    (left_further qs2 ps2 qs3 ps3 (all_places left.1) c.in_ok-first-2.ensures.theirs c.in_ok-first-2.ensures.ours last))
    c.left_singles.ensures.theirs
