use Rattle.std.proofs.Common.{◌≡◌, List, ◌∙◌, ap, ◌++◌, ◌∷◌, []}
use Rattle.lvl_changed.specs.declared.arrays.Array.{Array}
use Rattle.lvl_changed.specs.declared.placements.Placement.{Placement}
use Rattle.lvl_changed.specs.inside.Arrays.{each_place}
use Rattle.lvl_changed.proofs.Arraying.{array_added, places_added}
use Rattle.lvl_changed.proofs.listing.list_array.Goals as goal

pub returns-in_ok-append-in-Some : goal.returns-in_ok-append-in-Some
returns-in_ok-append-in-Some c = λ cells l s.
    let all : c.in-Some.all.items ≡ each_place c.args.array.now = rw c.in-Some.is at c.in_ok-all.ensures in
    let ps : List Placement = c.args.placed.now.singles.items in
    places_added cells ps (each_place c.args.array.now) c.append.new.self.items c.args.placed.now.arrays.items l s
    (c.in_ok-append-in-Some.ensures.items ∙ ap (λ qs. ps ++ qs) all)

pub returns-in_ok-push-in-None : goal.returns-in_ok-push-in-None
returns-in_ok-push-in-None c = λ cells l s.
    let old : List Array = c.args.placed.now.arrays.items in
    array_added cells c.args.placed.now.singles.items old c.push.new.self.items c.args.array.now l s
    (c.in_ok-push-in-None.ensures.items ∙ ap (λ (a : Array). old ++ a ∷ []) c.in_ok-copied-in-None.ensures)
