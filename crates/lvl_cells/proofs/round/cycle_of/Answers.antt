use Rattle.std.proofs.Common.{◌≡◌, ◌<◌, ◌-◌, ℕ, List, [], ◌++◌, map, take, drop, length, length-drop, refl}
use Rattle.std.proofs.Common.{sym, ap, ◌∙◌, arith}
use Rattle.std.proofs.lemmas.List.{length-take-le}
use Rattle.std.proofs.lemmas.List.Elements.{All-take, All-drop}
use Rattle.std.proofs.lemmas.Option.{slice_get_within}
use Rattle.std.specs.declared.alloc.Global.{Global}
use Rattle.std.specs.declared.vec.Vec.{Vec}
use Rattle.lvl_cells.specs.declared.walk.Visit.{Visit}
use Rattle.lvl_cells.specs.inside.Rounding.{visited_name}
use Rattle.lvl_cells.proofs.NamedTargets.{take_past}
use Rattle.lvl_cells.proofs.Rounds.{cycle_by}
use Rattle.lvl_cells.proofs.round.cycle_of.Goals as goal

pub returns : goal.returns
returns c =
    let cells = c.args.cells.now in
    let round : List Visit = c.args.round.now in
    let first = c.first_of-first.result in
    let bytes : Vec ℕ Global → List ℕ = λ n. n.items in
    let front : List (List ℕ) = map (visited_name cells) (drop first round) in
    let back : List (List ℕ) = map (visited_name cells) (take first round) in
    let rest : take (length round - first) (drop first round) ≡ drop first round =
    take_past (drop first round) (length round - first) (omega (arith, length-drop first round)) in
    let some : map bytes c.add_names.new.names.items ≡ map bytes [] ++ front =
    c.in_ok-add_names.ensures ∙ rw (rest, c.in_ok-names.ensures.items) refl in
    cycle_by cells round first (map bytes c.add_names-2.new.names.items) c.requires.linked c.requires.round
    c.first_of-first.ensures (c.in_ok-add_names-2.ensures ∙ ap (λ (l : List (List ℕ)). l ++ back) some)

pub slice_bounds-add_names-end-2 : goal.slice_bounds-add_names-end-2
slice_bounds-add_names-end-2 c =
    let round : List Visit = c.args.round.now in
    let low = slice_get_within round c.first_of-first.result _ c.first_of-first.ensures.there in
    sym (length-take-le c.first_of-first.result round (omega (arith, low)))

pub add_names-requires : goal.add_names-requires
add_names-requires c =
    let round : List Visit = c.args.round.now in
    let first = c.first_of-first.result in
    let within : Visit → Type 0 = λ v. v.cell < length c.args.cells.now in
    All-take within (length round - first) (drop first round) (All-drop within first round c.requires.round.within)

pub add_names-requires-2 : goal.add_names-requires-2
add_names-requires-2 c =
    All-take (λ (v : Visit). v.cell < length c.args.cells.now) c.first_of-first.result c.args.round.now
    c.requires.round.within
