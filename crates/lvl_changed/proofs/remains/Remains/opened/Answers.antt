use Rattle.std.proofs.Common.{◌≡◌, [], arith}
use Rattle.std.proofs.lemmas.Grind.{common_steps}
use Rattle.lvl_changed.specs.inside.Arrays.{all_places, every_place}
use Rattle.lvl_changed.proofs.Remaining.{all_are_opened, last_draws, none_draw, none_opened, one_opened}
use Rattle.lvl_changed.proofs.remains.Remains.opened.Goals as goal

pub loop-array-init : goal.loop-array-init
loop-array-init c = λ l s.
    none_opened c.args.pair.now.view.now.pairs c.args.pair.now.second.now.cells c.args.self.shapes
    (all_places c.none.result) (all_places c.args.self.placed) (every_place c.in_ok-arrays.arrays.items) c.none.ensures
    c.in_ok-arrays.ensures l s

pub loop-array-preserved : goal.loop-array-preserved
loop-array-preserved c = λ l s.
    one_opened (c.in_ok-open.ensures l s)
    (last_draws c.args.pair.now.view.now.pairs c.args.pair.now.second.now.cells c.loop-array.arrays.items
    c.pop.new.self.items c.in-Some.array c.in-Some.ensures.items l s) (c.loop-array.invariant l s)

pub returns : goal.returns
returns c = λ l s.
    let none : c.loop-array.arrays.items ≡ [] = grind (arith, common_steps, c.in_default.ensures) in
    all_are_opened
    (none_draw c.args.pair.now.view.now.pairs c.args.pair.now.second.now.cells c.loop-array.arrays.items none l s)
    (c.loop-array.invariant l s)
