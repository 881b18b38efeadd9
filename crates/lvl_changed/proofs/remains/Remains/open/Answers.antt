use Rattle.std.proofs.Common.{subst}
use Rattle.std.proofs.lemmas.Result.{on_ok_weaker}
use Rattle.lvl_cells.specs.Checks.{Settled}
use Rattle.lvl_changed.specs.inside.Arrays.{all_places}
use Rattle.lvl_changed.proofs.Remaining.{open_partly, open_whole, Opens}
use Rattle.lvl_changed.proofs.remains.Remains.open.Goals as goal

pub returns-then-branch : goal.returns-then-branch
returns-then-branch c =
    let pairs = c.args.pair.now.view.now.pairs in
    let opens : Opens pairs c.checked-checked.result.now.cells c.args.array c.args.self.now.shapes
    c.open_array.new.shapes c.new-inner.result.items c.open_array.new.arrays.items c.in_ok-open_array.field-0 =
    record {
      shapes = c.in_ok-open_array.ensures.shapes;
      arrays = c.in_ok-open_array.ensures.arrays;
      all = c.in_ok-open_array.ensures.all;
    } in
    let known =
    subst
    (λ (z : Settled). Opens pairs z.cells c.args.array c.args.self.now.shapes c.open_array.new.shapes
    c.new-inner.result.items c.open_array.new.arrays.items c.in_ok-open_array.field-0) c.checked-checked.ensures.library opens in
    on_ok_weaker c.push_all.result
    (λ adds.
    open_whole pairs c.args.pair.now.second.now.cells c.args.array c.args.self.now.shapes c.open_array.new.shapes
    c.new-inner.result.items c.open_array.new.arrays.items c.in_ok-open_array.field-0 (all_places c.args.self.now.placed)
    (all_places c.push_all.new.self) c.new-inner.ensures.items known c.if-branch.true adds) c.push_all.ensures

pub returns : goal.returns
returns c =
    let pairs = c.args.pair.now.view.now.pairs in
    let opens : Opens pairs c.checked-checked.result.now.cells c.args.array c.args.self.now.shapes
    c.open_array.new.shapes c.new-inner.result.items c.open_array.new.arrays.items c.in_ok-open_array.field-0 =
    record {
      shapes = c.in_ok-open_array.ensures.shapes;
      arrays = c.in_ok-open_array.ensures.arrays;
      all = c.in_ok-open_array.ensures.all;
    } in
    let known =
    subst
    (λ (z : Settled). Opens pairs z.cells c.args.array c.args.self.now.shapes c.open_array.new.shapes
    c.new-inner.result.items c.open_array.new.arrays.items c.in_ok-open_array.field-0) c.checked-checked.ensures.library opens in
    on_ok_weaker c.push_all-2.result
    (λ adds.
    open_partly pairs c.args.pair.now.second.now.cells c.args.array c.args.self.now.shapes c.open_array.new.shapes
    c.new-inner.result.items c.open_array.new.arrays.items c.in_ok-open_array.field-0 (all_places c.args.self.now.placed)
    (all_places c.push.new.self) (all_places c.push_all-2.new.self) c.new-inner.ensures.items known c.in_ok-push.ensures adds)
    c.push_all-2.ensures
