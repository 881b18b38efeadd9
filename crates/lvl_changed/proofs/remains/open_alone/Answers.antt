use Rattle.std.proofs.Common.{subst}
use Rattle.std.proofs.lemmas.Result.{on_ok_weaker}
use Rattle.lvl_cells.specs.Checks.{Settled}
use Rattle.lvl_changed.proofs.Remaining.{opened_first, opened_first_part, Opens}
use Rattle.lvl_changed.proofs.remains.open_alone.Goals as goal

pub returns-then-branch-clause-added : goal.returns-then-branch-clause-added
returns-then-branch-clause-added c =
    let opens : Opens c.whole-whole.result.pairs c.checked-checked.result.now.cells c.args.array c.args.shapes.now
    c.open_array.new.shapes c.new-inner.result.items c.open_array.new.arrays.items c.in_ok-open_array.field-0 =
    record {
      shapes = c.in_ok-open_array.ensures.shapes;
      arrays = c.in_ok-open_array.ensures.arrays;
      all = c.in_ok-open_array.ensures.all;
    } in
    let known =
    subst
    (λ (z : Settled). Opens c.whole-whole.result.pairs z.cells c.args.array c.args.shapes.now c.open_array.new.shapes
    c.new-inner.result.items c.open_array.new.arrays.items c.in_ok-open_array.field-0) c.checked-checked.ensures.library opens in
    on_ok_weaker c.add_all.result
    (λ adds found l s out.
    opened_first c.whole-whole.result.pairs c.args.pair.now.first.now.cells c.args.array c.args.shapes.now
    c.open_array.new.shapes c.new-inner.result.items c.open_array.new.arrays.items c.in_ok-open_array.field-0
    c.whole-whole.ensures.no_pairs c.new-inner.ensures.items known c.if-branch.true l s
    (adds c.args.pair.now found l s out)) c.add_all.ensures.added

pub returns-clause-added : goal.returns-clause-added
returns-clause-added c =
    let opens : Opens c.whole-whole.result.pairs c.checked-checked.result.now.cells c.args.array c.args.shapes.now
    c.open_array.new.shapes c.new-inner.result.items c.open_array.new.arrays.items c.in_ok-open_array.field-0 =
    record {
      shapes = c.in_ok-open_array.ensures.shapes;
      arrays = c.in_ok-open_array.ensures.arrays;
      all = c.in_ok-open_array.ensures.all;
    } in
    let known =
    subst
    (λ (z : Settled). Opens c.whole-whole.result.pairs z.cells c.args.array c.args.shapes.now c.open_array.new.shapes
    c.new-inner.result.items c.open_array.new.arrays.items c.in_ok-open_array.field-0) c.checked-checked.ensures.library opens in
    on_ok_weaker c.add_all-2.result
    (λ adds found l s out.
    opened_first_part c.whole-whole.result.pairs c.args.pair.now.first.now.cells c.args.array c.args.shapes.now
    c.open_array.new.shapes c.new-inner.result.items c.open_array.new.arrays.items c.in_ok-open_array.field-0
    c.args.partners.now.alone.items c.push.new.self.items c.whole-whole.ensures.no_pairs c.new-inner.ensures.items known
    c.in_ok-push.ensures.items l s (adds c.args.pair.now found l s out)) c.add_all-2.ensures.added
