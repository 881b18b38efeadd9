use Rattle.std.proofs.Common.{◌≡◌, ◌≤◌, ◌<◌, length, w64, FitsSigned, rules, arith, pos, get_or}
use Rattle.std.proofs.lemmas.Int.{to_z-of_z}
use Rattle.lvl_sweep.proofs.Firsts.{row_differs, row_longer, row_shorter, other_pair}
use Rattle.lvl_sweep.proofs.rows.row_difference.Goals as goal

pub returns-then-ne-clause-differ : goal.returns-then-ne-clause-differ
returns-then-ne-clause-differ c =
    let lt : c.loop-i.i < length c.args.first.now = omega (arith, c.min-common.ensures, c.loop-i-test.true) in
    let lt' : c.loop-i.i < length c.args.second.now = omega (arith, c.min-common.ensures, c.loop-i-test.true) in
    let is = c.interval_difference.ensures in
    rw is (row_differs c.args.first.now c.args.second.now c.loop-i.i (pos 0, pos 0) (pos 0, pos 0) c.requires.first
    c.requires.second lt lt' c.loop-i.invariant (other_pair _ _ _ c.ne.ensures c.if-ne.true))

pub returns-then-common-first-clause-differ : goal.returns-then-common-first-clause-differ
returns-then-common-first-clause-differ c =
    let fits : FitsSigned w64 (get_or c.args.first.now c.min-common.result (pos 0, pos 0)).0 = search rules in
    let at : c.loop-i.i ≡ c.min-common.result = omega (arith, c.loop-i-test.false, c.loop-i.auto.i-end) in
    let short : length c.args.second.now ≤ c.min-common.result =
    omega (arith, c.min-common.ensures, c.if-common-first.true) in
    rw (to_z-of_z w64 _ fits) (row_longer c.args.first.now c.args.second.now c.min-common.result (pos 0, pos 0)
    c.requires.first c.if-common-first.true short (rw at at c.loop-i.invariant))

pub returns-then-common-second-clause-differ : goal.returns-then-common-second-clause-differ
returns-then-common-second-clause-differ c =
    let fits : FitsSigned w64 (get_or c.args.second.now c.min-common.result (pos 0, pos 0)).0 = search rules in
    let at : c.loop-i.i ≡ c.min-common.result = omega (arith, c.loop-i-test.false, c.loop-i.auto.i-end) in
    rw (to_z-of_z w64 _ fits) (row_shorter c.args.first.now c.args.second.now c.min-common.result (pos 0, pos 0)
    c.requires.second c.if-common-second.true (omega (arith, c.if-common-first.false))
    (rw at at c.loop-i.invariant))
