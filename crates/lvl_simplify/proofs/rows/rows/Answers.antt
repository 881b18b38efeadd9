use Rattle.std.proofs.Common.{◌≤ℤ◌, All, arith, rules, w64}
use Rattle.std.proofs.lemmas.Int.{ints, to_z-of_z}
use Rattle.std.proofs.lemmas.Option.{IfSome_then}
use Rattle.std.proofs.lemmas.Result.{IfOk-weaker}
use Rattle.lvl_simplify.specs.Rows.{IsAtBorder}
use Rattle.lvl_simplify.proofs.Turns.{covers_rows}
use Rattle.lvl_simplify.proofs.rows.rows.Goals as goal

pub returns : goal.returns
returns c =
    let wide : c.args.left ≤ℤ c.args.right = grind (arith, ints) in
    let l = to_z-of_z w64 c.args.left c.ranges.left in
    let r = to_z-of_z w64 c.args.right c.ranges.right in
    let at : All (IsAtBorder c.args.left c.args.right) c.args.ring.now =
    rw (l, r) at (c.is_at_borders.ensures (search rules)) in
    IfOk-weaker c.rows_between.result _ _
    (λ o reported. IfSome_then o reported (λ windows within s.
    covers_rows c.args.left c.args.right c.args.ring.now s c.in_ok-turns.turns.items c.deref.result.now windows.items
    wide at (rw (l, r) at (c.in_ok-turns.ensures s))
    (rw c.deref.ensures.value c.sort_unstable_by_key.ensures.permutation) (within s)))
    (rw (l, r) at c.rows_between.ensures)
