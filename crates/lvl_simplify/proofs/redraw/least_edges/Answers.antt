use Rattle.std.proofs.Common.{◌≡◌, ◌+ℤ◌, ◌-ℤ◌, ℤ, pos, negsuc, length, ◌∙◌, ap, subst, Option, arith}
use Rattle.std.proofs.Common.{w64, FitsSigned, rules}
use Rattle.std.specs.Option.{IfSome}
use Rattle.std.proofs.lemmas.Int.{ints, to_z-of_z}
use Rattle.std.proofs.lemmas.Option.{IfSome_then}
use Rattle.std.proofs.lemmas.Result.{IfOk-weaker}
use Rattle.lvl_simplify.specs.declared.redraw.Ends.{Ends}
use Rattle.lvl_simplify.specs.Rows.{turning}
use Rattle.lvl_simplify.specs.Redraw.{ends_turning, within}
use Rattle.lvl_simplify.proofs.Turns.{turning_permuted}
use Rattle.lvl_simplify.proofs.Capping.{enough_edges}
use Rattle.lvl_simplify.proofs.redraw.least_edges.Goals as goal

pub returns : goal.returns
returns c =
    let r = to_z-of_z w64 c.args.right c.ranges.right in
    let most_fits : FitsSigned w64 c.in-Some.most = search rules in
    let least_fits : FitsSigned w64 c.in-Some-checked_sub.least = search rules in
    let most : c.in-Some.most ≡ pos (length c.args.edges.inner.items) +ℤ pos 1 =
    omega (arith, ints, c.in-Some.ensures, c.in-Ok.ensures, c.len.ensures) in
    let least : c.in-Some-checked_sub.least ≡ negsuc 0 -ℤ pos (length c.args.edges.inner.items) =
    omega (arith, ints, c.in-Some-checked_sub.ensures, c.in-Ok.ensures, c.len.ensures) in
    let reported : (y : ℤ) → ends_turning y c.in-Some-2.ends
    ≡ within c.in-Some-checked_sub.least c.in-Some.most (turning y c.deref.result.now) =
    subst (λ (o : Option Ends). IfSome o (λ ends. (y : ℤ) → ends_turning y ends
    ≡ within c.in-Some-checked_sub.least c.in-Some.most (turning y c.deref.result.now))) c.in-Some-2.is
    (rw (to_z-of_z w64 _ most_fits, to_z-of_z w64 _ least_fits) at c.in_ok-ends.ensures) in
    let same : (y : ℤ) → turning y c.deref.result.now ≡ turning y c.args.edges.turns.items = λ y.
    ap (turning y) c.deref.ensures.value
    ∙ turning_permuted y c.args.edges.turns.items c.sort_unstable_by_key.new.self.items
    c.sort_unstable_by_key.ensures.permutation in
    IfOk-weaker c.paired.result _ _
    (λ o paired. IfSome_then o paired (λ us winds s.
    enough_edges s c.args.right c.in-Some-checked_sub.least c.in-Some.most us.items c.args.edges.inner.items
    (ends_turning s.y c.in-Some-2.ends) (turning s.y c.args.edges.turns.items) (winds s)
    (reported s.y ∙ ap (within c.in-Some-checked_sub.least c.in-Some.most) (same s.y)) most least))
    (rw r at c.paired.ensures)
