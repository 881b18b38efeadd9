use Rattle.std.proofs.Common.{◌≡◌, ◌<◌, ◌+◌, ◌-ℤ◌, ◌++◌, ◌∷◌, [], ℤ, ℕ, pos, List, take, length, ap, ◌∙◌, sym, arith}
use Rattle.std.proofs.Common.{w64, FitsSigned, rules}
use Rattle.std.proofs.lemmas.Int.{to_z-of_z}
use Rattle.std.proofs.lemmas.List.{take_all, take_more}
use Rattle.lvl_simplify.specs.Redraw.{count_to, if_right, winds, winding_by}
use Rattle.lvl_simplify.proofs.Redrawing.{added_beside, ends_pushed}
use Rattle.lvl_simplify.proofs.redraw.paired.Goals as goal

pub loop-i-preserved : goal.loop-i-preserved
loop-i-preserved c = λ s.
    let r = to_z-of_z w64 c.args.right c.ranges.right in
    let begins : List ℤ = c.args.ends.now.begins.items in
    let ends : List ℤ = c.args.ends.now.ends.items in
    let i : ℕ = c.loop-i.i in
    let right : ℤ = c.args.right in
    let below : i < length begins = omega (arith, c.loop-i-test.true, c.len-i-end.ensures) in
    let below-2 : i < length ends = omega (arith, below, c.if-len.false, c.len.ensures, c.len-2.ensures) in
    let begin : ℤ = c.index.result.now in
    let end : ℤ = c.index-in-loop-i.result.now in
    let begin_fits : FitsSigned w64 begin = search rules in
    let end_fits : FitsSigned w64 end = search rules in
    let more : take (i + 1) begins ≡ take i begins ++ begin ∷ [] =
    take_more begins i begin below ∙ ap (λ x. take i begins ++ x ∷ []) (sym c.index.ensures) in
    let more-2 : take (i + 1) ends ≡ take i ends ++ end ∷ [] =
    take_more ends i end below-2 ∙ ap (λ x. take i ends ++ x ∷ []) (sym c.index-in-loop-i.ensures) in
    rw r
    (added_beside (winding_by s c.push_upright.new.uprights.items) (winding_by s c.loop-i.uprights.items)
    (winding_by s c.args.uprights.items)
    (if_right s right (pos (count_to s.y (take i begins)) -ℤ pos (count_to s.y (take i ends))))
    (winds s right begin end)
    (if_right s right (pos (count_to s.y (take (i + 1) begins)) -ℤ pos (count_to s.y (take (i + 1) ends))))
    (rw (r, to_z-of_z w64 _ begin_fits, to_z-of_z w64 _ end_fits) at (c.in_ok-push_upright.ensures s))
    (rw r at (c.loop-i.invariant s))
    (ends_pushed s right (take i begins) (take i ends) (take (i + 1) begins) (take (i + 1) ends) begin end more more-2))

pub returns : goal.returns
returns c = λ s.
    let begins : List ℤ = c.args.ends.now.begins.items in
    let ends : List ℤ = c.args.ends.now.ends.items in
    let i : ℕ = c.loop-i.i in
    let all : take i begins ≡ begins =
    take_all i begins (omega (arith, c.loop-i-test.false, c.len-i-end.ensures)) in
    let all-2 : take i ends ≡ ends =
    take_all i ends
    (omega (arith, c.loop-i-test.false, c.len-i-end.ensures, c.if-len.false, c.len.ensures, c.len-2.ensures)) in
    rw (to_z-of_z w64 c.args.right c.ranges.right, all, all-2) at (c.loop-i.invariant s)
