use Rattle.std.proofs.Common.{◌≡◌, ◌<◌, ℕ, Some, length, sym, arith, ◌∙◌}
use Rattle.std.specs.List.{slice_get}
use Rattle.std.proofs.lemmas.List.Elements.{All-contains}
use Rattle.lvl_names.proofs.Elements.{contains_at}
use Rattle.lvl_cells.proofs.Roots.{marked_next, marked_all}
use Rattle.lvl_cells.proofs.top.mark_all.Goals as goal

pub loop-j-preserved : goal.loop-j-preserved
loop-j-preserved c =
    let j : ℕ = c.loop-j.j in
    let target : ℕ = c.in-Some.target in
    let at : slice_get c.args.targets.now j ≡ Some target = sym c.get.ensures ∙ c.in-Some.is in
    let low : target < length c.args.marks.now =
    All-contains (λ k. k < length c.args.marks.now) c.args.targets.now target c.requires
    (contains_at c.args.targets.now j target at) in
    marked_next c.args.marks.now c.loop-j.marks c.args.targets.now j target at
    (omega (arith, low, c.loop-j.auto.marks)) c.loop-j.invariant

pub returns : goal.returns
returns c =
    marked_all c.args.marks.now c.loop-j.marks c.args.targets.now c.loop-j.j
    (omega (arith, c.loop-j-test.false, c.len-j-end.ensures)) c.loop-j.invariant
