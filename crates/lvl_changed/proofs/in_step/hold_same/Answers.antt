use Rattle.std.proofs.Common.{◌≡◌, ◌≤◌, ℕ, List, Some, length, slice_get, take, subst, arith}
use Rattle.std.proofs.lemmas.List.{take_all}
use Rattle.lvl_cells.specs.Cells.{PlainCell, PlainReference, Rings}
use Rattle.lvl_cells.specs.Checks.{Settled}
use Rattle.lvl_view.specs.declared.map.LayerPair.{LayerPair}
use Rattle.lvl_view.specs.Moved.{IsMoved}
use Rattle.lvl_changed.specs.declared.area.Area.{Area}
use Rattle.lvl_changed.specs.inside.Areas.{AlikeOutside}
use Rattle.lvl_changed.specs.inside.Placements.{ReferencesCover}
use Rattle.lvl_changed.proofs.Growing.{grows_further, grows_itself}
use Rattle.lvl_changed.proofs.Placing.{same_none}
use Rattle.lvl_changed.proofs.in_step.hold_same.Goals as goal

pub loop-j-init : goal.loop-j-init
loop-j-init c = record {
  alike = λ known x y at there.
      same_none c.args.pair.now.view.now.pairs c.args.pair.now.first.now.cells c.args.pair.now.second.now.cells
      c.args.area.now;
  kept = grows_itself c.args.area.now;
}

pub loop-j-preserved : goal.loop-j-preserved
loop-j-preserved c = record {
  alike = λ known.
      c.in_ok-hold_same_at.ensures.more c.if-not-branch.false known (c.loop-j.invariant.alike known);
  kept =
      grows_further c.args.area.now c.loop-j.area c.hold_same_at.new.area c.loop-j.invariant.kept
      c.in_ok-hold_same_at.ensures.kept;
}

pub returns-then-not-branch-clause-kept : goal.returns-then-not-branch-clause-kept
returns-then-not-branch-clause-kept c =
    grows_further c.args.area.now c.loop-j.area c.hold_same_at.new.area c.loop-j.invariant.kept
    c.in_ok-hold_same_at.ensures.kept

pub returns-clause-alike : goal.returns-clause-alike
returns-clause-alike c = λ same known x y at there.
    let pairs : List LayerPair = c.args.pair.now.view.now.pairs in
    let ours : List (PlainCell Rings) = c.args.pair.now.first.now.cells in
    let theirs : List (PlainCell Rings) = c.args.pair.now.second.now.cells in
    let j : ℕ = c.loop-j.j in
    let area : Area = c.loop-j.area in
    let all : (d : PlainCell Rings) → slice_get ours c.args.ours ≡ Some d
    → length d.references ≤ c.reference_count-count.result =
    subst
    (λ (z : Settled). (d : PlainCell Rings) → slice_get z.cells c.args.ours ≡ Some d
    → length d.references ≤ c.reference_count-count.result)
    c.checked.ensures.library c.reference_count-count.ensures.all in
    let their_all : (d : PlainCell Rings) → slice_get theirs c.args.theirs ≡ Some d
    → length d.references ≤ c.reference_count.result =
    subst
    (λ (z : Settled). (d : PlainCell Rings) → slice_get z.cells c.args.theirs ≡ Some d
    → length d.references ≤ c.reference_count.result)
    c.checked-2.ensures.library c.reference_count.ensures.all in
    let long : length x.references ≤ j = omega (arith, c.loop-j-test.false, all x at) in
    let their_long : length y.references ≤ j =
    omega (arith, c.loop-j-test.false, their_all y there, c.if-reference_count-count.false) in
    subst
    (λ (rs : List PlainReference). AlikeOutside area (ReferencesCover ours rs)
    (IsMoved pairs (ReferencesCover theirs y.references)))
    (take_all j x.references long)
    (subst
    (λ (rs : List PlainReference). AlikeOutside area (ReferencesCover ours (take j x.references))
    (IsMoved pairs (ReferencesCover theirs rs)))
    (take_all j y.references their_long) (c.loop-j.invariant.alike known x y at there))
