use Rattle.std.proofs.Common.{◌≡◌, ◌<◌, ℕ, List, All, length, slice_get, Some, None, sym, subst, ◌∙◌, arith}
use Rattle.std.proofs.lemmas.List.{take_all}
use Rattle.std.proofs.lemmas.Option.{get_or_from_slice_get}
use Rattle.lvl_grid.specs.declared.point.Point.{Point}
use Rattle.lvl_cells.proofs.Sequences.{item_there}
use Rattle.lvl_names.specs.Shifts.{IsBetween}
use Rattle.lvl_names.proofs.Reaches.{reaches_one, reaches_further, between_more}
use Rattle.lvl_witness.proofs.boxes.box_of.Goals as goal

pub unreachable-requires : goal.unreachable-requires
unreachable-requires c =
    let there = item_there c.args.ring.now 0 (omega (arith, c.requires.enough)) in
    let none : slice_get c.args.ring.now 0 ≡ None = sym c.get.ensures ∙ c.in_default.is in
    let some : slice_get c.args.ring.now 0 ≡ Some there.0 = there.1 in
    cc

pub loop-k-init : goal.loop-k-init
loop-k-init c =
    let first : slice_get c.args.ring.now 0 ≡ Some c.in-Some.first = sym c.get.ensures ∙ c.in-Some.is in
    record {
      between = λ k d lt. absurd (omega (arith, lt));
      reached = reaches_one c.args.ring.now 0 c.in-Some.first first;
    }

pub loop-k-preserved : goal.loop-k-preserved
loop-k-preserved c =
    let ring : List Point = c.args.ring.now in
    let k : ℕ = c.loop-k.k in
    let point : Point = c.in-Some-get.point in
    let at : slice_get ring k ≡ Some point = sym c.get-in-loop-k.ensures ∙ c.in-Some-get.is in
    let there : k < length ring = omega (arith, c.loop-k-test.true, c.len-k-end.ensures) in
    rw (c.lesser-low.ensures, c.greater-high.ensures) record {
      between =
          between_more c.loop-k.low c.loop-k.high ring k point point there
          (get_or_from_slice_get ring k point point at) c.loop-k.invariant.between;
      reached =
          reaches_further c.loop-k.low c.loop-k.high point ring c.loop-k.invariant.reached
          (reaches_one ring k point at);
    }

pub returns : goal.returns
returns c = record {
  between =
      subst (All (IsBetween c.loop-k.low c.loop-k.high))
      (take_all c.loop-k.k c.args.ring.now (omega (arith, c.loop-k-test.false, c.len-k-end.ensures)))
      c.loop-k.invariant.between;
  left = c.loop-k.invariant.reached.left;
  right = c.loop-k.invariant.reached.right;
  below = c.loop-k.invariant.reached.below;
  above = c.loop-k.invariant.reached.above;
}
