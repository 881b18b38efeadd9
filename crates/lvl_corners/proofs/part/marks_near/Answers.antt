use Rattle.std.proofs.Common.{◌≡◌, ◌+ℤ◌, ap, arith, refl, rules, length, int_eq, pos, true, FitsSigned, inr}
use Rattle.std.specs.Int.{w64}
use mir.Val.{to_z, of_z}
use Rattle.std.proofs.lemmas.Int.{ints, to_z-of_z}
use Rattle.lvl_sweep.specs.Slab.{slabs_cover}
use Rattle.lvl_corners.specs.Gathered.{near, IsLowered}
use Rattle.lvl_corners.specs.inside.Marks.{bands_net, net}
use Rattle.lvl_corners.specs.inside.Rows.{ended_net}
use Rattle.lvl_corners.proofs.Changes.{bands_change, bands_bounded}
use Rattle.lvl_corners.proofs.Gathered.{lowered_both, near_lower}
use Rattle.lvl_corners.proofs.Rows.{started}
use Rattle.lvl_corners.proofs.part.marks_near.Goals as goal

pub loop-band-init : goal.loop-band-init
loop-band-init g c = record {
  kept = λ x y inside.
      rw (c.new-marks.ensures.items, c.new.ensures.items)
      (started _ (bands_net x y c.in_ok-sweep.sweep) (int_eq (pos 0) y) refl);
  lowered = (omega (arith, ints), inr refl);
}

pub loop-band-smaller : goal.loop-band-smaller
loop-band-smaller g c =
    let first = ap length c.in-Some.ensures.first in
    rw c.advance.ensures (omega (arith, first))

pub loop-band-preserved : goal.loop-band-preserved
loop-band-preserved g c =
    let lower = c.lowered-limit.ensures.lowered in
    record {
      kept = λ x y inside.
          let first = ap (bands_net x y) c.in-Some.ensures.first in
          let rest = ap (bands_net x y) c.advance.ensures in
          let put = c.in_ok-push_band.ensures x y in
          let before = c.loop-band.invariant.kept x y (near_lower _ _ _ x lower.0 inside) in
          let same = c.lowered-limit.ensures.same x y inside in
          omega (arith, ints, first, rest, put, before, same);
      lowered = lowered_both _ _ _ _ c.loop-band.invariant.lowered lower;
    }

pub returns-clause-marks : goal.returns-clause-marks
returns-clause-marks g c =
    let covered = slabs_cover c.in_ok-sweep.sweep in
    record {
      covered = covered;
      is_covered = c.in_ok-sweep.ensures.bands.covers;
      bounded = bands_bounded c.in_ok-sweep.sweep;
      changes = λ u v inside.
          let fits : FitsSigned w64 c.loop-band.row.y = search rules in
          let x_is : to_z w64 (of_z w64 c.args.x) ≡ c.args.x = search rules in
          let end_is : to_z w64 (of_z w64 c.loop-band.limit.end) ≡ c.loop-band.limit.end = search rules in
          let here : near c.args.x c.loop-band.limit.end u ≡ true = rw end_is at inside in
          let last : net u v c.push_row.new.marks.items ≡ net u v c.loop-band.marks.items +ℤ ended_net u v c.loop-band.row =
          rw c.deref.ensures.value at (simp to_z-of_z at (c.in_ok-push_row.ensures u v)) in
          let none = ap (bands_net u v) c.in_default.ensures.none in
          let is = bands_change u v c.in_ok-sweep.sweep c.in_ok-sweep.ensures.bands.list in
          let sum = c.loop-band.invariant.kept u v (rw x_is here) in omega (arith, ints, none, sum, is, last);
    }

pub returns-clause-lowered : goal.returns-clause-lowered
returns-clause-lowered g c =
    let x_is : to_z w64 (of_z w64 c.args.x) ≡ c.args.x = search rules in
    let end_is : to_z w64 (of_z w64 c.args.end) ≡ c.args.end = search rules in
    let stop_is : to_z w64 (of_z w64 c.loop-band.limit.end) ≡ c.loop-band.limit.end = search rules in
    let is : IsLowered c.args.x c.args.end c.loop-band.limit.end = rw (x_is, end_is) at c.loop-band.invariant.lowered in
    rw stop_is is
