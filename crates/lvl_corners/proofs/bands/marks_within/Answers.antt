use Rattle.std.proofs.Common.{◌≡◌, ◌∙◌, ◌+ℤ◌, ap, arith, refl, rules, length, int_eq, pos, true, List, FitsSigned}
use Rattle.std.specs.Int.{w64}
use Rattle.std.proofs.lemmas.Int.{ints, to_z-of_z}
use Rattle.std.proofs.lemmas.Fn.{filter_same}
use Rattle.lvl_sweep.specs.Slab.{slabs_cover}
use Rattle.lvl_corners.specs.declared.mark.Mark.{Mark}
use Rattle.lvl_corners.specs.Corners.{change_at}
use Rattle.lvl_corners.specs.inside.Marks.{bands_net, net}
use Rattle.lvl_corners.specs.inside.Rows.{ended_net}
use Rattle.lvl_corners.specs.Spans.{spanned}
use Rattle.lvl_corners.proofs.Changes.{bands_change, bands_bounded}
use Rattle.lvl_corners.proofs.Nets.{cond_same, net_filter}
use Rattle.lvl_corners.proofs.Rows.{started}
use Rattle.lvl_corners.proofs.bands.marks_within.Goals as goal

pub loop-band-init : goal.loop-band-init
loop-band-init g c = λ x y inside.
    rw (c.new-marks.ensures.items, c.new.ensures.items)
    (started _ (bands_net x y c.in_ok-sweep.sweep) (int_eq (pos 0) y) refl)

pub loop-band-smaller : goal.loop-band-smaller
loop-band-smaller g c =
    let first = ap length c.in-Some.ensures.first in
    rw c.advance.ensures (omega (arith, first))

pub loop-band-preserved : goal.loop-band-preserved
loop-band-preserved g c = λ x y inside.
    let first = ap (bands_net x y) c.in-Some.ensures.first in
    let rest = ap (bands_net x y) c.advance.ensures in
    let put = c.in_ok-push_band.ensures x y in
    let before = c.loop-band.invariant x y inside in
    let kept = c.drop_outside-full.ensures x y inside in
    omega (arith, ints, first, rest, put, before, kept)

pub returns : goal.returns
returns g c =
    let covered = slabs_cover c.in_ok-sweep.sweep in
    let span = c.args.span in
    let all : List Mark = c.push_row.new.marks.items in
    record {
      covered = covered;
      is_covered = c.in_ok-sweep.ensures.bands.covers;
      bounded = bands_bounded c.in_ok-sweep.sweep;
      changes = λ x y.
          let kept = filter_same _ (λ (m : Mark). spanned span m.x) _ (λ m b q h. search rules) _ _
          c.retain.ensures.filtered in
          let few = ap (net x y) kept ∙ net_filter x y (λ u v. spanned span u) all in
          let fits : FitsSigned w64 c.loop-band.row.y = search rules in
          let last : net x y all ≡ net x y c.loop-band.marks.items +ℤ ended_net x y c.loop-band.row =
          rw c.deref.ensures.value at (simp to_z-of_z at (c.in_ok-push_row.ensures x y)) in
          let none = ap (bands_net x y) c.in_default.ensures.none in
          let is = bands_change x y c.in_ok-sweep.sweep c.in_ok-sweep.ensures.bands.list in
          let inside : spanned span x ≡ true → net x y all ≡ change_at covered x y = λ t.
          let sum = c.loop-band.invariant x y t in omega (arith, ints, none, sum, is, last) in
          few ∙ cond_same (spanned span x) (net x y all) (change_at covered x y) inside;
    }
