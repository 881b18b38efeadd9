use Rattle.std.proofs.Common.{◌≡◌, ◌<◌, ◌+◌, List, Err, Some, length, slice_get, subst, sym, ◌∙◌, arith, refl}
use Rattle.std.proofs.lemmas.List.{take_all}
use Rattle.std.proofs.lemmas.Option.{slice_get_within}
use Rattle.std.proofs.lemmas.Result.{err_from_is_err_and}
use Rattle.lvl_grid.specs.declared.point.Point.{Point}
use Rattle.lvl_grid.specs.declared.ring.PlaceFault.{PlaceFault}
use Rattle.lvl_flat.specs.declared.scope.Scope.TheVariants.{Within}
use Rattle.lvl_flat.specs.inside.Drawn.{IsRingDrawn}
use Rattle.lvl_flat.specs.inside.Passing.{AreMissed}
use Rattle.lvl_flat.proofs.Runs.{all_missed}
use Rattle.lvl_flat.proofs.Skipping.{drawn_none, drawn_more, drawn_past, fits_at, past_last}
use Rattle.lvl_flat.proofs.within.draw_places.Goals as goal

pub returns-then-misses_moved-clause-drawn : goal.returns-then-misses_moved-clause-drawn
returns-then-misses_moved-clause-drawn c =
    let shifts : List Point = c.args.shifts.now in
    let missed : AreMissed shifts 0 (length shifts) c.args.bounds c.args.map.now c.args.window.now =
    all_missed shifts 0 (length shifts) c.args.bounds c.bounds_of_shifts.result c.args.map.now c.args.window.now
    c.bounds_of_shifts.ensures (c.if-misses_moved.ensures refl) in
    subst
    (λ es. IsRingDrawn c.args.map.now (Within c.args.window.now) es c.args.ring.now c.args.rings.now c.args.rings.now)
    (take_all (length shifts) shifts (omega arith))
    (drawn_past c.args.map.now c.args.window.now c.args.bounds c.args.ring.now shifts c.args.rings.now c.args.rings.now
    0 (length shifts) (drawn_none c.args.map.now (Within c.args.window.now) c.args.ring.now c.args.rings.now)
    c.requires.bounds (omega arith) (omega arith) missed)

pub returns-in_err-drawn-clause-out : goal.returns-in_err-drawn-clause-out
returns-in_err-drawn-clause-out c = λ out fits.
    let seen : slice_get c.args.shifts.now c.loop-shift.k ≡ Some c.in-Some.shift = sym c.at.ensures ∙ c.in-Some.is in
    let p = err_from_is_err_and c.from_residual.result c.from_residual.ensures.1 in
    let same : Err c.in_err-drawn.field-0.0 ≡ Err PlaceFault.OutOfRange = cc in
    c.in_err-drawn.ensures.out same
    (fits_at c.args.map.now c.args.ring.now c.args.shifts.now c.loop-shift.k c.in-Some.shift fits seen)

pub overflow_add-k : goal.overflow_add-k
overflow_add-k c =
    let seen : slice_get c.args.shifts.now c.loop-shift.k ≡ Some c.in-Some.shift = sym c.at.ensures ∙ c.in-Some.is in
    let there : c.loop-shift.k < length c.args.shifts.now = slice_get_within _ _ _ seen in
    omega (arith, there, c.len-count.ensures.count, c.len-count.type_inv)

pub overflow_sub-count : goal.overflow_sub-count
overflow_sub-count c =
    let seen : slice_get c.args.shifts.now c.loop-shift.k ≡ Some c.in-Some.shift = sym c.at.ensures ∙ c.in-Some.is in
    omega (arith, slice_get_within c.args.shifts.now c.loop-shift.k c.in-Some.shift seen, c.len-count.ensures.count)

pub loop-shift-preserved-then-count-k-ge-LEAST_RUN : goal.loop-shift-preserved-then-count-k-ge-LEAST_RUN
loop-shift-preserved-then-count-k-ge-LEAST_RUN c =
    let seen : slice_get c.args.shifts.now c.loop-shift.k ≡ Some c.in-Some.shift = sym c.at.ensures ∙ c.in-Some.is in
    drawn_past c.args.map.now c.args.window.now c.args.bounds c.args.ring.now c.args.shifts.now c.args.rings.now
    c.draw_place.new.rings (c.loop-shift.k + 1) c.missed_from-k.result
    (drawn_more c.args.map.now (Within c.args.window.now) c.args.ring.now c.args.shifts.now c.args.rings.now c.loop-shift.rings
    c.draw_place.new.rings c.loop-shift.k c.in-Some.shift c.loop-shift.invariant seen c.in_ok-drawn.ensures.covers
    c.in_ok-drawn.ensures.fits (λ all. cc))
    c.requires.bounds c.missed_from-k.ensures.on c.missed_from-k.ensures.inside c.missed_from-k.ensures.missed

pub loop-shift-smaller : goal.loop-shift-smaller
loop-shift-smaller c =
    let seen : slice_get c.args.shifts.now c.loop-shift.k ≡ Some c.in-Some.shift = sym c.at.ensures ∙ c.in-Some.is in
    omega (arith, slice_get_within c.args.shifts.now c.loop-shift.k c.in-Some.shift seen)

pub loop-shift-preserved : goal.loop-shift-preserved
loop-shift-preserved c =
    let seen : slice_get c.args.shifts.now c.loop-shift.k ≡ Some c.in-Some.shift = sym c.at.ensures ∙ c.in-Some.is in
    drawn_more c.args.map.now (Within c.args.window.now) c.args.ring.now c.args.shifts.now c.args.rings.now c.loop-shift.rings
    c.draw_place.new.rings c.loop-shift.k c.in-Some.shift c.loop-shift.invariant seen c.in_ok-drawn.ensures.covers
    c.in_ok-drawn.ensures.fits (λ all. cc)

pub returns-clause-drawn : goal.returns-clause-drawn
returns-clause-drawn c =
    subst
    (λ es. IsRingDrawn c.args.map.now (Within c.args.window.now) es c.args.ring.now c.args.rings.now c.loop-shift.rings)
    (take_all c.loop-shift.k c.args.shifts.now
    (past_last c.args.shifts.now c.loop-shift.k (sym c.at.ensures ∙ c.in_default.is)))
    c.loop-shift.invariant
