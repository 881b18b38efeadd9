use Rattle.std.proofs.Common.{◌<◌, ℕ, List, All, length, subst, refl, arith}
use Rattle.std.proofs.lemmas.List.{take_all}
use Rattle.std.proofs.lemmas.Option.{slice_get-get_or}
use Rattle.lvl_grid.specs.declared.point.Point.{Point}
use Rattle.lvl_names.specs.Shifts.{IsBetween}
use Rattle.lvl_names.proofs.Reaches.{reaches_one, reaches_further, between_more}
use Rattle.lvl_names.proofs.bounded.reach_of.Goals as goal

pub loop-shift-init : goal.loop-shift-init
loop-shift-init c = record {
  between = λ k d lt. absurd (omega (arith, lt));
  reached = reaches_one c.args.shifts.now 0 _ c.requires;
}

pub loop-shift-preserved : goal.loop-shift-preserved
loop-shift-preserved c =
    let shifts : List Point = c.args.shifts.now in
    let k : ℕ = c.loop-shift.shift-index in
    let there : k < length shifts = c.loop-shift-test.true in
    rw (c.lesser-low.ensures, c.greater-high.ensures) record {
      between = between_more c.loop-shift.low c.loop-shift.high shifts k _ _ there refl c.loop-shift.invariant.between;
      reached =
          reaches_further c.loop-shift.low c.loop-shift.high _ shifts c.loop-shift.invariant.reached
          (reaches_one shifts k _ (slice_get-get_or shifts k _ there));
    }

pub returns-clause-between : goal.returns-clause-between
returns-clause-between c =
    subst (All (IsBetween c.loop-shift.low c.loop-shift.high))
    (take_all c.loop-shift.shift-index c.args.shifts.now c.loop-shift-test.false) c.loop-shift.invariant.between
