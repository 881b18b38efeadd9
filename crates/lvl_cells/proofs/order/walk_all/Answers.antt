use Rattle.std.proofs.Common.{◌<◌, Some, length, ap, ◌∙◌, arith}
use Rattle.std.proofs.lemmas.Option.{get_or_from_slice_get, slice_get-get_or}
use Rattle.lvl_cells.specs.declared.walk.Mark.TheVariants.{New}
use Rattle.lvl_cells.proofs.Walks.{none_left, seen_next}
use Rattle.lvl_cells.proofs.order.walk_all.Goals as goal

pub loop-root-init : goal.loop-root-init
loop-root-init c = record {
  walk = c.requires.walk;
  resting = c.requires.resting;
  seen = λ k h. absurd (omega (arith, h));
}

pub bounds : goal.bounds
bounds c = omega (arith, c.loop-root-test.true, c.len-root-end.ensures, c.loop-root.invariant.walk.long)

pub walk_from-requires-clause-walk : goal.walk_from-requires-clause-walk
walk_from-requires-clause-walk c = c.loop-root.invariant.walk

pub walk_from-requires-clause-resting : goal.walk_from-requires-clause-resting
walk_from-requires-clause-resting c = c.loop-root.invariant.resting

pub returns-in-Some-clause-walk : goal.returns-in-Some-clause-walk
returns-in-Some-clause-walk c = c.in_ok-start.ensures.walk

pub returns-in-Some-clause-back : goal.returns-in-Some-clause-back
returns-in-Some-clause-back c = rw c.in-Some.is at c.in_ok-start.ensures.back

pub loop-root-preserved-in_default : goal.loop-root-preserved-in_default
loop-root-preserved-in_default c = record {
  walk = c.loop-root.invariant.walk;
  resting = c.loop-root.invariant.resting;
  seen =
      seen_next c.loop-root.marks c.loop-root.root c.loop-root.invariant.seen
      (λ h. c.in_default.not-New (get_or_from_slice_get c.loop-root.marks c.loop-root.root New New h));
}

pub walk_from-requires-clause-new : goal.walk_from-requires-clause-new
walk_from-requires-clause-new c =
    let low : c.loop-root.root < length c.loop-root.marks =
    omega (arith, c.loop-root-test.true, c.len-root-end.ensures, c.loop-root.invariant.walk.long) in
    slice_get-get_or c.loop-root.marks c.loop-root.root New low ∙ ap Some c.in-New.is

pub loop-root-preserved : goal.loop-root-preserved
loop-root-preserved c = record {
  walk = c.in_ok-start.ensures.walk;
  resting = rw c.in_default-2.is at c.in_ok-start.ensures.resting;
  seen =
      seen_next c.walk_from.new.marks c.loop-root.root
      (λ k low h. c.loop-root.invariant.seen k low (c.in_ok-start.ensures.on k h)) c.in_ok-start.ensures.seen;
}

pub returns-clause-walk : goal.returns-clause-walk
returns-clause-walk c = c.loop-root.invariant.walk

pub returns-clause-resting : goal.returns-clause-resting
returns-clause-resting c = c.loop-root.invariant.resting

pub returns-clause-seen : goal.returns-clause-seen
returns-clause-seen c =
    none_left c.loop-root.marks c.loop-root.root
    (omega (arith, c.loop-root-test.false, c.len-root-end.ensures, c.loop-root.invariant.walk.long))
    c.loop-root.invariant.seen
