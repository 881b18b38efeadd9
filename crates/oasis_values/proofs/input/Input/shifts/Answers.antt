use Rattle.std.proofs.Common.{◌≡◌, ◌+◌, ◌-◌, suc, [], ◌∷◌, ◌++◌, refl, sym, ap, ◌∙◌, arith}
use Rattle.std.proofs.lemmas.Result.{err_from_is_err_and}
use Rattle.oasis_values.specs.PointLists.{origin}
use Rattle.oasis_values.specs.Repetitions.{IsShift}
use Rattle.oasis_values.proofs.Reading.{reads_seen_as, reads_seen_err, reads_stopped}
use Rattle.oasis_values.proofs.Places.{shift_code, after_origin, starts_at_zero}
use Rattle.oasis_values.proofs.Loops.{going_from, going_on, going_err, going_end}
use Rattle.oasis_values.specs.declared.repetition.Repetition.TheVariants.{New}
use Rattle.oasis_values.proofs.input.Input.shifts.Goals as goal

pub loop-n-init : goal.loop-n-init
loop-n-init g c = record {
  read = [];
  going = going_from (IsShift c.args.spacing c.args.grid) (λ p. p) c.args.count origin c.args.self.now (omega arith)
      c.requires.live;
  shifts = c.push_reserved.ensures.items ∙ ap (λ l. l ++ (origin ∷ [])) c.in-Ok.ensures.items;
  len = c.push_reserved.ensures.len ∙ ap (λ k. k + 1) c.in-Ok.ensures.len ∙ omega arith;
  capacity = omega (arith, c.push_reserved.ensures.capacity, c.in-Ok.ensures.capacity);
}

pub loop-n-preserved : goal.loop-n-preserved
loop-n-preserved g c =
    let left : c.args.count - c.loop-n.n ≡ suc (c.args.count - (c.loop-n.n + 1)) =
    omega (arith, c.loop-n-test.true) in record {
      read = c.loop-n.invariant.read ++ (c.in_ok-at.at ∷ []);
      going = going_on (c.args.count - (c.loop-n.n + 1)) c.loop-n.invariant.going left c.in_ok-at.ensures.reads;
      shifts = c.push_reserved-in-loop-n.ensures.items ∙ ap (λ l. l ++ (c.in_ok-at.at ∷ [])) c.loop-n.invariant.shifts;
      len = c.push_reserved-in-loop-n.ensures.len ∙ ap (λ k. k + 1) c.loop-n.invariant.len;
      capacity = omega (arith, c.push_reserved-in-loop-n.ensures.capacity, c.loop-n.invariant.capacity);
    }

pub returns-in_err-at : goal.returns-in_err-at
returns-in_err-at g c =
    let p = err_from_is_err_and c.from_residual.result c.from_residual.ensures.1 in
    let left : c.args.count - c.loop-n.n ≡ suc (c.args.count - (c.loop-n.n + 1)) = omega (arith, c.loop-n-test.true) in
    rw (p.1, p.2) (record {
      reads = reads_seen_err after_origin
          (going_err (c.args.count - (c.loop-n.n + 1)) (shift_code c.args.spacing c.args.grid)
          c.loop-n.invariant.going left c.in_err-at.ensures.reads);
    })

pub listed-requires : goal.listed-requires
listed-requires g c = starts_at_zero c.loop-n.shifts.items c.loop-n.invariant.read c.loop-n.invariant.shifts

pub returns : goal.returns
returns g c =
    let is : after_origin c.loop-n.invariant.read ≡ New c.in-Ok-listed.places =
    ap New (sym c.loop-n.invariant.shifts) ∙ ap New (sym c.in-Ok-listed.ensures) in
    record {
      reads = reads_seen_as after_origin (going_end c.loop-n.invariant.going (omega (arith, c.loop-n-test.false)))
          is;
    }

pub returns-in_default-listed : goal.returns-in_default-listed
returns-in_default-listed g c = record {
  reads = reads_stopped c.requires.live
      (reads_seen_as after_origin (going_end c.loop-n.invariant.going (omega (arith, c.loop-n-test.false))) refl)
      c.stop-in_default-listed.ensures;
}
