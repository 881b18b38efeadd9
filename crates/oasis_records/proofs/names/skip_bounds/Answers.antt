use Rattle.std.proofs.Common.{◌≡◌, ◌+◌, ◌-◌, suc, [], arith}
use Rattle.std.proofs.lemmas.Result.{err_from_is_err_and}
use Rattle.oasis_values.specs.Numbers.{IsUnsigned}
use Rattle.oasis_values.proofs.Integers.{unsigned_code}
use Rattle.oasis_values.proofs.Loops.{going_from, going_on, going_err, going_end}
use Rattle.oasis_values.proofs.Reading.{reads_seen, reads_seen_err}
use Rattle.oasis_records.proofs.names.skip_bounds.Goals as goal

pub loop-n-init : goal.loop-n-init
loop-n-init g c = record {
  last = 0;
  read = [];
  going = going_from (λ _. IsUnsigned) (λ x. x) c.args.count 0 c.args.input.now
      (omega arith) c.requires;
}

pub loop-n-preserved : goal.loop-n-preserved
loop-n-preserved g c =
    let left : c.args.count - c.loop-n.n ≡ suc (c.args.count - (c.loop-n.n + 1)) =
    omega (arith, c.loop-n-test.true) in record {
      last = c.in_ok-_bound._bound;
      read = _;
      going = going_on (c.args.count - (c.loop-n.n + 1)) c.loop-n.invariant.going left c.in_ok-_bound.ensures.reads;
    }

pub returns-in_err-_bound : goal.returns-in_err-_bound
returns-in_err-_bound g c =
    let p = err_from_is_err_and c.from_residual.result c.from_residual.ensures.1 in
    let left : c.args.count - c.loop-n.n ≡ suc (c.args.count - (c.loop-n.n + 1)) = omega (arith, c.loop-n-test.true) in
    rw (p.1, p.2) (record {
      reads = reads_seen_err (λ _. tt)
          (going_err (c.args.count - (c.loop-n.n + 1)) (λ _. unsigned_code) c.loop-n.invariant.going left
          c.in_err-_bound.ensures.reads);
    })

pub returns : goal.returns
returns g c =
    record { reads = reads_seen (λ _. tt) (going_end c.loop-n.invariant.going (omega (arith, c.loop-n-test.false))) }
