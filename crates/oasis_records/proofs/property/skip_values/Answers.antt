use Rattle.std.proofs.Common.{◌≡◌, ◌+◌, ◌-◌, suc, [], arith}
use Rattle.std.proofs.lemmas.Result.{err_from_is_err_and}
use Rattle.oasis_values.specs.Properties.{IsValue}
use Rattle.oasis_values.proofs.Values.{value_code}
use Rattle.oasis_values.proofs.Loops.{going_from, going_on, going_err, going_end}
use Rattle.oasis_values.proofs.Reading.{reads_seen, reads_seen_err}
use Rattle.oasis_records.proofs.property.skip_values.Goals as goal

pub loop-n-init : goal.loop-n-init
loop-n-init g c = record {
  last = tt;
  read = [];
  going = going_from (λ _. IsValue) (λ x. x) c.args.count tt c.args.input.now (omega arith) c.requires;
}

pub loop-n-preserved : goal.loop-n-preserved
loop-n-preserved g c =
    let left : c.args.count - c.loop-n.n ≡ suc (c.args.count - (c.loop-n.n + 1)) =
    omega (arith, c.loop-n-test.true) in record {
      last = tt;
      read = _;
      going = going_on (c.args.count - (c.loop-n.n + 1)) c.loop-n.invariant.going left c.in_ok-skip_value.ensures.reads;
    }

pub returns-in_err-skip_value : goal.returns-in_err-skip_value
returns-in_err-skip_value g c =
    let p = err_from_is_err_and c.from_residual.result c.from_residual.ensures.1 in
    let left : c.args.count - c.loop-n.n ≡ suc (c.args.count - (c.loop-n.n + 1)) = omega (arith, c.loop-n-test.true) in
    rw (p.1, p.2) (record {
      reads = reads_seen_err (λ _. tt)
          (going_err (c.args.count - (c.loop-n.n + 1)) (λ _. value_code) c.loop-n.invariant.going left
          c.in_err-skip_value.ensures.reads);
    })

pub returns : goal.returns
returns g c =
    record { reads = reads_seen (λ _. tt) (going_end c.loop-n.invariant.going (omega (arith, c.loop-n-test.false))) }
