use Rattle.oasis_values.proofs.Reading.{reads_seen, reads_seen_err}
use Rattle.std.proofs.lemmas.Result.{err_from_is_err_and}
use Rattle.std.proofs.Common.{◌≡◌, ◌+◌, ◌-◌, suc, [], arith}
use Rattle.oasis_values.specs.Numbers.{IsByte}
use Rattle.oasis_values.proofs.Integers.{byte_code}
use Rattle.oasis_values.proofs.Loops.{going_from, going_on, going_err, going_end}
use Rattle.oasis_records.proofs.end.skip_padding.Goals as goal

pub loop-n-init : goal.loop-n-init
loop-n-init g c = record {
  last = 0;
  read = [];
  going = going_from (λ _. IsByte) (λ x. x) c.args.count 0 c.args.input.now (omega arith) c.requires;
}

pub loop-n-preserved : goal.loop-n-preserved
loop-n-preserved g c =
    let left : c.args.count - c.loop-n.n ≡ suc (c.args.count - (c.loop-n.n + 1)) =
    omega (arith, c.loop-n-test.true) in record {
      last = c.in_ok-_byte._byte;
      read = _;
      going = going_on (c.args.count - (c.loop-n.n + 1)) c.loop-n.invariant.going left
          c.in_ok-_byte.ensures.reads;
    }

pub returns-in_err-_byte : goal.returns-in_err-_byte
returns-in_err-_byte g c =
    let p = err_from_is_err_and c.from_residual.result c.from_residual.ensures.1 in
    let left : c.args.count - c.loop-n.n ≡ suc (c.args.count - (c.loop-n.n + 1)) = omega (arith, c.loop-n-test.true) in
    rw (p.1, p.2) (record {
      reads = reads_seen_err (λ _. c.args.count)
          (going_err (c.args.count - (c.loop-n.n + 1)) (λ _. byte_code) c.loop-n.invariant.going left
          c.in_err-_byte.ensures.reads);
    })

pub returns : goal.returns
returns g c =
    record {
      reads = reads_seen (λ _. c.args.count)
          (going_end c.loop-n.invariant.going (omega (arith, c.loop-n-test.false)));
    }
