use Rattle.std.proofs.Common.{◌≡◌, ◌+◌, ◌-◌, suc, take, set, length, sym, ap, Ok, ◌<◌, ◌≤◌, ◌∙◌, subst, arith}
use Rattle.std.proofs.Math.Seq.{take-suc-set}
use Rattle.std.proofs.Math.ListN.{length-set}
use Rattle.std.proofs.lemmas.Result.{err_from_is_err_and}
use Rattle.std.proofs.lemmas.List.{take_all, length-replicate}
use Rattle.oasis_values.specs.Numbers.{IsByte}
use Rattle.oasis_values.specs.Reals.{IsBytes}
use Rattle.oasis_values.specs.Reads.{Reads}
use Rattle.oasis_values.proofs.Integers.{byte_code}
use Rattle.oasis_values.proofs.Loops.{Going, going_from, going_on, going_err, going_end}
use Rattle.oasis_values.proofs.input.Input.bytes_of.Goals as goal

pub loop-n-init : goal.loop-n-init
loop-n-init g c = record {
  last = 0;
  going = going_from (λ _. IsByte) (λ x. x) g.row.N 0 c.args.self.now (omega arith) c.requires;
  len = length-replicate g.row.N 0;
}

pub loop-n-preserved : goal.loop-n-preserved
loop-n-preserved g c =
    let left : g.row.N - c.loop-n.n ≡ suc (g.row.N - (c.loop-n.n + 1)) = omega (arith, c.loop-n-test.true) in
    let at : c.loop-n.n < length c.loop-n.bytes = omega (arith, c.loop-n-test.true, c.loop-n.invariant.len) in
    let more : c.loop-n.n + 1 ≡ suc c.loop-n.n = omega arith in
    let next = going_on (g.row.N - (c.loop-n.n + 1)) c.loop-n.invariant.going left
    c.in_ok-bytes.ensures.reads in record {
      last = c.in_ok-bytes.field-0;
      going = subst (λ l. Going g.R.Read.remaining g.R.Read.read_errors g.R.Read.lent (λ _. IsByte) (λ x. x) g.row.N 0
          c.args.self.now c.byte.new.self (g.row.N - (c.loop-n.n + 1)) c.in_ok-bytes.field-0 l)
          (sym (ap (λ k. take k (set c.loop-n.bytes c.loop-n.n c.in_ok-bytes.field-0)) more
          ∙ take-suc-set c.loop-n.bytes c.loop-n.n c.in_ok-bytes.field-0 at)) next;
      len = length-set c.loop-n.bytes c.loop-n.n c.in_ok-bytes.field-0 ∙ c.loop-n.invariant.len;
    }

pub returns-in_err-bytes : goal.returns-in_err-bytes
returns-in_err-bytes g c =
    let p = err_from_is_err_and c.from_residual.result c.from_residual.ensures.1 in
    let left : g.row.N - c.loop-n.n ≡ suc (g.row.N - (c.loop-n.n + 1)) = omega (arith, c.loop-n-test.true) in
    rw (p.1, p.2) (record {
      reads = going_err (g.row.N - (c.loop-n.n + 1)) (λ _. byte_code) c.loop-n.invariant.going left
          c.in_err-bytes.ensures.reads;
    })

pub returns : goal.returns
returns g c =
    let all : length c.loop-n.bytes ≤ c.loop-n.n = omega (arith, c.loop-n-test.false, c.loop-n.invariant.len) in
    record {
      reads = subst (λ l. Reads g.R.Read.remaining g.R.Read.read_errors g.R.Read.lent (IsBytes g.row.N)
          c.args.self.now c.loop-n.self (Ok l)) (take_all c.loop-n.n c.loop-n.bytes all)
          (going_end c.loop-n.invariant.going (omega (arith, c.loop-n-test.false)));
    }
