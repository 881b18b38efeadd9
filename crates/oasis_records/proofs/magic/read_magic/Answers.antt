use Rattle.std.proofs.Common.{◌≡◌, ◌+◌, ◌≤◌, suc, drop, Ok, sym, subst, arith}
use Rattle.std.proofs.lemmas.Result.{err_from_is_err_and}
use Rattle.oasis_values.specs.Reads.{Reads}
use Rattle.oasis_values.proofs.Reading.{reads_nothing}
use Rattle.oasis_records.specs.Magic.{magic, AreMagicBytes}
use Rattle.oasis_records.specs.Rules.{of_fault}
use Rattle.oasis_records.proofs.Ruling.{reads_go, reads_stop, reads_denies}
use Rattle.oasis_records.proofs.Strings.{drop_at, drop_end}
use Rattle.oasis_records.proofs.Whole.{magic_code}
use Rattle.oasis_records.proofs.magic.read_magic.Goals as goal

pub loop-n-init : goal.loop-n-init
loop-n-init g c = record {
  live = λ h. absurd (omega (arith, h));
  goes = λ new r p. p;
}

pub loop-n-preserved : goal.loop-n-preserved
loop-n-preserved g c =
    let n = c.loop-n.n in
    let more : n + 1 ≡ suc n = omega arith in
    let q = rw c.magic_byte.ensures at c.in_ok-_byte.ensures.reads in record {
      live = λ h. c.in_ok-_byte.ensures.reads.failed;
      goes = λ new r p.
          let rest = subst (λ k. Reads g.R.Read.remaining g.R.Read.read_errors g.R.Read.lent
          (AreMagicBytes (drop k magic)) c.read_magic_byte.new.input new r) more p in
          c.loop-n.invariant.goes new r
          (subst (λ l. Reads g.R.Read.remaining g.R.Read.read_errors g.R.Read.lent (AreMagicBytes l)
          c.loop-n.input new r) (sym (drop_at n magic c.loop-n-test.true))
          (reads_go (λ _. AreMagicBytes (drop (suc n) magic)) q rest));
    }

pub returns-in_err-_byte : goal.returns-in_err-_byte
returns-in_err-_byte g c =
    let p = err_from_is_err_and c.from_residual.result c.from_residual.ensures.1 in
    let n = c.loop-n.n in
    let q = rw c.magic_byte.ensures at c.in_err-_byte.ensures.reads in
    let e = c.in_err-_byte.field-0.0 in
    let all = c.loop-n.invariant.goes c.read_magic_byte.new.input (of_fault e)
    (subst (λ l. Reads g.R.Read.remaining g.R.Read.read_errors g.R.Read.lent (AreMagicBytes l) c.loop-n.input
    c.read_magic_byte.new.input (of_fault e)) (sym (drop_at n magic c.loop-n-test.true))
    (reads_stop (λ _. AreMagicBytes (drop (suc n) magic)) e (λ _. magic_code (drop (suc n) magic)) q)) in
    rw (p.1, p.2) (record { reads = all; none = reads_denies (of_fault e) (magic_code magic) all })

pub returns : goal.returns
returns g c =
    let n = c.loop-n.n in
    let long : 13 ≤ n = omega (arith, c.loop-n-test.false) in
    let all = c.loop-n.invariant.goes c.loop-n.input (Ok (Ok tt))
    (subst (λ l. Reads g.R.Read.remaining g.R.Read.read_errors g.R.Read.lent (AreMagicBytes l) c.loop-n.input
    c.loop-n.input (Ok (Ok tt))) (sym (drop_end n magic long))
    (reads_nothing (Ok tt) (c.loop-n.invariant.live (omega (arith, long))))) in
    record { reads = all; none = reads_denies (Ok (Ok tt)) (magic_code magic) all }
