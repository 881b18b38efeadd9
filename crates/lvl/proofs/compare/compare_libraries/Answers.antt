use Rattle.std.proofs.lemmas.Result.{err_from_is_err_and}
use Rattle.lvl.proofs.compare.compare_libraries.Goals as goal

pub returns-clause-judged : goal.returns-clause-judged
returns-clause-judged c = record {
  verdict = c.in_ok-verdict.ensures.verdict _ _ c.in_ok-ours.ensures.checked c.in_ok-theirs.ensures.checked;
  undrawn = c.in_ok-undrawn.ensures.undrawn;
  why = c.in_ok-verdict.ensures.reason _ _ c.in_ok-ours.ensures.checked c.in_ok-theirs.ensures.checked;
}

pub returns-in_err-verdict-clause-refused : goal.returns-in_err-verdict-clause-refused
returns-in_err-verdict-clause-refused c =
    let p = err_from_is_err_and c.from_residual-in_err-verdict.result c.from_residual-in_err-verdict.ensures.1 in
    rw (p.1, p.2)
    (c.in_err-verdict.ensures.refused _ _ c.in_ok-ours.ensures.checked c.in_ok-theirs.ensures.checked)
