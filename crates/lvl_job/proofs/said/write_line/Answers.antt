use Rattle.lvl_report.proofs.Writing.{on_err, on_err_map}
use Rattle.lvl_job.proofs.Saying.{in_first, in_second, in_third}
use Rattle.lvl_job.proofs.said.write_line.Goals as goal

pub returns-in_err-write_all-clause-begun : goal.returns-in_err-write_all-clause-begun
returns-in_err-write_all-clause-begun g c =
    on_err _ c.from_residual.result
    (in_first _ _ _ c.args.why.now c.args.what.now _ c.as_bytes.ensures.value c.in_err-write_all.ensures.begun)

pub returns-in_err-write_all-2-clause-begun : goal.returns-in_err-write_all-2-clause-begun
returns-in_err-write_all-2-clause-begun g c =
    on_err _ c.from_residual-in_err-write_all-2.result
    (in_second _ _ _ _ _ c.args.why.now c.args.what.now _ c.as_bytes.ensures.value c.as_bytes-2.ensures.value
    c.in_ok-write_all.ensures.whole c.in_err-write_all-2.ensures.begun)

pub returns-clause-begun : goal.returns-clause-begun
returns-clause-begun g c =
    on_err_map _ _ c.write_all-3.result
    (in_third _ _ _ _ _ _ c.args.why.now c.args.what.now _ c.as_bytes.ensures.value c.as_bytes-2.ensures.value
    c.in_ok-write_all.ensures.whole c.in_ok-write_all-2.ensures.whole)
    c.write_all-3.ensures.begun
