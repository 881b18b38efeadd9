use Rattle.lvl_corners.specs.Masks.{digest_line}
use Rattle.lvl_report.proofs.Writing.{begins_at, on_err}
use Rattle.lvl_report.proofs.lines.write_layer_lines.Goals as goal

pub returns-in_err-write_layer_line-clause-begun : goal.returns-in_err-write_layer_line-clause-begun
returns-in_err-write_layer_line-clause-begun g c =
    on_err _ c.from_residual.result
    (begins_at digest_line c.args.layers.now c.loop-digested.digested-index _ _ _ _ c.loop-digested-test.true
    c.loop-digested.invariant.whole c.in_err-write_layer_line.ensures.begun)
