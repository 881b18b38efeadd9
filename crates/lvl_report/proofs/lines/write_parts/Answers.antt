use Rattle.lvl_corners.specs.Masks.{mask_lines}
use Rattle.lvl_report.proofs.Writing.{in_first_part, in_second_part, in_third_part, on_err, on_err_map}
use Rattle.lvl_report.proofs.lines.write_parts.Goals as goal

pub returns-in_err-write_all-clause-begun : goal.returns-in_err-write_all-clause-begun
returns-in_err-write_all-clause-begun g c =
    let p = c.args.parts.now in
    on_err _ c.from_residual.result
    (in_first_part _ _ _ p.before.items (mask_lines p.layers.now) p.after.items c.deref.ensures.value
    c.in_err-write_all.ensures.begun)

pub returns-in_err-write_layer_lines-clause-begun : goal.returns-in_err-write_layer_lines-clause-begun
returns-in_err-write_layer_lines-clause-begun g c =
    let p = c.args.parts.now in
    on_err _ c.from_residual-in_err-write_layer_lines.result
    (in_second_part _ _ _ _ p.before.items (mask_lines p.layers.now) p.after.items c.deref.ensures.value
    c.in_ok-write_all.ensures.whole c.in_err-write_layer_lines.ensures.begun)

pub returns-clause-begun : goal.returns-clause-begun
returns-clause-begun g c =
    let p = c.args.parts.now in
    on_err_map _ _ c.write_all-2.result
    (in_third_part _ _ _ _ _ _ p.before.items (mask_lines p.layers.now) p.after.items c.deref.ensures.value
    c.deref-2.ensures.value c.in_ok-write_all.ensures.whole c.in_ok-write_layer_lines.ensures.whole)
    c.write_all-2.ensures.begun
