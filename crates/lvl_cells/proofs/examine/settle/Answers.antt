use Rattle.std.specs.Option.{option_copied}
use Rattle.std.proofs.lemmas.Result.{err_from_is_err_and}
use Rattle.lvl_refusal.proofs.Saying.{Says-map}
use Rattle.lvl_cells.specs.Checks.{Settled}
use Rattle.lvl_cells.specs.Faults.{IsFaultOf}
use Rattle.lvl_cells.specs.inside.Steps.{IsCycleFault, IsTopFault}
use Rattle.lvl_cells.specs.inside.Times.{IsCountFault}
use Rattle.lvl_cells.proofs.Examining.{ranked_by, cycle_fault, top_fault, count_fault, settled_by}
use Rattle.lvl_cells.proofs.examine.settle.Goals as goal

pub returns-in_err-order-clause-err : goal.returns-in_err-order-clause-err
returns-in_err-order-clause-err c =
    let linked = c.requires.linked in
    let p = err_from_is_err_and c.from_residual.result c.from_residual.ensures.1 in
    rw (p.1, p.2) (Says-map (IsCycleFault c.args.cells.now) _ _
    (λ f h. cycle_fault c.args.limits c.args.cells.now (option_copied c.args.given) f linked h)
    c.in_err-order.ensures.err)

pub returns-in_err-top-clause-err : goal.returns-in_err-top-clause-err
returns-in_err-top-clause-err c =
    let linked = c.requires.linked in
    let ranked = ranked_by c.args.cells.now c.in_ok-order.order.items linked c.in_ok-order.ensures.ok in
    let p = err_from_is_err_and c.from_residual-in_err-top.result c.from_residual-in_err-top.ensures.1 in
    rw (p.1, p.2) (Says-map (IsTopFault c.args.cells.now (option_copied c.args.given)) _ _
    (λ f h. top_fault c.args.limits c.args.cells.now (option_copied c.args.given) f c.requires.some linked ranked h)
    c.in_err-top.ensures.err)

pub returns-in_err-times-clause-err : goal.returns-in_err-times-clause-err
returns-in_err-times-clause-err c =
    let given = option_copied c.args.given in
    let s : Settled =
    record { cells = c.args.cells.now; top = c.in_ok-top.top; order = c.deref-2.result.now } in
    let linked = c.requires.linked in
    let ranked = ranked_by c.args.cells.now c.in_ok-order.order.items linked c.in_ok-order.ensures.ok in
    let p = err_from_is_err_and c.from_residual-in_err-times.result c.from_residual-in_err-times.ensures.1 in
    rw (p.1, p.2) (Says-map (IsCountFault c.args.limits s) (IsFaultOf c.args.limits c.args.cells.now given) _
    (λ f h. count_fault c.args.limits s given f linked ranked c.in_ok-top.ensures.ok.0 h) c.in_err-times.ensures.err)

pub returns-clause-ok : goal.returns-clause-ok
returns-clause-ok c =
    settled_by c.args.limits c.args.cells.now (option_copied c.args.given) c.in_ok-order.order.items c.in_ok-top.top
    c.requires.linked c.in_ok-order.ensures.ok c.in_ok-top.ensures.ok.0 c.in_ok-top.ensures.ok.1
    c.in_ok-times.ensures.few
