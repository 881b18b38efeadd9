use Rattle.std.proofs.Common.{subst, sym}
use Rattle.std.specs.Option.{option_copied}
use Rattle.lvl_profile.specs.declared.limits.Limits.{Limits}
use Rattle.lvl_refusal.specs.Refused.{Says}
use Rattle.lvl_refusal.specs.declared.Cause.{Cause}
use Rattle.lvl_cells.specs.Faults.{IsFaultOf}
use Rattle.lvl_cells.specs.declared.fault.CellFault.{CellFault}
use Rattle.lvl_cells.proofs.examine.examine.Goals as goal

pub returns-in-Err-Breach-clause-err : goal.returns-in-Err-Breach-clause-err
returns-in-Err-Breach-clause-err c =
    subst (IsFaultOf c.args.limits c.args.cells.now (option_copied c.args.given)) (sym c.in-Err-Breach.fault-is)
    (subst
    (λ (r : Cause CellFault). Says r (λ fault. (limits : Limits)
    → IsFaultOf limits c.args.cells.now (option_copied c.args.given) fault)) c.in-Err-Breach.field-0-is
    c.in-Err-Breach.ensures.err c.args.limits)
