use Rattle.std.proofs.Common.{subst}
use Rattle.std.specs.Option.{option_copied}
use Rattle.lvl_refusal.specs.Refused.{Says}
use Rattle.lvl_refusal.specs.declared.Cause.{Cause}
use Rattle.lvl_cells.specs.Faults.{IsFaultOf}
use Rattle.lvl_cells.specs.declared.checked.Refused.{Refused}
use Rattle.lvl_cells.proofs.Refusing.{refused}
use Rattle.lvl_cells.proofs.checked.check_with.Goals as goal

pub returns-in-Err-Breach-clause-refused : goal.returns-in-Err-Breach-clause-refused
returns-in-Err-Breach-clause-refused c =
    let given = option_copied c.args.top in
    refused c.args.limits c.args.library given c.in-Err-Breach.refused.fault
    (subst
    (λ (r : Cause Refused). Says r (λ found. IsFaultOf c.args.limits c.args.library given found.fault))
    c.in-Err-Breach.field-0-is c.in-Err-Breach.ensures.fault)
