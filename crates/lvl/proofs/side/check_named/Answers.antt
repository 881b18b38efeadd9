use Rattle.std.proofs.Common.{◌≡◌, refl, subst, ◌∙◌, ap}
use Rattle.std.specs.Option.{option_copied}
use Rattle.lvl_refusal.specs.Refused.{Says}
use Rattle.lvl_refusal.specs.declared.Cause.{Cause}
use Rattle.lvl_cells.specs.Faults.{IsFaultOf}
use Rattle.lvl_cells.specs.declared.checked.Refused.{Refused}
use Rattle.lvl_cells.proofs.Refusing.{refused}
use Rattle.lvl_count.specs.Listed.{tops}
use Rattle.lvl.proofs.side.check_named.Goals as goal

pub returns-in-Ok-tops_of-clause-refused : goal.returns-in-Ok-tops_of-clause-refused
returns-in-Ok-tops_of-clause-refused c =
    let given = option_copied c.args.top in
    let is_fault : IsFaultOf c.args.limits c.args.library given c.in-Err-Breach.refused.fault =
    subst (λ (r : Cause Refused). Says r (λ found. IsFaultOf c.args.limits c.args.library given found.fault))
    c.in-Err-Breach.field-0-is c.in-Err-Breach.ensures.fault in
    let same : c.in-Err-Breach.refused.library ≡ c.args.library =
    subst (λ (r : Cause Refused). Says r (λ found. found.library ≡ c.args.library))
    c.in-Err-Breach.field-0-is c.in-Err-Breach.ensures.returned in (
      refl,
      record {
        reported = is_fault;
        unsound = refused c.args.limits c.args.library given c.in-Err-Breach.refused.fault is_fault;
        tops_are = λ none. c.in-Ok-tops_of.ensures none ∙ ap tops same;
      },
    )
