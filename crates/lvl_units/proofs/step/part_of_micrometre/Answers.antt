use Rattle.std.proofs.Common.{◌*◌, ◌^◌, refl, arith}
use Rattle.lvl_units.proofs.Readable.{none_readable}
use Rattle.lvl_units.proofs.step.part_of_micrometre.Goals as goal

pub returns-then-steps-eq0-clause-none : goal.returns-then-steps-eq0-clause-none
returns-then-steps-eq0-clause-none c = λ _ f q r. omega (arith, q.divides, c.if-steps-eq0.true)

pub returns-clause-none : goal.returns-clause-none
returns-clause-none c = λ h f q r.
    none_readable c.args.parts (c.args.steps * 10 ^ 6) c.args.parts (c.args.steps * 10 ^ 6) f refl
    (c.step.ensures.none h) q r
