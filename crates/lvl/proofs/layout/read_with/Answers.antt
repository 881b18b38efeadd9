use Rattle.std.proofs.Common.{subst}
use Rattle.lvl.specs.Layouts.{HasFirst}
use Rattle.lvl.proofs.Formats.{not_oasis}
use Rattle.lvl.proofs.layout.read_with.Goals as goal

pub returns-then-is_oasis-clause-refused : goal.returns-then-is_oasis-clause-refused
returns-then-is_oasis-clause-refused g c xs known first =
    c.read_as_oasis.ensures.refused xs known
    (subst (λ b. HasFirst b xs) (c.is_oasis.ensures.0 c.if-is_oasis.true) first)

pub returns-then-is_oasis-clause-early : goal.returns-then-is_oasis-clause-early
returns-then-is_oasis-clause-early g c xs known first =
    c.read_as_oasis.ensures.early xs known (subst (λ b. HasFirst b xs) (c.is_oasis.ensures.0 c.if-is_oasis.true) first)

pub returns-clause-refused : goal.returns-clause-refused
returns-clause-refused g c xs known first =
    c.read_as_gds.ensures.refused xs known (not_oasis c.args.first xs first (λ e. let z = c.is_oasis.ensures.1 e in cc))

pub returns-clause-early : goal.returns-clause-early
returns-clause-early g c xs known first =
    c.read_as_gds.ensures.early xs known (not_oasis c.args.first xs first (λ e. let z = c.is_oasis.ensures.1 e in cc))
