use Rattle.std.proofs.Common.{sym}
use Rattle.oasis_library.proofs.Resolving.{unnamed_one}
use Rattle.oasis_library.proofs.resolve.name_of_target.Goals as goal

pub returns-in-None-clause-err : goal.returns-in-None-clause-err
returns-in-None-clause-err c =
    λ given h. rw c.in-Number.is (unnamed_one given c.in-Number.number (sym (c.in-None.ensures given h)))
