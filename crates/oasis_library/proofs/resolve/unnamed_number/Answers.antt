use Rattle.std.proofs.Common.{sym}
use Rattle.oasis_library.proofs.Resolving.{unnamed_one}
use Rattle.oasis_library.proofs.resolve.unnamed_number.Goals as goal

pub returns-in-None-clause-some : goal.returns-in-None-clause-some
returns-in-None-clause-some c =
    λ given h. rw c.in-Number.is (unnamed_one given c.in-Number.number (sym (c.in-None.ensures given h)))
