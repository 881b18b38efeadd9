use Rattle.lvl.proofs.Unbegun.{unread_at_once}
use Rattle.lvl.proofs.layout.unread.Goals as goal

pub returns-clause-unread : goal.returns-clause-unread
returns-clause-unread c profile xs = unread_at_once profile xs
