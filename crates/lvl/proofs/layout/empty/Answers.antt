use Rattle.lvl.proofs.Unbegun.{empty_file, empty_unread}
use Rattle.lvl.proofs.layout.empty.Goals as goal

pub returns-clause-reported : goal.returns-clause-reported
returns-clause-reported c profile = empty_file profile

pub returns-clause-unread : goal.returns-clause-unread
returns-clause-unread c profile xs left = empty_unread profile xs left
