use Rattle.lvl.proofs.Spelling.{oasis_read, oasis_fault, oasis_early, oasis_unread}
use Rattle.lvl.proofs.layout.read_as_oasis.Goals as goal

pub returns-in-Ok-clause-spelled : goal.returns-in-Ok-clause-spelled
returns-in-Ok-clause-spelled g c xs known =
    oasis_read c.args.profile xs c.in-Ok.library c.in-Ok.head (c.in-Ok.ensures.spelled xs known)

pub returns-in-Err-Breach-clause-refused : goal.returns-in-Err-Breach-clause-refused
returns-in-Err-Breach-clause-refused g c xs known format =
    let e = c.in-Err-Breach in
    oasis_fault c.args.profile xs e.field-0 e.fault e.field-0-is format (e.ensures.refused xs known)
    (e.ensures.none xs known)

pub returns-in-Err-Breach-clause-early : goal.returns-in-Err-Breach-clause-early
returns-in-Err-Breach-clause-early g c xs known format soon =
    let e = c.in-Err-Breach in
    oasis_early c.args.profile xs _ e.field-0 e.fault e.field-0-is format (e.ensures.early xs known) soon

pub returns-in-Err-Breach-clause-unread : goal.returns-in-Err-Breach-clause-unread
returns-in-Err-Breach-clause-unread g c xs known =
    let e = c.in-Err-Breach in
    oasis_unread c.args.profile xs _ e.field-0 e.fault e.field-0-is (e.ensures.unread xs known)
