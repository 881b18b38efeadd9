use Rattle.lvl_job.proofs.Listed.{check_told, unread_told}
use Rattle.lvl_job.proofs.lists.check_under.Goals as goal

pub returns-in-Ok-clause-told : goal.returns-in-Ok-clause-told
returns-in-Ok-clause-told g c =
    let told = rw (c.as_deref.ensures.value, c.top_of-top.ensures, c.deref.ensures.value) at c.check_entries.ensures.told in
    check_told g.F.Files.opens _ c.args.asked.ignore c.args.asked.large c.args.asked.unpack c.in_ok-profile.profile
    c.in_ok-profile.ensures.asked _ _ _ _ _ _ _ _ _ c.in-Ok.entries.items c.check_entries.result c.in-Ok.ensures.read told

pub returns-clause-told : goal.returns-clause-told
returns-clause-told g c =
    unread_told g.F.Files.opens _ c.args.asked.ignore c.args.asked.large c.args.asked.unpack c.in_ok-profile.profile
    c.in_ok-profile.ensures.asked _ _ _ _ _ _ c.in-Err.fault c.in-Err.ensures.fault
