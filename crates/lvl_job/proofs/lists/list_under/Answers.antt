use Rattle.lvl_job.proofs.Listed.{list_told}
use Rattle.lvl_job.proofs.lists.list_under.Goals as goal

pub returns-clause-told : goal.returns-clause-told
returns-clause-told g c =
    let listing = rw (c.as_deref.ensures.value, c.top_of-top.ensures) at c.list.ensures.listing in
    list_told g.F.Files.opens _ c.args.asked.ignore c.args.asked.large c.args.asked.unpack c.in_ok-profile.profile
    c.in_ok-profile.ensures.asked c.args.names.now _ _ _ _ _ _ c.list.result listing
