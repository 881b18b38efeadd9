use Rattle.lvl_job.proofs.Doing.{of_one}
use Rattle.lvl_job.proofs.hash.hash_file.Goals as goal

pub returns-in-Ok : goal.returns-in-Ok
returns-in-Ok g c =
    of_one g.F.Files.opens _ _ _ _ _ _ _ _ c.in-Ok.ensures.opened c.in-Ok.ensures.fresh c.digest_file.ensures
