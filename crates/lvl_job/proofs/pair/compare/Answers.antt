use Rattle.lvl_job.proofs.Doing.{of_two, pair_cut}
use Rattle.lvl_job.proofs.pair.compare.Goals as goal

pub returns-in-Ok-clause-answered : goal.returns-in-Ok-clause-answered
returns-in-Ok-clause-answered g c =
    of_two g.F.Files.opens _ _ _ _ _ _ _ _ _ _ _ _ _ _ c.in_ok-first.ensures.opened c.in_ok-second.ensures.opened
    c.in_ok-first.ensures.fresh c.in_ok-second.ensures.fresh c.in-Ok.ensures.run

pub returns-clause-fault : goal.returns-clause-fault
returns-clause-fault g c =
    pair_cut g.F.Files.opens c.args.question.now c.args.names.0 c.args.names.1 c.args.files.now c.open-2.new.files
    (g.O.Write.contents c.args.out.now) (g.O.Write.contents c.run_question.new.out) c.in-Err.fault c.fault_of.result
    c.fault_of.ensures
    (of_two g.F.Files.opens _ _ _ _ _ _ _ _ _ _ _ _ _ _ c.in_ok-first.ensures.opened c.in_ok-second.ensures.opened
    c.in_ok-first.ensures.fresh c.in_ok-second.ensures.fresh c.in-Err.ensures.run)
    c.in-Err.ensures.nothing
