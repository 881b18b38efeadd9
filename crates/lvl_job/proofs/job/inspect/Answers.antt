use Rattle.std.proofs.lemmas.Result.{err_from_is_err_and}
use Rattle.lvl_job.proofs.Doing.{file_cut, file_ignored, file_missing, of_one}
use Rattle.lvl_job.proofs.job.inspect.Goals as goal

pub returns-in_err-profile-clause-fault : goal.returns-in_err-profile-clause-fault
returns-in_err-profile-clause-fault g c =
    let p = err_from_is_err_and c.from_residual.result c.from_residual.ensures.1 in
    rw (p.1, p.2) (file_ignored g.F.Files.opens c.args.wanted c.args.name c.args.asked.top c.args.asked.ignore
    c.args.asked.large c.args.asked.unpack c.args.files.now (g.O.Write.contents c.args.out.now)
    c.in_err-profile.field-0.0 c.in_err-profile.ensures.fault)

pub returns-in_err-file-clause-fault : goal.returns-in_err-file-clause-fault
returns-in_err-file-clause-fault g c =
    let p = err_from_is_err_and c.from_residual-in_err-file.result c.from_residual-in_err-file.ensures.1 in
    rw (p.1, p.2) (file_missing g.F.Files.opens c.args.wanted c.args.name c.args.asked.top c.args.asked.ignore
    c.args.asked.large c.args.asked.unpack c.in_ok-profile.profile c.in_ok-profile.ensures.asked c.args.files.now
    c.open.new.files (g.O.Write.contents c.args.out.now) _ c.in_err-file.field-0.0 c.in_err-file.ensures.missing
    c.in_err-file.ensures.opened)

pub returns-in-Ok-clause-answered : goal.returns-in-Ok-clause-answered
returns-in-Ok-clause-answered g c =
    let run = rw (c.as_deref.ensures.value, c.top_of-top.ensures) at c.in-Ok.ensures.run in
    record {
      profile = c.in_ok-profile.profile;
      asked = c.in_ok-profile.ensures.asked;
      holds = of_one g.F.Files.opens _ _ _ _ _ _ _ _ c.in_ok-file.ensures.opened c.in_ok-file.ensures.fresh run;
    }

pub returns-clause-fault : goal.returns-clause-fault
returns-clause-fault g c =
    let run = rw (c.as_deref.ensures.value, c.top_of-top.ensures) at c.in-Err.ensures.run in
    file_cut g.F.Files.opens c.args.wanted c.args.name c.args.asked.top c.args.asked.ignore c.args.asked.large
    c.args.asked.unpack c.in_ok-profile.profile c.in_ok-profile.ensures.asked c.args.files.now c.open.new.files
    (g.O.Write.contents c.args.out.now) (g.O.Write.contents c.run_file.new.out) c.in-Err.fault c.fault_of.result
    c.fault_of.ensures
    (of_one g.F.Files.opens _ _ _ _ _ _ _ _ c.in_ok-file.ensures.opened c.in_ok-file.ensures.fresh run)
    c.in-Err.ensures.nothing
