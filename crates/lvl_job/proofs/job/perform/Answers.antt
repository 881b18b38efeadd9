use Rattle.std.proofs.Common.{sym}
use Rattle.std.proofs.lemmas.Result.{err_from_is_err_and}
use Rattle.lvl_job.proofs.Doing.{ignore_fault, job_answered, job_fault, view_fault}
use Rattle.lvl_job.proofs.job.perform.Goals as goal

pub returns-in_err-view-in-Compare-clause-fault : goal.returns-in_err-view-in-Compare-clause-fault
returns-in_err-view-in-Compare-clause-fault g c =
    let job = c.in-Compare in
    let p = err_from_is_err_and c.from_residual.result c.from_residual.ensures.1 in
    rw (job.is, p.1, p.2) (view_fault g.F.Files.opens
    job.first job.second job.top_a job.top_b job.map job.window job.ignore
    job.large job.unpack job.why job.units c.args.files.now (g.O.Write.contents c.args.out.now)
    c.in_err-view-in-Compare.field-0.0 c.in_err-view-in-Compare.ensures.fault)

pub returns-in_err-profile-in-Compare-clause-fault : goal.returns-in_err-profile-in-Compare-clause-fault
returns-in_err-profile-in-Compare-clause-fault g c =
    let job = c.in-Compare in
    let read = c.in_ok-view-in-Compare in
    let again = c.from_residual-in_err-profile-in-Compare in
    let p = err_from_is_err_and again.result again.ensures.1 in
    rw (job.is, p.1, p.2) (ignore_fault g.F.Files.opens
    job.first job.second job.top_a job.top_b job.map job.window job.ignore
    job.large job.unpack job.why job.units read.view read.ensures.view c.args.files.now
    (g.O.Write.contents c.args.out.now) c.in_err-profile-in-Compare.field-0.0 c.in_err-profile-in-Compare.ensures.fault)

pub returns-in_ok-profile-in-Compare-clause-answered : goal.returns-in_ok-profile-in-Compare-clause-answered
returns-in_ok-profile-in-Compare-clause-answered g c =
    let job = c.in-Compare in
    let read = c.in_ok-view-in-Compare in
    let set = c.in_ok-profile-in-Compare in
    rw job.is (job_answered g.F.Files.opens job.first job.second job.top_a job.top_b job.map job.window job.ignore
    job.large job.unpack job.why job.units read.view read.ensures.view set.profile set.ensures.asked
    c.args.files.now c.compare.new.files (g.O.Write.contents c.args.out.now) (g.O.Write.contents c.compare.new.out)
    c.compare.result (rw (sym c.top_of.ensures) (rw (sym c.top_of-in-Compare.ensures) c.compare.ensures.answered)))

pub returns-in_ok-profile-in-Compare-clause-fault : goal.returns-in_ok-profile-in-Compare-clause-fault
returns-in_ok-profile-in-Compare-clause-fault g c =
    let job = c.in-Compare in
    let read = c.in_ok-view-in-Compare in
    let set = c.in_ok-profile-in-Compare in
    rw job.is (job_fault g.F.Files.opens job.first job.second job.top_a job.top_b job.map job.window job.ignore
    job.large job.unpack job.why job.units read.view read.ensures.view set.profile set.ensures.asked
    c.args.files.now c.compare.new.files (g.O.Write.contents c.args.out.now) (g.O.Write.contents c.compare.new.out)
    c.compare.result (rw (sym c.top_of.ensures) (rw (sym c.top_of-in-Compare.ensures) c.compare.ensures.fault)))

pub returns-in-Show : goal.returns-in-Show
returns-in-Show g c = rw c.in-Show.is c.inspect.ensures

pub returns-in-Digest : goal.returns-in-Digest
returns-in-Digest g c = rw c.in-Digest.is c.inspect-in-Digest.ensures

pub returns-in-Cells : goal.returns-in-Cells
returns-in-Cells g c = rw c.in-Cells.is c.inspect-in-Cells.ensures
