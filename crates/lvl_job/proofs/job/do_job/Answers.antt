use Rattle.std.proofs.Common.{◌≡◌, sym, true, rules}
use Rattle.lvl_job.specs.Jobs.{has_one_answer}
use Rattle.lvl_job.proofs.Listed.{one_done}
use Rattle.lvl_job.proofs.job.do_job.Goals as goal

pub returns-in-List-clause-done : goal.returns-in-List-clause-done
returns-in-List-clause-done g c = rw (c.in-List.is, sym c.deref.ensures.value) c.do_list.ensures.done

pub returns-in-Check-clause-done : goal.returns-in-Check-clause-done
returns-in-Check-clause-done g c = rw c.in-Check.is c.do_check.ensures.done

pub returns-in_default : goal.returns-in_default
returns-in_default g c =
    let one : has_one_answer c.args.job ≡ true = search rules in
    record {
      done = one_done g.F.Files.opens g.F.Files.looks c.args.job _ _ _ _ _ one c.answer.ensures.done;
      errors = c.answer.ensures.errors;
    }
