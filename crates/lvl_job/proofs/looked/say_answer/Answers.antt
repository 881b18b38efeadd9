use Rattle.std.proofs.Common.{◌∙◌, sym}
use Rattle.lvl_job.specs.inside.Looks.{in_order}
use Rattle.lvl_job.specs.inside.Steps.{Speaking}
use Rattle.lvl_job.proofs.Looking.{answer_looked_at, answer_said}
use Rattle.lvl_job.proofs.looked.say_answer.Goals as goal

pub returns-then-is_looked_at : goal.returns-then-is_looked_at
returns-then-is_looked_at g c =
    let said : Speaking = record {
      so_far = c.say_outcome.new.said;
      contents = g.E.Write.contents c.say_outcome.new.err;
      errors = g.E.Write.write_errors c.say_outcome.new.err;
    } in
    let looked : Speaking = record {
      so_far = c.look_at_all.new.said;
      contents = g.E.Write.contents c.look_at_all.new.err;
      errors = g.E.Write.write_errors c.look_at_all.new.err;
    } in
    rw c.in-Ok.is
    (answer_looked_at g.F.Files.looks c.args.files.now (in_order c.args.paths.now) c.in-Ok.outcome
    (g.E.Write.contents c.args.err.now) (g.E.Write.write_errors c.args.err.now) said looked
    (sym c.is_looked_at.ensures ∙ c.if-is_looked_at.true) c.say_outcome.ensures c.look_at_all.ensures)

pub returns-else-is_looked_at : goal.returns-else-is_looked_at
returns-else-is_looked_at g c =
    let said : Speaking = record {
      so_far = c.say_outcome.new.said;
      contents = g.E.Write.contents c.say_outcome.new.err;
      errors = g.E.Write.write_errors c.say_outcome.new.err;
    } in
    rw c.in-Ok.is
    (answer_said g.F.Files.looks c.args.files.now (in_order c.args.paths.now) c.in-Ok.outcome
    (g.E.Write.contents c.args.err.now) (g.E.Write.write_errors c.args.err.now) said
    (sym c.is_looked_at.ensures ∙ c.if-is_looked_at.false) c.say_outcome.ensures)
