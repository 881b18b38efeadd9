use Rattle.lvl_job.specs.inside.Steps.{Speaking}
use Rattle.lvl_job.proofs.Telling.{says_then}
use Rattle.lvl_job.proofs.said.say_ignore.Goals as goal

pub returns : goal.returns
returns g c =
    let start : Speaking = record {
      so_far = c.args.said.now;
      contents = g.E.Write.contents c.args.err.now;
      errors = g.E.Write.write_errors c.args.err.now;
    } in
    let one : Speaking = record {
      so_far = c.say_more.new.said;
      contents = g.E.Write.contents c.say_more.new.err;
      errors = g.E.Write.write_errors c.say_more.new.err;
    } in
    let two : Speaking = record {
      so_far = c.say_more-2.new.said;
      contents = g.E.Write.contents c.say_more-2.new.err;
      errors = g.E.Write.write_errors c.say_more-2.new.err;
    } in
    let three : Speaking = record {
      so_far = c.say_more-3.new.said;
      contents = g.E.Write.contents c.say_more-3.new.err;
      errors = g.E.Write.write_errors c.say_more-3.new.err;
    } in
    let first = says_then _ _ start one two c.say_more.ensures c.say_more-2.ensures in
    let all = says_then _ _ start two three first c.say_more-3.ensures in
    rw (c.as_bytes.ensures.value, c.ignore_words.ensures) at all
