use Rattle.std.proofs.lemmas.Result.{IfOk-weaker}
use Rattle.lvl_report.proofs.Lining.{rounded_is}
use Rattle.lvl_report.proofs.steps.difference_line.Goals as goal

pub returns : goal.returns
returns c =
    let ours = c.grid_step.ensures in
    let theirs = c.grid_step-2.ensures in
    IfOk-weaker c.line_of.result _ _ (λ line said. record {
      ours = c.rounded.result;
      theirs = c.rounded-2.result;
      first_is = rounded_is c.args.first.now c.grid_step.result _ ours.value ours.none c.rounded.ensures;
      second_is = rounded_is c.args.second.now c.grid_step-2.result _ theirs.value theirs.none c.rounded-2.ensures;
      differ = c.requires;
      text_is = said;
    }) c.line_of.ensures
