use Rattle.std.proofs.Common.{◌≡◌, ◌∙◌, ap₂, codes}
use Rattle.std.proofs.lemmas.Result.{IfOk-weaker}
use Rattle.clap.specs.Words.{App, app_of, with_rule}
use Rattle.lvl_line.specs.Line.{flag_rule}
use Rattle.lvl_line.specs.inside.Begun.{several_app}
use Rattle.lvl_line.proofs.command.digest.Goals as goal

abbrev with_list : App
with_list = with_rule several_app (flag_rule (codes "list"))

abbrev with_check : App
with_check = with_rule with_list (flag_rule (codes "check"))

pub returns : goal.returns
returns c =
    let listed : app_of c.in_ok-arg.field-0 ≡ with_list =
    c.in_ok-arg.ensures.shape c.flag.ensures.local ∙ ap₂ with_rule c.in_ok-several.ensures c.flag.ensures.rule in
    let checked : app_of c.in_ok-arg-2.field-0 ≡ with_check =
    c.in_ok-arg-2.ensures.shape c.flag-2.ensures.local ∙ ap₂ with_rule listed c.flag-2.ensures.rule in
    IfOk-weaker c.arg-3.result _ _
    (λ r h. h.shape c.flag-3.ensures.local ∙ ap₂ with_rule checked c.flag-3.ensures.rule) c.arg-3.ensures
