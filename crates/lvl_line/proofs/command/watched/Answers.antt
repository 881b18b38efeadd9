use Rattle.std.proofs.Common.{◌≡◌, ◌∙◌, ap, ap₂, codes}
use Rattle.std.proofs.lemmas.Result.{IfOk-weaker}
use Rattle.clap.specs.Words.{app_of, with_rule}
use Rattle.lvl_line.specs.Line.{flag_rule}
use Rattle.lvl_line.proofs.command.watched.Goals as goal

pub returns : goal.returns
returns c =
    let shown : app_of c.in_ok-arg.field-0 ≡ with_rule (app_of c.args.command) (flag_rule (codes "progress")) =
    c.in_ok-arg.ensures.shape c.flag.ensures.local ∙ ap (with_rule (app_of c.args.command)) c.flag.ensures.rule in
    IfOk-weaker c.arg-2.result _ _
    (λ r h. h.shape c.flag-2.ensures.local ∙ ap₂ with_rule shown c.flag-2.ensures.rule) c.arg-2.ensures
