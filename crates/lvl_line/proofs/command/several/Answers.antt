use Rattle.std.proofs.Common.{◌≡◌, ◌∙◌, ap, ap₂, codes}
use Rattle.std.proofs.lemmas.Result.{IfOk-weaker}
use Rattle.clap.specs.Words.{App, app_of, new_app, with_rule}
use Rattle.clap.specs.Simple.{app_of_fields}
use Rattle.lvl_line.specs.Line.{files_rule, flag_rule, option_rule}
use Rattle.lvl_line.proofs.command.several.Goals as goal

abbrev with_file : App
with_file = with_rule (new_app (codes "digest")) (files_rule (codes "A"))

abbrev with_top : App
with_top = with_rule with_file (option_rule (codes "top"))

abbrev with_ignore : App
with_ignore = with_rule with_top (option_rule (codes "ignore"))

abbrev with_large : App
with_large = with_rule with_ignore (flag_rule (codes "large"))

pub returns : goal.returns
returns c =
    let fresh : app_of c.about.result ≡ new_app (codes "digest") =
    ap app_of_fields c.about.ensures ∙ c.new.ensures.app in
    let filed : app_of c.in_ok-arg.field-0 ≡ with_file =
    c.in_ok-arg.ensures.shape c.files.ensures.local ∙ ap₂ with_rule fresh c.files.ensures.rule in
    let topped : app_of c.in_ok-arg-2.field-0 ≡ with_top =
    c.in_ok-arg-2.ensures.shape c.option.ensures.local ∙ ap₂ with_rule filed c.option.ensures.rule in
    let ignored : app_of c.in_ok-arg-3.field-0 ≡ with_ignore =
    c.in_ok-arg-3.ensures.shape c.option-2.ensures.local ∙ ap₂ with_rule topped c.option-2.ensures.rule in
    let large : app_of c.in_ok-arg-4.field-0 ≡ with_large =
    c.in_ok-arg-4.ensures.shape c.flag.ensures.local ∙ ap₂ with_rule ignored c.flag.ensures.rule in
    IfOk-weaker c.arg-5.result _ _
    (λ r h. h.shape c.flag-2.ensures.local ∙ ap₂ with_rule large c.flag-2.ensures.rule) c.arg-5.ensures
