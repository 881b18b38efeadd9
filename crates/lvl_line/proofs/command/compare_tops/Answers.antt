use Rattle.std.proofs.Common.{◌≡◌, ◌∙◌, ap, ap₂, codes}
use Rattle.std.proofs.lemmas.Result.{IfOk-weaker}
use Rattle.clap.specs.Words.{App, app_of, new_app, with_rule}
use Rattle.clap.specs.Simple.{app_of_fields}
use Rattle.lvl_line.specs.Line.{file_rule, option_rule}
use Rattle.lvl_line.proofs.command.compare_tops.Goals as goal

-- `compare` with its first arguments

abbrev with_first : App
with_first = with_rule (new_app (codes "compare")) (file_rule (codes "A"))

abbrev with_files : App
with_files = with_rule with_first (file_rule (codes "B"))

abbrev with_top_a : App
with_top_a = with_rule with_files (option_rule (codes "top-a"))

pub returns : goal.returns
returns c =
    let compare_new : app_of c.about.result ≡ new_app (codes "compare") =
    ap app_of_fields c.about.ensures ∙ c.new.ensures.app in
    let first : app_of c.in_ok-arg.field-0 ≡ with_first =
    c.in_ok-arg.ensures.shape c.file.ensures.local ∙ ap₂ with_rule compare_new c.file.ensures.rule in
    let files : app_of c.in_ok-arg-2.field-0 ≡ with_files =
    c.in_ok-arg-2.ensures.shape c.file-2.ensures.local ∙ ap₂ with_rule first c.file-2.ensures.rule in
    let top_a : app_of c.in_ok-arg-3.field-0 ≡ with_top_a =
    c.in_ok-arg-3.ensures.shape c.option.ensures.local ∙ ap₂ with_rule files c.option.ensures.rule in
    IfOk-weaker c.arg-4.result _ _
    (λ r h. h.shape c.option-2.ensures.local ∙ ap₂ with_rule top_a c.option-2.ensures.rule) c.arg-4.ensures
