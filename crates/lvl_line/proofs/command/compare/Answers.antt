use Rattle.std.proofs.Common.{◌≡◌, ◌∙◌, ap₂, codes}
use Rattle.std.proofs.lemmas.Result.{IfOk-weaker}
use Rattle.clap.specs.Words.{App, app_of, with_rule}
use Rattle.lvl_line.specs.Line.{flag_rule, option_rule}
use Rattle.lvl_line.specs.inside.Begun.{tops_app}
use Rattle.lvl_line.proofs.command.compare.Goals as goal

abbrev with_map : App
with_map = with_rule tops_app (option_rule (codes "map"))

abbrev with_window : App
with_window = with_rule with_map (option_rule (codes "window"))

abbrev with_ignore : App
with_ignore = with_rule with_window (option_rule (codes "ignore"))

abbrev with_large : App
with_large = with_rule with_ignore (flag_rule (codes "large"))

abbrev with_unpack : App
with_unpack = with_rule with_large (flag_rule (codes "unpack"))

abbrev with_why : App
with_why = with_rule with_unpack (flag_rule (codes "why"))

pub returns : goal.returns
returns c =
    let layers : app_of c.in_ok-arg.field-0 ≡ with_map =
    c.in_ok-arg.ensures.shape c.option.ensures.local
    ∙ ap₂ with_rule c.in_ok-compare_tops.ensures c.option.ensures.rule in
    let window : app_of c.in_ok-arg-2.field-0 ≡ with_window =
    c.in_ok-arg-2.ensures.shape c.option-2.ensures.local ∙ ap₂ with_rule layers c.option-2.ensures.rule in
    let ignored : app_of c.in_ok-arg-3.field-0 ≡ with_ignore =
    c.in_ok-arg-3.ensures.shape c.option-3.ensures.local ∙ ap₂ with_rule window c.option-3.ensures.rule in
    let large : app_of c.in_ok-arg-4.field-0 ≡ with_large =
    c.in_ok-arg-4.ensures.shape c.flag.ensures.local ∙ ap₂ with_rule ignored c.flag.ensures.rule in
    let unpack : app_of c.in_ok-arg-5.field-0 ≡ with_unpack =
    c.in_ok-arg-5.ensures.shape c.flag-2.ensures.local ∙ ap₂ with_rule large c.flag-2.ensures.rule in
    let why : app_of c.in_ok-arg-6.field-0 ≡ with_why =
    c.in_ok-arg-6.ensures.shape c.flag-3.ensures.local ∙ ap₂ with_rule unpack c.flag-3.ensures.rule in
    IfOk-weaker c.arg-7.result _ _
    (λ r h. h.shape c.flag-4.ensures.local ∙ ap₂ with_rule why c.flag-4.ensures.rule) c.arg-7.ensures
