use Rattle.std.proofs.Common.{◌≡◌, ◌∙◌, ◌&&◌, Bool, ap, ap₂, false, not, true}
use Rattle.std.proofs.lemmas.Result.{IfOk-weaker}
use Rattle.clap.specs.Words.{App, app_of, with_subcommand}
use Rattle.clap.specs.Simple.{app_of_fields}
use Rattle.clap.proofs.SimpleLemmas.{is_false}
use Rattle.clap.proofs.WalkLemmas.{both}
use Rattle.lvl_line.specs.Line.{compare_app, plain_line, watched_app}
use Rattle.lvl_line.proofs.command.comparing.Goals as goal

must : App → App
must a = record a { top = record a.top { subcommand_required = true } }

versioned : App → App
versioned a = record a { top = record a.top { has_version = true } }

-- the line before it has a subcommand
abbrev bare_line : App
bare_line = record plain_line { top = record plain_line.top { has_version = true; subcommand_required = true } }

-- if all of them are true, the one that is negated isn't
third_is_false : (a b c d : Bool) → (a && (b && (not c && d))) ≡ true → c ≡ false
third_is_false a b c d e = is_false _ (both _ _ (both _ _ (both _ _ e).1).1).0

plain : App → Bool
plain a = a.top.is_plain

pub returns : goal.returns
unfolding versioned must plain
returns c =
    let line_new : app_of c.subcommand_required.result ≡ bare_line =
    ap app_of_fields c.subcommand_required.ensures
    ∙ ap must
    (ap app_of_fields c.about.ensures ∙ ap app_of_fields c.version.ensures ∙ ap versioned c.new.ensures.app) in
    let compared : app_of c.in_ok-watched.field-0 ≡ watched_app compare_app =
    c.in_ok-watched.ensures ∙ ap watched_app c.in_ok-compare.ensures in
    IfOk-weaker c.subcommand.result _ _
    (λ r h. h.shape (third_is_false _ _ _ _ (ap plain compared))
    ∙ ap₂ with_subcommand line_new (ap (λ (a : App). a.top) compared)) c.subcommand.ensures
