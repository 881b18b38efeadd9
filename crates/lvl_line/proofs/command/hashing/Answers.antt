use Rattle.std.proofs.Common.{◌≡◌, ◌∙◌, ◌&&◌, Bool, ap, ap₂, false, not, true}
use Rattle.std.proofs.lemmas.Result.{IfOk-weaker}
use Rattle.clap.specs.Words.{App, app_of, with_subcommand}
use Rattle.clap.proofs.SimpleLemmas.{is_false}
use Rattle.clap.proofs.WalkLemmas.{both}
use Rattle.lvl_line.specs.Line.{digest_app, show_app, watched_app}
use Rattle.lvl_line.specs.inside.Begun.{comparing_line}
use Rattle.lvl_line.proofs.command.hashing.Goals as goal

-- if all of them are true, the one that is negated isn't
third_is_false : (a b c d : Bool) → (a && (b && (not c && d))) ≡ true → c ≡ false
third_is_false a b c d e = is_false _ (both _ _ (both _ _ (both _ _ e).1).1).0

plain : App → Bool
plain a = a.top.is_plain

pub returns : goal.returns
unfolding plain
returns c =
    let one : app_of c.in_ok-watched.field-0 ≡ watched_app show_app =
    c.in_ok-watched.ensures ∙ ap watched_app c.in_ok-show.ensures in
    let other : app_of c.in_ok-watched-2.field-0 ≡ watched_app digest_app =
    c.in_ok-watched-2.ensures ∙ ap watched_app c.in_ok-digest.ensures in
    let shown : app_of c.in_ok-subcommand.field-0 ≡ with_subcommand comparing_line (watched_app show_app).top =
    c.in_ok-subcommand.ensures.shape (third_is_false _ _ _ _ (ap plain one))
    ∙ ap₂ with_subcommand c.in_ok-comparing.ensures (ap (λ (a : App). a.top) one) in
    IfOk-weaker c.subcommand-2.result _ _
    (λ r h. h.shape (third_is_false _ _ _ _ (ap plain other))
    ∙ ap₂ with_subcommand shown (ap (λ (a : App). a.top) other)) c.subcommand-2.ensures
