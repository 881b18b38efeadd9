use Rattle.std.proofs.Common.{◌≡◌, ◌∙◌, ◌&&◌, Bool, ap, ap₂, false, not, true}
use Rattle.std.proofs.lemmas.Result.{IfOk-weaker}
use Rattle.clap.specs.Words.{App, app_of, with_subcommand}
use Rattle.clap.proofs.SimpleLemmas.{is_false}
use Rattle.clap.proofs.WalkLemmas.{both}
use Rattle.lvl_line.specs.Line.{cells_app, watched_app}
use Rattle.lvl_line.proofs.command.program.Goals as goal

-- if all of them are true, the one that is negated isn't
third_is_false : (a b c d : Bool) → (a && (b && (not c && d))) ≡ true → c ≡ false
third_is_false a b c d e = is_false _ (both _ _ (both _ _ (both _ _ e).1).1).0

plain : App → Bool
plain a = a.top.is_plain

pub returns : goal.returns
unfolding plain
returns c =
    let listed : app_of c.in_ok-watched.field-0 ≡ watched_app cells_app =
    c.in_ok-watched.ensures ∙ ap watched_app c.in_ok-cells.ensures in
    IfOk-weaker c.subcommand.result _ _
    (λ r h. h.shape (third_is_false _ _ _ _ (ap plain listed))
    ∙ ap₂ with_subcommand c.in_ok-hashing.ensures (ap (λ (a : App). a.top) listed)) c.subcommand.ensures
