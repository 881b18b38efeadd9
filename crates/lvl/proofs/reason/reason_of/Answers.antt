use Rattle.std.proofs.Common.{◌≡◌, ◌∙◌, IfOk, sym, subst, ap}
use Rattle.lvl_columns.specs.Windows.{IsShown}
use Rattle.lvl_flat.specs.Flattened.{TopCovers}
use Rattle.lvl_region.specs.declared.region.Side.TheVariants.{First, Second}
use Rattle.lvl_view.specs.Moved.{IsMoved}
use Rattle.lvl.specs.Reasons.{IsReasonOf}
use Rattle.lvl.specs.Views.{IsVerdictOf}
use Rattle.lvl.specs.declared.verdict.Verdict.{Verdict}
use Rattle.lvl.specs.declared.verdict.Verdict.TheVariants.{Differ}
use Rattle.lvl.proofs.Reasoning.{first_reason, second_reason}
use Rattle.lvl.proofs.reason.reason_of.Goals as goal

pub returns-in-First : goal.returns-in-First
returns-in-First c =
    let a = c.args.first.now in
    let b = c.args.second.now in
    let pairs = c.args.view.now.pairs in
    let is : c.args.verdict.now ≡ Differ c.in-Differ.layer c.in-Differ.square First =
    c.in-Differ.is ∙ ap (Differ c.in-Differ.layer c.in-Differ.square) c.in-First.is in
    let holds = subst
    (IsVerdictOf (IsShown c.args.view.now.window) (TopCovers a) (IsMoved pairs (TopCovers b))) is c.requires in
    subst (λ (v : Verdict). IfOk c.explain.result (IsReasonOf pairs a b v)) (sym is)
    (first_reason pairs a b c.in-Differ.layer c.in-Differ.square c.explain.result holds.alone.0 c.explain.ensures.some
    c.explain.ensures.none)

pub returns-in_ok-layers-in-Second : goal.returns-in_ok-layers-in-Second
returns-in_ok-layers-in-Second c =
    let a = c.args.first.now in
    let b = c.args.second.now in
    let pairs = c.args.view.now.pairs in
    let is : c.args.verdict.now ≡ Differ c.in-Differ.layer c.in-Differ.square Second =
    c.in-Differ.is ∙ ap (Differ c.in-Differ.layer c.in-Differ.square) c.in-Second.is in
    let holds = subst
    (IsVerdictOf (IsShown c.args.view.now.window) (TopCovers a) (IsMoved pairs (TopCovers b))) is c.requires in
    subst (λ (v : Verdict). IfOk c.explain-in-Second.result (IsReasonOf pairs a b v)) (sym is)
    (second_reason pairs a b c.in-Differ.layer c.in-Differ.square c.deref.result.now c.explain-in-Second.result
    holds.alone.0 (rw c.deref.ensures.value c.in_ok-layers-in-Second.ensures.counted)
    (rw c.deref.ensures.value c.in_ok-layers-in-Second.ensures.all)
    c.explain-in-Second.ensures.some c.explain-in-Second.ensures.none)
