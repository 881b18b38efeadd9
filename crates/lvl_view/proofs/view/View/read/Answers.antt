use Rattle.std.proofs.Common.{rules, refl, sym, subst}
use Rattle.std.proofs.lemmas.Result.{err_from_is_err_and}
use Rattle.lvl_refusal.proofs.Saying.{Says-map}
use Rattle.lvl_view.specs.Views.{text_of, IsMapOf}
use Rattle.lvl_view.specs.inside.Reading.{IsTwiceFault, IsAlone}
use Rattle.lvl_view.proofs.Sources.{twice_fault}
use Rattle.lvl_view.proofs.view.View.read.Goals as goal

pub returns-in_err-targets-clause-err : goal.returns-in_err-targets-clause-err
returns-in_err-targets-clause-err c =
    let alone : IsAlone (IsMapOf (text_of c.args.map)) c.deref.result.now =
    subst (IsAlone (IsMapOf (text_of c.args.map))) (sym c.deref.ensures.value) c.in_ok-pairs.ensures.ok in
    let p = err_from_is_err_and c.from_residual-in_err-targets.result c.from_residual-in_err-targets.ensures.1 in
    rw (p.1, p.2) (Says-map (IsTwiceFault c.deref.result.now) _ _
    (λ f h. twice_fault (text_of c.args.map) (text_of c.args.window) c.deref.result.now c.in-Ok.window f alone
    c.in-Ok.ensures.ok h) c.in_err-targets.ensures.err)

pub returns-then-is_empty-clause-err : goal.returns-then-is_empty-clause-err
returns-then-is_empty-clause-err c = (
  record { pairs = c.deref.result.now; window = c.in-Ok.window },
  ((c.in_ok-pairs.ensures.ok c.deref.result.now).1 c.deref.ensures.value, (c.in-Ok.ensures.ok c.in-Ok.window).1 refl),
  c.in_ok-targets.ensures.distinct,
  c.is_empty.ensures.0 (search rules),
)
