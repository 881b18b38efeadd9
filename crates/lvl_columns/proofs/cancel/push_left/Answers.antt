use Rattle.std.proofs.Common.{List, inl, inr, subst, sym}
use Rattle.std.proofs.lemmas.Result.{on_ok_weaker}
use Rattle.lvl_grid.specs.declared.point.Point.{Point}
use Rattle.lvl_grid.specs.Winding.{Covers, SomeCovers}
use Rattle.lvl_grid.proofs.Anyone.{Any-push}
use Rattle.lvl_columns.proofs.cancel.push_left.Goals as goal

pub returns-then-has_alike-clause-within : goal.returns-then-has_alike-clause-within
returns-then-has_alike-clause-within c = λ s a. inl a

pub returns-then-has_alike-clause-all : goal.returns-then-has_alike-clause-all
returns-then-has_alike-clause-all c = λ s a.
    elim a [ inl old ↦ inl old | inr here ↦ inr (c.has_alike.ensures c.if-has_alike.true s here) ]

pub returns-clause-within : goal.returns-clause-within
returns-clause-within c =
    let old : List (List Point) = c.args.left.now in
    on_ok_weaker c.push.result (λ is s a. (Any-push (λ r. Covers r s) old c.args.ring.now).0
    (subst (λ rs. SomeCovers rs s) is a)) c.push.ensures.ok

pub returns-clause-all : goal.returns-clause-all
returns-clause-all c =
    let old : List (List Point) = c.args.left.now in
    on_ok_weaker c.push.result (λ is s a. inl (subst (λ rs. SomeCovers rs s) (sym is)
    ((Any-push (λ r. Covers r s) old c.args.ring.now).1 a))) c.push.ensures.ok
