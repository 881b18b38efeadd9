use Rattle.std.proofs.Common.{◌≡◌, sym, subst, arith}
use Rattle.std.proofs.lemmas.Int.{ints}
use Rattle.lvl_grid.specs.declared.point.Window.{Window}
use Rattle.lvl_grid.specs.Clip.{IsInWindow}
use Rattle.lvl_changed.proofs.Lists.{same_window}
use Rattle.lvl_changed.proofs.figures.are_same_rings.Goals as goal

pub returns-in-Some-Some : goal.returns-in-Some-Some
returns-in-Some-Some c = λ t s.
    let v : Window = c.in-Some-Some.ours in
    let w : Window = c.in-Some-Some.theirs in
    let equal = c.eq.ensures in
    let same : v ≡ w =
    same_window v w (grind (arith, ints)) (grind (arith, ints)) (grind (arith, ints)) (grind (arith, ints)) in
    let a = c.in-Some-Some.ensures s in
    let b = c.in-Some-Some.ensures' s in (
      λ x. b.1 (subst (λ (u : Window). IsInWindow u s) same (a.0 x)),
      λ x. a.1 (subst (λ (u : Window). IsInWindow u s) (sym same) (b.0 x)),
    )
