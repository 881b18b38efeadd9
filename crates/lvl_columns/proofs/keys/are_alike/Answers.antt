use Rattle.std.proofs.Common.{◌≡◌, ◌&&◌, ◌↔◌, true, int_eq, ℤ, List, refl, sym, ap, ◌∙◌, subst, arith}
use Rattle.std.specs.Bool.{Decides}
use Rattle.std.proofs.lemmas.Int.{ints}
use Rattle.std.proofs.lemmas.Slice.Eq.{slice_eq-Decides}
use Rattle.lvl_grid.specs.declared.point.Point.{Point}
use Rattle.lvl_grid.specs.declared.point.Window.{Window}
use Rattle.lvl_grid.specs.Clip.{IsInWindow}
use Rattle.lvl_grid.specs.Winding.{Covers}
use Rattle.lvl_grid.proofs.Composing.{same_point}
use Rattle.lvl_columns.proofs.keys.are_alike.Goals as goal

itself : (p : Point) → (int_eq p.x p.x && int_eq p.y p.y) ≡ true
itself p = grind (arith, ints)

point_decides : (p q : Point) → Decides (int_eq p.x q.x && int_eq p.y q.y) (p ≡ q)
point_decides p q = (
  λ h. same_point p q (grind (arith, ints)) (grind (arith, ints)),
  λ e. subst (λ (r : Point). (int_eq p.x r.x && int_eq p.y r.y) ≡ true) e (itself p),
)

same_window : (v w : Window) → v.x0 ≡ w.x0 → v.y0 ≡ w.y0 → v.x1 ≡ w.x1 → v.y1 ≡ w.y1 → v ≡ w
same_window v w a b c d =
    let at : (p q r s : ℤ) → Window = λ p q r s. record { x0 = p; y0 = q; x1 = r; y1 = s } in
    ap (λ z. at z v.y0 v.x1 v.y1) a ∙ (ap (λ z. at w.x0 z v.x1 v.y1) b ∙ (ap (λ z. at w.x0 w.y0 z v.y1) c
    ∙ ap (λ z. at w.x0 w.y0 w.x1 z) d))

pub returns-then-eq : goal.returns-then-eq
returns-then-eq c =
    let same : c.args.first.now ≡ c.args.second.now =
    (slice_eq-Decides point_decides c.args.first.now c.args.second.now true c.if-eq.ensures).0 refl in
    λ t s. subst (λ (ring : List Point). Covers c.args.first.now s ↔ Covers ring s) same (λ a. a, λ a. a)

pub returns-in-Some-Some : goal.returns-in-Some-Some
returns-in-Some-Some c = λ t s.
    let v : Window = c.in-Some-Some.ours in
    let w : Window = c.in-Some-Some.theirs in
    let equal = c.eq-in-Some-Some.ensures in
    let same : v ≡ w =
    same_window v w (grind (arith, ints)) (grind (arith, ints)) (grind (arith, ints)) (grind (arith, ints)) in
    let a = c.in-Some-Some.ensures s in
    let b = c.in-Some-Some.ensures' s in (
      λ x. b.1 (subst (λ (u : Window). IsInWindow u s) same (a.0 x)),
      λ x. a.1 (subst (λ (u : Window). IsInWindow u s) (sym same) (b.0 x)),
    )
