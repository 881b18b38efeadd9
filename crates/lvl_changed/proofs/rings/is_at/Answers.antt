use Rattle.std.proofs.Common.{◌≡◌, ◌<◌, ◌&&◌, [], true, int_eq, List, Some, length, slice_get, get_or, refl, sym, ◌∙◌}
use Rattle.std.proofs.Common.{subst, arith}
use Rattle.std.specs.Bool.{Decides}
use Rattle.std.proofs.lemmas.Int.{ints}
use Rattle.std.proofs.lemmas.Option.{slice_get-get_or, get_or_from_slice_get}
use Rattle.std.proofs.lemmas.Slice.Eq.{slice_eq-Decides}
use Rattle.lvl_grid.specs.declared.point.Point.{Point}
use Rattle.lvl_grid.proofs.Composing.{same_point}
use Rattle.lvl_changed.proofs.rings.is_at.Goals as goal

itself : (p : Point) → (int_eq p.x p.x && int_eq p.y p.y) ≡ true
itself p = grind (arith, ints)

point_decides : (p q : Point) → Decides (int_eq p.x q.x && int_eq p.y q.y) (p ≡ q)
point_decides p q = (
  λ h. same_point p q (grind (arith, ints)) (grind (arith, ints)),
  λ e. subst (λ (r : Point). (int_eq p.x r.x && int_eq p.y r.y) ≡ true) e (itself p),
)

pub returns-in-Some : goal.returns-in-Some
returns-in-Some c = λ h.
    let rings : List (List Point) = c.args.rings.now in
    let low : c.args.i < length rings = c.in-Some.ensures.inside.0 refl in
    let there : slice_get rings c.args.i ≡ Some (get_or rings c.args.i []) = slice_get-get_or rings c.args.i [] low in
    let same : c.in-Some.found.now ≡ c.args.ring.now =
    (slice_eq-Decides point_decides c.in-Some.found.now c.args.ring.now c.eq.result c.eq.ensures).0 h in (
      c.args.i,
      low,
      get_or_from_slice_get rings c.args.i (get_or rings c.args.i []) c.args.ring.now there
          ∙ (sym c.in-Some.ensures.value ∙ same),
    )
