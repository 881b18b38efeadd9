use Rattle.std.proofs.Common.{◌≡◌, ◌+ℤ◌, slice_get, Some, sym, ap, subst, ◌∙◌, arith, Bool, to_z, of_z, w64}
use Rattle.std.proofs.Common.{rules, FitsSigned}
use Rattle.std.proofs.lemmas.Int.{ints}
use Rattle.lvl_grid.specs.declared.point.Point.{Point}
use Rattle.lvl_grid.specs.declared.map.Map.{Map}
use Rattle.lvl_grid.specs.declared.map.Turn.{Turn}
use Rattle.lvl_grid.specs.Turn.{shifted, FitsPoint}
use Rattle.lvl_grid.proofs.Composing.{same_point}
use Rattle.lvl_flat.proofs.walk.placing_at.Goals as goal

pub returns-clause-some : goal.returns-clause-some
returns-clause-some c =
    let e : Point = c.in_ok-shift.shift in
    let there : slice_get c.args.reference.now.shifts c.args.place ≡ Some e =
    sym c.shift.ensures.value ∙ c.in_ok-shift.was in
    let fits : FitsPoint (shifted c.args.reference.now.at e) = c.in_ok-shift.ensures.in_range in
    let of : Bool → Turn → Point → Map = λ f t p. record { flip = f; turn = t; at = p } in
    let near : FitsPoint (shifted c.at-at.result e) = subst (λ d. FitsPoint (shifted d e)) (sym c.at-at.ensures) fits in
    let ax : FitsSigned w64 c.at-at.result.x = search rules in
    let ay : FitsSigned w64 c.at-at.result.y = search rules in
    let ex : FitsSigned w64 e.x = search rules in
    let ey : FitsSigned w64 e.y = search rules in
    let here : Point = record {
      x = to_z w64 (of_z w64 (to_z w64 (of_z w64 c.at-at.result.x) +ℤ to_z w64 (of_z w64 e.x)));
      y = to_z w64 (of_z w64 (to_z w64 (of_z w64 c.at-at.result.y) +ℤ to_z w64 (of_z w64 e.y)));
    } in
    record {
      shift = e;
      there = there;
      map_is =
          ap (λ f. of f c.turn.result here) c.flip.ensures
          ∙ (ap (λ t. of c.args.reference.now.flip t here) c.turn.ensures
          ∙ ap (of c.args.reference.now.flip c.args.reference.now.turn)
          (same_point here (shifted c.at-at.result e) (omega (arith, ints, ax, ex, near.x_fits))
          (omega (arith, ints, ay, ey, near.y_fits)) ∙ ap (λ d. shifted d e) c.at-at.ensures));
    }
