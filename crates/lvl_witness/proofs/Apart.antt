-- Shifts outside of a ring's area.
use Rattle.std.proofs.Common.{◌≡◌, ◌<◌, ◌≤◌, ◌↔◌, ℕ, List, slice_get, Option, Some, None, IfSome}
use Rattle.std.proofs.Common.{◌+◌, inl, inr, sym, subst, arith}
use Rattle.std.proofs.lemmas.Bool.{cases_order}
use Rattle.lvl_cells.proofs.Sequences.{one_answer}
use Rattle.lvl_grid.specs.declared.point.Point.{Point}
use Rattle.lvl_grid.specs.declared.point.Square.{Square}
use Rattle.lvl_grid.specs.declared.map.Map.{Map}
use Rattle.lvl_grid.specs.Placed.{moved_square, IsPlaceOfCovered}
use Rattle.lvl_grid.specs.Turn.{image_square}
use Rattle.lvl_grid.specs.Winding.{Covers}
use Rattle.lvl_names.proofs.Elements.{at_contains}
use Rattle.lvl_flat.specs.inside.Drawn.{RingPlacesCover}
use Rattle.lvl_witness.specs.declared.areas.Area.{Area}
use Rattle.lvl_witness.specs.inside.Areas.{IsInArea, IsInAny, AreApart}
use Rattle.lvl_witness.specs.inside.Rings.{NoneBefore}

-- the area has each shift at which the ring covers the square t
abbrev pub HasEach : List Point → Square → Option Area → Type 0
HasEach ring t area = IfSome area
    (λ a. (s : Square) (e : Point) → Covers ring s → moved_square e s ≡ t → IsInArea a e)

in_any : (ring : List Point) (t : Square) (area : Option Area) → HasEach ring t area → (s : Square) (e : Point)
    → Covers ring s → moved_square e s ≡ t → IsInAny area e
in_any ring t None each s e covers same = tt
in_any ring t (Some a) each s e covers same = each s e covers same

-- at a shift that isn't in the area the ring covers no square that the map places at q
pub apart_uncovered : (m : Map) (q t : Square) (ring shifts : List Point) (from to : ℕ) (area : Option Area)
    → ((s : Square) → (image_square m s ≡ q) ↔ (s ≡ t)) → HasEach ring t area → AreApart shifts from to area
    → (k : ℕ) (e : Point) → from ≤ k → k < to → slice_get shifts k ≡ Some e → IsPlaceOfCovered m e ring q → ⊥
apart_uncovered m q t ring shifts from to area pulled each apart k e on below at covers =
    apart k e on below at
    (in_any ring t area each covers.from e covers.covered ((pulled (moved_square e covers.from)).0 covers.place))

-- all shifts up to the last
pub none_covers : (m : Map) (q : Square) (shifts ring : List Point) (place : ℕ) → NoneBefore m q shifts ring place
    → ((k : ℕ) (e : Point) → slice_get shifts k ≡ Some e → k < place) → RingPlacesCover m shifts q ring → ⊥
none_covers m q shifts ring place none all a =
    let at = at_contains shifts a.1 (a.0, a.2, a.3) in
    none at.0 a.1 (all at.0 a.1 at.1) at.1 a.4

-- one more place, and then those that are skipped
pub none_more : (m : Map) (q : Square) (shifts ring : List Point) (place next : ℕ) (e : Point)
    → NoneBefore m q shifts ring place → slice_get shifts place ≡ Some e → ¬ IsPlaceOfCovered m e ring q
    → ((k : ℕ) (d : Point) → place + 1 ≤ k → k < next → slice_get shifts k ≡ Some d → ¬ IsPlaceOfCovered m d ring q)
    → NoneBefore m q shifts ring next
none_more m q shifts ring place next e before at here later k d below there =
    elim (cases_order k place) [
      | inl same ↦
          let found : slice_get shifts place ≡ Some d = subst (λ n. slice_get shifts n ≡ Some d) same there in
          let one : e ≡ d = one_answer at found in
          λ covers. here (subst (λ x. IsPlaceOfCovered m x ring q) (sym one) covers)
      | inr apart ↦
          elim apart
          [ inl less ↦ before k d less there | inr more ↦ later k d (omega (arith, more)) below there ]
    ]
