-- A ring that is drawn at shift after shift, where those are skipped at which it misses the window.
use Rattle.std.proofs.Common.{◌≡◌, ◌<◌, ◌≤◌, ◌+◌, ◌↔◌, ◌⊎◌, inl, inr, ℕ, List, [], All, Any, take, length, get_or}
use Rattle.std.proofs.Common.{slice_get, Some, None, refl, sym, subst, ◌∙◌, arith}
use Rattle.std.proofs.lemmas.Bool.{cases_lt}
use Rattle.std.proofs.lemmas.List.{get_or-take, length-take-le}
use Rattle.std.proofs.lemmas.List.Elements.{All-more}
use Rattle.std.proofs.lemmas.Option.{slice_get_cases, slice_get_read, slice_get-get_or}
use Rattle.std.proofs.lemmas.Option.{slice_get_within, get_or_from_slice_get}
use Rattle.lvl_grid.specs.declared.point.Point.{Point}
use Rattle.lvl_grid.specs.declared.point.Square.{Square}
use Rattle.lvl_grid.specs.declared.point.Window.{Window}
use Rattle.lvl_grid.specs.declared.map.Map.{Map}
use Rattle.lvl_grid.specs.Placed.{IsPlaceOfCovered}
use Rattle.lvl_grid.proofs.Anyone.{Any-nil}
use Rattle.lvl_grid.specs.Winding.{SomeCovers}
use Rattle.lvl_cells.specs.Cells.{Rings}
use Rattle.lvl_flat.specs.declared.bounds.Bounds.{Bounds}
use Rattle.lvl_flat.specs.declared.scope.Scope.{Scope}
use Rattle.lvl_flat.specs.declared.scope.Scope.TheVariants.{Everything, Within}
use Rattle.lvl_flat.specs.Flattened.{FitsRing}
use Rattle.lvl_flat.specs.Boxes.{HoldsPoint}
use Rattle.lvl_flat.specs.inside.Drawn.{FitsAtEach, IsRingDrawn}
use Rattle.lvl_flat.specs.inside.Scopes.{IsInScope}
use Rattle.lvl_flat.specs.inside.Passing.{IsMissed, AreMissed}
use Rattle.lvl_flat.proofs.Cutting.{covers_more, placed_ring_fits}
use Rattle.lvl_flat.proofs.Outside.{placed_square}

-- at no shift
pub drawn_none : (m : Map) (scope : Scope) (ring : List Point) (old : Rings) → IsRingDrawn m scope [] ring old old
drawn_none m scope ring old = record {
  covers = λ q. (
    λ h. inl h,
    λ d. elim d [ inl h ↦ h | inr n ↦ absurd (Any-nil (λ e. IsPlaceOfCovered m e ring q) n.1) ],
  );
  fits = λ j e lj. absurd (omega (arith, lj));
  count = λ all. omega arith;
}

-- at one more
pub drawn_more : (m : Map) (scope : Scope) (ring shifts : List Point) (old now new : Rings) (k : ℕ) (e : Point)
    → IsRingDrawn m scope (take k shifts) ring old now → slice_get shifts k ≡ Some e
    → ((q : Square) → SomeCovers new q ↔ (SomeCovers now q ⊎ (IsInScope scope q × IsPlaceOfCovered m e ring q)))
    → FitsRing m e ring → (scope ≡ Everything → length new ≡ length now + 1)
    → IsRingDrawn m scope (take (k + 1) shifts) ring old new
drawn_more m scope ring shifts old now new k e before at step fits one =
    let there : k < length shifts = slice_get_within shifts k e at in
    let is : get_or shifts k e ≡ e = get_or_from_slice_get shifts k e e at in
    record {
      covers = λ q.
          covers_more (λ d. IsPlaceOfCovered m d ring q) (IsInScope scope q) (SomeCovers old q) (SomeCovers now q)
          (SomeCovers new q) shifts k e at (before.covers q) (step q);
      fits =
          All-more (λ d. FitsRing m d ring) shifts k e there before.fits
          (subst (λ (p : Point). FitsRing m p ring) (sym is) fits);
      count = λ all.
          omega (
            arith,
            before.count all,
            one all,
            length-take-le k shifts (omega (arith, there)),
            length-take-le (k + 1) shifts (omega (arith, there)),
          );
    }

-- what holds of some of the first items holds of some of more of them
any_of_more : {X : Type 0} (P : X → Type 0) (xs : List X) (from to : ℕ) → from ≤ to → to ≤ length xs
    → Any P (take from xs) → Any P (take to xs)
any_of_more P xs from to on inside a =
    let below : a.0 < from = omega (arith, a.2, length-take-le from xs (omega (arith, on, inside))) in (
      a.0,
      a.1,
      omega (arith, below, on, length-take-le to xs inside),
      get_or-take to xs a.0 a.1 (omega (arith, below, on)) ∙ (sym (get_or-take from xs a.0 a.1 below) ∙ a.3),
      a.4,
    )

-- and the other way round, if it holds of none of those that are more
any_of_less : {X : Type 0} (P : X → Type 0) (xs : List X) (from to : ℕ) → from ≤ to → to ≤ length xs
    → ((j : ℕ) (x : X) → from ≤ j → j < to → slice_get xs j ≡ Some x → P x → ⊥)
    → Any P (take to xs) → Any P (take from xs)
any_of_less P xs from to on inside none a =
    let k : ℕ = a.0 in
    let below : k < to = omega (arith, a.2, length-take-le to xs inside) in
    let is : get_or xs k a.1 ≡ a.1 = sym (get_or-take to xs k a.1 below) ∙ a.3 in
    elim (cases_lt k from) [
      | inl near ↦ (
        k,
        a.1,
        omega (arith, near, length-take-le from xs (omega (arith, on, inside))),
        get_or-take from xs k a.1 near ∙ is,
        a.4,
      )
      | inr past ↦
          absurd (none k a.1 past below
          (slice_get_read xs (length xs) k a.1 refl (omega (arith, below, inside)) (sym is)) a.4)
    ]

-- what holds of the first items and of those after them holds of all
all_of_more : {X : Type 0} (P : X → Type 0) (xs : List X) (from to : ℕ) → from ≤ to → to ≤ length xs
    → All P (take from xs) → ((j : ℕ) (x : X) → from ≤ j → j < to → slice_get xs j ≡ Some x → P x)
    → All P (take to xs)
all_of_more P xs from to on inside before here j d lj =
    let below : j < to = omega (arith, lj, length-take-le to xs inside) in
    subst P (sym (get_or-take to xs j d below)) (elim (cases_lt j from) [
      | inl near ↦
          subst P (get_or-take from xs j d near)
          (before j d (omega (arith, near, length-take-le from xs (omega (arith, on, inside)))))
      | inr past ↦
          here j (get_or xs j d) past below (slice_get-get_or xs j d (omega (arith, below, inside)))
    ])

-- at more, at which the box of the ring misses the window
pub drawn_past : (m : Map) (window : Window) (b : Bounds) (ring shifts : List Point) (old now : Rings) (from to : ℕ)
    → IsRingDrawn m (Within window) (take from shifts) ring old now → All (HoldsPoint b) ring → from ≤ to
    → to ≤ length shifts → AreMissed shifts from to b m window
    → IsRingDrawn m (Within window) (take to shifts) ring old now
drawn_past m window b ring shifts old now from to before held on inside missed = record {
  covers = λ q.
      let P : Point → Type 0 = λ e. IsPlaceOfCovered m e ring q in (
        λ h. elim ((before.covers q).0 h) [
          | inl a ↦ inl a
          | inr a ↦ inr (a.0, any_of_more P shifts from to on inside a.1)
        ],
        λ d. (before.covers q).1 (elim d [
          | inl a ↦ inl a
          | inr a ↦
              inr (
                a.0,
                any_of_less P shifts from to on inside (λ j e past below at place.
                    let out : IsMissed b m window e = missed j e past below at in
                    out.outside.none q (placed_square m e b out.placed ring q out.holds held place) a.0) a.1,
              )
        ]),
      );
  fits =
      all_of_more (λ e. FitsRing m e ring) shifts from to on inside before.fits (λ j e past below at.
      let out : IsMissed b m window e = missed j e past below at in
      placed_ring_fits m e b out.placed ring out.fits out.holds held);
  count = λ all. cc;
}

-- where there is no shift, all are before
pub past_last : (shifts : List Point) (k : ℕ) → slice_get shifts k ≡ None → length shifts ≤ k
past_last shifts k none =
    elim (slice_get_cases shifts k).1 [
      | inl a ↦ let same : Some a.0 ≡ None = sym a.2 ∙ none in absurd (cc)
      | inr b ↦ b.0
    ]

-- a ring that fits at each of the shifts fits at one of them
pub fits_at : (m : Map) (ring shifts : List Point) (k : ℕ) (e : Point) → FitsAtEach m shifts ring
    → slice_get shifts k ≡ Some e → FitsRing m e ring
fits_at m ring shifts k e fits at =
    subst (λ (p : Point). FitsRing m p ring) (get_or_from_slice_get shifts k e e at)
    (fits k e (slice_get_within shifts k e at))
