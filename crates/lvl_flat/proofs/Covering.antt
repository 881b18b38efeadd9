-- What placed shapes cover, and what cells cover by their picks.
use Rattle.std.proofs.Common.{◌≡◌, ℕ, zero, suc, List, Option, Some, None, Any}
use Rattle.std.proofs.Common.{IsSomeAnd, ◌↔◌, ◌⊎◌, inl, inr, refl, sym, ap, subst, ◌∙◌, arith}
use Rattle.std.proofs.lemmas.Int.{ints}
use Rattle.lvl_grid.specs.declared.point.Point.{Point}
use Rattle.lvl_grid.specs.declared.point.Square.{Square}
use Rattle.lvl_grid.specs.declared.map.Map.{Map}
use Rattle.lvl_grid.specs.Turn.{image_square}
use Rattle.lvl_grid.specs.Placed.{moved_square}
use Rattle.lvl_grid.specs.Winding.{SomeCovers}
use Rattle.lvl_grid.proofs.Squares.{same_square, image_square-composed}
use Rattle.lvl_names.specs.declared.layer.Layer.{Layer}
use Rattle.lvl_cells.specs.Cells.{PlainCell, Rings, map_at, cell_named}
use Rattle.lvl_cells.specs.Chains.{IsComposed}
use Rattle.lvl_cells.specs.Coverage.{moved_back, ShapeCovers, PullsBack, CoversWithin, CellCovers}
use Rattle.lvl_flat.specs.inside.Visits.{Pick, picks, PickCovers}
use Rattle.lvl_flat.proofs.Picks.{picks_any}

-- s is the image of a square of the set
abbrev pub Under : Map → Square → (Square → Type 0) → Type 0
Under m s P = (t : Square) × (image_square m t ≡ s) × P t

pub under_either : (m : Map) (s : Square) (P Q : Square → Type 0)
    → Under m s (λ t. P t ⊎ Q t) ↔ (Under m s P ⊎ Under m s Q)
under_either m s P Q = (
  λ u. elim u.2 [ inl p ↦ inl (u.0, u.1, p) | inr q ↦ inr (u.0, u.1, q) ],
  λ e. elim e [ inl u ↦ (u.0, u.1, inl u.2) | inr u ↦ (u.0, u.1, inr u.2) ],
)

pub under_same : (m : Map) (s : Square) (P Q : Square → Type 0) → ((t : Square) → P t ↔ Q t) → Under m s P ↔ Under m s Q
under_same m s P Q same = (λ u. (u.0, u.1, (same u.0).0 u.2), λ u. (u.0, u.1, (same u.0).1 u.2))

pub there_and_back : (e : Point) (s : Square) → moved_back e (moved_square e s) ≡ s
there_and_back e s = same_square _ _ (omega (arith, ints)) (omega (arith, ints))

pub back_and_there : (e : Point) (s : Square) → moved_square e (moved_back e s) ≡ s
back_and_there e s = same_square _ _ (omega (arith, ints)) (omega (arith, ints))

pub some_is : {X : Type 0} (P : X → Type 0) (o : Option X) → IsSomeAnd o P → (x : X) × (o ≡ Some x) × P x
some_is P None h = absurd h
some_is P (Some x) h = (x, refl, h)

is_some : {X : Type 0} (P : X → Type 0) (o : Option X) (x : X) → o ≡ Some x → P x → IsSomeAnd o P
is_some P o x e p = subst (λ q. IsSomeAnd q P) (sym e) p

-- a cell covers what its shapes and its picks do
within_step : (cells : List (PlainCell Rings)) (layer : Layer) (c : PlainCell Rings) (s : Square) (n : ℕ)
    → CoversWithin SomeCovers cells layer n c s
    → Any (ShapeCovers SomeCovers layer s) c.shapes ⊎ Any (PickCovers cells layer s) (picks c.references)
within_step cells layer c s zero h = inl h
within_step cells layer c s (suc n) (inl a) = inl a
within_step cells layer c s (suc n) (inr a) =
    let found =
    some_is (λ d. Any (PullsBack (CoversWithin SomeCovers cells layer n d) a.1 s) a.1.shifts)
    (cell_named cells a.1.cell) a.4 in
    let some = found.2 in
    let back = some.4 in
    let pick : PickCovers cells layer s (a.1, some.1) =
    is_some (λ d. PullsBack (CellCovers SomeCovers cells layer d) a.1 s some.1) (cell_named cells a.1.cell) found.0
    found.1 (back.0, back.1, (n, back.2)) in
    inr ((picks_any (λ r e. PickCovers cells layer s (r, e)) c.references).0 (
      a.0,
      a.1,
      a.2,
      a.3,
      (some.0, some.1, some.2, some.3, pick),
    ))

pub cell_covers : (cells : List (PlainCell Rings)) (layer : Layer) (c : PlainCell Rings) (s : Square)
    → CellCovers SomeCovers cells layer c s
    ↔ (Any (ShapeCovers SomeCovers layer s) c.shapes ⊎ Any (PickCovers cells layer s) (picks c.references))
cell_covers cells layer c s = (
  λ h. within_step cells layer c s h.0 h.1,
  λ e.
      elim e [
        | inl a ↦ (zero, a)
        | inr a ↦
            let q = (picks_any (λ r d. PickCovers cells layer s (r, d)) c.references).1 a in
            let some = q.4 in
            let found =
            some_is (λ d. PullsBack (CellCovers SomeCovers cells layer d) q.1 s some.1) (cell_named cells q.1.cell)
            some.4 in
            let back = found.2 in (
              suc back.2.0,
              inr (
                q.0,
                q.1,
                q.2,
                q.3,
                is_some (λ d. Any (PullsBack (CoversWithin SomeCovers cells layer back.2.0 d) q.1 s) q.1.shifts)
                    (cell_named cells q.1.cell) found.0 found.1
                    (some.0, some.1, some.2, some.3, (back.0, back.1, back.2.1)),
              ),
            )
      ],
)

-- a pick covers what its cell does, placed by the composed map
pub pick_covers : (cells : List (PlainCell Rings)) (layer : Layer) (m w : Map) (s : Square) (p : Pick)
    (d : PlainCell Rings) → cell_named cells p.0.cell ≡ Some d → IsComposed m (map_at p.0 p.1) w
    → Under m s (λ t. PickCovers cells layer t p) ↔ Under w s (CellCovers SomeCovers cells layer d)
pick_covers cells layer m w s p d named whole = (
  λ u.
      let a =
      some_is (λ b. PullsBack (CellCovers SomeCovers cells layer b) p.0 u.0 p.1) (cell_named cells p.0.cell) u.2 in
      let one : Some a.0 ≡ Some d = sym a.1 ∙ named in
      let same : a.0 ≡ d = cc in (
        a.2.0,
        image_square-composed m (map_at p.0 p.1) w whole a.2.0 ∙ (ap (image_square m) a.2.1 ∙ u.1),
        subst (λ b. CellCovers SomeCovers cells layer b a.2.0) same a.2.2,
      ),
  λ u. (
    image_square (map_at p.0 p.1) u.0,
    sym (image_square-composed m (map_at p.0 p.1) w whole u.0) ∙ u.1,
    is_some (λ b. PullsBack (CellCovers SomeCovers cells layer b) p.0 (image_square (map_at p.0 p.1) u.0) p.1)
        (cell_named cells p.0.cell) d named (u.0, refl, u.2),
  ),
)
