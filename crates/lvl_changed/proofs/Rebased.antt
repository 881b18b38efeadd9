-- Arrays from another of their places on.
use Rattle.std.proofs.Common.{◌≡◌, ◌↔◌, List, Contains, refl, sym, ap, ◌∙◌}
use Rattle.std.proofs.Common.{ℕ, map, subst, arith}
use Rattle.std.proofs.lemmas.Int.{ints}
use Rattle.lvl_grid.specs.declared.point.Point.{Point}
use Rattle.lvl_grid.specs.declared.point.Square.{Square}
use Rattle.lvl_grid.specs.Turn.{shifted}
use Rattle.lvl_grid.proofs.Composing.{same_point}
use Rattle.lvl_grid.proofs.Anyone.{some_contained, Any-map}
use Rattle.lvl_names.specs.declared.layer.Layer.{Layer}
use Rattle.lvl_cells.specs.Cells.{PlainCell, Rings}
use Rattle.lvl_changed.specs.declared.arrays.Array.{Array}
use Rattle.lvl_changed.specs.declared.placements.Placement.{Placement}
use Rattle.lvl_changed.specs.inside.Arrays.{each_place, IsArrayOf, IsRebased}
use Rattle.lvl_changed.specs.inside.Placements.{PlacedCover, PlacementCovers}

plus_shifted : (p d e : Point) → shifted p (shifted d e) ≡ shifted (shifted p d) e
plus_shifted p d e = same_point _ _ (omega (arith, ints)) (omega (arith, ints))

one_way : (cells : List (PlainCell Rings)) (f g : Point → Placement) (xs ys : List Point) (l : Layer) (s : Square)
    → ((e : Point) → Contains xs e → (d : Point) × Contains ys d × (f e ≡ g d)) → PlacedCover cells (map f xs) l s
    → PlacedCover cells (map g ys) l s
one_way cells f g xs ys l s same covers =
    let P : Placement → Type 0 = PlacementCovers cells l s in
    let at = (Any-map P f xs).0 covers in
    let to = same at.1 (at.0, at.2, at.3) in
    (Any-map P g ys).1 (some_contained (λ e. P (g e)) ys to.0 to.1 (subst P to.2 at.4))

-- an array from another of its places on covers the same
pub rebased_covers : (cells : List (PlainCell Rings)) (a b : Array) → IsRebased a b → (l : Layer) (s : Square)
    → PlacedCover cells (each_place b) l s ↔ PlacedCover cells (each_place a) l s
rebased_covers cells a b same l s =
    let d : Point = same.0 in
    let place : Point → Placement =
    λ p. record { cell = a.cell; map = record { flip = a.by.flip; turn = a.by.turn; at = p } } in
    let old : Point → Placement = λ e. place (shifted a.by.at e) in
    let new : Point → Placement = λ e. place (shifted (shifted a.by.at d) e) in
    let twice : (e : Point) → old (shifted d e) ≡ new e = λ e. ap place (plus_shifted a.by.at d e) in
    subst (λ (x : Array). PlacedCover cells (each_place x) l s ↔ PlacedCover cells (each_place a) l s) (sym same.1) (
      one_way cells new old b.shifts a.shifts l s
          (λ e h. (shifted d e, (same.2 (shifted d e)).1 (e, h, refl), sym (twice e))),
      one_way cells old new a.shifts b.shifts l s
          (λ e h. let to = (same.2 e).0 h in (to.0, to.1, ap old to.2 ∙ twice to.0)),
    )

-- and is of the same reference
pub array_rebased : (cells : List (PlainCell Rings)) (i j : ℕ) (a b : Array) → IsRebased a b → IsArrayOf cells i j a
    → IsArrayOf cells i j b
array_rebased cells i j a b same of c r at there l s =
    let both = rebased_covers cells a b same l s in
    let whole = of c r at there l s in
    (λ x. whole.0 (both.0 x), λ x. both.1 (whole.1 x))
