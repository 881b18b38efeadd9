-- Areas that have all that remains.
use Rattle.std.proofs.Common.{◌≡◌, [], List, inl, inr, subst}
use Rattle.std.proofs.Common.{Result, Ok, Err}
use Rattle.std.specs.Prelude.{OnOk}
use Rattle.lvl_grid.specs.declared.point.Square.{Square}
use Rattle.lvl_names.specs.declared.layer.Layer.{Layer}
use Rattle.lvl_cells.specs.Cells.{PlainCell, Rings}
use Rattle.lvl_view.specs.declared.map.LayerPair.{LayerPair}
use Rattle.lvl_view.specs.Moved.{IsMoved}
use Rattle.lvl_view.specs.Views.{target_of}
use Rattle.lvl_compare.specs.declared.pair.Pair.{Pair}
use Rattle.lvl_compare.specs.Tops.{Draws}
use Rattle.lvl_changed.specs.declared.area.Area.{Area}
use Rattle.lvl_changed.specs.declared.arrays.Array.{Array}
use Rattle.lvl_changed.specs.declared.placed.Placed.{Placed}
use Rattle.lvl_changed.specs.declared.placements.Placement.{Placement}
use Rattle.lvl_changed.specs.declared.remains.Rests.{Rests}
use Rattle.lvl_changed.specs.inside.Areas.{AlikeOutside, Grows, IsIn}
use Rattle.lvl_changed.specs.inside.Arrays.{all_places, every_place}
use Rattle.lvl_changed.specs.inside.Placements.{PlacedCover, PlacementCovers}
use Rattle.lvl_changed.specs.inside.Remains.{OursDraw, TheirsDraw}
use Rattle.lvl_changed.specs.inside.Shapes.{ShapesCover}
use Rattle.lvl_changed.proofs.Arraying.{any_either}

-- nothing is covered outside of the area, with the Layers mapped
abbrev pub Misses : Area → List LayerPair → Draws → Type 0
Misses w pairs a = (l : Layer) (s : Square) → ¬ IsIn w (target_of pairs l) s → ¬ a l s

-- so nothing is covered under the map
pub moved_misses : (w : Area) (pairs : List LayerPair) (a : Draws) → Misses w pairs a → (l : Layer) (s : Square)
    → ¬ IsIn w l s → ¬ IsMoved pairs a l s
moved_misses w pairs a misses l s out m =
    misses m.source s (λ h. out (subst (λ k. IsIn w k s) m.is_target h)) m.covers

-- placements and arrays cover nothing
pub placed_misses : (cells : List (PlainCell Rings)) (pairs : List LayerPair) (v w : Area) (p : Placed)
    (ps : List Placement) (as' : List Array) → ps ≡ p.singles.items → as' ≡ p.arrays.items
    → Misses v pairs (PlacedCover cells ps) → Misses w pairs (PlacedCover cells (every_place as')) → Grows v w
    → Misses w pairs (PlacedCover cells (all_places p))
placed_misses cells pairs v w p ps as' singles arrays one two wide l s out x =
    elim ((any_either (PlacementCovers cells l s) p.singles.items (every_place p.arrays.items)).0 x) [
      | inl y ↦
          subst (λ qs. Misses v pairs (PlacedCover cells qs)) singles one l s
          (λ h. out (wide.has (target_of pairs l) s h)) y
      | inr y ↦ subst (λ bs. Misses w pairs (PlacedCover cells (every_place bs))) arrays two l s out y
    ]

-- two facts that hold if there is no error
pub on_ok_both : {T E P Q R : Type 0} (r : Result T E) → (P → Q → R) → OnOk r P → OnOk r Q → OnOk r R
on_ok_both (Ok x) f p q = f p q
on_ok_both (Err e) f p q = tt

-- what remains covers the same outside of an area that has all that is placed, if its shapes do
pub rests_alike : (pair : Pair) (r : Rests) (whole : List LayerPair) (v1 v2 v3 w : Area) → whole ≡ [] → Grows v1 v2
    → Grows v2 v3 → Grows v3 w
    → Misses v1 whole (PlacedCover pair.first.now.cells (every_place r.alone.items))
    → Misses v2 pair.view.now.pairs (PlacedCover pair.second.now.cells (all_places r.ours.placed))
    → Misses v3 pair.view.now.pairs (PlacedCover pair.second.now.cells (all_places r.theirs.placed))
    → AlikeOutside w (ShapesCover r.ours.shapes) (ShapesCover r.theirs.shapes)
    → AlikeOutside w (OursDraw pair r) (TheirsDraw pair r)
rests_alike pair r whole v1 v2 v3 w no_pairs one two three alone ours theirs shapes l s out =
    let cells : List (PlainCell Rings) = pair.second.now.cells in
    let pairs : List LayerPair = pair.view.now.pairs in
    let out3 : ¬ IsIn v3 l s = λ h. out (three.has l s h) in
    let out2 : ¬ IsIn v2 l s = λ h. out3 (two.has l s h) in
    let out1 : ¬ IsIn v1 l s = λ h. out2 (one.has l s h) in
    let none = moved_misses v2 pairs (PlacedCover cells (all_places r.ours.placed)) ours l s out2 in
    let other = moved_misses v3 pairs (PlacedCover cells (all_places r.theirs.placed)) theirs l s out3 in
    let single : ¬ PlacedCover pair.first.now.cells (every_place r.alone.items) l s =
    subst (λ ps. Misses v1 ps (PlacedCover pair.first.now.cells (every_place r.alone.items))) no_pairs alone l s out1 in (
      λ x. elim x [
        | inl y ↦ elim y [ inl b ↦ inl ((shapes l s out).0 b) | inr b ↦ absurd (none b) ]
        | inr y ↦ absurd (single y)
      ],
      λ x. elim x [ inl y ↦ inl (inl ((shapes l s out).1 y)) | inr y ↦ absurd (other y) ],
    )
