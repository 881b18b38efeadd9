-- Layouts without references, and what is left of two of them.
use Rattle.std.proofs.Common.{◌≡◌, ◌↔◌, ◌∷◌, ℕ, zero, suc, List, [], Option, Some, slice_get, inl, inr}
use Rattle.std.proofs.Common.{refl, subst}
use Rattle.std.specs.Prelude.{IfSome}
use Rattle.std.proofs.lemmas.Option.{IfSome_then}
use Rattle.lvl_grid.specs.declared.point.Square.{Square}
use Rattle.lvl_grid.proofs.Anyone.{Any-nil}
use Rattle.lvl_names.specs.declared.layer.Layer.{Layer}
use Rattle.lvl_cells.specs.Cells.{PlainCell, PlainReference, PlainShape, Rings}
use Rattle.lvl_cells.specs.Checks.{Settled}
use Rattle.lvl_flat.specs.Flattened.{TopCovers}
use Rattle.lvl_flat.specs.inside.Visits.{PickCovers}
use Rattle.lvl_region.specs.declared.region.Side.{Side}
use Rattle.lvl_region.specs.Region.{IsAlone}
use Rattle.lvl_compare.specs.Tops.{Draws, DrawSame, IsFirstDifference}
use Rattle.lvl_view.specs.declared.map.LayerPair.{LayerPair}
use Rattle.lvl_view.specs.Moved.{IsMoved}
use Rattle.lvl_view.specs.Views.{target_of}
use Rattle.lvl_changed.specs.Changed.{DrawSameBut, IsChange}
use Rattle.lvl_changed.specs.declared.area.Area.{Area}
use Rattle.lvl_changed.specs.declared.changes.Changes.{Changes}
use Rattle.lvl_changed.specs.inside.Areas.{IsIn}
use Rattle.lvl_changed.specs.inside.Placements.{ReferencesCover}
use Rattle.lvl_changed.specs.inside.Figures.{AreLeft}
use Rattle.lvl_changed.specs.inside.Rests.{AreSameWhere}
use Rattle.lvl_changed.specs.inside.Shapes.{ShapesCover}
use Rattle.lvl_changed.proofs.Moving.{covers_both, moved_more}
use Rattle.lvl_changed.proofs.Unchanged.{moved_none}

-- a value at an index of a list of one value is this one
only : (c d : PlainCell Rings) (i : ℕ) → slice_get (c ∷ []) i ≡ Some d → slice_get (c ∷ []) i ≡ Some c
only c d zero at = refl
only c d (suc i) at = cc

-- no references cover nothing
no_references : (cells : List (PlainCell Rings)) (rs : List PlainReference) (l : Layer) (s : Square) → rs ≡ []
    → ReferencesCover cells rs l s → ⊥
no_references cells rs l s none c =
    Any-nil (PickCovers cells l s) (subst (λ qs. ReferencesCover cells qs l s) none c)

-- a top without references draws what its own shapes do
pub flat_covers : (x : Settled) (c : PlainCell Rings) → slice_get x.cells x.top ≡ Some c → c.references ≡ []
    → (l : Layer) (s : Square) → TopCovers x l s ↔ ShapesCover c.shapes l s
flat_covers x c at none l s =
    let both = covers_both x.cells x.top c at l s in (
      λ h. elim (both.0 h) [
        | inl b ↦ b
        | inr b ↦ absurd (no_references x.cells c.references l s none b)
      ],
      λ h. both.1 (inl h),
    )

-- the top of the only cell is this cell
pub top_of_one : (x : Settled) (c d : PlainCell Rings) → x.cells ≡ c ∷ [] → slice_get x.cells x.top ≡ Some d
    → slice_get x.cells x.top ≡ Some c
top_of_one x c d one at = rw one (only c d x.top (rw one at at))

-- what is left of two flat layouts, without the shapes that both have, says where these are the same
pub tops_where : (none pairs : List LayerPair) (first second x y : Settled) (c d : PlainCell Rings)
    (u v : List (PlainShape Rings)) → none ≡ [] → slice_get first.cells first.top ≡ Some c
    → slice_get second.cells second.top ≡ Some d → c.references ≡ [] → d.references ≡ []
    → AreLeft none c.shapes pairs d.shapes u → AreLeft pairs d.shapes none c.shapes v
    → ((l : Layer) (s : Square) → TopCovers x l s ↔ ShapesCover u l s)
    → ((l : Layer) (s : Square) → TopCovers y l s ↔ ShapesCover v l s)
    → AreSameWhere (TopCovers first) (IsMoved pairs (TopCovers second)) (TopCovers x) (TopCovers y)
tops_where none pairs first second x y c d u v is here there ours theirs mine their x_is y_is l s same =
    let top = flat_covers first c here ours l s in
    let other = flat_covers second d there theirs in
    let own = moved_none none is (ShapesCover c.shapes) l s in
    let to_second : IsMoved pairs (ShapesCover d.shapes) l s → IsMoved pairs (TopCovers second) l s =
    moved_more pairs (ShapesCover d.shapes) (TopCovers second) s s (λ k. (other k s).1) l in
    let to_shapes : IsMoved pairs (TopCovers second) l s → IsMoved pairs (ShapesCover d.shapes) l s =
    moved_more pairs (TopCovers second) (ShapesCover d.shapes) s s (λ k. (other k s).0) l in (
      λ h. to_second (elim (mine.held l s (own.1 (top.0 h))) [
        | inl m ↦ their.inside l s ((y_is l s).0 (same.0 ((x_is l s).1 m)))
        | inr m ↦ m
      ]),
      λ m. top.1 (own.0 (elim (their.held l s (to_shapes m)) [
        | inl n ↦ mine.inside l s ((x_is l s).0 (same.1 ((y_is l s).1 n)))
        | inr n ↦ n
      ])),
    )

-- and so under a view that maps no Layer
pub where_unmapped : (none : List LayerPair) (a b x y : Draws) → none ≡ [] → AreSameWhere a b x y
    → AreSameWhere a b x (IsMoved none y)
where_unmapped none a b x y is whole l s same =
    let unmapped = moved_none none is y l s in
    whole l s (λ h. unmapped.0 (same.0 h), λ h. same.1 (unmapped.1 h))

-- what holds of some values holds of the same ones
pub seen_alike : {X Y : Type 0} {x u : X} {y v : Y} (P : X → Y → Type 0) → x ≡ u → y ≡ v → P x y → P u v
seen_alike {u = u} {y = y} P a b p = subst (λ k. P u k) b (subst (λ k. P k y) a p)

-- what is left is within changes, so both layouts draw the same but for these
pub rest_within : (changes : Changes) (a b x y : Draws) → AreSameWhere a b x y
    → ((l : Layer) (s : Square) → (¬ IsChange changes l s) → ¬ x l s)
    → ((l : Layer) (s : Square) → (¬ IsChange changes l s) → ¬ y l s) → DrawSameBut changes a b
rest_within changes a b x y whole mine their l s out =
    whole l s (λ h. absurd (mine l s out h), λ h. absurd (their l s out h))

-- if what is left draws the same, both layouts do
pub same_where : (Seen : Square → Type 0) (a b x y : Draws) → AreSameWhere a b x y → DrawSame Seen x y
    → DrawSame Seen a b
same_where Seen a b x y whole same l s seen = whole l s (same l s seen)

-- the first difference of what is left is that of both layouts if they differ there
pub differ_where : (Seen : Square → Type 0) (a b x y : Draws) (l : Layer) (s : Square) (left side : Side)
    → AreSameWhere a b x y → IsFirstDifference Seen x y l s left → IsAlone (a l) (b l) s side
    → IsFirstDifference Seen a b l s side
differ_where Seen a b x y l s left side same first alone = record {
  seen = first.seen;
  alone = alone;
  least_layer = λ k before q shown. same k q (first.least_layer k before q shown);
  least_square = λ q shown before. same l q (first.least_square q shown before);
}

-- the changes that an area becomes have all that a top without references draws, if the area has
pub changes_have : (none : List LayerPair) (x : Settled) (c : PlainCell Rings) (area : Area) (found : Option Changes)
    → none ≡ [] → slice_get x.cells x.top ≡ Some c → c.references ≡ []
    → ((l : Layer) (s : Square) → (¬ IsIn area (target_of none l) s) → ¬ ShapesCover c.shapes l s)
    → IfSome found (λ changes. (l : Layer) (s : Square) → IsIn area l s → IsChange changes l s)
    → IfSome found (λ changes. (l : Layer) (s : Square) → (¬ IsChange changes l s) → ¬ TopCovers x l s)
changes_have none x c area found is at alone held has =
    IfSome_then found has
    (λ changes in_changes l s out h.
    let unmapped : target_of none l ≡ l = rw is refl in
    held l s (λ inside. out (in_changes l s (subst (λ (k : Layer). IsIn area k s) unmapped inside)))
    ((flat_covers x c at alone l s).0 h))
