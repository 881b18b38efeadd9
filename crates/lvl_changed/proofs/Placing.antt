-- What references and placements cover, outside of areas.
use Rattle.std.proofs.Common.{◌≡◌, ◌↔◌, ◌<◌, ◌+◌, ◌++◌, ◌∷◌, [], ℕ, List, Any, Contains, IsSomeAnd, Option, Some}
use Rattle.std.proofs.Common.{◌⊎◌, map, take, length, get_or, slice_get, inl, inr, sym, ap, ◌∙◌, subst}
use Rattle.std.proofs.Common.{false, pos}
use Rattle.std.proofs.lemmas.List.{append-nil, take_more, get_or_default}
use Rattle.std.proofs.lemmas.Option.{slice_get-get_or}
use Rattle.lvl_grid.specs.declared.map.Turn.TheVariants.{R0}
use Rattle.std.proofs.lemmas.List.Concat.{flat_map-append}
use Rattle.lvl_grid.specs.declared.point.Point.{Point}
use Rattle.lvl_grid.specs.declared.point.Square.{Square}
use Rattle.lvl_grid.specs.declared.map.Map.{Map}
use Rattle.lvl_grid.specs.Turn.{image_square}
use Rattle.lvl_grid.proofs.Anyone.{some_contained, Any-left, Any-right, Any-sides, Any-same, Any-map, Any-nil}
use Rattle.lvl_grid.specs.Winding.{SomeCovers}
use Rattle.lvl_names.specs.declared.layer.Layer.{Layer}
use Rattle.lvl_cells.specs.Cells.{PlainCell, PlainReference, Rings, map_at, cell_named}
use Rattle.lvl_cells.specs.Coverage.{CellCovers, PullsBack}
use Rattle.lvl_flat.specs.Flattened.{CoversAt}
use Rattle.lvl_flat.specs.inside.Visits.{Pick, picks, PickCovers}
use Rattle.lvl_view.specs.declared.map.LayerPair.{LayerPair}
use Rattle.lvl_view.specs.Moved.{IsMoved}
use Rattle.lvl_compare.specs.Tops.{Draws}
use Rattle.lvl_cells.specs.Checks.{HasReference, IsTargetOf}
use Rattle.lvl_changed.specs.declared.arrays.Array.{Array}
use Rattle.lvl_changed.specs.declared.found.Found.{Found}
use Rattle.lvl_changed.specs.declared.placements.Placement.{Placement}
use Rattle.lvl_changed.specs.declared.area.Area.{Area}
use Rattle.lvl_changed.specs.inside.Arrays.{as_reference, each_place, AddsArray, IsArrayOf}
use Rattle.lvl_changed.specs.inside.Finding.{IsFound, PartnerCovers}
use Rattle.lvl_changed.specs.inside.Placements.{placed, HaveSame, PlacedCover, PlacementCovers}
use Rattle.lvl_changed.specs.inside.Placements.{ReferencesCover}
use Rattle.lvl_view.specs.Views.{target_of}
use Rattle.lvl_changed.specs.inside.Areas.{AlikeOutside, HasImages, IsIn}
use Rattle.lvl_changed.proofs.Moving.{moved_more}

at_some : {X : Type 0} (P : X → Type 0) (o : Option X) (x : X) → o ≡ Some x → IsSomeAnd o P ↔ P x
at_some P o x e = (λ h. subst (λ q. IsSomeAnd q P) e h, λ p. subst (λ q. IsSomeAnd q P) (sym e) p)

both_ways : {A B C : Type 0} → A ↔ B → B ↔ C → A ↔ C
both_ways p q = (λ a. q.0 (p.0 a), λ c. p.1 (q.1 c))

turned_round : {A B : Type 0} → A ↔ B → B ↔ A
turned_round p = (p.1, p.0)

-- a reference at one of its places covers what its cell does there
pick_at : (cells : List (PlainCell Rings)) (k : ℕ) (c : PlainCell Rings) (r : PlainReference)
    → slice_get cells k ≡ Some c → cell_named cells r.cell ≡ Some c → (e : Point) (l : Layer) (s : Square)
    → PickCovers cells l s (r, e) ↔ PlacementCovers cells l s (record { cell = k; map = map_at r e })
pick_at cells k c r at named e l s =
    let P : PlainCell Rings → Type 0 = λ d. PullsBack (CellCovers SomeCovers cells l d) r s e in
    let here = at_some P (cell_named cells r.cell) c named in
    let there : (t : Square) → CoversAt cells k l t ↔ CellCovers SomeCovers cells l c t =
    λ t. at_some (λ d. CellCovers SomeCovers cells l d t) (slice_get cells k) c at in (
      λ h. let u = here.0 h in (u.0, u.1, (there u.0).1 u.2),
      λ u. here.1 (u.0, u.1, (there u.0).0 u.2),
    )

-- and at all of its places
pub reference_at : (cells : List (PlainCell Rings)) (k : ℕ) (c : PlainCell Rings) (r : PlainReference)
    → slice_get cells k ≡ Some c → cell_named cells r.cell ≡ Some c → (l : Layer) (s : Square)
    → Any (PickCovers cells l s) (map (λ e. (r, e)) r.shifts) ↔ PlacedCover cells (placed k r) l s
reference_at cells k c r at named l s =
    let to : Point → Placement = λ e. record { cell = k; map = map_at r e } in
    let pick : Point → Pick = λ e. (r, e) in
    both_ways (Any-map (PickCovers cells l s) pick r.shifts)
    (both_ways (Any-same (λ e. PickCovers cells l s (pick e)) (λ e. PlacementCovers cells l s (to e)) r.shifts
    (λ e. pick_at cells k c r at named e l s))
    (turned_round (Any-map (PlacementCovers cells l s) to r.shifts)))

-- a square whose image is outside of the area is outside of the area of the cell that is placed
inner_out : (m : Map) (held all : Area) (l : Layer) (s t : Square) → HasImages m held all → image_square m t ≡ s
    → (¬ IsIn all l s) → ¬ IsIn held l t
inner_out m held all l s t has is out inner = out (subst (λ q. IsIn all l q) is (has.has l t inner))

-- outside of the area a cell of the first library covers at one place what its partner does there
placement_alike : (pairs : List LayerPair) (ours theirs : List (PlainCell Rings)) (k n : ℕ) (f : Found) (m : Map)
    (all : Area) → f.partner ≡ Some n → IsFound pairs ours theirs k f → HasImages m f.area all → (l : Layer)
    (s : Square) → (¬ IsIn all l s)
    → PlacementCovers ours l s (record { cell = k; map = m })
    ↔ IsMoved pairs (λ j q. PlacementCovers theirs j q (record { cell = n; map = m })) l s
placement_alike pairs ours theirs k n f m all partner found has l s out =
    let same : (t : Square) → image_square m t ≡ s
    → CoversAt ours k l t ↔ IsMoved pairs (CoversAt theirs n) l t =
    λ t is. subst (λ o. CoversAt ours k l t ↔ PartnerCovers pairs theirs o l t) partner
    (found l t (inner_out m f.area all l s t has is out)) in (
      λ u. let there = (same u.0 u.1).0 u.2 in
          record { source = there.source; is_target = there.is_target; covers = (u.0, u.1, there.covers) },
      λ moved. let u = moved.covers in (
        u.0,
        u.1,
        (same u.0 u.1).1
            (record { source = moved.source; is_target = moved.is_target; covers = u.2 }),
      ),
    )

-- partners cover the same outside of the area at all places of a reference
pub places_alike : (pairs : List LayerPair) (ours theirs : List (PlainCell Rings)) (k n : ℕ) (f : Found)
    (r : PlainReference) (all : Area) → f.partner ≡ Some n → IsFound pairs ours theirs k f
    → ((e : Point) → Contains r.shifts e → HasImages (map_at r e) f.area all)
    → AlikeOutside all (PlacedCover ours (placed k r)) (IsMoved pairs (PlacedCover theirs (placed n r)))
places_alike pairs ours theirs k n f r all partner found has l s out =
    let mine : Point → Placement = λ e. record { cell = k; map = map_at r e } in
    let other : Point → Placement = λ e. record { cell = n; map = map_at r e } in
    let each : (e : Point) → Contains r.shifts e
    → PlacementCovers ours l s (mine e) ↔ IsMoved pairs (λ j q. PlacementCovers theirs j q (other e)) l s =
    λ e there. placement_alike pairs ours theirs k n f (map_at r e) all partner found (has e there) l s out in (
      λ a.
          let at = (Any-map (PlacementCovers ours l s) mine r.shifts).0 a in
          let there : Contains r.shifts at.1 = (at.0, at.2, at.3) in
          moved_more pairs (λ j q. PlacementCovers theirs j q (other at.1)) (PlacedCover theirs (placed n r)) s s
          (λ j p. (Any-map (PlacementCovers theirs j s) other r.shifts).1
          (some_contained (λ e. PlacementCovers theirs j s (other e)) r.shifts at.1 there p)) l
          ((each at.1 there).0 at.4),
      λ moved.
          let at = (Any-map (PlacementCovers theirs moved.source s) other r.shifts).0 moved.covers in
          let there : Contains r.shifts at.1 = (at.0, at.2, at.3) in
          (Any-map (PlacementCovers ours l s) mine r.shifts).1
          (some_contained (λ e. PlacementCovers ours l s (mine e)) r.shifts at.1 there
          ((each at.1 there).1
          (record { source = moved.source; is_target = moved.is_target; covers = at.4 }))),
    )

picks_more : (rs : List PlainReference) (j : ℕ) (r : PlainReference) → j < length rs → r ≡ get_or rs j r
    → picks (take (j + 1) rs) ≡ picks (take j rs) ++ map (λ e. (r, e)) r.shifts
picks_more rs j r lt is =
    let f : PlainReference → List Pick = λ q. map (λ e. (q, e)) q.shifts in
    ap picks (take_more rs j r lt)
    ∙ (flat_map-append f (take j rs) (get_or rs j r ∷ [])
    ∙ (ap (λ xs. picks (take j rs) ++ xs) (append-nil (f (get_or rs j r)))
    ∙ ap (λ q. picks (take j rs) ++ f q) (sym is)))

no_reference : PlainReference
no_reference = record { cell = []; flip = false; turn = R0; at = record { x = pos 0; y = pos 0 }; shifts = [] }

-- what one more reference covers, which an array does too
pub references_more : (cells : List (PlainCell Rings)) (i j : ℕ) (c : PlainCell Rings) (a : Array)
    → slice_get cells i ≡ Some c → j < length c.references → IsArrayOf cells i j a → (l : Layer) (s : Square)
    → ReferencesCover cells (take (j + 1) c.references) l s
    ↔ (ReferencesCover cells (take j c.references) l s ⊎ PlacedCover cells (each_place a) l s)
references_more cells i j c a at low is l s =
    let P : Pick → Type 0 = PickCovers cells l s in
    let rs : List PlainReference = c.references in
    let r : PlainReference = get_or rs j no_reference in
    let one : r ≡ get_or rs j r = get_or_default rs j no_reference r low in
    let last : List Pick = map (λ e. (r, e)) r.shifts in
    let here : PlacedCover cells (each_place a) l s ↔ Any P last =
    subst (λ (ps : List Pick). PlacedCover cells (each_place a) l s ↔ Any P ps) (append-nil last)
    (is c r at (slice_get-get_or rs j no_reference low) l s) in
    subst (λ xs. Any P xs ↔ (Any P (picks (take j rs)) ⊎ PlacedCover cells (each_place a) l s))
    (sym (picks_more rs j r low one)) (
      λ x. elim (Any-sides P (picks (take j rs)) last x) [ inl b ↦ inl b | inr b ↦ inr (here.1 b) ],
      λ e. elim e [
        | inl b ↦ Any-left P (picks (take j rs)) last b
        | inr b ↦ Any-right P (picks (take j rs)) last (here.0 b)
      ],
    )

-- the cell at an index has the reference that some cell there has
pub reference_of : (cells : List (PlainCell Rings)) (i j : ℕ) (c : PlainCell Rings) → HasReference cells i j
    → slice_get cells i ≡ Some c → j < length c.references
reference_of cells i j c has at =
    let both : Some has.0 ≡ Some c = sym has.1 ∙ at in
    let one : has.0 ≡ c = cc in
    subst (λ (d : PlainCell Rings). j < length d.references) one has.2

-- what is placed has another array's places and the partner of its cell
pub same_more : (pairs : List LayerPair) (ours theirs : List (PlainCell Rings)) (i k j : ℕ) (c d : PlainCell Rings)
    (a b : Array) (f : Found) (all : Area) → slice_get ours i ≡ Some c → j < length c.references
    → slice_get theirs k ≡ Some d → j < length d.references → IsArrayOf ours i j a → IsArrayOf theirs k j b
    → f.partner ≡ Some b.cell → as_reference b ≡ as_reference a → IsFound pairs ours theirs a.cell f
    → ((e : Point) → Contains a.shifts e → HasImages (map_at (as_reference a) e) f.area all)
    → AlikeOutside all (ReferencesCover ours (take j c.references))
    (IsMoved pairs (ReferencesCover theirs (take j d.references)))
    → AlikeOutside all (ReferencesCover ours (take (j + 1) c.references))
    (IsMoved pairs (ReferencesCover theirs (take (j + 1) d.references)))
same_more pairs ours theirs i k j c d a b f all at low there other_low is other_is partner places found has before l s out =
    let whole : Draws = ReferencesCover theirs (take (j + 1) d.references) in
    let mine = references_more ours i j c a at low is l s in
    let other : (n : Layer) → whole n s
    ↔ (ReferencesCover theirs (take j d.references) n s ⊎ PlacedCover theirs (each_place b) n s) =
    λ n. references_more theirs k j d b there other_low other_is n s in
    let earlier = before l s out in
    let last : PlacedCover ours (each_place a) l s ↔ IsMoved pairs (PlacedCover theirs (each_place b)) l s =
    subst
    (λ (r : PlainReference). PlacedCover ours (each_place a) l s ↔ IsMoved pairs (PlacedCover theirs (placed b.cell r)) l s)
    (sym places) (places_alike pairs ours theirs a.cell b.cell f (as_reference a) all partner found has l s out)
    in (
      λ x. elim (mine.0 x) [
        | inl y ↦
            moved_more pairs (ReferencesCover theirs (take j d.references)) whole s s (λ n h. (other n).1 (inl h)) l
            (earlier.0 y)
        | inr y ↦
            moved_more pairs (PlacedCover theirs (each_place b)) whole s s (λ n h. (other n).1 (inr h)) l (last.0 y)
      ],
      λ m. elim ((other m.source).0 m.covers) [
        | inl h ↦ mine.1 (inl (earlier.1 (record { source = m.source; is_target = m.is_target; covers = h })))
        | inr h ↦ mine.1 (inr (last.1 (record { source = m.source; is_target = m.is_target; covers = h })))
      ],
    )

-- no references of either
pub same_none : (pairs : List LayerPair) (ours theirs : List (PlainCell Rings)) (all : Area)
    → AlikeOutside all (ReferencesCover ours []) (IsMoved pairs (ReferencesCover theirs []))
same_none pairs ours theirs all l s out = (
  λ a. absurd (Any-nil (PickCovers ours l s) a),
  λ m. absurd (Any-nil (PickCovers theirs m.source s) m.covers),
)

-- what a cell's references place, with one more reference
pub own_more : (cells : List (PlainCell Rings)) (i j : ℕ) (c : PlainCell Rings) (ps new : List Placement) (a : Array)
    → slice_get cells i ≡ Some c → j < length c.references → IsArrayOf cells i j a → AddsArray ps new a → (l : Layer)
    (s : Square) → PlacedCover cells ps l s ↔ ReferencesCover cells (take j c.references) l s
    → PlacedCover cells new l s ↔ ReferencesCover cells (take (j + 1) c.references) l s
own_more cells i j c ps new a at low is adds l s before =
    let mine = references_more cells i j c a at low is l s in
    let both = adds cells l s in (
      λ x. elim (both.0 x) [ inl b ↦ mine.1 (inl (before.0 b)) | inr b ↦ mine.1 (inr b) ],
      λ x. elim (mine.0 x) [ inl b ↦ both.1 (inl (before.1 b)) | inr b ↦ both.1 (inr b) ],
    )

pub own_none : (cells : List (PlainCell Rings)) (l : Layer) (s : Square)
    → PlacedCover cells [] l s ↔ ReferencesCover cells [] l s
own_none cells l s =
    (λ a. absurd (Any-nil (PlacementCovers cells l s) a), λ a. absurd (Any-nil (PickCovers cells l s) a))

-- the same placements cover the same
pub same_cover : (cells : List (PlainCell Rings)) (ps qs : List Placement) → HaveSame ps qs → (l : Layer) (s : Square)
    → PlacedCover cells ps l s → PlacedCover cells qs l s
same_cover cells ps qs h l s a =
    some_contained (PlacementCovers cells l s) qs a.1 ((h a.1).0 (a.0, a.2, a.3)) a.4

-- the area has what a placement covers, if it has the images of the squares that its cell covers
pub placement_held : (pairs : List LayerPair) (cells : List (PlainCell Rings)) (w : Area) (p : Placement)
    → ((l : Layer) (t : Square) → CoversAt cells p.cell l t → IsIn w (target_of pairs l) (image_square p.map t))
    → (l : Layer) (s : Square) → PlacementCovers cells l s p → IsIn w (target_of pairs l) s
placement_held pairs cells w p held l s covers =
    subst (λ q. IsIn w (target_of pairs l) q) covers.1 (held l covers.0 covers.2)

-- the reference to a cell covers what the array of that cell does
pub array_of_reference : (cells : List (PlainCell Rings)) (i j k : ℕ) (q : PlainReference) (a : Array)
    (t : IsTargetOf cells i j k) → slice_get t.cell.references j ≡ Some q
    → a ≡ record {
      cell = k;
      by = record { flip = q.flip; turn = q.turn; at = q.at };
      shifts = q.shifts;
    } → IsArrayOf cells i j a
array_of_reference cells i j k q a t here is c r at there l s =
    let both : Some t.cell ≡ Some c = sym t.cell_is ∙ at in
    let one : t.cell ≡ c = cc in
    let refs : Some q ≡ Some r = sym here ∙ (ap (λ (b : PlainCell Rings). slice_get b.references j) one ∙ there) in
    let same : q ≡ r = cc in
    let known : Some t.reference ≡ Some q = sym t.reference_is ∙ here in
    let this : t.reference ≡ q = cc in
    let named : cell_named cells q.cell ≡ Some t.target =
    ap (λ (x : PlainReference). cell_named cells x.cell) (sym this) ∙ t.named in
    let last : List Pick = map (λ e. (q, e)) q.shifts in
    let covers : PlacedCover cells (placed k q) l s ↔ ReferencesCover cells (q ∷ []) l s =
    subst (λ (ps : List Pick). PlacedCover cells (placed k q) l s ↔ Any (PickCovers cells l s) ps)
    (sym (append-nil last)) (turned_round (reference_at cells k t.target q t.target_is named l s)) in
    let mine : PlacedCover cells (each_place a) l s ↔ ReferencesCover cells (q ∷ []) l s =
    subst (λ (b : Array). PlacedCover cells (each_place b) l s ↔ ReferencesCover cells (q ∷ []) l s) (sym is) covers in
    subst (λ (x : PlainReference). PlacedCover cells (each_place a) l s ↔ ReferencesCover cells (x ∷ []) l s) same mine
