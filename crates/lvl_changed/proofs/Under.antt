-- What is under an array: the images of squares, at its places.
use Rattle.std.proofs.Common.{◌≡◌, ◌↔◌, ◌⊎◌, ◌<◌, ◌+◌, ◌++◌, ◌∷◌, [], ℕ, List, Any, Bool, Contains, take, drop, length, get_or, map, slice_get, Some}
use Rattle.std.proofs.Common.{inl, inr, refl, sym, ap, ◌∙◌, subst, arith, true, false}
use Rattle.std.proofs.lemmas.Int.{ints, clamps}
use Rattle.std.proofs.lemmas.List.{take-append-drop}
use Rattle.std.proofs.lemmas.List.Concat.{flat_map-append}
use Rattle.lvl_grid.specs.declared.point.Point.{Point}
use Rattle.lvl_grid.specs.declared.point.Square.{Square}
use Rattle.lvl_grid.specs.declared.map.Map.{Map}
use Rattle.lvl_grid.specs.declared.map.Turn.TheVariants.{R0}
use Rattle.lvl_grid.specs.Placed.{moved_square, IsPlaceOfCovered}
use Rattle.lvl_grid.specs.Turn.{image, image_square, shifted}
use Rattle.lvl_grid.specs.Winding.{Covers, SomeCovers}
use Rattle.lvl_grid.proofs.Anyone.{some_contained, Any-left, Any-map, Any-nil, Any-push, Any-uncons}
use Rattle.lvl_grid.proofs.Composing.{same_point}
use Rattle.lvl_grid.proofs.Squares.{image_square-composed, same_square}
use Rattle.lvl_names.specs.declared.layer.Layer.{Layer}
use Rattle.lvl_cells.specs.Cells.{PlainCell, PlainReference, PlainShape, Rings, map_at, shape_at}
use Rattle.lvl_cells.specs.Coverage.{moved_back, ShapeCovers}
use Rattle.lvl_flat.proofs.Covering.{back_and_there, there_and_back}
use Rattle.lvl_flat.specs.Flattened.{CoversAt}
use Rattle.lvl_flat.specs.inside.Visits.{Pick, PickCovers, picks}
use Rattle.lvl_view.specs.declared.map.LayerPair.{LayerPair}
use Rattle.lvl_view.specs.Moved.{IsMoved}
use Rattle.lvl_view.specs.Views.{target_of}
use Rattle.lvl_compare.specs.Tops.{Draws}
use Rattle.lvl_changed.specs.declared.arrays.Array.{Array}
use Rattle.lvl_changed.specs.declared.placements.Placement.{Placement}
use Rattle.lvl_changed.specs.inside.Arrays.{as_reference, each_place, every_place, IsArrayOf, IsRebased, IsThrough}
use Rattle.lvl_changed.specs.inside.Opening.{Adds, IsUnder, origin, RingCovers}
use Rattle.lvl_changed.specs.inside.Placements.{PlacedCover, PlacementCovers, ReferencesCover}
use Rattle.lvl_changed.specs.inside.Shapes.{FigureCovers, ShapesCover}
use Rattle.lvl_changed.specs.inside.Shifts.{AreSums, turned_by}
use Rattle.lvl_changed.proofs.Arraying.{array_added, moved_image}
use Rattle.lvl_changed.proofs.Leaving.{rings_more, shapes_more}
use Rattle.lvl_changed.proofs.Moving.{covers_both}
use Rattle.lvl_changed.proofs.Placing.{references_more}
use Rattle.lvl_changed.proofs.Rebased.{rebased_covers}
use Rattle.lvl_changed.proofs.Sums.{composed_at}

-- more is under an array where more is covered
pub under_more : (a : Array) (P Q : Square → Type 0) (s : Square) → ((t : Square) → P t → Q t) → IsUnder a P s
    → IsUnder a Q s
under_more a P Q s more u = (u.0, u.1, u.2, u.3, (u.4.0, u.4.1, more u.4.0 u.4.2))

-- one of two
pub under_either : (a : Array) (P Q : Square → Type 0) (s : Square) → IsUnder a (λ t. P t ⊎ Q t) s
    → IsUnder a P s ⊎ IsUnder a Q s
under_either a P Q s u = elim u.4.2 [
  | inl p ↦ inl (u.0, u.1, u.2, u.3, (u.4.0, u.4.1, p))
  | inr q ↦ inr (u.0, u.1, u.2, u.3, (u.4.0, u.4.1, q))
]

-- what an array covers is under it
pub array_under : (cells : List (PlainCell Rings)) (a : Array) (l : Layer) (s : Square)
    → PlacedCover cells (each_place a) l s ↔ IsUnder a (CoversAt cells a.cell l) s
array_under cells a l s =
    let to : Point → Placement = λ e. record { cell = a.cell; map = map_at (as_reference a) e } in
    Any-map (PlacementCovers cells l s) to a.shifts

-- the map that moves nothing
abbrev still : Map
still = record { flip = false; turn = R0; at = origin }

still_image : (by : Map) (p : Point) → image by p ≡ image by (image still p)
still_image by p = ap (image by) (same_point _ _ (omega (arith, ints)) (omega (arith, ints)))

moved_still : (g : Point) (u : Square)
    → image_square (record { flip = false; turn = R0; at = shifted origin g }) u ≡ moved_square g u
moved_still g u = same_square _ _ (omega (arith, ints, clamps)) (omega (arith, ints, clamps))

unmoved_square : (u : Square) → moved_square origin u ≡ u
unmoved_square u = same_square _ _ (omega (arith, ints)) (omega (arith, ints))

-- a square moved by g and placed by an array at its shift f
placed_square : (a : Array) (f g : Point) (u : Square)
    → image_square (map_at (as_reference a) f) (moved_square g u)
    ≡ moved_square (shifted f (turned_by a.by g)) (image_square a.by u)
placed_square a f g u =
    let low : Map = record { flip = false; turn = R0; at = shifted origin g } in
    let whole : Map = record { flip = a.by.flip; turn = a.by.turn; at = shifted a.by.at (shifted f (turned_by a.by g)) } in
    let both : image_square whole u ≡ image_square (map_at (as_reference a) f) (image_square low u) =
    image_square-composed (map_at (as_reference a) f) low whole
    (composed_at a.by still a.by (still_image a.by) f g) u in
    ap (image_square (map_at (as_reference a) f)) (sym (moved_still g u))
    ∙ (sym both ∙ moved_image a.by (shifted f (turned_by a.by g)) u)

-- a ring that is placed and moved by the sums of shifts covers what is under the array
pub ring_under : (a : Array) (ring gs sums : List Point) → AreSums a.by a.shifts gs sums → (s : Square)
    → RingCovers a.by ring sums s ↔ IsUnder a (λ t. Any (λ g. Covers ring (moved_back g t)) gs) s
ring_under a ring gs sums is s =
    let P : Point → Type 0 = λ e. IsPlaceOfCovered a.by origin ring (moved_back e s) in
    let Q : Point → Type 0 =
    λ f. (t : Square) × (image_square (map_at (as_reference a) f) t ≡ s) × Any (λ g. Covers ring (moved_back g t)) gs in (
      λ c.
          let w = c.4 in
          let sum = is.only c.1 (c.0, c.2, c.3) in
          let f : Point = sum.0 in
          let g : Point = sum.1 in
          let u : Square = w.from in
          let here : image_square a.by u ≡ moved_back c.1 s =
          ap (image_square a.by) (sym (unmoved_square u)) ∙ w.place in
          let there : image_square (map_at (as_reference a) f) (moved_square g u) ≡ s =
          placed_square a f g u
          ∙ (ap (λ (e : Point). moved_square e (image_square a.by u)) (sym sum.4)
          ∙ (ap (moved_square c.1) here ∙ back_and_there c.1 s)) in
          some_contained Q a.shifts f sum.2 (
            moved_square g u,
            there,
            some_contained (λ (d : Point). Covers ring (moved_back d (moved_square g u))) gs g sum.3
                (subst (λ q. Covers ring q) (sym (there_and_back g u)) w.covered),
          ),
      λ h.
          let f : Point = h.1 in
          let t : Square = h.4.0 in
          let d = h.4.2 in
          let g : Point = d.1 in
          let e : Point = shifted f (turned_by a.by g) in
          let u : Square = moved_back g t in
          let there : moved_square e (image_square a.by u) ≡ s =
          sym (placed_square a f g u)
          ∙ (ap (image_square (map_at (as_reference a) f)) (back_and_there g t) ∙ h.4.1) in
          some_contained P sums e (is.each f g (h.0, h.2, h.3) (d.0, d.2, d.3)) (record {
            from = u;
            place =
                ap (image_square a.by) (unmoved_square u)
                ∙ (sym (there_and_back e (image_square a.by u)) ∙ ap (moved_back e) there);
            covered = d.4;
          }),
    )

-- a shape with these rings
abbrev pub with_rings : PlainShape Rings → Rings → PlainShape Rings
with_rings h rings = record { layer = h.layer; figure = rings; shifts = h.shifts }

only_ring : (r : List Point) (q : Square) → SomeCovers (r ∷ []) q → Covers r q
only_ring r q c =
    elim (Any-uncons (λ (x : List Point). Covers x q) r [] c)
    [ inl d ↦ d | inr d ↦ absurd (Any-nil (λ (x : List Point). Covers x q) d) ]

-- one more ring of a figure
pub figure_more : (h : PlainShape Rings) (j : ℕ) (r : List Point) (t : Square) → j < length h.figure
    → r ≡ get_or h.figure j []
    → FigureCovers (with_rings h (take (j + 1) h.figure)) t
    ↔ (FigureCovers (with_rings h (take j h.figure)) t ⊎ Any (λ g. Covers r (moved_back g t)) h.shifts)
figure_more h j r t low is =
    let both = rings_more h h.figure j r h.layer t low is in (
      λ c. elim (both.0 (refl, c)) [
        | inl d ↦ inl d.1
        | inr d ↦ let at = d.1 in inr (at.0, at.1, at.2, at.3, only_ring r (moved_back at.1 t) at.4)
      ],
      λ e. elim e [
        | inl d ↦ (both.1 (inl (refl, d))).1
        | inr d ↦
            (both.1 (inr (
              refl,
              (
                d.0,
                d.1,
                d.2,
                d.3,
                (0, r, omega arith, refl, d.4),
              ),
            ))).1
      ],
    )

-- a figure covers what some of its rings do
pub figure_within : (h : PlainShape Rings) (k : ℕ) (t : Square) → FigureCovers (with_rings h (take k h.figure)) t
    → FigureCovers h t
figure_within h k t c =
    let P : List Point → Type 0 = λ r. Covers r (moved_back c.1 t) in (
      c.0,
      c.1,
      c.2,
      c.3,
      subst (λ (rs : Rings). Any P rs) (take-append-drop k h.figure)
          (Any-left P (take k h.figure) (drop k h.figure) c.4),
    )

-- shapes cover what some of them do
pub shapes_within : (hs : List (PlainShape Rings)) (k : ℕ) (l : Layer) (t : Square) → ShapesCover (take k hs) l t
    → ShapesCover hs l t
shapes_within hs k l t c =
    subst (λ (xs : List (PlainShape Rings)). ShapesCover xs l t) (take-append-drop k hs) (Any-left _ (take k hs) (drop k hs) c)

-- one more shape, on the Layer to which its own is mapped
pub shapes_under : (pairs : List LayerPair) (a : Array) (hs : List (PlainShape Rings)) (i : ℕ) (on : Layer)
    → i < length hs → on ≡ target_of pairs (shape_at hs i).layer → (l : Layer) (s : Square)
    → IsMoved pairs (λ k. IsUnder a (ShapesCover (take (i + 1) hs) k)) l s
    ↔ (IsMoved pairs (λ k. IsUnder a (ShapesCover (take i hs) k)) l s
    ⊎ ((on ≡ l) × IsUnder a (FigureCovers (shape_at hs i)) s))
shapes_under pairs a hs i on low target l s =
    let h : PlainShape Rings = shape_at hs i in (
      λ m.
          let u = m.covers in
          elim ((shapes_more hs i m.source u.4.0 low).0 u.4.2) [
            | inl c ↦
                inl (record {
                  source = m.source;
                  is_target = m.is_target;
                  covers = (u.0, u.1, u.2, u.3, (u.4.0, u.4.1, c));
                })
            | inr c ↦
                inr (
                  target ∙ (ap (target_of pairs) c.0 ∙ m.is_target),
                  (u.0, u.1, u.2, u.3, (u.4.0, u.4.1, c.1)),
                )
          ],
      λ e. elim e [
        | inl m ↦
            record {
              source = m.source;
              is_target = m.is_target;
              covers =
                  under_more a (ShapesCover (take i hs) m.source) (ShapesCover (take (i + 1) hs) m.source) s
                  (λ t c. (shapes_more hs i m.source t low).1 (inl c)) m.covers;
            }
        | inr both ↦
            record {
              source = h.layer;
              is_target = sym target ∙ both.0;
              covers =
                  under_more a (FigureCovers h) (ShapesCover (take (i + 1) hs) h.layer) s
                  (λ t c. (shapes_more hs i h.layer t low).1 (inr (refl, c))) both.1;
            }
      ],
    )

-- what an array of the cell of another places
pub through_under : (cells : List (PlainCell Rings)) (a inner outer : Array) → IsThrough a inner outer → (l : Layer)
    (s : Square) → PlacedCover cells (each_place outer) l s ↔ IsUnder a (PlacedCover cells (each_place inner) l) s
through_under cells a inner outer is l s =
    let P : Square → Placement → Type 0 = λ q p. PlacementCovers cells l q p in
    let low : Point → Placement = λ e. record { cell = inner.cell; map = map_at (as_reference inner) e } in
    let high : Point → Placement = λ e. record { cell = outer.cell; map = map_at (as_reference outer) e } in
    let Q : Point → Type 0 =
    λ f. (t : Square) × (image_square (map_at (as_reference a) f) t ≡ s) × PlacedCover cells (each_place inner) l t in
    let image_is : (f g : Point) (u : Square)
    → image_square (map_at (as_reference outer) (shifted f (turned_by a.by g))) u
    ≡ image_square (map_at (as_reference a) f) (image_square (map_at (as_reference inner) g) u) =
    λ f g u. image_square-composed (map_at (as_reference a) f) (map_at (as_reference inner) g)
    (map_at (as_reference outer) (shifted f (turned_by a.by g))) (composed_at a.by inner.by outer.by is.by f g) u in (
      λ x.
          let e = (Any-map (P s) high outer.shifts).0 x in
          let sum = is.shifts.only e.1 (e.0, e.2, e.3) in
          let f : Point = sum.0 in
          let g : Point = sum.1 in
          let u = subst (λ (d : Point). P s (high d)) sum.4 e.4 in
          let t : Square = image_square (map_at (as_reference inner) g) u.0 in
          let there : PlacedCover cells (each_place inner) l t =
          (Any-map (P t) low inner.shifts).1
          (some_contained (λ d. P t (low d)) inner.shifts g sum.3
          (u.0, refl, subst (λ k. CoversAt cells k l u.0) is.cell u.2)) in
          some_contained Q a.shifts f sum.2 (t, sym (image_is f g u.0) ∙ u.1, there),
      λ e.
          let f : Point = e.1 in
          let t : Square = e.4.0 in
          let d = (Any-map (P t) low inner.shifts).0 e.4.2 in
          let g : Point = d.1 in
          let sum : Contains outer.shifts (shifted f (turned_by a.by g)) =
          is.shifts.each f g (e.0, e.2, e.3) (d.0, d.2, d.3) in
          (Any-map (P s) high outer.shifts).1
          (some_contained (λ b. P s (high b)) outer.shifts (shifted f (turned_by a.by g)) sum (
            d.4.0,
            image_is f g d.4.0 ∙ (ap (image_square (map_at (as_reference a) f)) d.4.1 ∙ e.4.1),
            subst (λ k. CoversAt cells k l d.4.0) (sym is.cell) d.4.2,
          )),
    )

-- nothing is added, whatever was to be
pub adds_none : (old added : Draws) → Adds old old added false
adds_none old added = record {
  grown = λ l s h. h;
  inside = λ l s h. inl h;
  held = λ never. absurd (let no : false ≡ true = never in cc);
}

-- nothing was to be added
pub adds_nothing : (old added : Draws) → ((l : Layer) (s : Square) → ¬ added l s) → Adds old old added true
adds_nothing old added none = record {
  grown = λ l s h. h;
  inside = λ l s h. inl h;
  held = λ all l s h. absurd (none l s h);
}

-- what is added in two steps
pub adds_more : (old cur new P Q R : Draws) (all : Bool) → Adds old cur P true → Adds cur new Q all
    → ((l : Layer) (s : Square) → R l s ↔ (P l s ⊎ Q l s)) → Adds old new R all
adds_more old cur new P Q R all first second is = record {
  grown = λ l s h. second.grown l s (first.grown l s h);
  inside = λ l s h. elim (second.inside l s h) [
    | inl c ↦ elim (first.inside l s c) [ inl o ↦ inl o | inr p ↦ inr ((is l s).1 (inl p)) ]
    | inr q ↦ inr ((is l s).1 (inr q))
  ];
  held = λ yes l s h. elim ((is l s).0 h) [
    | inl p ↦ second.grown l s (first.held refl l s p)
    | inr q ↦ second.held yes l s q
  ];
}

-- not all of it was added, so not all of more
pub adds_part : (old new P R : Draws) → Adds old new P false → ((l : Layer) (s : Square) → P l s → R l s)
    → Adds old new R false
adds_part old new P R adds more = record {
  grown = adds.grown;
  inside = λ l s h. elim (adds.inside l s h) [ inl o ↦ inl o | inr p ↦ inr (more l s p) ];
  held = λ never. absurd (let no : false ≡ true = never in cc);
}

-- one more ring of a figure under an array
pub figure_under : (a : Array) (h : PlainShape Rings) (j : ℕ) (r sums : List Point) (on : Layer) → j < length h.figure
    → r ≡ get_or h.figure j [] → AreSums a.by a.shifts h.shifts sums → (l : Layer) (s : Square)
    → ((on ≡ l) × IsUnder a (FigureCovers (with_rings h (take (j + 1) h.figure))) s)
    ↔ (((on ≡ l) × IsUnder a (FigureCovers (with_rings h (take j h.figure))) s)
    ⊎ ((on ≡ l) × RingCovers a.by r sums s))
figure_under a h j r sums on low is sum l s =
    let P : Square → Type 0 = FigureCovers (with_rings h (take j h.figure)) in
    let Q : Square → Type 0 = λ t. Any (λ g. Covers r (moved_back g t)) h.shifts in
    let R : Square → Type 0 = FigureCovers (with_rings h (take (j + 1) h.figure)) in
    let ring = ring_under a r h.shifts sums sum s in (
      λ c.
          elim (under_either a P Q s (under_more a R (λ t. P t ⊎ Q t) s (λ t. (figure_more h j r t low is).0) c.1)) [
            | inl u ↦ inl (c.0, u)
            | inr u ↦ inr (c.0, ring.1 u)
          ],
      λ e. elim e [
        | inl c ↦ (c.0, under_more a P R s (λ t p. (figure_more h j r t low is).1 (inl p)) c.1)
        | inr c ↦ (c.0, under_more a Q R s (λ t q. (figure_more h j r t low is).1 (inr q)) (ring.0 c.1))
      ],
    )

-- a ring that is appended is added
pub ring_added : (old new : List (PlainShape Rings)) (on : Layer) (by : Map) (r ring shifts : List Point)
    → new ≡ old ++ record { layer = on; figure = r ∷ []; shifts = shifts } ∷ []
    → ((t : Square) → Covers r t ↔ IsPlaceOfCovered by origin ring t)
    → Adds (ShapesCover old) (ShapesCover new) (λ l s. (on ≡ l) × RingCovers by ring shifts s) true
ring_added old new on by r ring shifts is covers =
    let h : PlainShape Rings = record { layer = on; figure = r ∷ []; shifts = shifts } in
    let more : (l : Layer) (s : Square) → ShapesCover new l s ↔ (ShapesCover old l s ⊎ ShapeCovers SomeCovers l s h) =
    λ l s. subst (λ (hs : List (PlainShape Rings)). ShapesCover hs l s ↔ (ShapesCover old l s ⊎ ShapeCovers SomeCovers l s h))
    (sym is) (Any-push (ShapeCovers SomeCovers l s) old h) in
    record {
      grown = λ l s b. (more l s).1 (inl b);
      inside = λ l s c. elim ((more l s).0 c) [
        | inl b ↦ inl b
        | inr b ↦
            let at = b.1 in
            inr (
              b.0,
              (
                at.0,
                at.1,
                at.2,
                at.3,
                (covers (moved_back at.1 s)).0 (only_ring r (moved_back at.1 s) at.4),
              ),
            )
      ];
      held = λ yes l s b.
          let at = b.1 in
          (more l s).1 (inr (
            b.0,
            (
              at.0,
              at.1,
              at.2,
              at.3,
              (0, r, omega arith, refl, (covers (moved_back at.1 s)).1 at.4),
            ),
          ));
    }

-- one more reference under an array, whose own array is placed from another of its places on
pub references_under : (cells : List (PlainCell Rings)) (a inner outer x : Array) (j : ℕ) (c : PlainCell Rings)
    → slice_get cells a.cell ≡ Some c → j < length c.references → IsArrayOf cells a.cell j inner
    → IsThrough a inner outer → IsRebased outer x → (l : Layer) (s : Square)
    → IsUnder a (ReferencesCover cells (take (j + 1) c.references) l) s
    ↔ (IsUnder a (ReferencesCover cells (take j c.references) l) s ⊎ PlacedCover cells (each_place x) l s)
references_under cells a inner outer x j c at low is through same l s =
    let P : Square → Type 0 = ReferencesCover cells (take j c.references) l in
    let Q : Square → Type 0 = PlacedCover cells (each_place inner) l in
    let R : Square → Type 0 = ReferencesCover cells (take (j + 1) c.references) l in
    let more : (t : Square) → R t ↔ (P t ⊎ Q t) = references_more cells a.cell j c inner at low is l in
    let placed = through_under cells a inner outer through l s in
    let moved = rebased_covers cells outer x same l s in (
      λ u. elim (under_either a P Q s (under_more a R (λ t. P t ⊎ Q t) s (λ t. (more t).0) u)) [
        | inl p ↦ inl p
        | inr q ↦ inr (moved.1 (placed.1 q))
      ],
      λ e. elim e [
        | inl p ↦ under_more a P R s (λ t h. (more t).1 (inl h)) p
        | inr q ↦ under_more a Q R s (λ t h. (more t).1 (inr h)) (placed.0 (moved.0 q))
      ],
    )

-- what is under an array of a cell: what its shapes cover and what its references do
pub cell_under : (cells : List (PlainCell Rings)) (a : Array) (c : PlainCell Rings) → slice_get cells a.cell ≡ Some c
    → (l : Layer) (s : Square) → PlacedCover cells (each_place a) l s
    ↔ (IsUnder a (ShapesCover c.shapes l) s ⊎ IsUnder a (ReferencesCover cells c.references l) s)
cell_under cells a c at l s =
    let P : Square → Type 0 = ShapesCover c.shapes l in
    let Q : Square → Type 0 = ReferencesCover cells c.references l in
    let whole = array_under cells a l s in
    let both : (t : Square) → CoversAt cells a.cell l t ↔ (P t ⊎ Q t) = covers_both cells a.cell c at l in (
      λ h. under_either a P Q s (under_more a (CoversAt cells a.cell l) (λ t. P t ⊎ Q t) s (λ t. (both t).0) (whole.0 h)),
      λ e. whole.1 (elim e [
        | inl u ↦ under_more a P (CoversAt cells a.cell l) s (λ t h. (both t).1 (inl h)) u
        | inr u ↦ under_more a Q (CoversAt cells a.cell l) s (λ t h. (both t).1 (inr h)) u
      ]),
    )

-- references up to an index are among all of them
pub references_within : (cells : List (PlainCell Rings)) (rs : List PlainReference) (k : ℕ) (l : Layer) (t : Square)
    → ReferencesCover cells (take k rs) l t → ReferencesCover cells rs l t
references_within cells rs k l t c =
    let P : Pick → Type 0 = PickCovers cells l t in
    let each : PlainReference → List Pick = λ r. map (λ e. (r, e)) r.shifts in
    subst (λ (ps : List Pick). Any P ps)
    (sym (flat_map-append each (take k rs) (drop k rs)) ∙ ap picks (take-append-drop k rs))
    (Any-left P (picks (take k rs)) (picks (drop k rs)) c)

-- no references cover anything under an array
pub no_references : (cells : List (PlainCell Rings)) (a : Array) (l : Layer) (s : Square)
    → IsUnder a (ReferencesCover cells [] l) s → ⊥
no_references cells a l s u = Any-nil (PickCovers cells l u.4.0) u.4.2

-- an array that is pushed is added
pub array_pushed : (cells : List (PlainCell Rings)) (old new : List Array) (x : Array) → new ≡ old ++ x ∷ []
    → Adds (PlacedCover cells (every_place old)) (PlacedCover cells (every_place new)) (PlacedCover cells (each_place x)) true
array_pushed cells old new x is = record {
  grown = λ l s h. (array_added cells [] old new x l s is).1 (inl h);
  inside = λ l s. (array_added cells [] old new x l s is).0;
  held = λ yes l s h. (array_added cells [] old new x l s is).1 (inr h);
}

-- what is added of an array's shapes or references is added of the array
pub adds_of_shapes : (pairs : List LayerPair) (cells : List (PlainCell Rings)) (a : Array) (c : PlainCell Rings)
    (old new : Draws) (all : Bool) → slice_get cells a.cell ≡ Some c
    → Adds old new (IsMoved pairs (λ l. IsUnder a (ShapesCover c.shapes l))) all
    → Adds old new (IsMoved pairs (PlacedCover cells (each_place a))) false
adds_of_shapes pairs cells a c old new all at adds = record {
  grown = adds.grown;
  inside = λ l s h. elim (adds.inside l s h) [
    | inl o ↦ inl o
    | inr m ↦
        inr
        (record {
          source = m.source;
          is_target = m.is_target;
          covers = (cell_under cells a c at m.source s).1 (inl m.covers);
        })
  ];
  held = λ never. absurd (let no : false ≡ true = never in cc);
}

pub adds_of_references : (cells : List (PlainCell Rings)) (a : Array) (c : PlainCell Rings) (old new : Draws) (all : Bool)
    → slice_get cells a.cell ≡ Some c → Adds old new (λ l. IsUnder a (ReferencesCover cells c.references l)) all
    → Adds old new (PlacedCover cells (each_place a)) false
adds_of_references cells a c old new all at adds = record {
  grown = adds.grown;
  inside = λ l s h. elim (adds.inside l s h) [
    | inl o ↦ inl o
    | inr u ↦ inr ((cell_under cells a c at l s).1 (inr u))
  ];
  held = λ never. absurd (let no : false ≡ true = never in cc);
}

-- where all is added, what the array covers is covered
pub all_opened : (pairs : List LayerPair) (cells : List (PlainCell Rings)) (a : Array) (c : PlainCell Rings)
    (old new before after : Draws) → slice_get cells a.cell ≡ Some c
    → Adds old new (IsMoved pairs (λ l. IsUnder a (ShapesCover c.shapes l))) true
    → Adds before after (λ l. IsUnder a (ReferencesCover cells c.references l)) true → (l : Layer) (s : Square)
    → IsMoved pairs (PlacedCover cells (each_place a)) l s → new l s ⊎ IsMoved pairs after l s
all_opened pairs cells a c old new before after at shapes references l s m =
    elim ((cell_under cells a c at m.source s).0 m.covers) [
      | inl u ↦
          inl (shapes.held refl l s (record { source = m.source; is_target = m.is_target; covers = u }))
      | inr u ↦
          inr (record { source = m.source; is_target = m.is_target; covers = references.held refl m.source s u })
    ]
