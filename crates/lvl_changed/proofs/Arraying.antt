-- What arrays cover, in terms of placements.
use Rattle.std.proofs.Common.{◌≡◌, ◌↔◌, ◌⊎◌, ◌<◌, ◌+◌, ◌++◌, ◌∷◌, [], ℕ, List, Any, Contains, take, length, get_or}
use Rattle.std.proofs.Common.{flat_map, inl, inr, sym, ap, ◌∙◌, subst, map, append_assoc}
use Rattle.std.proofs.Common.{pos, ◌+ℤ◌, arith}
use Rattle.std.proofs.lemmas.Int.{ints, clamps}
use Rattle.std.proofs.lemmas.List.{append-nil, take_more}
use Rattle.std.proofs.lemmas.List.Concat.{flat_map-append, flat_map-cons}
use Rattle.lvl_grid.specs.declared.point.Point.{Point}
use Rattle.lvl_grid.specs.declared.point.Square.{Square}
use Rattle.lvl_grid.specs.declared.map.Map.{Map}
use Rattle.lvl_grid.proofs.Anyone.{some_contained, Any-left, Any-right, Any-sides, Any-nil, Any-head, Any-tail}
use Rattle.lvl_grid.proofs.Anyone.{Any-uncons, Any-map}
use Rattle.lvl_grid.proofs.Squares.{same_square}
use Rattle.lvl_grid.specs.declared.point.Window.{Window}
use Rattle.lvl_grid.specs.Clip.{IsInWindow}
use Rattle.lvl_grid.specs.Turn.{image_square, shifted}
use Rattle.lvl_flat.specs.Flattened.{CoversAt}
use Rattle.lvl_changed.specs.declared.windows.Windows.{Windows}
use Rattle.lvl_changed.specs.inside.Windows.{Has}
use Rattle.lvl_grid.proofs.Composing.{same_point}
use Rattle.lvl_names.specs.declared.layer.Layer.{Layer}
use Rattle.lvl_names.specs.Shifts.{one_place, IsBetween}
use Rattle.lvl_cells.specs.Cells.{PlainCell, Rings, map_at}
use Rattle.lvl_changed.specs.declared.arrays.Array.{Array}
use Rattle.lvl_changed.specs.declared.placements.Placement.{Placement}
use Rattle.lvl_changed.specs.inside.Arrays.{as_reference, each_place, every_place, HasEach, IsListed}
use Rattle.lvl_changed.specs.inside.Placements.{PlacedCover, PlacementCovers}

any_flat : {X Y : Type 0} (P : Y → Type 0) (f : X → List Y) (xs : List X)
    → Any P (flat_map f xs) ↔ Any (λ x. Any P (f x)) xs
any_flat P f [] = (λ a. absurd (Any-nil P a), λ a. absurd (Any-nil (λ x. Any P (f x)) a))
any_flat P f (x ∷ xs) = (
  λ a. elim (Any-sides P (f x) (flat_map f xs) (subst (λ ys. Any P ys) (flat_map-cons f x xs) a)) [
    | inl b ↦ Any-head (λ z. Any P (f z)) x xs b
    | inr b ↦ Any-tail (λ z. Any P (f z)) x xs ((any_flat P f xs).0 b)
  ],
  λ a. subst (λ ys. Any P ys) (sym (flat_map-cons f x xs))
      (elim (Any-uncons (λ z. Any P (f z)) x xs a) [
        | inl b ↦ Any-left P (f x) (flat_map f xs) b
        | inr b ↦ Any-right P (f x) (flat_map f xs) ((any_flat P f xs).1 b)
      ]),
)

-- an array covers a part of what a list that has it does
pub array_held : (cells : List (PlainCell Rings)) (others : List Array) (a : Array) (l : Layer) (s : Square)
    → Contains others a → PlacedCover cells (each_place a) l s → PlacedCover cells (every_place others) l s
array_held cells others a l s has covers =
    let P : Placement → Type 0 = PlacementCovers cells l s in
    (any_flat P each_place others).1 (some_contained (λ b. Any P (each_place b)) others a has covers)

-- lists that have the same arrays cover the same
pub arrays_cover : (cells : List (PlainCell Rings)) (xs ys : List Array) (l : Layer) (s : Square)
    → ((a : Array) → Contains xs a → Contains ys a) → PlacedCover cells (every_place xs) l s
    → PlacedCover cells (every_place ys) l s
arrays_cover cells xs ys l s same covers =
    let P : Placement → Type 0 = PlacementCovers cells l s in
    let one = (any_flat P each_place xs).0 covers in
    array_held cells ys one.1 l s (same one.1 (one.0, one.2, one.3)) one.4

pub any_either : {X : Type 0} (P : X → Type 0) (xs ys : List X) → Any P (xs ++ ys) ↔ (Any P xs ⊎ Any P ys)
any_either P xs ys =
    (λ a. Any-sides P xs ys a, λ e. elim e [ inl a ↦ Any-left P xs ys a | inr a ↦ Any-right P xs ys a ])

-- placements are added before arrays
pub places_added : (cells : List (PlainCell Rings)) (ps qs new : List Placement) (xs : List Array) (l : Layer)
    (s : Square) → new ≡ ps ++ qs
    → PlacedCover cells (new ++ every_place xs) l s
    ↔ (PlacedCover cells (ps ++ every_place xs) l s ⊎ PlacedCover cells qs l s)
places_added cells ps qs new xs l s is =
    let P : Placement → Type 0 = PlacementCovers cells l s in
    let more : Any P new ↔ (Any P ps ⊎ Any P qs) =
    subst (λ us. Any P us ↔ (Any P ps ⊎ Any P qs)) (sym is) (any_either P ps qs) in (
      λ c. elim ((any_either P new (every_place xs)).0 c) [
        | inl b ↦
            elim (more.0 b) [
              | inl d ↦ inl ((any_either P ps (every_place xs)).1 (inl d))
              | inr d ↦ inr d
            ]
        | inr b ↦ inl ((any_either P ps (every_place xs)).1 (inr b))
      ],
      λ e. (any_either P new (every_place xs)).1
          (elim e [
            | inl c ↦
                elim ((any_either P ps (every_place xs)).0 c) [ inl b ↦ inl (more.1 (inl b)) | inr b ↦ inr b ]
            | inr c ↦ inl (more.1 (inr c))
          ]),
    )

-- arrays are added
pub arrays_added : (cells : List (PlainCell Rings)) (ps : List Placement) (old more new : List Array) (l : Layer)
    (s : Square) → new ≡ old ++ more
    → PlacedCover cells (ps ++ every_place new) l s
    ↔ (PlacedCover cells (ps ++ every_place old) l s ⊎ PlacedCover cells (every_place more) l s)
arrays_added cells ps old more new l s is =
    let P : Placement → Type 0 = PlacementCovers cells l s in
    let whole : ps ++ every_place new ≡ (ps ++ every_place old) ++ every_place more =
    ap (λ us. ps ++ us) (ap every_place is ∙ flat_map-append each_place old more)
    ∙ sym (append_assoc ps (every_place old) (every_place more)) in
    subst (λ us. Any P us ↔ (Any P (ps ++ every_place old) ⊎ Any P (every_place more))) (sym whole)
    (any_either P (ps ++ every_place old) (every_place more))

-- an array is added to the arrays
pub array_added : (cells : List (PlainCell Rings)) (ps : List Placement) (old new : List Array) (a : Array) (l : Layer)
    (s : Square) → new ≡ old ++ a ∷ []
    → PlacedCover cells (ps ++ every_place new) l s
    ↔ (PlacedCover cells (ps ++ every_place old) l s ⊎ PlacedCover cells (each_place a) l s)
array_added cells ps old new a l s is =
    subst
    (λ us. PlacedCover cells (ps ++ every_place new) l s
    ↔ (PlacedCover cells (ps ++ every_place old) l s ⊎ PlacedCover cells us l s)) (append-nil (each_place a))
    (arrays_added cells ps old (a ∷ []) new l s is)

-- with one more array
pub arrays_more : (cells : List (PlainCell Rings)) (as' : List Array) (i : ℕ) (a : Array) (l : Layer) (s : Square)
    → i < length as' → a ≡ get_or as' i a
    → PlacedCover cells (every_place (take (i + 1) as')) l s
    ↔ (PlacedCover cells (every_place (take i as')) l s ⊎ PlacedCover cells (each_place a) l s)
arrays_more cells as' i a l s low is =
    array_added cells [] (take i as') (take (i + 1) as') a l s
    (take_more as' i a low ∙ ap (λ (b : Array). take i as' ++ b ∷ []) (sym is))

-- with one more array, whose places are listed
pub listed_more : (cells : List (PlainCell Rings)) (first old new : List Placement) (as' others : List Array) (i : ℕ)
    (a : Array) (l : Layer) (s : Square) → i < length as' → a ≡ get_or as' i a
    → IsListed cells first old (take i as') others l s
    → PlacedCover cells new l s ↔ (PlacedCover cells old l s ⊎ PlacedCover cells (each_place a) l s)
    → IsListed cells first new (take (i + 1) as') others l s
listed_more cells first old new as' others i a l s low is before adds =
    let more = arrays_more cells as' i a l s low is in
    record {
      grown = λ c. adds.1 (inl (before.grown c));
      held = λ c. elim (more.0 c) [
        | inl b ↦ elim (before.held b) [ inl d ↦ inl (adds.1 (inl d)) | inr d ↦ inr d ]
        | inr b ↦ inl (adds.1 (inr b))
      ];
      inside = λ c. elim (adds.0 c) [
        | inl b ↦ elim (before.inside b) [ inl d ↦ inl d | inr d ↦ inr (more.1 (inl d)) ]
        | inr b ↦ inr (more.1 (inr b))
      ];
    }

-- with one more array that is among the others
pub listed_among : (cells : List (PlainCell Rings)) (first old : List Placement) (as' others : List Array) (i : ℕ)
    (a : Array) (l : Layer) (s : Square) → i < length as' → a ≡ get_or as' i a → Contains others a
    → IsListed cells first old (take i as') others l s → IsListed cells first old (take (i + 1) as') others l s
listed_among cells first old as' others i a l s low is has before =
    let more = arrays_more cells as' i a l s low is in
    record {
      grown = before.grown;
      held = λ c. elim (more.0 c) [ inl b ↦ before.held b | inr b ↦ inr (array_held cells others a l s has b) ];
      inside = λ c. elim (before.inside c) [ inl d ↦ inl d | inr d ↦ inr (more.1 (inl d)) ];
    }

pub listed_none : (cells : List (PlainCell Rings)) (old : List Placement) (others : List Array) (l : Layer) (s : Square)
    → IsListed cells old old [] others l s
listed_none cells old others l s = record {
  grown = λ c. c;
  held = λ c. absurd (Any-nil (PlacementCovers cells l s) c);
  inside = λ c. inl c;
}

zero_shift : (a : Point) → record { x = pos 0 +ℤ a.x; y = pos 0 +ℤ a.y } ≡ a
zero_shift a = same_point _ _ (omega (arith, ints)) (omega (arith, ints))

-- an array of a single place
pub single_place : (a : Array) → a.shifts ≡ one_place → each_place a ≡ record { cell = a.cell; map = a.by } ∷ []
single_place a one =
    let f : Point → Placement = λ e. record { cell = a.cell; map = map_at (as_reference a) e } in
    let to : Point → Placement = λ p. record {
      cell = a.cell;
      map = record { flip = a.by.flip; turn = a.by.turn; at = p };
    } in
    ap (map f) one ∙ ap (λ p. to p ∷ []) (zero_shift a.by.at)

-- an array whose cell is in a window covers nothing outside of the images of the window
pub array_outside : (cells : List (PlainCell Rings)) (a : Array) (v : Window) (w : Windows)
    → ((l : Layer) (t : Square) → CoversAt cells a.cell l t → IsInWindow v t) → HasEach a v (Has w) → (l : Layer)
    (s : Square) → (¬ Has w s) → PlacedCover cells (each_place a) l s → ⊥
array_outside cells a v w within has l s out covers =
    let f : Point → Placement = λ e. record { cell = a.cell; map = map_at (as_reference a) e } in
    let at = (Any-map (PlacementCovers cells l s) f a.shifts).0 covers in
    let u = at.4 in
    out (subst (λ q. Has w q) u.1 (has at.1 (at.0, at.2, at.3) u.0 (within l u.0 u.2)))

pub moved_image : (by : Map) (e : Point) (s : Square)
    → image_square (record { flip = by.flip; turn = by.turn; at = shifted by.at e }) s
    ≡ record { x = (image_square by s).x +ℤ e.x; y = (image_square by s).y +ℤ e.y }
moved_image by e s = same_square _ _ (omega (arith, ints, clamps)) (omega (arith, ints, clamps))

-- the window of a map's images, and the reach of the shifts
pub everywhere_has : (a : Array) (first all : Window) (low high e : Point) (s : Square)
    → IsInWindow first (image_square a.by s) → IsBetween low high e
    → all ≡ record {
      x0 = first.x0 +ℤ low.x;
      y0 = first.y0 +ℤ low.y;
      x1 = first.x1 +ℤ high.x;
      y1 = first.y1 +ℤ high.y;
    } → IsInWindow all (image_square (map_at (as_reference a) e) s)
everywhere_has a first all low high e s h b is =
    let p : Square = image_square a.by s in
    subst (λ (w : Window). IsInWindow w (image_square (map_at (as_reference a) e) s)) (sym is)
    (subst
    (λ q. IsInWindow
    (record {
      x0 = first.x0 +ℤ low.x;
      y0 = first.y0 +ℤ low.y;
      x1 = first.x1 +ℤ high.x;
      y1 = first.y1 +ℤ high.y;
    }) q) (sym (moved_image a.by e s))
    (record {
      x_from = omega (arith, ints, h.x_from, b.left);
      x_below = omega (arith, ints, h.x_below, b.right);
      y_from = omega (arith, ints, h.y_from, b.below);
      y_below = omega (arith, ints, h.y_below, b.above);
    }))

-- an array of a single place is added as a placement
pub single_added : (cells : List (PlainCell Rings)) (ps : List Placement) (as' : List Array) (new : List Placement)
    (a : Array) (l : Layer) (s : Square) → a.shifts ≡ one_place
    → new ≡ ps ++ record { cell = a.cell; map = a.by } ∷ []
    → PlacedCover cells (new ++ every_place as') l s
    ↔ (PlacedCover cells (ps ++ every_place as') l s ⊎ PlacedCover cells (each_place a) l s)
single_added cells ps as' new a l s one is =
    places_added cells ps (each_place a) new as' l s (is ∙ ap (λ qs. ps ++ qs) (sym (single_place a one)))
