-- Shapes that are left over, and what their rings cover.
use Rattle.std.proofs.Common.{◌≡◌, ◌↔◌, ◌⊎◌, ◌<◌, ◌≤◌, ◌+◌, ◌++◌, ◌∷◌, [], ℕ, List, Any, All, take, length, get_or, inl, inr}
use Rattle.std.proofs.Common.{refl, sym, ap, ◌∙◌, subst, arith, ◌+ℤ◌}
use Rattle.std.proofs.lemmas.Int.{ints}
use Rattle.std.proofs.lemmas.List.{take_more, take_all, get_or_default}
use Rattle.lvl_grid.specs.declared.point.Point.{Point}
use Rattle.lvl_grid.specs.declared.point.Square.{Square}
use Rattle.lvl_grid.specs.declared.point.Window.{Window}
use Rattle.lvl_grid.specs.Clip.{IsInWindow}
use Rattle.lvl_grid.specs.Winding.{Covers, SomeCovers}
use Rattle.lvl_grid.proofs.Anyone.{some_contained, Any-nil, Any-push, Any-uncons, Any-head}
use Rattle.lvl_names.specs.declared.layer.Layer.{Layer}
use Rattle.lvl_names.specs.Shifts.{IsBetween}
use Rattle.lvl_cells.specs.Cells.{PlainShape, Rings, shape_at}
use Rattle.lvl_cells.specs.Coverage.{moved_back, ShapeCovers}
use Rattle.lvl_flat.specs.Boxes.{HoldsPoint}
use Rattle.lvl_flat.proofs.Outside.{ring_square, square_window}
use Rattle.lvl_view.specs.declared.map.LayerPair.{LayerPair}
use Rattle.lvl_view.specs.Moved.{IsMoved}
use Rattle.lvl_view.specs.Views.{target_of}
use Rattle.lvl_changed.specs.declared.area.Area.{Area}
use Rattle.lvl_changed.specs.inside.Figures.{AreAlike, AreLeft, HasAlike}
use Rattle.lvl_changed.specs.inside.Shapes.{corners, HasMoved, put_on, ShapesCover}
use Rattle.lvl_changed.specs.inside.Areas.{AlikeOutside, Grows, IsIn}
use Rattle.lvl_changed.proofs.Moving.{moved_more}

-- the shape with these rings covers the square
abbrev pub RingsCover : PlainShape Rings → Rings → Layer → Square → Type 0
RingsCover h rings layer s =
    ShapeCovers SomeCovers layer s (record { layer = h.layer; figure = rings; shifts = h.shifts })

pub no_rings : (h : PlainShape Rings) (l : Layer) (s : Square) → RingsCover h [] l s → ⊥
no_rings h l s c =
    let at = c.1 in
    Any-nil (λ (r : List Point). Covers r (moved_back at.1 s)) at.4

pub rings_more : (h : PlainShape Rings) (rings : Rings) (j : ℕ) (r : List Point) (l : Layer) (s : Square)
    → j < length rings → r ≡ get_or rings j []
    → RingsCover h (take (j + 1) rings) l s ↔ (RingsCover h (take j rings) l s ⊎ RingsCover h (r ∷ []) l s)
rings_more h rings j r l s low is =
    let one : List Point = get_or rings j [] in
    let more : take (j + 1) rings ≡ take j rings ++ one ∷ [] = take_more rings j [] low in
    let P : Square → List Point → Type 0 = λ q ring. Covers ring q in
    let wide : RingsCover h (take j rings ++ one ∷ []) l s
    ↔ (RingsCover h (take j rings) l s ⊎ RingsCover h (one ∷ []) l s) = (
      λ c.
          let at = c.1 in
          elim ((Any-push (P (moved_back at.1 s)) (take j rings) one).0 at.4) [
            | inl b ↦ inl (c.0, (at.0, at.1, at.2, at.3, b))
            | inr b ↦ inr (c.0, (at.0, at.1, at.2, at.3, Any-head (P (moved_back at.1 s)) one [] b))
          ],
      λ e. elim e [
        | inl c ↦
            let at = c.1 in (
              c.0,
              (at.0, at.1, at.2, at.3, (Any-push (P (moved_back at.1 s)) (take j rings) one).1 (inl at.4)),
            )
        | inr c ↦
            let at = c.1 in
            let b : Covers one (moved_back at.1 s) =
            elim (Any-uncons (P (moved_back at.1 s)) one [] at.4)
            [ inl d ↦ d | inr d ↦ absurd (Any-nil (P (moved_back at.1 s)) d) ] in (
              c.0,
              (at.0, at.1, at.2, at.3, (Any-push (P (moved_back at.1 s)) (take j rings) one).1 (inr b)),
            )
      ],
    ) in
    subst (λ rs. RingsCover h rs l s ↔ (RingsCover h (take j rings) l s ⊎ RingsCover h (r ∷ []) l s)) (sym more)
    (subst
    (λ (ring : List Point). RingsCover h (take j rings ++ one ∷ []) l s
    ↔ (RingsCover h (take j rings) l s ⊎ RingsCover h (ring ∷ []) l s)) (sym is) wide)

-- a ring is added as a shape of its own
pub ring_pushed : (first old new : List (PlainShape Rings)) (h : PlainShape Rings) (rings : Rings) (j : ℕ)
    (r : List Point) (l : Layer) (s : Square) → j < length rings → r ≡ get_or rings j []
    → new ≡ old ++ record { layer = h.layer; figure = r ∷ []; shifts = h.shifts } ∷ []
    → ShapesCover old l s ↔ (ShapesCover first l s ⊎ RingsCover h (take j rings) l s)
    → ShapesCover new l s ↔ (ShapesCover first l s ⊎ RingsCover h (take (j + 1) rings) l s)
ring_pushed first old new h rings j r l s low is pushed before =
    let P : PlainShape Rings → Type 0 = ShapeCovers SomeCovers l s in
    let one : PlainShape Rings = record { layer = h.layer; figure = r ∷ []; shifts = h.shifts } in
    let more = rings_more h rings j r l s low is in
    let push = Any-push P old one in
    subst
    (λ hs. ShapesCover hs l s ↔ (ShapesCover first l s ⊎ RingsCover h (take (j + 1) rings) l s)) (sym pushed) (
      λ c. elim (push.0 c) [
        | inl b ↦ elim (before.0 b) [ inl d ↦ inl d | inr d ↦ inr (more.1 (inl d)) ]
        | inr b ↦ inr (more.1 (inr b))
      ],
      λ e. push.1 (elim e [
        | inl b ↦ inl (before.1 (inl b))
        | inr b ↦ elim (more.0 b) [ inl d ↦ inl (before.1 (inr d)) | inr d ↦ inr d ]
      ]),
    )

-- the shapes up to an index, with one more
pub shapes_more : (hs : List (PlainShape Rings)) (i : ℕ) (l : Layer) (s : Square) → i < length hs
    → ShapesCover (take (i + 1) hs) l s
    ↔ (ShapesCover (take i hs) l s ⊎ ShapeCovers SomeCovers l s (shape_at hs i))
shapes_more hs i l s low =
    let P : PlainShape Rings → Type 0 = ShapeCovers SomeCovers l s in
    let none : PlainShape Rings = record { layer = record { layer = 0; datatype = 0 }; figure = []; shifts = [] } in
    subst (λ xs. Any P xs ↔ (ShapesCover (take i hs) l s ⊎ P (shape_at hs i))) (sym (take_more hs i none low))
    (Any-push P (take i hs) (shape_at hs i))

-- a shape that others have covers under the map what they do
pub alike_covers : (pairs others : List LayerPair) (xs ys : List (PlainShape Rings)) (i j : ℕ) (l : Layer) (s : Square)
    → AreAlike pairs xs i others ys j → IsMoved pairs (λ k q. ShapeCovers SomeCovers k q (shape_at xs i)) l s
    → IsMoved others (ShapesCover ys) l s
alike_covers pairs others xs ys i j l s same m =
    let h : PlainShape Rings = shape_at xs i in
    let g : PlainShape Rings = shape_at ys j in
    let layer : h.layer ≡ m.source = m.covers.0 in
    let target : target_of others g.layer ≡ l =
    sym same.layer ∙ (ap (target_of pairs) layer ∙ m.is_target) in
    let at = m.covers.1 in
    let figure : Any (λ e. SomeCovers g.figure (moved_back e s)) h.shifts =
    (at.0, at.1, at.2, at.3, (same.figure (moved_back at.1 s)).0 at.4) in
    let shifts : Any (λ e. SomeCovers g.figure (moved_back e s)) g.shifts =
    subst (λ (es : List Point). Any (λ e. SomeCovers g.figure (moved_back e s)) es) same.shifts figure in
    record {
      source = g.layer;
      is_target = target;
      covers =
          some_contained (ShapeCovers SomeCovers g.layer s) ys g (
            j,
            same.within,
            get_or_default ys j g (record {
              layer = record { layer = 0; datatype = 0 };
              figure = [];
              shifts = [];
            }) same.within,
          ) (refl, shifts);
    }

-- figures that cover the same up to an index, with one more ring
pub figures_more : (xs ys : Rings) (k : ℕ) → k < length xs → k < length ys
    → ((s : Square) → SomeCovers (take k xs) s ↔ SomeCovers (take k ys) s)
    → ((s : Square) → Covers (get_or xs k []) s ↔ Covers (get_or ys k []) s) → (s : Square)
    → SomeCovers (take (k + 1) xs) s ↔ SomeCovers (take (k + 1) ys) s
figures_more xs ys k here there before one s =
    let P : List Point → Type 0 = λ r. Covers r s in
    let a = Any-push P (take k xs) (get_or xs k []) in
    let b = Any-push P (take k ys) (get_or ys k []) in
    rw (take_more xs k [] here, take_more ys k [] there) (
      λ c. b.1 (elim (a.0 c) [ inl d ↦ inl ((before s).0 d) | inr d ↦ inr ((one s).0 d) ]),
      λ c. a.1 (elim (b.0 c) [ inl d ↦ inl ((before s).1 d) | inr d ↦ inr ((one s).1 d) ]),
    )

-- no shapes are left of none
pub left_none : (pairs others : List LayerPair) (ys : List (PlainShape Rings)) → AreLeft pairs [] others ys []
left_none pairs others ys = record {
  inside = λ l s c. absurd (Any-nil (ShapeCovers SomeCovers l s) c);
  held = λ l s m. absurd (Any-nil (ShapeCovers SomeCovers m.source s) m.covers);
}

-- one more shape that others have
pub left_among : (pairs others : List LayerPair) (xs ys left : List (PlainShape Rings)) (i : ℕ) → i < length xs
    → HasAlike pairs xs i others ys → AreLeft pairs (take i xs) others ys left
    → AreLeft pairs (take (i + 1) xs) others ys left
left_among pairs others xs ys left i low has before = record {
  inside = λ l s c.
      moved_more pairs (ShapesCover (take i xs)) (ShapesCover (take (i + 1) xs)) s s
      (λ k d. (shapes_more xs i k s low).1 (inl d)) l (before.inside l s c);
  held = λ l s m. elim ((shapes_more xs i m.source s low).0 m.covers) [
    | inl c ↦ before.held l s (record { source = m.source; is_target = m.is_target; covers = c })
    | inr c ↦
        inr (alike_covers pairs others xs ys i has.0 l s has.1
        (record { source = m.source; is_target = m.is_target; covers = c }))
  ];
}

-- one more shape that is left, on the Layer to which its own is mapped
pub left_more : (pairs others : List LayerPair) (xs ys old new : List (PlainShape Rings)) (i : ℕ) (on : Layer)
    → i < length xs → on ≡ target_of pairs (shape_at xs i).layer
    → ((l : Layer) (s : Square) → ShapesCover new l s
    ↔ (ShapesCover old l s ⊎ ShapeCovers SomeCovers l s (put_on on (shape_at xs i))))
    → AreLeft pairs (take i xs) others ys old → AreLeft pairs (take (i + 1) xs) others ys new
left_more pairs others xs ys old new i on low target adds before =
    let h : PlainShape Rings = shape_at xs i in
    record {
      inside = λ l s c. elim ((adds l s).0 c) [
        | inl b ↦
            moved_more pairs (ShapesCover (take i xs)) (ShapesCover (take (i + 1) xs)) s s
            (λ k d. (shapes_more xs i k s low).1 (inl d)) l (before.inside l s b)
        | inr b ↦
            record {
              source = h.layer;
              is_target = sym target ∙ b.0;
              covers = (shapes_more xs i h.layer s low).1 (inr (refl, b.1));
            }
      ];
      held = λ l s m. elim ((shapes_more xs i m.source s low).0 m.covers) [
        | inl c ↦
            elim (before.held l s (record { source = m.source; is_target = m.is_target; covers = c })) [
              | inl n ↦ inl ((adds l s).1 (inl n))
              | inr n ↦ inr n
            ]
        | inr c ↦ inl ((adds l s).1 (inr (target ∙ (ap (target_of pairs) c.0 ∙ m.is_target), c.1)))
      ];
    }

-- if neither covers anything outside of an area, both cover the same there
pub none_alike : (none : List LayerPair) (xs ys : List (PlainShape Rings)) (old w : Area) → none ≡ []
    → Grows old w → ((l : Layer) (s : Square) → (¬ IsIn old (target_of none l) s) → ¬ ShapesCover xs l s)
    → ((l : Layer) (s : Square) → (¬ IsIn w (target_of none l) s) → ¬ ShapesCover ys l s)
    → AlikeOutside w (ShapesCover xs) (ShapesCover ys)
none_alike none xs ys old w is wide first second l s out =
    let unmapped : target_of none l ≡ l = rw is refl in (
      λ c. absurd (first l s (λ h. out (wide.has l s (subst (λ k. IsIn old k s) unmapped h))) c),
      λ c. absurd (second l s (λ h. out (subst (λ k. IsIn w k s) unmapped h)) c),
    )

-- a ring between two corners is in their window, and moved in the window moved by the shifts' reach
pub ring_moved : (ring : List Point) (least greatest low high a b : Point) → All (IsBetween least greatest) ring
    → a ≡ record { x = least.x +ℤ low.x; y = least.y +ℤ low.y }
    → b ≡ record { x = greatest.x +ℤ high.x; y = greatest.y +ℤ high.y }
    → HasMoved ring low high (IsInWindow (record { x0 = a.x; y0 = a.y; x1 = b.x; y1 = b.y }))
ring_moved ring least greatest low high a b all is_a is_b e s between covers =
    let w : Window = record { x0 = least.x; y0 = least.y; x1 = greatest.x; y1 = greatest.y } in
    let held : All (HoldsPoint (corners w)) ring =
    λ i d lt.
    let p = all i d lt in
    record { left = p.left; right = p.right; below = p.below; above = p.above } in
    let h : IsInWindow w (moved_back e s) =
    square_window (corners w) (moved_back e s) (ring_square (corners w) ring (moved_back e s) held covers) in
    subst
    (λ (p : Point). IsInWindow (record { x0 = p.x; y0 = p.y; x1 = b.x; y1 = b.y }) s) (sym is_a)
    (subst
    (λ (q : Point). IsInWindow
    (record { x0 = least.x +ℤ low.x; y0 = least.y +ℤ low.y; x1 = q.x; y1 = q.y }) s) (sym is_b)
    (record {
      x_from = omega (arith, ints, h.x_from, between.left);
      x_below = omega (arith, ints, h.x_below, between.right);
      y_from = omega (arith, ints, h.y_from, between.below);
      y_below = omega (arith, ints, h.y_below, between.above);
    }))

-- a set that has a ring at all shifts of its shape
pub ring_outside : (h : PlainShape Rings) (r : List Point) (low high : Point) (H : Square → Type 0)
    → All (IsBetween low high) h.shifts → HasMoved r low high H → (l : Layer) (s : Square) → (¬ H s)
    → RingsCover h (r ∷ []) l s → ⊥
ring_outside h r low high H all has l s out c =
    let at = c.1 in
    let covers : Covers r (moved_back at.1 s) =
    elim (Any-uncons (λ (q : List Point). Covers q (moved_back at.1 s)) r [] at.4)
    [ inl d ↦ d | inr d ↦ absurd (Any-nil (λ (q : List Point). Covers q (moved_back at.1 s)) d) ] in
    out (has at.1 s (subst (IsBetween low high) at.3 (all at.0 at.1 at.2)) covers)

-- without rings
pub rings_none : (hs : List (PlainShape Rings)) (h : PlainShape Rings) (l : Layer) (s : Square)
    → ShapesCover hs l s ↔ (ShapesCover hs l s ⊎ RingsCover h [] l s)
rings_none hs h l s = (λ c. inl c, λ e. elim e [ inl c ↦ c | inr c ↦ absurd (no_rings h l s c) ])

-- and with all of them
pub all_rings : (first new : List (PlainShape Rings)) (h : PlainShape Rings) (j : ℕ) (l : Layer) (s : Square)
    → length h.figure ≤ j → ShapesCover new l s ↔ (ShapesCover first l s ⊎ RingsCover h (take j h.figure) l s)
    → ShapesCover new l s ↔ (ShapesCover first l s ⊎ ShapeCovers SomeCovers l s h)
all_rings first new h j l s long is =
    subst (λ (rs : Rings). ShapesCover new l s ↔ (ShapesCover first l s ⊎ RingsCover h rs l s))
    (take_all j h.figure long) is

-- a shape covers nothing on other Layers
ring_layer : (h : PlainShape Rings) (rings : Rings) (l : Layer) (s : Square) → RingsCover h rings l s → h.layer ≡ l
ring_layer h rings l s c = c.0

-- an area that has a shape's rings up to an index, with one more
pub ring_held : (pairs : List LayerPair) (h : PlainShape Rings) (rings : Rings) (j : ℕ) (r : List Point)
    (low high : Point) (on : Layer) (old new : Area) → j < length rings → r ≡ get_or rings j []
    → on ≡ target_of pairs h.layer → All (IsBetween low high) h.shifts → Grows old new
    → HasMoved r low high (IsIn new on)
    → ((l : Layer) (s : Square) → (¬ IsIn old (target_of pairs l) s) → ¬ RingsCover h (take j rings) l s)
    → (l : Layer) (s : Square) → (¬ IsIn new (target_of pairs l) s) → RingsCover h (take (j + 1) rings) l s → ⊥
ring_held pairs h rings j r low high on old new inside is at all wide has before l s out c =
    let mapped : target_of pairs l ≡ on =
    sym (at ∙ ap (target_of pairs) (ring_layer h (take (j + 1) rings) l s c)) in
    elim ((rings_more h rings j r l s inside is).0 c) [
      | inl b ↦ before l s (λ x. out (wide.has (target_of pairs l) s x)) b
      | inr b ↦
          ring_outside h r low high (IsIn new on) all has l s
          (λ x. out (subst (λ k. IsIn new k s) (sym mapped) x)) b
    ]

-- and the shapes up to an index
pub shape_held : (pairs : List LayerPair) (hs : List (PlainShape Rings)) (i : ℕ) (old new : Area) → i < length hs
    → Grows old new
    → ((l : Layer) (s : Square) → (¬ IsIn new (target_of pairs l) s)
    → ¬ ShapeCovers SomeCovers l s (shape_at hs i))
    → ((l : Layer) (s : Square) → (¬ IsIn old (target_of pairs l) s) → ¬ ShapesCover (take i hs) l s) → (l : Layer)
    (s : Square) → (¬ IsIn new (target_of pairs l) s) → ShapesCover (take (i + 1) hs) l s → ⊥
shape_held pairs hs i old new low wide here before l s out c =
    elim ((shapes_more hs i l s low).0 c) [
      | inl b ↦ before l s (λ x. out (wide.has (target_of pairs l) s x)) b
      | inr b ↦ here l s out b
    ]
