-- What remains of two layouts where both have the same.
use Rattle.std.proofs.Common.{◌≡◌, ◌↔◌, ◌⊎◌, ◌++◌, ◌∷◌, ℕ, List, [], Bool, Some, false, inl, inr, slice_get, subst}
use Rattle.std.specs.Prelude.{IsTrue}
use Rattle.lvl_grid.specs.declared.point.Square.{Square}
use Rattle.lvl_grid.proofs.Anyone.{Any-nil}
use Rattle.lvl_names.specs.declared.layer.Layer.{Layer}
use Rattle.lvl_cells.specs.Cells.{PlainCell, PlainShape, Rings}
use Rattle.lvl_flat.specs.Flattened.{CoversAt}
use Rattle.lvl_view.specs.declared.map.LayerPair.{LayerPair}
use Rattle.lvl_view.specs.Moved.{IsMoved}
use Rattle.lvl_compare.specs.Tops.{Draws}
use Rattle.lvl_changed.specs.declared.area.Area.{Area}
use Rattle.lvl_changed.specs.declared.arrays.Array.{Array}
use Rattle.lvl_changed.specs.declared.placements.Placement.{Placement}
use Rattle.lvl_changed.specs.inside.Areas.{Grows}
use Rattle.lvl_changed.specs.inside.Arrays.{AddsArray, AddsArrays, each_place, every_place}
use Rattle.lvl_changed.specs.inside.Figures.{AreLeft}
use Rattle.lvl_changed.specs.inside.Opening.{Adds}
use Rattle.lvl_changed.specs.inside.Placements.{AreLeftPlaces, PlacedCover, PlacementCovers, PlaceSame, ReferencesCover}
use Rattle.lvl_changed.specs.inside.Remains.{AreSameIf, Remain}
use Rattle.lvl_changed.specs.inside.Rests.{AreSameWhere}
use Rattle.lvl_changed.specs.inside.Shapes.{ShapesCover}
use Rattle.lvl_changed.proofs.Arraying.{array_added}
use Rattle.lvl_changed.proofs.Unchanged.{moved_none}
use Rattle.lvl_changed.proofs.Moving.{covers_both}

-- where what remains is the same, the whole is
pub same_of_remains : {a b x y : Type 0} → Remain a b x y → x ↔ y → a ↔ b
same_of_remains r same = (
  λ h. elim (r.ours_held h) [ inl u ↦ r.theirs_inside (same.0 u) | inr k ↦ k ],
  λ h. elim (r.theirs_held h) [ inl u ↦ r.ours_inside (same.1 u) | inr k ↦ k ],
)

-- what remains of two parts together
pub remain_both : {a b x y c d u v : Type 0} → Remain a b x y → Remain c d u v
    → Remain (a ⊎ c) (b ⊎ d) (x ⊎ u) (y ⊎ v)
remain_both p q = record {
  ours_inside = λ e. elim e [ inl h ↦ inl (p.ours_inside h) | inr h ↦ inr (q.ours_inside h) ];
  ours_held = λ e. elim e [
    | inl h ↦ elim (p.ours_held h) [ inl k ↦ inl (inl k) | inr k ↦ inr (inl k) ]
    | inr h ↦ elim (q.ours_held h) [ inl k ↦ inl (inr k) | inr k ↦ inr (inr k) ]
  ];
  theirs_inside = λ e. elim e [ inl h ↦ inl (p.theirs_inside h) | inr h ↦ inr (q.theirs_inside h) ];
  theirs_held = λ e. elim e [
    | inl h ↦ elim (p.theirs_held h) [ inl k ↦ inl (inl k) | inr k ↦ inr (inl k) ]
    | inr h ↦ elim (q.theirs_held h) [ inl k ↦ inl (inr k) | inr k ↦ inr (inr k) ]
  ];
}

-- what is the same may stand for the wholes
pub remain_of : {a b x y c d : Type 0} → Remain a b x y → a ↔ c → b ↔ d → Remain c d x y
remain_of r mine other = record {
  ours_inside = λ h. mine.0 (r.ours_inside h);
  ours_held = λ h. elim (r.ours_held (mine.1 h)) [ inl k ↦ inl k | inr k ↦ inr (other.0 k) ];
  theirs_inside = λ h. other.0 (r.theirs_inside h);
  theirs_held = λ h. elim (r.theirs_held (other.1 h)) [ inl k ↦ inl k | inr k ↦ inr (mine.0 k) ];
}

-- shapes that are left of two lists remain of them
pub remain_left : (pairs others : List LayerPair) (xs ys left other : List (PlainShape Rings))
    → AreLeft pairs xs others ys left → AreLeft others ys pairs xs other → (l : Layer) (s : Square)
    → Remain (IsMoved pairs (ShapesCover xs) l s) (IsMoved others (ShapesCover ys) l s) (ShapesCover left l s)
    (ShapesCover other l s)
remain_left pairs others xs ys left other first second l s = record {
  ours_inside = first.inside l s;
  ours_held = first.held l s;
  theirs_inside = second.inside l s;
  theirs_held = second.held l s;
}

-- nothing remains where both are the same
pub remain_none : {a b x y : Type 0} → a ↔ b → (¬ x) → (¬ y) → Remain a b x y
remain_none same none nothing = record {
  ours_inside = λ h. absurd (none h);
  ours_held = λ h. inr (same.0 h);
  theirs_inside = λ h. absurd (nothing h);
  theirs_held = λ h. inr (same.1 h);
}

-- all remains
pub remain_all : {a b x y : Type 0} → x ↔ a → y ↔ b → Remain a b x y
remain_all mine other = record {
  ours_inside = mine.0;
  ours_held = λ h. inl (mine.1 h);
  theirs_inside = other.0;
  theirs_held = λ h. inl (other.1 h);
}

-- outside of a larger area
pub same_if_wider : (old new : Area) (a b x y : Draws) → Grows old new → AreSameIf old a b x y → AreSameIf new a b x y
same_if_wider old new a b x y wide same l s out = same l s (λ h. out (wide.has l s h))

-- what remains of what remains
pub same_if_further : (area : Area) (a b x y u v : Draws) → AreSameIf area a b x y → AreSameIf area x y u v
    → AreSameIf area a b u v
same_if_further area a b x y u v first second l s out same = first l s out (second l s out same)

-- everywhere, so outside of an area
pub same_if_where : (area : Area) (a b x y : Draws) → AreSameWhere a b x y → AreSameIf area a b x y
same_if_where area a b x y same l s out = same l s

-- what two layouts cover together is covered so with the Layers mapped
pub moved_sum : (pairs : List LayerPair) (a b c : Draws) (s : Square)
    → ((l : Layer) → a l s ↔ (b l s ⊎ c l s)) → (l : Layer)
    → IsMoved pairs a l s ↔ (IsMoved pairs b l s ⊎ IsMoved pairs c l s)
moved_sum pairs a b c s is l = (
  λ m. elim ((is m.source).0 m.covers) [
    | inl h ↦ inl (record { source = m.source; is_target = m.is_target; covers = h })
    | inr h ↦ inr (record { source = m.source; is_target = m.is_target; covers = h })
  ],
  λ e. elim e [
    | inl m ↦ record { source = m.source; is_target = m.is_target; covers = (is m.source).1 (inl m.covers) }
    | inr m ↦ record { source = m.source; is_target = m.is_target; covers = (is m.source).1 (inr m.covers) }
  ],
)

-- an array is opened: what it covers goes into shapes and into what is placed
pub opened_all : {S T A P R I : Type 0} → (S → T) → (T → S ⊎ A) → (I → A) → R ↔ (P ⊎ I) → (A → T ⊎ I)
    → (T ⊎ R) ↔ ((S ⊎ P) ⊎ A)
opened_all grown inside inner placed all = (
  λ e. elim e [
    | inl t ↦ elim (inside t) [ inl h ↦ inl (inl h) | inr a ↦ inr a ]
    | inr r ↦ elim (placed.0 r) [ inl p ↦ inl (inr p) | inr i ↦ inr (inner i) ]
  ],
  λ e. elim e [
    | inl x ↦ elim x [ inl h ↦ inl (grown h) | inr p ↦ inr (placed.1 (inl p)) ]
    | inr a ↦ elim (all a) [ inl t ↦ inl t | inr i ↦ inr (placed.1 (inr i)) ]
  ],
)

-- an array is opened in part, and placed as it is besides
pub opened_part : {S T A P Q R I : Type 0} → (S → T) → (T → S ⊎ A) → (I → A) → Q ↔ (P ⊎ A) → R ↔ (Q ⊎ I)
    → (T ⊎ R) ↔ ((S ⊎ P) ⊎ A)
opened_part grown inside inner kept placed = (
  λ e. elim e [
    | inl t ↦ elim (inside t) [ inl h ↦ inl (inl h) | inr a ↦ inr a ]
    | inr r ↦
        elim (placed.0 r) [
          | inl q ↦ elim (kept.0 q) [ inl p ↦ inl (inr p) | inr a ↦ inr a ]
          | inr i ↦ inr (inner i)
        ]
  ],
  λ e. elim e [
    | inl x ↦ elim x [ inl h ↦ inl (grown h) | inr p ↦ inr (placed.1 (inl (kept.1 (inl p)))) ]
    | inr a ↦ inr (placed.1 (inl (kept.1 (inr a))))
  ],
)

-- what an array covers, with the Layers mapped
abbrev ArrayDraws : List LayerPair → List (PlainCell Rings) → Array → Draws
ArrayDraws pairs cells a = IsMoved pairs (PlacedCover cells (each_place a))

-- what is placed
abbrev PlacesDraw : List LayerPair → List (PlainCell Rings) → List Placement → Draws
PlacesDraw pairs cells ps = IsMoved pairs (PlacedCover cells ps)

-- an array is opened, all of it or in part
pub record Opens (pairs : List LayerPair) (cells : List (PlainCell Rings)) (a : Array) (old new : List (PlainShape Rings))
    (before after : List Array) (whole : Bool) : Type 0 where
  pub shapes : Adds (ShapesCover old) (ShapesCover new) (ArrayDraws pairs cells a) false
  pub arrays : Adds (PlacedCover cells (every_place before)) (PlacedCover cells (every_place after))
      (PlacedCover cells (each_place a)) false
  pub all : IsTrue whole → (l : Layer) (s : Square) → ArrayDraws pairs cells a l s
      → ShapesCover new l s ⊎ PlacesDraw pairs cells (every_place after) l s

-- arrays of none that are opened cover no more than the array
inner_within : (pairs : List LayerPair) (cells : List (PlainCell Rings)) (a : Array) (before after : List Array)
    → before ≡ []
    → Adds (PlacedCover cells (every_place before)) (PlacedCover cells (every_place after)) (PlacedCover cells (each_place a))
    false → (l : Layer) (s : Square) → PlacesDraw pairs cells (every_place after) l s → ArrayDraws pairs cells a l s
inner_within pairs cells a before after none adds l s m = elim (adds.inside m.source s m.covers) [
  | inl o ↦
      absurd (Any-nil (PlacementCovers cells m.source s)
      (subst (λ (as' : List Array). PlacedCover cells (every_place as') m.source s) none o))
  | inr h ↦ record { source = m.source; is_target = m.is_target; covers = h }
]

-- an array that is opened is drawn by its shapes and by what it places
pub open_whole : (pairs : List LayerPair) (cells : List (PlainCell Rings)) (a : Array) (old new : List (PlainShape Rings))
    (before after : List Array) (all : Bool) (ps qs : List Placement) → before ≡ []
    → Opens pairs cells a old new before after all → IsTrue all → AddsArrays ps qs (every_place after) → (l : Layer)
    (s : Square) → (ShapesCover new l s ⊎ PlacesDraw pairs cells qs l s)
    ↔ ((ShapesCover old l s ⊎ PlacesDraw pairs cells ps l s) ⊎ ArrayDraws pairs cells a l s)
open_whole pairs cells a old new before after all ps qs none opens holds adds l s =
    opened_all (opens.shapes.grown l s) (opens.shapes.inside l s)
    (inner_within pairs cells a before after none opens.arrays l s)
    (moved_sum pairs (PlacedCover cells qs) (PlacedCover cells ps) (PlacedCover cells (every_place after)) s
    (λ k. adds cells k s) l) (opens.all holds l s)

-- one that is opened in part is drawn if it is placed besides
pub open_partly : (pairs : List LayerPair) (cells : List (PlainCell Rings)) (a : Array)
    (old new : List (PlainShape Rings)) (before after : List Array) (all : Bool) (ps rs qs : List Placement)
    → before ≡ [] → Opens pairs cells a old new before after all → AddsArray ps rs a
    → AddsArrays rs qs (every_place after) → (l : Layer) (s : Square)
    → (ShapesCover new l s ⊎ PlacesDraw pairs cells qs l s)
    ↔ ((ShapesCover old l s ⊎ PlacesDraw pairs cells ps l s) ⊎ ArrayDraws pairs cells a l s)
open_partly pairs cells a old new before after all ps rs qs none opens kept adds l s =
    opened_part (opens.shapes.grown l s) (opens.shapes.inside l s)
    (inner_within pairs cells a before after none opens.arrays l s)
    (moved_sum pairs (PlacedCover cells rs) (PlacedCover cells ps) (PlacedCover cells (each_place a)) s
    (λ k. kept cells k s) l)
    (moved_sum pairs (PlacedCover cells qs) (PlacedCover cells rs) (PlacedCover cells (every_place after)) s
    (λ k. adds cells k s) l)

-- before any array is opened all are left
pub none_opened : (pairs : List LayerPair) (cells : List (PlainCell Rings)) (hs : List (PlainShape Rings))
    (none ps qs : List Placement) → none ≡ [] → PlaceSame qs ps → (l : Layer) (s : Square)
    → ((ShapesCover hs l s ⊎ PlacesDraw pairs cells none l s) ⊎ PlacesDraw pairs cells qs l s)
    ↔ (ShapesCover hs l s ⊎ PlacesDraw pairs cells ps l s)
none_opened pairs cells hs none ps qs is same l s = (
  λ e. elim e [
    | inl x ↦
        elim x [
          | inl h ↦ inl h
          | inr m ↦
              absurd (Any-nil (PlacementCovers cells m.source s)
              (subst (λ (rs : List Placement). PlacedCover cells rs m.source s) is m.covers))
        ]
    | inr m ↦
        inr
        (record { source = m.source; is_target = m.is_target; covers = (same cells m.source s).0 m.covers })
  ],
  λ e. elim e [
    | inl h ↦ inl (inl h)
    | inr m ↦
        inr
        (record { source = m.source; is_target = m.is_target; covers = (same cells m.source s).1 m.covers })
  ],
)

-- one more is opened, and fewer are left
pub one_opened : {D E A M N Z : Type 0} → E ↔ (D ⊎ A) → M ↔ (N ⊎ A) → (D ⊎ M) ↔ Z → (E ⊎ N) ↔ Z
one_opened more left before = (
  λ e. elim e [
    | inl h ↦ elim (more.0 h) [ inl d ↦ before.0 (inl d) | inr a ↦ before.0 (inr (left.1 (inr a))) ]
    | inr n ↦ before.0 (inr (left.1 (inl n)))
  ],
  λ z. elim (before.1 z) [
    | inl d ↦ inl (more.1 (inl d))
    | inr m ↦ elim (left.0 m) [ inl n ↦ inr n | inr a ↦ inl (more.1 (inr a)) ]
  ],
)

-- no array is left
pub all_are_opened : {D M Z : Type 0} → (¬ M) → (D ⊎ M) ↔ Z → D ↔ Z
all_are_opened none before = (
  λ d. before.0 (inl d),
  λ z. elim (before.1 z) [ inl d ↦ d | inr m ↦ absurd (none m) ],
)

-- what no places cover
pub none_draw : (pairs : List LayerPair) (cells : List (PlainCell Rings)) (as' : List Array) → as' ≡ [] → (l : Layer)
    (s : Square) → PlacesDraw pairs cells (every_place as') l s → ⊥
none_draw pairs cells as' none l s m =
    Any-nil (PlacementCovers cells m.source s)
    (subst (λ (xs : List Array). PlacedCover cells (every_place xs) m.source s) none m.covers)

pub none_cover : (cells : List (PlainCell Rings)) (as' : List Array) → as' ≡ [] → (l : Layer) (s : Square)
    → PlacedCover cells (every_place as') l s → ⊥
none_cover cells as' none l s c =
    Any-nil (PlacementCovers cells l s) (subst (λ (xs : List Array). PlacedCover cells (every_place xs) l s) none c)

-- arrays but for the last, and the last
pub last_covers : (cells : List (PlainCell Rings)) (old new : List Array) (x : Array) → old ≡ new ++ x ∷ []
    → (l : Layer) (s : Square)
    → PlacedCover cells (every_place old) l s
    ↔ (PlacedCover cells (every_place new) l s ⊎ PlacedCover cells (each_place x) l s)
last_covers cells old new x is l s = array_added cells [] new old x l s is

pub last_draws : (pairs : List LayerPair) (cells : List (PlainCell Rings)) (old new : List Array) (x : Array)
    → old ≡ new ++ x ∷ [] → (l : Layer) (s : Square)
    → PlacesDraw pairs cells (every_place old) l s
    ↔ (PlacesDraw pairs cells (every_place new) l s ⊎ ArrayDraws pairs cells x l s)
last_draws pairs cells old new x is l s =
    moved_sum pairs (PlacedCover cells (every_place old)) (PlacedCover cells (every_place new))
    (PlacedCover cells (each_place x)) s (λ k. last_covers cells old new x is k s) l

-- what remains of what is placed
pub remain_places : (pairs : List LayerPair) (cells : List (PlainCell Rings)) (ps qs left other : List Placement)
    → AreLeftPlaces ps qs left → AreLeftPlaces qs ps other → (l : Layer) (s : Square)
    → Remain (PlacesDraw pairs cells ps l s) (PlacesDraw pairs cells qs l s) (PlacesDraw pairs cells left l s)
    (PlacesDraw pairs cells other l s)
remain_places pairs cells ps qs left other first second l s =
    let to : (rs : List Placement) (m : IsMoved pairs (PlacedCover cells rs) l s) (us : List Placement)
    → PlacedCover cells us m.source s → PlacesDraw pairs cells us l s =
    λ rs m us h. record { source = m.source; is_target = m.is_target; covers = h } in
    record {
      ours_inside = λ m. to left m ps (first.inside cells m.source s m.covers);
      ours_held = λ m. elim (first.held cells m.source s m.covers) [ inl h ↦ inl (to ps m left h) | inr h ↦ inr (to ps m qs h) ];
      theirs_inside = λ m. to other m qs (second.inside cells m.source s m.covers);
      theirs_held = λ m. elim (second.held cells m.source s m.covers) [ inl h ↦ inl (to qs m other h) | inr h ↦ inr (to qs m ps h) ];
    }

-- what one side has besides stays
pub same_besides : {a b x y k : Type 0} → Remain a b x y → (x ⊎ k) ↔ y → (a ⊎ k) ↔ b
same_besides r same = (
  λ e. elim e [
    | inl h ↦ elim (r.ours_held h) [ inl u ↦ r.theirs_inside (same.0 (inl u)) | inr t ↦ t ]
    | inr h ↦ r.theirs_inside (same.0 (inr h))
  ],
  λ h. elim (r.theirs_held h) [
    | inl u ↦ elim (same.1 u) [ inl x ↦ inl (r.ours_inside x) | inr k ↦ inr k ]
    | inr t ↦ inl t
  ],
)

-- opened cells without a partner, put together with the rest
pub all_together : {S T P Q M A B R : Type 0} → (S ⊎ P) ↔ R → (T ⊎ (M ⊎ B)) ↔ (S ⊎ A) → Q ↔ (P ⊎ M)
    → ((T ⊎ Q) ⊎ B) ↔ (R ⊎ A)
all_together {S = S} {T = T} {Q = Q} {A = A} {B = B} ours alone more = (
  λ e. elim e [
    | inl x ↦
        elim x [
          | inl t ↦ elim (alone.0 (inl t)) [ inl h ↦ inl (ours.0 (inl h)) | inr a ↦ inr a ]
          | inr q ↦
              elim (more.0 q) [
                | inl p ↦ inl (ours.0 (inr p))
                | inr m ↦ elim (alone.0 (inr (inl m))) [ inl h ↦ inl (ours.0 (inl h)) | inr a ↦ inr a ]
              ]
        ]
    | inr b ↦ elim (alone.0 (inr (inr b))) [ inl h ↦ inl (ours.0 (inl h)) | inr a ↦ inr a ]
  ],
  λ e.
      let back : S ⊎ A → (T ⊎ Q) ⊎ B =
      λ x. elim (alone.1 x) [
        | inl t ↦ inl (inl t)
        | inr y ↦ elim y [ inl m ↦ inl (inr (more.1 (inr m))) | inr b ↦ inr b ]
      ] in
      elim e [
        | inl r ↦ elim (ours.1 r) [ inl h ↦ back (inl h) | inr p ↦ inl (inr (more.1 (inl p))) ]
        | inr a ↦ back (inr a)
      ],
)

-- an array of the first library is opened, with no Layer mapped, and its arrays are added
pub opened_first : {P R : Type 0} → (none : List LayerPair) (cells : List (PlainCell Rings)) (a : Array)
    (old new : List (PlainShape Rings)) (before after : List Array) (all : Bool) → none ≡ [] → before ≡ []
    → Opens none cells a old new before after all → IsTrue all → (l : Layer) (s : Square)
    → R ↔ (P ⊎ PlacedCover cells (every_place after) l s)
    → (ShapesCover new l s ⊎ R) ↔ ((ShapesCover old l s ⊎ P) ⊎ PlacedCover cells (each_place a) l s)
opened_first none cells a old new before after all is empty opens holds l s adds =
    let array = moved_none none is (PlacedCover cells (each_place a)) l s in
    let inner = moved_none none is (PlacedCover cells (every_place after)) l s in
    opened_all (opens.shapes.grown l s)
    (λ h. elim (opens.shapes.inside l s h) [ inl o ↦ inl o | inr m ↦ inr (array.0 m) ])
    (λ h. array.0 (inner_within none cells a before after empty opens.arrays l s (inner.1 h))) adds
    (λ h. elim (opens.all holds l s (array.1 h)) [ inl t ↦ inl t | inr m ↦ inr (inner.0 m) ])

-- and one that is opened in part and kept besides
pub opened_first_part : {M R : Type 0} → (none : List LayerPair) (cells : List (PlainCell Rings)) (a : Array)
    (old new : List (PlainShape Rings)) (before after : List Array) (all : Bool) (alone more : List Array) → none ≡ []
    → before ≡ [] → Opens none cells a old new before after all → more ≡ alone ++ a ∷ [] → (l : Layer) (s : Square)
    → R ↔ ((M ⊎ PlacedCover cells (every_place more) l s) ⊎ PlacedCover cells (every_place after) l s)
    → (ShapesCover new l s ⊎ R)
    ↔ ((ShapesCover old l s ⊎ (M ⊎ PlacedCover cells (every_place alone) l s)) ⊎ PlacedCover cells (each_place a) l s)
opened_first_part none cells a old new before after all alone more is empty opens pushed l s adds =
    let array = moved_none none is (PlacedCover cells (each_place a)) l s in
    let inner = moved_none none is (PlacedCover cells (every_place after)) l s in
    let last = last_covers cells more alone a pushed l s in
    opened_part (opens.shapes.grown l s)
    (λ h. elim (opens.shapes.inside l s h) [ inl o ↦ inl o | inr m ↦ inr (array.0 m) ])
    (λ h. array.0 (inner_within none cells a before after empty opens.arrays l s (inner.1 h))) (
      λ e. elim e [
        | inl m ↦ inl (inl m)
        | inr h ↦ elim (last.0 h) [ inl k ↦ inl (inr k) | inr k ↦ inr k ]
      ],
      λ e. elim e [
        | inl x ↦ elim x [ inl m ↦ inl m | inr k ↦ inr (last.1 (inl k)) ]
        | inr k ↦ inr (last.1 (inr k))
      ],
    ) adds

-- with nothing yet
pub no_partners : {S D A : Type 0} → (¬ D) → ((S ⊎ D) ⊎ A) ↔ (S ⊎ A)
no_partners none = (
  λ e. elim e [ inl x ↦ elim x [ inl h ↦ inl h | inr d ↦ absurd (none d) ] | inr a ↦ inr a ],
  λ e. elim e [ inl h ↦ inl (inl h) | inr a ↦ inr a ],
)

-- where what is opened is the same, what it was is
pub same_if_opened : (a b x y u v : Type 0) → (x ↔ a) × (y ↔ b) → (u ↔ v → x ↔ y) → u ↔ v → a ↔ b
same_if_opened a b x y u v opened left same =
    let both = left same in (
      λ h. opened.1.0 (both.0 (opened.0.1 h)),
      λ h. opened.0.0 (both.1 (opened.1.1 h)),
    )

-- one more part of what a side has, the other way round
pub other_way : {A B C D : Type 0} → ((A ⊎ B) ⊎ C) ↔ D → (A ⊎ (B ⊎ C)) ↔ D
other_way same = (
  λ e. elim e [
    | inl a ↦ same.0 (inl (inl a))
    | inr x ↦ elim x [ inl b ↦ same.0 (inl (inr b)) | inr k ↦ same.0 (inr k) ]
  ],
  λ d. elim (same.1 d) [
    | inl x ↦ elim x [ inl a ↦ inl a | inr b ↦ inr (inl b) ]
    | inr k ↦ inr (inr k)
  ],
)

-- two that are the same as two others are the same if these are
pub same_through : {A B C D : Type 0} → A ↔ C → B ↔ D → C ↔ D → A ↔ B
same_through mine other same = (λ a. other.1 (same.0 (mine.0 a)), λ b. mine.1 (same.1 (other.0 b)))

-- nothing that is placed draws nothing
pub nothing_draws : (pairs : List LayerPair) (cells : List (PlainCell Rings)) (ps : List Placement) → ps ≡ [] → (l : Layer)
    (s : Square) → PlacesDraw pairs cells ps l s → ⊥
nothing_draws pairs cells ps none l s m =
    Any-nil (PlacementCovers cells m.source s)
    (subst (λ (qs : List Placement). PlacedCover cells qs m.source s) none m.covers)

-- two cells cover the same where what remains of their shapes and of what they refer to does
pub rests_same : {M A Q : Type 0} → (none pairs : List LayerPair) (ours theirs : List (PlainCell Rings)) (i j : ℕ)
    (x y : PlainCell Rings) (left other : List (PlainShape Rings)) → none ≡ [] → slice_get ours i ≡ Some x
    → slice_get theirs j ≡ Some y → AreLeft none x.shapes pairs y.shapes left → AreLeft pairs y.shapes none x.shapes other
    → (l : Layer) (s : Square)
    → Remain (ReferencesCover ours x.references l s) (IsMoved pairs (ReferencesCover theirs y.references) l s) (M ⊎ A) Q
    → ((ShapesCover left l s ⊎ M) ⊎ A) ↔ (ShapesCover other l s ⊎ Q)
    → CoversAt ours i l s ↔ IsMoved pairs (CoversAt theirs j) l s
rests_same none pairs ours theirs i j x y left other is at there first second l s references same =
    let shapes =
    remain_of (remain_left none pairs x.shapes y.shapes left other first second l s)
    (moved_none none is (ShapesCover x.shapes) l s) (λ h. h, λ h. h) in
    same_through (covers_both ours i x at l s)
    (moved_sum pairs (CoversAt theirs j) (ShapesCover y.shapes) (ReferencesCover theirs y.references) s
    (λ k. covers_both theirs j y there k s) l) (same_of_remains (remain_both shapes references) (other_way same))
