-- What is added to what is placed.
use Rattle.std.proofs.Common.{◌≡◌, ◌↔◌, ◌⊎◌, ◌<◌, ◌+◌, ◌++◌, ◌∷◌, [], ℕ, List, Contains, Some, take, length, slice_get}
use Rattle.std.proofs.Common.{inl, inr, refl, sym, ap, subst}
use Rattle.lvl_grid.specs.declared.point.Point.{Point}
use Rattle.lvl_grid.specs.declared.point.Square.{Square}
use Rattle.lvl_grid.proofs.Anyone.{Any-nil}
use Rattle.lvl_names.specs.declared.layer.Layer.{Layer}
use Rattle.lvl_names.specs.Shifts.{one_place}
use Rattle.lvl_cells.specs.Cells.{PlainCell, Rings, map_at}
use Rattle.lvl_view.specs.declared.map.LayerPair.{LayerPair}
use Rattle.lvl_compare.specs.Tops.{Draws}
use Rattle.lvl_compare.specs.declared.pair.Pair.{Pair}
use Rattle.lvl_changed.specs.declared.area.Area.{Area}
use Rattle.lvl_changed.specs.declared.arrays.Array.{Array}
use Rattle.lvl_changed.specs.declared.found.Found.{Found}
use Rattle.lvl_changed.specs.declared.placed.Placed.{Placed}
use Rattle.lvl_changed.specs.declared.placements.Placement.{Placement}
use Rattle.lvl_changed.specs.inside.Areas.{AlikeOutside, Grows, HasImages, IsIn}
use Rattle.lvl_changed.specs.inside.Arrays.{all_places, as_reference, each_place, every_place, AddsArray, AddsArrays}
use Rattle.lvl_changed.specs.inside.Arrays.{IsArrayOf}
use Rattle.lvl_changed.specs.inside.Pairs.{IsFoundIn}
use Rattle.lvl_changed.specs.inside.Placements.{placed, PlacedCover, PlacementCovers, ReferencesCover}
use Rattle.lvl_changed.specs.inside.Remains.{AddsOutside, PlacedDraws}
use Rattle.lvl_changed.proofs.Arraying.{any_either, array_added, arrays_added, places_added, single_place}
use Rattle.lvl_changed.proofs.Moving.{moved_more}
use Rattle.lvl_changed.proofs.Placing.{places_alike, references_more}

-- placements and arrays are added
pub both_added : (ps qs new : List Placement) (xs ys all : List Array) → new ≡ ps ++ qs → all ≡ xs ++ ys
    → AddsArrays (ps ++ every_place xs) (new ++ every_place all) (qs ++ every_place ys)
both_added ps qs new xs ys all singles arrays cells l s =
    let P : Placement → Type 0 = PlacementCovers cells l s in
    let one = arrays_added cells new xs ys all l s arrays in
    let two = places_added cells ps qs new xs l s singles in
    let other = any_either P qs (every_place ys) in (
      λ x. elim (one.0 x) [
        | inl y ↦ elim (two.0 y) [ inl b ↦ inl b | inr b ↦ inr (other.1 (inl b)) ]
        | inr y ↦ inr (other.1 (inr y))
      ],
      λ x. one.1 (elim x [
        | inl y ↦ inl (two.1 (inl y))
        | inr y ↦ elim (other.0 y) [ inl b ↦ inl (two.1 (inr b)) | inr b ↦ inr b ]
      ]),
    )

-- one more array of a list
pub every_more : (cells : List (PlainCell Rings)) (xs : List Array) (a : Array) (l : Layer) (s : Square)
    → PlacedCover cells (every_place (xs ++ a ∷ [])) l s
    ↔ (PlacedCover cells (every_place xs) l s ⊎ PlacedCover cells (each_place a) l s)
every_more cells xs a l s = array_added cells [] xs (xs ++ a ∷ []) a l s refl

-- no array is added
pub adds_none : (ps : List Placement) → AddsArrays ps ps []
adds_none ps cells l s =
    (λ x. inl x, λ e. elim e [ inl x ↦ x | inr x ↦ absurd (Any-nil (PlacementCovers cells l s) x) ])

-- one more array is added
pub adds_more : (first old new : List Placement) (xs : List Array) (a : Array) → AddsArrays first old (every_place xs)
    → AddsArray old new a → AddsArrays first new (every_place (xs ++ a ∷ []))
adds_more first old new xs a before adds cells l s =
    let all = every_more cells xs a l s in
    let earlier = before cells l s in
    let last = adds cells l s in (
      λ x. elim (last.0 x) [
        | inl y ↦ elim (earlier.0 y) [ inl b ↦ inl b | inr b ↦ inr (all.1 (inl b)) ]
        | inr y ↦ inr (all.1 (inr y))
      ],
      λ x. last.1 (elim x [
        | inl y ↦ inl (earlier.1 (inl y))
        | inr y ↦ elim (all.0 y) [ inl b ↦ inl (earlier.1 (inr b)) | inr b ↦ inr b ]
      ]),
    )

-- a placement becomes an array
pub array_more : (cells : List (PlainCell Rings)) (ps : List Placement) (p : Placement) (shifts : List Point)
    (xs old new : List Array) (l : Layer) (s : Square) → shifts ≡ one_place
    → new ≡ old ++ record { cell = p.cell; by = p.map; shifts = shifts } ∷ []
    → PlacedCover cells (every_place old) l s ↔ PlacedCover cells (ps ++ every_place xs) l s
    → PlacedCover cells (every_place new) l s ↔ PlacedCover cells ((ps ++ p ∷ []) ++ every_place xs) l s
array_more cells ps p shifts xs old new l s one grown before =
    let a : Array = record { cell = p.cell; by = p.map; shifts = shifts } in
    let all = array_added cells [] old new a l s grown in
    let more =
    places_added cells ps (each_place a) (ps ++ p ∷ []) xs l s (ap (λ qs. ps ++ qs) (sym (single_place a one))) in (
      λ x. more.1 (elim (all.0 x) [ inl y ↦ inl (before.0 y) | inr y ↦ inr y ]),
      λ x. all.1 (elim (more.0 x) [ inl y ↦ inl (before.1 y) | inr y ↦ inr y ]),
    )

-- an array of a cell without a partner is added
pub alone_added : (pair : Pair) (p : Placed) (old new : List Array) (a : Array) (l : Layer) (s : Square)
    → new ≡ old ++ a ∷ []
    → (PlacedDraws pair p l s ⊎ PlacedCover pair.first.now.cells (every_place new) l s)
    ↔ ((PlacedDraws pair p l s ⊎ PlacedCover pair.first.now.cells (every_place old) l s)
    ⊎ PlacedCover pair.first.now.cells (each_place a) l s)
alone_added pair p old new a l s is =
    let more = array_added pair.first.now.cells [] old new a l s is in (
      λ x. elim x [
        | inl y ↦ inl (inl y)
        | inr y ↦ elim (more.0 y) [ inl b ↦ inl (inr b) | inr b ↦ inr b ]
      ],
      λ x. elim x [
        | inl y ↦ elim y [ inl b ↦ inl b | inr b ↦ inr (more.1 (inl b)) ]
        | inr y ↦ inr (more.1 (inr y))
      ],
    )

-- an array of the partner is added
pub partner_added : (pair : Pair) (old new : Placed) (alone : List Array) (a : Array) (n : ℕ) (f : Found) (w : Area)
    → f.partner ≡ Some n → IsFoundIn pair a.cell f
    → ((e : Point) → Contains a.shifts e → HasImages (map_at (as_reference a) e) f.area w)
    → AddsArray (all_places old) (all_places new) (record { cell = n; by = a.by; shifts = a.shifts }) → (l : Layer)
    (s : Square) → (¬ IsIn w l s)
    → (PlacedDraws pair new l s ⊎ PlacedCover pair.first.now.cells (every_place alone) l s)
    ↔ ((PlacedDraws pair old l s ⊎ PlacedCover pair.first.now.cells (every_place alone) l s)
    ⊎ PlacedCover pair.first.now.cells (each_place a) l s)
partner_added pair old new alone a n f w partner found has adds l s out =
    let pairs : List LayerPair = pair.view.now.pairs in
    let theirs : List (PlainCell Rings) = pair.second.now.cells in
    let whole : Draws = PlacedCover theirs (all_places new) in
    let last =
    places_alike pairs pair.first.now.cells theirs a.cell n f (as_reference a) w partner found has l s out in (
      λ x. elim x [
        | inl m ↦
            elim ((adds theirs m.source s).0 m.covers) [
              | inl b ↦ inl (inl (record { source = m.source; is_target = m.is_target; covers = b }))
              | inr b ↦ inr (last.1 (record { source = m.source; is_target = m.is_target; covers = b }))
            ]
        | inr y ↦ inl (inr y)
      ],
      λ x. elim x [
        | inl y ↦
            elim y [
              | inl m ↦
                  inl (moved_more pairs (PlacedCover theirs (all_places old)) whole s s
                  (λ k h. (adds theirs k s).1 (inl h)) l m)
              | inr b ↦ inr b
            ]
        | inr y ↦
            inl (moved_more pairs (PlacedCover theirs (placed n (as_reference a))) whole s s
            (λ k h. (adds theirs k s).1 (inr h)) l (last.0 y))
      ],
    )

-- what an array adds, after what others add
pub outside_more : (cells : List (PlainCell Rings)) (v w : Area) (first old new : Draws) (xs : List Array) (a : Array)
    → Grows v w → AddsOutside v first old (PlacedCover cells (every_place xs))
    → AddsOutside w old new (PlacedCover cells (each_place a))
    → AddsOutside w first new (PlacedCover cells (every_place (xs ++ a ∷ [])))
outside_more cells v w first old new xs a wide before adds l s out =
    let all = every_more cells xs a l s in
    let earlier = before l s (λ h. out (wide.has l s h)) in
    let last = adds l s out in (
      λ x. elim (last.0 x) [
        | inl y ↦ elim (earlier.0 y) [ inl b ↦ inl b | inr b ↦ inr (all.1 (inl b)) ]
        | inr y ↦ inr (all.1 (inr y))
      ],
      λ x. last.1 (elim x [
        | inl y ↦ inl (earlier.1 (inl y))
        | inr y ↦ elim (all.0 y) [ inl b ↦ inl (earlier.1 (inr b)) | inr b ↦ inr b ]
      ]),
    )

pub outside_none : (cells : List (PlainCell Rings)) (w : Area) (first : Draws)
    → AddsOutside w first first (PlacedCover cells [])
outside_none cells w first l s out =
    (λ x. inl x, λ e. elim e [ inl x ↦ x | inr x ↦ absurd (Any-nil (PlacementCovers cells l s) x) ])

-- what the array of one more reference adds
pub reference_added : (cells mine : List (PlainCell Rings)) (i j : ℕ) (c : PlainCell Rings) (a : Array) (v w : Area)
    (old new : Draws) → cells ≡ mine → slice_get cells i ≡ Some c → j < length c.references → IsArrayOf cells i j a
    → Grows v w → AddsOutside w old new (PlacedCover mine (each_place a))
    → AlikeOutside v (ReferencesCover cells (take j c.references)) old
    → AlikeOutside w (ReferencesCover cells (take (j + 1) c.references)) new
reference_added cells mine i j c a v w old new same at low is wide adds before l s out =
    let more = references_more cells i j c a at low is l s in
    let earlier = before l s (λ h. out (wide.has l s h)) in
    let last : new l s ↔ (old l s ⊎ PlacedCover cells (each_place a) l s) =
    subst (λ (cs : List (PlainCell Rings)). new l s ↔ (old l s ⊎ PlacedCover cs (each_place a) l s)) (sym same)
    (adds l s out) in (
      λ x. last.1 (elim (more.0 x) [ inl y ↦ inl (earlier.0 y) | inr y ↦ inr y ]),
      λ x. more.1 (elim (last.0 x) [ inl y ↦ inl (earlier.1 y) | inr y ↦ inr y ]),
    )
