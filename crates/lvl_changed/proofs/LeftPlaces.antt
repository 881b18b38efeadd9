-- What is left of placements where others place the same.
use Rattle.std.proofs.Common.{◌≡◌, ◌↔◌, ◌⊎◌, ◌<◌, ◌+◌, ◌++◌, ◌∷◌, [], ℕ, List, Any, Contains, take, length, get_or}
use Rattle.std.proofs.Common.{inl, inr, sym, ap, ◌∙◌, subst}
use Rattle.std.proofs.lemmas.List.{take_more}
use Rattle.lvl_grid.specs.declared.point.Square.{Square}
use Rattle.lvl_grid.proofs.Anyone.{some_contained, Any-push}
use Rattle.lvl_names.specs.declared.layer.Layer.{Layer}
use Rattle.lvl_cells.specs.Cells.{PlainCell, Rings}
use Rattle.lvl_changed.specs.declared.arrays.Array.{Array}
use Rattle.lvl_changed.specs.declared.placements.Placement.{Placement}
use Rattle.lvl_changed.specs.inside.Arrays.{AreListed, every_place}
use Rattle.lvl_changed.specs.inside.Placements.{AreLeftPlaces, HaveSame, PlaceSame, PlacedCover, PlacementCovers}
use Rattle.lvl_changed.specs.inside.Rows.{AreSplit}
use Rattle.lvl_changed.proofs.Arraying.{any_either}
use Rattle.lvl_changed.proofs.Placing.{same_cover}

-- nothing is left of nothing
pub left_none : (others : List Placement) → AreLeftPlaces [] others []
left_none others = record {
  inside = λ cells l s x. x;
  held = λ cells l s x. inl x;
}

-- with one more placement
pub placements_more : (ps : List Placement) (i : ℕ) (p : Placement) (cells : List (PlainCell Rings)) (l : Layer)
    (s : Square) → i < length ps → p ≡ get_or ps i p
    → PlacedCover cells (take (i + 1) ps) l s
    ↔ (PlacedCover cells (take i ps) l s ⊎ PlacementCovers cells l s p)
placements_more ps i p cells l s low is =
    let P : Placement → Type 0 = PlacementCovers cells l s in
    let more : take (i + 1) ps ≡ take i ps ++ p ∷ [] =
    take_more ps i p low ∙ ap (λ (q : Placement). take i ps ++ q ∷ []) (sym is) in
    subst (λ us. Any P us ↔ (Any P (take i ps) ⊎ P p)) (sym more) (Any-push P (take i ps) p)

-- one more placement, which is left
pub left_more : (ps others old new : List Placement) (i : ℕ) (p : Placement) → i < length ps → p ≡ get_or ps i p
    → new ≡ old ++ p ∷ [] → AreLeftPlaces (take i ps) others old → AreLeftPlaces (take (i + 1) ps) others new
left_more ps others old new i p low is grown before =
    let adds : (cells : List (PlainCell Rings)) (l : Layer) (s : Square) → PlacedCover cells new l s
    ↔ (PlacedCover cells old l s ⊎ PlacementCovers cells l s p) =
    λ cells l s. let P : Placement → Type 0 = PlacementCovers cells l s in
    subst (λ us. Any P us ↔ (Any P old ⊎ P p)) (sym grown) (Any-push P old p) in
    record {
      inside = λ cells l s x. (placements_more ps i p cells l s low is).1 (elim ((adds cells l s).0 x)
          [ inl y ↦ inl (before.inside cells l s y) | inr y ↦ inr y ]);
      held = λ cells l s x. elim ((placements_more ps i p cells l s low is).0 x) [
        | inl y ↦ elim (before.held cells l s y) [ inl b ↦ inl ((adds cells l s).1 (inl b)) | inr b ↦ inr b ]
        | inr y ↦ inl ((adds cells l s).1 (inr y))
      ];
    }

-- one more placement that is among the others
pub left_among : (ps others old : List Placement) (i : ℕ) (p : Placement) → i < length ps → p ≡ get_or ps i p
    → Contains others p → AreLeftPlaces (take i ps) others old → AreLeftPlaces (take (i + 1) ps) others old
left_among ps others old i p low is has before = record {
  inside = λ cells l s x. (placements_more ps i p cells l s low is).1 (inl (before.inside cells l s x));
  held = λ cells l s x. elim ((placements_more ps i p cells l s low is).0 x) [
    | inl y ↦ before.held cells l s y
    | inr y ↦ inr (some_contained (PlacementCovers cells l s) others p has y)
  ];
}

-- what is left of what is left, where less is left of the others too
pub left_further : (ps qs ps2 qs2 left : List Placement) → AreLeftPlaces ps qs ps2 → AreLeftPlaces qs ps qs2
    → AreLeftPlaces ps2 qs2 left → AreLeftPlaces ps qs left
left_further ps qs ps2 qs2 left first other then = record {
  inside = λ cells l s x. first.inside cells l s (then.inside cells l s x);
  held = λ cells l s x. elim (first.held cells l s x) [
    | inl y ↦
        elim (then.held cells l s y) [ inl b ↦ inl b | inr b ↦ inr (other.inside cells l s b) ]
    | inr y ↦ inr y
  ];
}

-- what is left of placements that cover the same as others
pub left_same : (ps qs ps2 qs2 left : List Placement) → PlaceSame ps2 ps → PlaceSame qs2 qs
    → AreLeftPlaces ps2 qs2 left → AreLeftPlaces ps qs left
left_same ps qs ps2 qs2 left ours theirs before = record {
  inside = λ cells l s x. (ours cells l s).0 (before.inside cells l s x);
  held = λ cells l s x. elim (before.held cells l s ((ours cells l s).1 x))
      [ inl y ↦ inl y | inr y ↦ inr ((theirs cells l s).0 y) ];
}

-- lists of the same placements
pub have_same : (ps qs : List Placement) → HaveSame ps qs → PlaceSame qs ps
have_same ps qs same cells l s =
    (same_cover cells qs ps (λ p. ((same p).1, (same p).0)) l s, same_cover cells ps qs same l s)

-- placements that are left, beside arrays
pub singles_left : (ps qs left : List Placement) (xs ys : List Array) → AreLeftPlaces ps qs left
    → AreLeftPlaces (ps ++ every_place xs) (qs ++ every_place ys) (left ++ every_place xs)
singles_left ps qs left xs ys before = record {
  inside = λ cells l s x.
      let P : Placement → Type 0 = PlacementCovers cells l s in
      (any_either P ps (every_place xs)).1 (elim ((any_either P left (every_place xs)).0 x)
      [ inl b ↦ inl (before.inside cells l s b) | inr b ↦ inr b ]);
  held = λ cells l s x.
      let P : Placement → Type 0 = PlacementCovers cells l s in
      elim ((any_either P ps (every_place xs)).0 x) [
        | inl b ↦
            elim (before.held cells l s b) [
              | inl d ↦ inl ((any_either P left (every_place xs)).1 (inl d))
              | inr d ↦ inr ((any_either P qs (every_place ys)).1 (inl d))
            ]
        | inr b ↦ inl ((any_either P left (every_place xs)).1 (inr b))
      ];
}

-- rows of arrays that are left, beside placements
pub rows_left : (ps qs : List Placement) (xs ys rows : List Array) → AreSplit xs ys rows
    → AreLeftPlaces (ps ++ every_place xs) (qs ++ every_place ys) (ps ++ every_place rows)
rows_left ps qs xs ys rows split = record {
  inside = λ cells l s x.
      let P : Placement → Type 0 = PlacementCovers cells l s in
      (any_either P ps (every_place xs)).1 (elim ((any_either P ps (every_place rows)).0 x)
      [ inl b ↦ inl b | inr b ↦ inr (split.inside cells l s b) ]);
  held = λ cells l s x.
      let P : Placement → Type 0 = PlacementCovers cells l s in
      elim ((any_either P ps (every_place xs)).0 x) [
        | inl b ↦ inl ((any_either P ps (every_place rows)).1 (inl b))
        | inr b ↦
            elim (split.held cells l s b) [
              | inl d ↦ inl ((any_either P ps (every_place rows)).1 (inr d))
              | inr d ↦ inr ((any_either P qs (every_place ys)).1 (inr d))
            ]
      ];
}

-- placements, and arrays that are listed
pub listed_left : (ps qs left : List Placement) (xs ys : List Array) → AreListed ps left xs ys
    → AreLeftPlaces (ps ++ every_place xs) (qs ++ every_place ys) left
listed_left ps qs left xs ys listed = record {
  inside = λ cells l s x.
      (any_either (PlacementCovers cells l s) ps (every_place xs)).1 ((listed cells l s).inside x);
  held = λ cells l s x.
      elim ((any_either (PlacementCovers cells l s) ps (every_place xs)).0 x) [
        | inl b ↦ inl ((listed cells l s).grown b)
        | inr b ↦
            elim ((listed cells l s).held b) [
              | inl d ↦ inl d
              | inr d ↦ inr ((any_either (PlacementCovers cells l s) qs (every_place ys)).1 (inr d))
            ]
      ];
}
