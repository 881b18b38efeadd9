-- Paths on one side of a window: they count in the winding of a square of the window by their ends alone.
use Rattle.std.proofs.Common.{◌≡◌, ◌+◌, ℕ, ◌≤ℤ◌, Bool, true, false, ◌&&◌, not, List, [], ◌∷◌, ◌++◌, refl, ap, ◌∙◌}
use Rattle.std.proofs.Common.{arith, cond, int_lt, int_le, count_by, All, map}
use Rattle.std.proofs.lemmas.Int.{ints}
use Rattle.std.proofs.lemmas.List.{map-append}
use Rattle.std.proofs.lemmas.List.Elements.{All-cons, All-head, All-map, All-nil, All-tail}
use Rattle.lvl_grid.specs.declared.point.Point.{Point}
use Rattle.lvl_grid.specs.declared.point.Square.{Square}
use Rattle.lvl_grid.specs.declared.point.Window.{Window}
use Rattle.lvl_grid.specs.declared.map.Map.{Map}
use Rattle.lvl_grid.specs.Clip.{IsInWindow}
use Rattle.lvl_grid.specs.Placed.{placed_point}
use Rattle.lvl_grid.specs.Winding.{Edge, last_or, path_edges, edges, goes_up, goes_down, winding}
use Rattle.lvl_grid.proofs.Turning.{count-cons, last_or-map, lt_is_not_le}
use Rattle.lvl_flat.specs.inside.Near.{MayBe}

-- what a point counts as, if a path from it to another counts by both alone
pub record CountsByEnds (s : Square) (P : Point → Type 0) : Type 0 where
  pub height : Point → ℕ
  pub step : (p q : Point) → P p → P q
      → cond (goes_up s (p, q)) 1 0 + height q ≡ cond (goes_down s (p, q)) 1 0 + height p

by_ends : (s : Square) (P : Point → Type 0) (h : CountsByEnds s P) (p : Point) (ps : List Point) → P p → All P ps
    → count_by (goes_up s) (path_edges p ps) + h.height (last_or p ps)
    ≡ count_by (goes_down s) (path_edges p ps) + h.height p
by_ends s P h p [] e all = refl
by_ends s P h p (q ∷ qs) e all =
    let here : P q = All-head P q qs all in
    omega (
      arith,
      count-cons (goes_up s) (p, q) (path_edges q qs),
      count-cons (goes_down s) (p, q) (path_edges q qs),
      h.step p q e here,
      by_ends s P h q qs here (All-tail P q qs all),
    )

-- two paths from a point go up, less down, as often
abbrev SameNet : Square → Point → List Point → List Point → Type 0
SameNet s p ps qs =
    count_by (goes_up s) (path_edges p ps) + count_by (goes_down s) (path_edges p qs)
    ≡ count_by (goes_down s) (path_edges p ps) + count_by (goes_up s) (path_edges p qs)

same_ends : (s : Square) (P : Point → Type 0) → CountsByEnds s P → (p : Point) (ps qs : List Point) → P p → All P ps
    → All P qs → last_or p ps ≡ last_or p qs → SameNet s p ps qs
same_ends s P h p ps qs e all all' same =
    omega (arith, by_ends s P h p ps e all, by_ends s P h p qs e all', ap h.height same)

-- the points are on one side of the window
abbrev pub IsLeft : Window → Point → Type 0
IsLeft w p = p.x ≤ℤ w.x0

abbrev pub IsRight : Window → Point → Type 0
IsRight w p = w.x1 ≤ℤ p.x

abbrev pub IsBelow : Window → Point → Type 0
IsBelow w p = p.y ≤ℤ w.y0

abbrev pub IsAbove : Window → Point → Type 0
IsAbove w p = w.y1 ≤ℤ p.y

pub left_counts : (w : Window) (s : Square) → IsInWindow w s → CountsByEnds s (IsLeft w)
left_counts w s i = record {
  height = λ p. 0;
  step = λ p q e f.
      let a = i.x_from in
      let no : int_lt s.x p.x ≡ false = grind (arith, ints) in
      rw no refl;
}

pub below_counts : (w : Window) (s : Square) → IsInWindow w s → CountsByEnds s (IsBelow w)
below_counts w s i = record {
  height = λ p. 0;
  step = λ p q e f.
      let a = i.y_from in
      let no : int_lt s.y p.y ≡ false = grind (arith, ints) in
      let no' : int_lt s.y q.y ≡ false = grind (arith, ints) in
      grind arith;
}

pub above_counts : (w : Window) (s : Square) → IsInWindow w s → CountsByEnds s (IsAbove w)
above_counts w s i = record {
  height = λ p. 0;
  step = λ p q e f.
      let a = i.y_below in
      let no : int_le p.y s.y ≡ false = grind (arith, ints) in
      let no' : int_le q.y s.y ≡ false = grind (arith, ints) in
      grind arith;
}

rises : (b b' : Bool) → cond (b && not b') 1 0 + cond b' 1 0 ≡ cond (b' && not b) 1 0 + cond b 1 0
rises b b' = grind arith

pub right_counts : (w : Window) (s : Square) → IsInWindow w s → CountsByEnds s (IsRight w)
right_counts w s i = record {
  height = λ p. cond (int_le p.y s.y) 1 0;
  step = λ p q e f.
      let a = i.x_below in
      let yes : int_lt s.x p.x ≡ true = grind (arith, ints) in
      rw (yes, lt_is_not_le s.y q.y, lt_is_not_le s.y p.y) (rises (int_le p.y s.y) (int_le q.y s.y));
}

path_count : (t : Edge → Bool) (p : Point) (ps after : List Point)
    → count_by t (path_edges p (ps ++ after))
    ≡ count_by t (path_edges p ps) + count_by t (path_edges (last_or p ps) after)
path_count t p [] after = omega arith
path_count t p (q ∷ qs) after =
    omega (
      arith,
      path_count t q qs after,
      count-cons t (p, q) (path_edges q (qs ++ after)),
      count-cons t (p, q) (path_edges q qs),
    )

last_of_both : (p : Point) (ps qs : List Point) → last_or p (ps ++ qs) ≡ last_or (last_or p ps) qs
last_of_both p [] qs = refl
last_of_both p (r ∷ ps) qs = last_of_both r ps qs

edges_on : (before : List Point) (p : Point) (ps : List Point)
    → edges (before ++ p ∷ ps) ≡ path_edges (last_or p ps) (before ++ p ∷ ps)
edges_on [] p ps = refl
edges_on (b ∷ before) p ps = ap (λ z. path_edges z (b ∷ before ++ p ∷ ps)) (last_of_both b before (p ∷ ps))

-- the edges of a ring, counted before a path, along it and after it
whole_count : (t : Edge → Bool) (before : List Point) (p : Point) (ps after : List Point) (last : Point)
    → last_or p ps ≡ last
    → count_by t (edges (before ++ p ∷ (ps ++ after)))
    ≡ count_by t (path_edges (last_or last after) (before ++ p ∷ [])) + count_by t (path_edges p ps)
    + count_by t (path_edges last after)
whole_count t before p ps after last is =
    let z : last_or p (ps ++ after) ≡ last_or last after = last_of_both p ps after ∙ ap (λ q. last_or q after) is in
    let all : edges (before ++ p ∷ (ps ++ after)) ≡ path_edges (last_or last after) (before ++ p ∷ (ps ++ after)) =
    edges_on before p (ps ++ after) ∙ ap (λ q. path_edges q (before ++ p ∷ (ps ++ after))) z in
    let end : count_by t (path_edges (last_or p ps) after) ≡ count_by t (path_edges last after) =
    ap (λ q. count_by t (path_edges q after)) is in
    omega (
      arith,
      ap (count_by t) all,
      path_count t (last_or last after) before (p ∷ (ps ++ after)),
      path_count t (last_or last after) before (p ∷ []),
      count-cons t (last_or (last_or last after) before, p) (path_edges p (ps ++ after)),
      count-cons t (last_or (last_or last after) before, p) [],
      path_count t p ps after,
      end,
    )

-- a path of a ring may be replaced by one with the same ends and the same net
exchanged : (s : Square) (before : List Point) (p : Point) (ps qs after : List Point) → last_or p ps ≡ last_or p qs
    → SameNet s p ps qs → winding (before ++ p ∷ (ps ++ after)) s ≡ winding (before ++ p ∷ (qs ++ after)) s
exchanged s before p ps qs after same net =
    let last : Point = last_or p qs in
    omega (
      arith,
      ints,
      net,
      whole_count (goes_up s) before p ps after last same,
      whole_count (goes_down s) before p ps after last same,
      whole_count (goes_up s) before p qs after last refl,
      whole_count (goes_down s) before p qs after last refl,
    )

-- and so by any path on the same side
on_side : (s : Square) (P : Point → Type 0) → CountsByEnds s P → (before : List Point) (p : Point)
    (ps qs after : List Point) → All P (p ∷ ps) → All P (p ∷ qs) → last_or p ps ≡ last_or p qs
    → winding (before ++ p ∷ (ps ++ after)) s ≡ winding (before ++ p ∷ (qs ++ after)) s
on_side s P h before p ps qs after all all' same =
    exchanged s before p ps qs after same
    (same_ends s P h p ps qs (All-head P p ps all) (All-tail P p ps all) (All-tail P p qs all') same)

-- the last point of a path is one of its points
pub last_has : (P : Point → Type 0) (p : Point) (ps : List Point) → All P (p ∷ ps) → P (last_or p ps)
last_has P p [] all = All-head P p [] all
last_has P p (q ∷ qs) all = last_has P q qs (All-tail P p (q ∷ qs) all)

-- a path whose placed points are all on one side of a window may be replaced by its ends and a point on that side
pub ends_alike : (m : Map) (e : Point) (w : Window) (P Q : Point → Type 0)
    → ((s : Square) → IsInWindow w s → CountsByEnds s P) → ((v : Point) → Q v → P (placed_point m e v))
    → (p corner : Point) (ps : List Point) → All Q (p ∷ ps) → Q corner
    → MayBe m e w (p ∷ ps) (p ∷ corner ∷ last_or p ps ∷ [])
ends_alike m e w P Q counts there p corner ps all at =
    let f : Point → Point = placed_point m e in
    let last : Point = last_or p ps in
    let placed : (qs : List Point) → All Q qs → All P (map f qs) =
    λ qs h. All-map P f qs (λ k d lt. there _ (h k d lt)) in
    let first : P (f p) = there p (All-head Q p ps all) in
    let three : All P (f p ∷ f corner ∷ f last ∷ []) =
    All-cons P (f p) (f corner ∷ f last ∷ []) first
    (All-cons P (f corner) (f last ∷ []) (there corner at)
    (All-cons P (f last) [] (there last (last_has Q p ps all)) (All-nil P))) in
    record {
      alike = λ before after s i.
          rw (
            map-append f before ((p ∷ ps) ++ after),
            map-append f ps after,
            map-append f before (p ∷ corner ∷ last ∷ after),
          )
          (on_side s P (counts s i) (map f before) (f p) (map f ps) (f corner ∷ f last ∷ []) (map f after)
          (placed (p ∷ ps) all) three (last_or-map f p ps));
    }
