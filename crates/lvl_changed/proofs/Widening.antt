-- Windows that are placed, joined and added.
use Rattle.std.proofs.Common.{◌≡◌, ◌<◌, ◌++◌, ◌∷◌, [], ℕ, List, Bool, true, false, IsTrue, Any, ◌⊎◌, inl, inr, length}
use Rattle.std.proofs.Common.{◌+◌, ◌≤◌, Contains, take, get_or, sym, subst, ap, ◌∙◌, arith}
use Rattle.std.proofs.Common.{set}
use Rattle.std.specs.List.{remove, swap_remove}
use Rattle.std.specs.List.Sorted.{IsPermutation}
use Rattle.std.proofs.lemmas.Int.{ints, clamps}
use Rattle.std.proofs.lemmas.List.{take_all, take_more, get_or_default}
use Rattle.std.proofs.lemmas.List.Elements.{Contains-push_cases}
use Rattle.std.proofs.lemmas.Option.{slice_get_within, get_or_from_slice_get}
use Rattle.std.proofs.lemmas.List.Sorted.{Contains-permutation, IsPermutation-remove, IsPermutation-swap_remove}
use Rattle.lvl_grid.specs.declared.point.Point.{Point}
use Rattle.lvl_grid.specs.declared.point.Square.{Square}
use Rattle.lvl_grid.specs.declared.point.Window.{Window}
use Rattle.lvl_grid.specs.declared.map.Map.{Map}
use Rattle.lvl_grid.specs.declared.map.Turn.{Turn}
use Rattle.lvl_grid.specs.declared.map.Turn.TheVariants.{R0, R90, R180, R270}
use Rattle.lvl_grid.specs.Clip.{IsInWindow}
use Rattle.lvl_grid.specs.Turn.{image, image_square}
use Rattle.lvl_grid.proofs.Anyone.{some_contained, Any-left, Any-push, Any-uncons}
use Rattle.lvl_cells.specs.Cells.{PlainReference, map_at}
use Rattle.lvl_flat.specs.Placing.{IsPlacing}
use Rattle.lvl_compare.specs.Parts.{SomeHas}
use Rattle.lvl_compare.proofs.InStrips.{hull, hull_first, hull_second}
use Rattle.lvl_changed.specs.declared.windows.Windows.{Windows}
use Rattle.lvl_changed.specs.inside.Windows.{Has, HasPlaced, Widens}
use Rattle.lvl_changed.proofs.Lists.{set_has, set_keeps}

-- the window at a point
abbrev pub at_point : Point → Window
at_point p = record { x0 = p.x; y0 = p.y; x1 = p.x; y1 = p.y }

-- the window between the images of a window's corners
abbrev pub placed_window : Map → Window → Window
placed_window m w =
    hull (at_point (image m (record { x = w.x0; y = w.y0 }))) (at_point (image m (record { x = w.x1; y = w.y1 })))

abbrev Placed : Bool → Turn → Point → Window → Square → Type 0
Placed f t at w s =
    let m : Map = record { flip = f; turn = t; at = at } in IsInWindow (placed_window m w) (image_square m s)

placed_turned : (f : Bool) (t : Turn) (at : Point) (w : Window) (s : Square) → IsInWindow w s → Placed f t at w s
placed_turned false R0 at w s h = record {
  x_from = omega (arith, ints, clamps, h.x_from, h.x_below);
  x_below = omega (arith, ints, clamps, h.x_from, h.x_below);
  y_from = omega (arith, ints, clamps, h.y_from, h.y_below);
  y_below = omega (arith, ints, clamps, h.y_from, h.y_below);
}
placed_turned false R90 at w s h = record {
  x_from = omega (arith, ints, clamps, h.y_from, h.y_below);
  x_below = omega (arith, ints, clamps, h.y_from, h.y_below);
  y_from = omega (arith, ints, clamps, h.x_from, h.x_below);
  y_below = omega (arith, ints, clamps, h.x_from, h.x_below);
}
placed_turned false R180 at w s h = record {
  x_from = omega (arith, ints, clamps, h.x_from, h.x_below);
  x_below = omega (arith, ints, clamps, h.x_from, h.x_below);
  y_from = omega (arith, ints, clamps, h.y_from, h.y_below);
  y_below = omega (arith, ints, clamps, h.y_from, h.y_below);
}
placed_turned false R270 at w s h = record {
  x_from = omega (arith, ints, clamps, h.y_from, h.y_below);
  x_below = omega (arith, ints, clamps, h.y_from, h.y_below);
  y_from = omega (arith, ints, clamps, h.x_from, h.x_below);
  y_below = omega (arith, ints, clamps, h.x_from, h.x_below);
}
placed_turned true R0 at w s h = record {
  x_from = omega (arith, ints, clamps, h.x_from, h.x_below);
  x_below = omega (arith, ints, clamps, h.x_from, h.x_below);
  y_from = omega (arith, ints, clamps, h.y_from, h.y_below);
  y_below = omega (arith, ints, clamps, h.y_from, h.y_below);
}
placed_turned true R90 at w s h = record {
  x_from = omega (arith, ints, clamps, h.y_from, h.y_below);
  x_below = omega (arith, ints, clamps, h.y_from, h.y_below);
  y_from = omega (arith, ints, clamps, h.x_from, h.x_below);
  y_below = omega (arith, ints, clamps, h.x_from, h.x_below);
}
placed_turned true R180 at w s h = record {
  x_from = omega (arith, ints, clamps, h.x_from, h.x_below);
  x_below = omega (arith, ints, clamps, h.x_from, h.x_below);
  y_from = omega (arith, ints, clamps, h.y_from, h.y_below);
  y_below = omega (arith, ints, clamps, h.y_from, h.y_below);
}
placed_turned true R270 at w s h = record {
  x_from = omega (arith, ints, clamps, h.y_from, h.y_below);
  x_below = omega (arith, ints, clamps, h.y_from, h.y_below);
  y_from = omega (arith, ints, clamps, h.x_from, h.x_below);
  y_below = omega (arith, ints, clamps, h.x_from, h.x_below);
}

-- it has the images of the window's squares
pub placed_has : (m : Map) (w : Window) (s : Square) → IsInWindow w s
    → IsInWindow (placed_window m w) (image_square m s)
placed_has m w s h = placed_turned m.flip m.turn m.at w s h

flag_is : (from to : Windows) → to.anywhere ≡ from.anywhere → IsTrue from.anywhere → IsTrue to.anywhere
flag_is from to flag any = subst IsTrue (sym flag) any

-- and so has the window joined from the two images
pub joined_placed : (m : Map) (w a b j : Window) (p q low high : Point) → p ≡ record { x = w.x0; y = w.y0 }
    → q ≡ record { x = w.x1; y = w.y1 } → low ≡ image m p → high ≡ image m q → a ≡ at_point low → b ≡ at_point high
    → j ≡ hull a b → (s : Square) → IsInWindow w s → IsInWindow j (image_square m s)
joined_placed m w a b j p q low high from to placed_from placed_to first second is s h =
    let one : Point = record { x = w.x0; y = w.y0 } in
    let other : Point = record { x = w.x1; y = w.y1 } in
    let left : a ≡ at_point (image m one) = first ∙ ap at_point (placed_from ∙ ap (image m) from) in
    let right : b ≡ at_point (image m other) = second ∙ ap at_point (placed_to ∙ ap (image m) to) in
    let whole : j ≡ placed_window m w =
    is ∙ (ap (λ u. hull u b) left ∙ ap (hull (at_point (image m one))) right) in
    subst (λ (u : Window). IsInWindow u (image_square m s)) (sym whole) (placed_has m w s h)

-- with the image of one more window
pub placed_more : (m : Map) (ws xs : List Window) (i : ℕ) (none : Window) (old new : Windows) → xs ≡ ws → i < length xs
    → ((s : Square) → SomeHas (take i ws) s → Has old (image_square m s))
    → ((s : Square) → IsInWindow (get_or xs i none) s → Has new (image_square m s)) → Widens old new → (s : Square)
    → SomeHas (take (i + 1) ws) s → Has new (image_square m s)
placed_more m ws xs i none old new is low before here wide s any =
    let P : Window → Type 0 = λ w. IsInWindow w s in
    let more : take (i + 1) ws ≡ take i ws ++ get_or ws i none ∷ [] =
    take_more ws i none (subst (λ (us : List Window). i < length us) is low) in
    elim ((Any-push P (take i ws) (get_or ws i none)).0 (subst (λ us. Any P us) more any)) [
      | inl a ↦ wide.has (image_square m s) (before s a)
      | inr h ↦ here s (subst (λ (us : List Window). IsInWindow (get_or us i none) s) (sym is) h)
    ]

-- and with all of them
pub all_placed : (m : Map) (held all : Windows) (xs : List Window) (i : ℕ) → held.anywhere ≡ false
    → xs ≡ held.list.items → length xs ≤ i
    → ((s : Square) → SomeHas (take i held.list.items) s → Has all (image_square m s)) → HasPlaced m held all
all_placed m held all xs i flag is long has = record { has = each }
  where
    each : (s : Square) → Has held s → Has all (image_square m s)
    each s (inl any) = absurd (let no : true ≡ false = sym any ∙ flag in cc)
    each s (inr a) =
        let whole : take i held.list.items ≡ held.list.items =
        take_all i held.list.items (subst (λ (us : List Window). length us ≤ i) is long) in
        has s (subst (λ us. Any (λ w. IsInWindow w s) us) (sym whole) a)

-- with one more place of a reference
pub places_more : (r : PlainReference) (k : ℕ) (m : Map) (held old new : Windows) → IsPlacing r k m
    → ((e : Point) → Contains (take k r.shifts) e → HasPlaced (map_at r e) held old) → HasPlaced m held new
    → Widens old new → (e : Point) → Contains (take (k + 1) r.shifts) e → HasPlaced (map_at r e) held new
places_more r k m held old new at before here wide e there =
    let low : k < length r.shifts = slice_get_within r.shifts k at.shift at.there in
    let is : get_or r.shifts k at.shift ≡ at.shift = get_or_from_slice_get r.shifts k at.shift at.shift at.there in
    let more : take (k + 1) r.shifts ≡ take k r.shifts ++ at.shift ∷ [] =
    take_more r.shifts k at.shift low ∙ ap (λ q. take k r.shifts ++ q ∷ []) is in
    elim (Contains-push_cases (take k r.shifts) at.shift e (subst (λ es. Contains es e) more there)) [
      | inl earlier ↦
          let had = before e earlier in
          record { has = λ s h. wide.has (image_square (map_at r e) s) (had.has s h) }
      | inr this ↦
          subst (λ (q : Point). HasPlaced (map_at r q) held new) this
          (subst (λ (n : Map). HasPlaced n held new) at.map_is here)
    ]

-- one of the windows is removed and joined with the one that is to be added
pub joined_has : (from to : Windows) (whole other next : Window) (i : ℕ) → i < length from.list.items
    → other ≡ get_or from.list.items i other → to.anywhere ≡ from.anywhere
    → to.list.items ≡ swap_remove from.list.items i other → next ≡ hull whole other → (s : Square)
    → Has from s ⊎ IsInWindow whole s → Has to s ⊎ IsInWindow next s
joined_has from to whole other next i low at flag left is s (inl (inl any)) = inl (inl (flag_is from to flag any))
joined_has from to whole other next i low at flag left is s (inl (inr a)) =
    let P : Window → Type 0 = λ w. IsInWindow w s in
    let all = IsPermutation-swap_remove from.list.items i other low at in
    let there : Any P (other ∷ swap_remove from.list.items i other) =
    some_contained P (other ∷ swap_remove from.list.items i other) a.1
    (Contains-permutation from.list.items (other ∷ swap_remove from.list.items i other) a.1 all (a.0, a.2, a.3)) a.4 in
    elim (Any-uncons P other (swap_remove from.list.items i other) there) [
      | inl h ↦ inr (subst (λ (w : Window). IsInWindow w s) (sym is) (hull_second whole other s h))
      | inr h ↦ inl (inr (subst (λ ws. Any P ws) (sym left) h))
    ]
joined_has from to whole other next i low at flag left is s (inr h) =
    inr (subst (λ (w : Window). IsInWindow w s) (sym is) (hull_first whole other s h))

-- the window is added
pub added_has : (from to : Windows) (whole : Window) → to.anywhere ≡ from.anywhere
    → to.list.items ≡ from.list.items ++ whole ∷ [] → (s : Square) → Has from s ⊎ IsInWindow whole s → Has to s
added_has from to whole flag more s (inl (inl any)) = inl (flag_is from to flag any)
added_has from to whole flag more s (inl (inr a)) =
    let P : Window → Type 0 = λ w. IsInWindow w s in
    inr (subst (λ ws. Any P ws) (sym more) (Any-left P from.list.items (whole ∷ []) a))
added_has from to whole flag more s (inr h) =
    let P : Window → Type 0 = λ w. IsInWindow w s in
    inr (subst (λ ws. Any P ws) (sym more) ((Any-push P from.list.items whole).1 (inr h)))

pub widens_itself : (a : Windows) → Widens a a
widens_itself a = record { has = λ s h. h }

pub widens_further : (a b c : Windows) → Widens a b → Widens b c → Widens a c
widens_further a b c p q = record { has = λ s h. q.has s (p.has s h) }

-- windows that are sorted
pub sorted_some : (ws us : List Window) (s : Square) → IsPermutation ws us → SomeHas ws s → SomeHas us s
sorted_some ws us s moved a =
    some_contained (λ w. IsInWindow w s) us a.1 (Contains-permutation ws us a.1 moved (a.0, a.2, a.3)) a.4

pub sorted_has : (from to : Windows) → to.anywhere ≡ from.anywhere → IsPermutation from.list.items to.list.items
    → Widens from to
sorted_has from to flag moved = record { has = each }
  where
    each : (s : Square) → Has from s → Has to s
    each s (inl any) = inl (flag_is from to flag any)
    each s (inr a) = inr (sorted_some from.list.items to.list.items s moved a)

-- one window is removed, and another joined with it
pub next_joined : (from to : Windows) (xs : List Window) (next whole none : Window) (i : ℕ)
    → i + 1 < length from.list.items → next ≡ get_or from.list.items (i + 1) next
    → xs ≡ remove from.list.items (i + 1) → to.anywhere ≡ from.anywhere → i < length xs
    → whole ≡ hull (get_or xs i none) next → to.list.items ≡ set xs i whole → Widens from to
next_joined from to xs next whole none i low at left flag inside is done = record { has = each }
  where
    each : (s : Square) → Has from s → Has to s
    each s (inl any) = inl (flag_is from to flag any)
    each s (inr a) =
        let P : Window → Type 0 = λ w. IsInWindow w s in
        let all = IsPermutation-remove from.list.items (i + 1) next low at in
        let there : Any P (next ∷ remove from.list.items (i + 1)) =
        some_contained P (next ∷ remove from.list.items (i + 1)) a.1
        (Contains-permutation from.list.items (next ∷ remove from.list.items (i + 1)) a.1 all (a.0, a.2, a.3)) a.4 in
        let here : IsInWindow whole s → SomeHas to.list.items s =
        λ h. subst (λ ws. Any P ws) (sym done) (some_contained P (set xs i whole) whole (set_has xs i whole inside) h) in
        elim (Any-uncons P next (remove from.list.items (i + 1)) there) [
          | inl h ↦
              inr (here (subst (λ (w : Window). IsInWindow w s) (sym is) (hull_second (get_or xs i none) next s h)))
          | inr h ↦
              let b : Any P xs = subst (λ ws. Any P ws) (sym left) h in
              elim (set_keeps xs i whole b.1 (b.0, b.2, b.3)) [
                | inl same ↦
                    inr
                    (here
                    (subst (λ (w : Window). IsInWindow w s) (sym is)
                    (hull_first (get_or xs i none) next s
                    (subst P (same ∙ get_or_default xs i b.1 none inside) b.4))))
                | inr c ↦ inr (subst (λ ws. Any P ws) (sym done) (some_contained P (set xs i whole) b.1 c b.4))
              ]
        ]
