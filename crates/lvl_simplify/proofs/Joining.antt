-- Windows that are joined and appended, and the squares that they have.
use Rattle.std.proofs.Common.{◌≡◌, ◌<◌, ◌+◌, ℕ, ◌≤ℤ◌, List, [], ◌∷◌, ◌++◌, take, length, get_or, Any, ◌⊎◌, inl, inr}
use Rattle.std.proofs.Common.{◌↔◌, subst, sym, arith, IsPermutation}
use Rattle.std.specs.Int.{int_max}
use Rattle.std.proofs.lemmas.Int.{ints, clamps, by_lt_z}
use Rattle.std.proofs.lemmas.List.{take_more}
use Rattle.std.proofs.lemmas.List.Sorted.{Contains-permutation}
use Rattle.lvl_grid.specs.declared.point.Point.{Point}
use Rattle.lvl_grid.specs.declared.point.Square.{Square}
use Rattle.lvl_grid.specs.declared.point.Window.{Window}
use Rattle.lvl_grid.specs.Clip.{IsInWindow}
use Rattle.lvl_grid.specs.Winding.{Covers, SomeCovers}
use Rattle.lvl_grid.proofs.Anyone.{Any-push, Any-nil, Any-left, Any-right, Any-sides, some_contained}

-- one more element
pub any_pushed : {X : Type 0} (P : X → Type 0) (old new : List X) (x : X) → new ≡ old ++ x ∷ []
    → Any P new ↔ (Any P old ⊎ P x)
any_pushed P old new x e = subst (λ (xs : List _). Any P xs ↔ (Any P old ⊎ P x)) (sym e) (Any-push P old x)

-- one more ring, which covers what a window has
pub window_pushed : (into after : List (List Point)) (ring : List Point) (window : Window) (s : Square)
    → after ≡ into ++ ring ∷ [] → (Covers ring s ↔ IsInWindow window s)
    → SomeCovers after s ↔ (SomeCovers into s ⊎ IsInWindow window s)
window_pushed into after ring window s e same =
    let pushed = any_pushed (λ r. Covers r s) into after ring e in (
      λ a. elim (pushed.0 a) [ inl o ↦ inl o | inr r ↦ inr (same.0 r) ],
      λ a. elim a [ inl o ↦ pushed.1 (inl o) | inr w ↦ pushed.1 (inr (same.1 w)) ],
    )

-- some more elements
pub any_appended : {X : Type 0} (P : X → Type 0) (old more new : List X) → new ≡ old ++ more
    → Any P new ↔ (Any P old ⊎ Any P more)
any_appended P old more new e = rw e (
  Any-sides P old more,
  λ k. elim k [ inl o ↦ Any-left P old more o | inr n ↦ Any-right P old more n ],
)

-- one more element of those that a loop goes over
pub any_next : {X : Type 0} (P : X → Type 0) (xs : List X) (i : ℕ) (d : X) → i < length xs
    → Any P (take (i + 1) xs) ↔ (Any P (take i xs) ⊎ P (get_or xs i d))
any_next P xs i d below = any_pushed P (take i xs) (take (i + 1) xs) (get_or xs i d) (take_more xs i d below)

pub any_permuted : {X : Type 0} (P : X → Type 0) (xs ys : List X) → IsPermutation xs ys → Any P xs → Any P ys
any_permuted P xs ys moved a = some_contained P ys a.1 (Contains-permutation xs ys a.1 moved (a.0, a.2, a.3)) a.4

-- the last element is replaced by one that has what it and another have
pub any_replaced : {X : Type 0} (P : X → Type 0) (rest old new : List X) (last next both : X) → old ≡ rest ++ last ∷ []
    → new ≡ rest ++ both ∷ [] → (P both ↔ (P last ⊎ P next)) → Any P new ↔ (Any P old ⊎ P next)
any_replaced P rest old new last next both before after same =
    let a = any_pushed P rest old last before in
    let b = any_pushed P rest new both after in (
      λ h. elim (b.0 h) [
        | inl r ↦ inl (a.1 (inl r))
        | inr p ↦ elim (same.0 p) [ inl l ↦ inl (a.1 (inr l)) | inr n ↦ inr n ]
      ],
      λ h. elim h [
        | inl o ↦ elim (a.0 o) [ inl r ↦ b.1 (inl r) | inr l ↦ b.1 (inr (same.1 (inl l))) ]
        | inr n ↦ b.1 (inr (same.1 (inr n)))
      ],
    )

-- at first both parts are empty
pub none_parted : (s : Square) (rest : List (List Point)) (windows : List Window) → rest ≡ [] → windows ≡ []
    → (SomeCovers rest s ⊎ Any (λ window. IsInWindow window s) windows) ↔ SomeCovers [] s
none_parted s rest windows e f = rw (e, f) (
  λ k. elim k [ inl r ↦ r | inr w ↦ absurd (Any-nil (λ window. IsInWindow window s) w) ],
  λ r. inl r,
)

-- what was added so far, and what is added next
pub added_next : {A B C D E F : Type 0} → (A ↔ (B ⊎ C)) → (D ↔ (A ⊎ E)) → (F ↔ (C ⊎ E)) → D ↔ (B ⊎ F)
added_next so_far step next = (
  λ d. elim (step.0 d) [
    | inl a ↦ elim (so_far.0 a) [ inl b ↦ inl b | inr c ↦ inr (next.1 (inl c)) ]
    | inr e ↦ inr (next.1 (inr e))
  ],
  λ k. elim k [
    | inl b ↦ step.1 (inl (so_far.1 (inl b)))
    | inr f ↦ elim (next.0 f) [ inl c ↦ step.1 (inl (so_far.1 (inr c))) | inr e ↦ step.1 (inr e) ]
  ],
)

-- the same if there was nothing before
pub same_next : {A C D E F : Type 0} → (A ↔ C) → (D ↔ (A ⊎ E)) → (F ↔ (C ⊎ E)) → D ↔ F
same_next so_far step next = (
  λ d. elim (step.0 d) [ inl a ↦ next.1 (inl (so_far.0 a)) | inr e ↦ next.1 (inr e) ],
  λ f. elim (next.0 f) [ inl c ↦ step.1 (inl (so_far.1 c)) | inr e ↦ step.1 (inr e) ],
)

-- the same together with what the windows have
pub kept_next : {A C D E F W : Type 0} → ((A ⊎ W) ↔ (C ⊎ W)) → (D ↔ (A ⊎ E)) → (F ↔ (C ⊎ E))
    → (D ⊎ W) ↔ (F ⊎ W)
kept_next so_far step next = (
  λ k. elim k [
    | inl d ↦ elim (step.0 d) [
      | inl a ↦ elim (so_far.0 (inl a)) [ inl c ↦ inl (next.1 (inl c)) | inr w ↦ inr w ]
      | inr e ↦ inl (next.1 (inr e))
    ]
    | inr w ↦ inr w
  ],
  λ k. elim k [
    | inl f ↦ elim (next.0 f) [
      | inl c ↦ elim (so_far.1 (inl c)) [ inl a ↦ inl (step.1 (inl a)) | inr w ↦ inr w ]
      | inr e ↦ inl (step.1 (inr e))
    ]
    | inr w ↦ inr w
  ],
)

-- the same if the windows have what comes next
pub left_out_next : {A C E F W : Type 0} → ((A ⊎ W) ↔ (C ⊎ W)) → (E → W) → (F ↔ (C ⊎ E)) → (A ⊎ W) ↔ (F ⊎ W)
left_out_next so_far within next = (
  λ k. elim (so_far.0 k) [ inl c ↦ inl (next.1 (inl c)) | inr w ↦ inr w ],
  λ k. elim k [
    | inl f ↦ elim (next.0 f) [ inl c ↦ so_far.1 (inl c) | inr e ↦ inr (within e) ]
    | inr w ↦ inr w
  ],
)

-- a list in two parts: without what the windows have, and then with the windows
pub all_again : {A W V R P N : Type 0} → ((P ⊎ V) ↔ A) → (W ↔ V) → ((R ⊎ W) ↔ (P ⊎ W)) → (N ↔ (R ⊎ W)) → N ↔ A
all_again parts same rest all = (
  λ n. elim (rest.0 (all.0 n)) [ inl p ↦ parts.0 (inl p) | inr w ↦ parts.0 (inr (same.0 w)) ],
  λ a. elim (parts.1 a) [ inl p ↦ all.1 (rest.1 (inl p)) | inr v ↦ all.1 (inr (same.1 v)) ],
)

-- what a ring covers, added to the windows
pub rows_more : {R W V C M : Type 0} → (M ↔ (W ⊎ V)) → (C ↔ V) → (R ⊎ M) ↔ ((R ⊎ W) ⊎ C)
rows_more more same = (
  λ k. elim k [
    | inl r ↦ inl (inl r)
    | inr m ↦ elim (more.0 m) [ inl w ↦ inl (inr w) | inr v ↦ inr (same.1 v) ]
  ],
  λ k. elim k [
    | inl o ↦ elim o [ inl r ↦ inl r | inr w ↦ inr (more.1 (inl w)) ]
    | inr c ↦ inr (more.1 (inr (same.0 c)))
  ],
)

-- or added to the rings
pub rest_more : {R W C M : Type 0} → (M ↔ (R ⊎ C)) → (M ⊎ W) ↔ ((R ⊎ W) ⊎ C)
rest_more more = (
  λ k. elim k [
    | inl m ↦ elim (more.0 m) [ inl r ↦ inl (inl r) | inr c ↦ inr c ]
    | inr w ↦ inl (inr w)
  ],
  λ k. elim k [
    | inl o ↦ elim o [ inl r ↦ inl (more.1 (inl r)) | inr w ↦ inr w ]
    | inr c ↦ inl (more.1 (inr c))
  ],
)

-- a window that begins within another or where it ends, with the same abscissas
pub both_have : (first second window : Window) → second.x0 ≡ first.x0 → second.x1 ≡ first.x1 → window.x0 ≡ first.x0
    → window.x1 ≡ first.x1 → window.y0 ≡ first.y0 → window.y1 ≡ int_max first.y1 second.y1 → first.y0 ≤ℤ second.y0
    → second.y0 ≤ℤ first.y1 → (s : Square) → IsInWindow window s ↔ (IsInWindow first s ⊎ IsInWindow second s)
both_have first second window c d x0 x1 y0 y1 low touch s = (
  λ h.
      let a = h.x_from in
      let b = h.x_below in
      let e = h.y_from in
      let f = h.y_below in
      by_lt_z s.y first.y1
      (λ g. inl (record {
        x_from = omega (arith, ints, a, x0);
        x_below = omega (arith, ints, b, x1);
        y_from = omega (arith, ints, e, y0);
        y_below = g;
      })) (λ g. inr (record {
        x_from = omega (arith, ints, a, x0, c);
        x_below = omega (arith, ints, b, x1, d);
        y_from = omega (arith, ints, g, touch);
        y_below = omega (arith, ints, clamps, f, y1, g);
      })),
  λ h. elim h [
    | inl k ↦
        let a = k.x_from in
        let b = k.x_below in
        let e = k.y_from in
        let f = k.y_below in
        record {
          x_from = omega (arith, ints, a, x0);
          x_below = omega (arith, ints, b, x1);
          y_from = omega (arith, ints, e, y0);
          y_below = omega (arith, ints, clamps, f, y1);
        }
    | inr k ↦
        let a = k.x_from in
        let b = k.x_below in
        let e = k.y_from in
        let f = k.y_below in
        record {
          x_from = omega (arith, ints, a, x0, c);
          x_below = omega (arith, ints, b, x1, d);
          y_from = omega (arith, ints, e, y0, low);
          y_below = omega (arith, ints, clamps, f, y1);
        }
  ],
)
