-- What holds of each item with an index below a number.
use Rattle.std.proofs.Common.{◌≡◌, ◌<◌, ◌≤◌, ◌+◌, ℕ, List, length, slice_get, Some, Any, inl, inr, subst, arith}
use Rattle.std.proofs.lemmas.Bool.{cases_order}
use Rattle.std.proofs.lemmas.Option.{slice_get_within, slice_get-get_or}
use Rattle.lvl_cells.specs.Cells.{PlainShape, Rings, shape_at}
use Rattle.lvl_names.proofs.Elements.{at_contains}

-- one more item
pub before_more : {X : Type 0} (P : X → Type 0) (xs : List X) (i : ℕ)
    → ((k : ℕ) (x : X) → k < i → slice_get xs k ≡ Some x → P x) → ((x : X) → slice_get xs i ≡ Some x → P x) → (k : ℕ)
    (x : X) → k < i + 1 → slice_get xs k ≡ Some x → P x
before_more P xs i before here k x below at =
    elim (cases_order k i) [
      | inl same ↦ here x (subst (λ n. slice_get xs n ≡ Some x) same at)
      | inr apart ↦ elim apart [ inl less ↦ before k x less at | inr more ↦ absurd (omega (arith, more, below)) ]
    ]

-- if it holds of none of them, and they are all, it holds of none
pub none_any : {X : Type 0} (P : X → Type 0) (xs : List X) (n : ℕ)
    → ((k : ℕ) (x : X) → k < n → slice_get xs k ≡ Some x → ¬ P x) → length xs ≤ n → Any P xs → ⊥
none_any P xs n before all a =
    let at = at_contains xs a.1 (a.0, a.2, a.3) in
    before at.0 a.1 (omega (arith, all, slice_get_within xs at.0 a.1 at.1)) at.1 a.4

-- the shape at an index that there is
pub shape_there : (shapes : List (PlainShape Rings)) (i : ℕ) → i < length shapes
    → slice_get shapes i ≡ Some (shape_at shapes i)
shape_there shapes i below = slice_get-get_or shapes i _ below
