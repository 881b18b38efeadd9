-- Candidates: what of the top they have, and their boxes.
use Rattle.std.proofs.Common.{◌≡◌, ◌<◌, ℕ, List, AllPairs, Any, Contains, length, get_or, slice_get}
use Rattle.std.proofs.Common.{◌≤◌, ◌+◌, ◌++◌, ◌∷◌, [], inl, inr, length-append, Option, Some, None, sym, ap, subst, ◌∙◌, arith}
use Rattle.std.specs.Prelude.{IfSome}
use Rattle.std.specs.List.{range_with_len}
use Rattle.std.proofs.lemmas.List.FromFn.{get_or-range_with_len, length-range_with_len}
use Rattle.std.proofs.Math.ListN.{get_or-append}
use Rattle.std.proofs.Math.Seq.{get_or-append_seam}
use Rattle.std.proofs.lemmas.Bool.{cases_lt}
use Rattle.std.proofs.lemmas.List.{get_or_default}
use Rattle.std.proofs.lemmas.List.Elements.{Contains-append_left, Contains-push}
use Rattle.std.proofs.lemmas.List.Quantifiers.{all_pairs_push}
use Rattle.std.proofs.lemmas.Option.{slice_get_within}
use Rattle.lvl_cells.specs.Cells.{PlainCell, Rings}
use Rattle.lvl_cells.specs.Checks.{Settled}
use Rattle.lvl_cells.specs.Coverage.{ShapeCovers}
use Rattle.lvl_grid.specs.Winding.{SomeCovers}
use Rattle.lvl_flat.specs.Candidates.{HasAll}
use Rattle.lvl_flat.specs.declared.candidates.Part.TheVariants.{Shape, Reference}
use Rattle.lvl_flat.specs.inside.Listed.{IsKept}
use Rattle.lvl_flat.specs.inside.Visits.{PickCovers}
use Rattle.lvl_grid.specs.declared.point.Window.{Window}
use Rattle.lvl_flat.proofs.Covering.{some_is}

pub if_some : {X : Type 0} (P Q : X → Type 0) (o : Option X) → ((x : X) → P x → Q x) → IfSome o P → IfSome o Q
if_some P Q None to h = tt
if_some P Q (Some x) to h = to x h

-- all indexes below a number
pub below_rise : (n : ℕ) → AllPairs (λ a b. a < b) (range_with_len 0 n)
below_rise n = λ i j d lt inside.
    let low : j < n = omega (arith, inside, length-range_with_len 0 n) in
    omega (
      arith,
      lt,
      get_or-range_with_len 0 n i d (omega (arith, lt, low)),
      get_or-range_with_len 0 n j d low,
    )

pub below_at : (n i : ℕ) → i < n → i ≡ get_or (range_with_len 0 n) i 0
below_at n i lt = omega (arith, get_or-range_with_len 0 n i 0 lt)

below_has : (n i : ℕ) → i < n → Contains (range_with_len 0 n) i
below_has n i lt =
    let is : get_or (range_with_len 0 n) i i ≡ i = omega (arith, get_or-range_with_len 0 n i i lt) in
    (i, omega (arith, lt, length-range_with_len 0 n), is)

-- what is there has an index below the number of all
pub all_shapes : (s : Settled) (w : Window) (c : PlainCell Rings) → slice_get s.cells s.top ≡ Some c
    → HasAll s w Shape (range_with_len 0 (length c.shapes))
all_shapes s w c at = λ top there i layer q seen covers.
    let both : Some top ≡ Some c = sym there ∙ at in
    let one : top ≡ c = cc in
    let found = some_is (ShapeCovers SomeCovers layer q) (slice_get top.shapes i) covers in
    below_has (length c.shapes) i
    (omega (
      arith,
      slice_get_within top.shapes i found.0 found.1,
      ap (λ (b : PlainCell Rings). length b.shapes) one,
    ))

pub all_references : (s : Settled) (w : Window) (c : PlainCell Rings) → slice_get s.cells s.top ≡ Some c
    → HasAll s w Reference (range_with_len 0 (length c.references))
all_references s w c at = λ top there i layer q seen covers.
    let both : Some top ≡ Some c = sym there ∙ at in
    let one : top ≡ c = cc in
    let found =
    some_is (λ r. Any (λ e. PickCovers s.cells layer q (r, e)) r.shifts) (slice_get top.references i) covers in
    below_has (length c.references) i
    (omega (
      arith,
      slice_get_within top.references i found.0 found.1,
      ap (λ (b : PlainCell Rings). length b.references) one,
    ))

-- one more index is kept
pub kept_more : (list : List ℕ) (Out : ℕ → Type 0) (place : ℕ) (kept : List ℕ) → AllPairs (λ a b. a < b) list
    → place < length list → IsKept list Out place kept → IsKept list Out (place + 1) (kept ++ get_or list place 0 ∷ [])
kept_more list Out place kept rises there h =
    let y : ℕ = get_or list place 0 in
    let all : List ℕ = kept ++ y ∷ [] in
    let long : length all ≡ length kept + 1 = length-append kept (y ∷ []) in
    record {
      rising =
          all_pairs_push (λ a b. a < b) kept y h.rising
          (λ k d lt. omega (arith, h.below k place lt (omega arith) there, get_or_default kept k d 0 lt));
      below = λ n k lt past inside.
          elim (cases_lt n (length kept)) [
            | inl near ↦ omega (arith, get_or-append kept (y ∷ []) 0 n near, h.below n k near (omega (arith, past)) inside)
            | inr far ↦
                let last : n ≡ length kept = omega (arith, far, lt, long) in
                omega (
                  arith,
                  ap (λ m. get_or all m 0) last,
                  get_or-append_seam kept y [] 0,
                  rises place k 0 (omega (arith, past)) inside,
                )
          ];
      all = λ n lt.
          elim (cases_lt n place) [
            | inl near ↦
                elim (h.all n near)
                [ inl has ↦ inl (Contains-append_left kept (y ∷ []) (get_or list n 0) has) | inr out ↦ inr out ]
            | inr far ↦
                let one : place ≡ n = omega (arith, far, lt) in
                inl (subst (λ m. Contains all (get_or list m 0)) one (Contains-push kept y))
          ];
    }

-- or it is left out
pub kept_less : (list : List ℕ) (Out : ℕ → Type 0) (place : ℕ) (kept : List ℕ) → Out (get_or list place 0)
    → IsKept list Out place kept → IsKept list Out (place + 1) kept
kept_less list Out place kept out h = record {
  rising = h.rising;
  below = λ n k lt past inside. h.below n k lt (omega (arith, past)) inside;
  all = λ n lt.
      elim (cases_lt n place) [
        | inl near ↦ h.all n near
        | inr far ↦
            let one : place ≡ n = omega (arith, far, lt) in
            inr (subst (λ m. Out (get_or list m 0)) one out)
      ];
}

pub has_kept : (list : List ℕ) (Out : ℕ → Type 0) (place : ℕ) (kept : List ℕ) (i : ℕ) → IsKept list Out place kept
    → length list ≤ place → Contains list i → (Out i → ⊥) → Contains kept i
has_kept list Out place kept i h past has stays =
    let is : get_or list has.0 0 ≡ i = get_or_default list has.0 0 i has.1 ∙ has.2 in
    elim (h.all has.0 (omega (arith, has.1, past)))
    [ inl there ↦ subst (Contains kept) is there | inr out ↦ absurd (stays (subst Out is out)) ]
