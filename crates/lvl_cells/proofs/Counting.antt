-- A sum over chains from a cell doesn't grow with more references than the rank of the cell.
use Rattle.std.proofs.Common.{◌≡◌, ℕ, zero, suc, ◌+◌, ◌*◌, ◌<◌, ◌≤◌, true, false, cond, List, [], ◌∷◌, length}
use Rattle.std.proofs.Common.{Some, None, All, sum_by, refl, sym, ap, ◌∙◌, subst, arith}
use Rattle.std.specs.Str.{bytes_eq}
use Rattle.std.specs.Option.{option_map_or}
use Rattle.std.proofs.lemmas.Slice.Eq.{bytes_eq-Decides}
use Rattle.std.proofs.lemmas.List.Elements.{All-head, All-tail, All-weaker}
use Rattle.std.proofs.lemmas.List.Sums.{sum_by-cons}
use Rattle.lvl_cells.specs.Cells.{PlainCell, PlainReference, cell_named, Rings}
use Rattle.lvl_cells.specs.Chains.{over_chains}

-- the rank decreases along the references of the cell
abbrev pub FallsFrom : (List ℕ → ℕ) → PlainCell Rings → Type 0
FallsFrom rank c = All (λ r. rank r.cell < rank c.name) c.references

-- a cell that is found by name has that name, and what holds of all cells holds of it
pub found : (P : PlainCell Rings → Type 0) (cells : List (PlainCell Rings)) (name : List ℕ) (d : PlainCell Rings)
    → All P cells → cell_named cells name ≡ Some d → (d.name ≡ name) × P d
found P [] name d all e = cc
found P (c ∷ cs) name d all e =
    elim (bytes_eq c.name name)
    as (λ b. bytes_eq c.name name ≡ b → cond b (Some c) (cell_named cs name) ≡ Some d → (d.name ≡ name) × P d) [
      | true ↦
          λ t u. let same : c ≡ d = cc in (
            ap (λ (x : PlainCell Rings). x.name) (sym same) ∙ (bytes_eq-Decides c.name name).0 t,
            subst P same (All-head P c cs all),
          )
      | false ↦ λ t u. found P cs name d (All-tail P c cs all) u
    ] refl e

sum_same : (f g : PlainReference → ℕ) (rs : List PlainReference) → All (λ r. f r ≡ g r) rs → sum_by f rs ≡ sum_by g rs
sum_same f g [] h = refl
sum_same f g (r ∷ rs) h =
    let same : PlainReference → Type 0 = λ q. f q ≡ g q in
    sum_by-cons f r rs
    ∙ (ap (λ s. s + sum_by f rs) (All-head same r rs h)
    ∙ (ap (λ s. g r + s) (sum_same f g rs (All-tail same r rs h)) ∙ sym (sum_by-cons g r rs)))

-- from the rank of the cell on, one more reference adds nothing
pub steady : (w : PlainCell Rings → ℕ) (cells : List (PlainCell Rings)) (rank : List ℕ → ℕ) → All (FallsFrom rank) cells
    → (n : ℕ) (c : PlainCell Rings) → FallsFrom rank c → rank c.name ≤ n
    → over_chains w cells (suc n) c ≡ over_chains w cells n c
steady w cells rank all zero c falls h =
    let none : (rs : List PlainReference) → All (λ r. rank r.cell < rank c.name) rs
    → sum_by (λ r. length r.shifts * option_map_or (over_chains w cells zero) (cell_named cells r.cell) 0) rs ≡ 0 =
    λ rs a. elim rs
    as (λ (l : List PlainReference). All (λ r. rank r.cell < rank c.name) l
    → sum_by (λ r. length r.shifts * option_map_or (over_chains w cells zero) (cell_named cells r.cell) 0) l
    ≡ 0) [
      | [] ↦ λ b. refl
      | q ∷ qs ↦
          λ b. let low : rank q.cell < rank c.name = All-head (λ r. rank r.cell < rank c.name) q qs b in
          absurd (omega arith)
    ] a in
    omega (arith, none c.references falls)
steady w cells rank all (suc n) c falls h =
    ap (λ s. w c + s)
    (sum_same (λ r. length r.shifts * option_map_or (over_chains w cells (suc n)) (cell_named cells r.cell) 0)
    (λ r. length r.shifts * option_map_or (over_chains w cells n) (cell_named cells r.cell) 0) c.references
    (All-weaker {X = PlainReference} (λ (r : PlainReference). rank r.cell < rank c.name) (λ (r : PlainReference).
    length r.shifts * option_map_or (over_chains w cells (suc n)) (cell_named cells r.cell) 0
    ≡ length r.shifts * option_map_or (over_chains w cells n) (cell_named cells r.cell) 0)
    (λ r low.
    ap (λ s. length r.shifts * s)
    (elim (cell_named cells r.cell)
    as (λ o. cell_named cells r.cell ≡ o
    → option_map_or (over_chains w cells (suc n)) o 0 ≡ option_map_or (over_chains w cells n) o 0) [
      | None ↦ λ e. refl
      | Some d ↦ λ e.
          let at = found (FallsFrom rank) cells r.cell d all e in
          let lower : rank d.name ≤ n = omega (arith, ap rank at.0) in
          steady w cells rank all n d at.1 lower
    ] refl))
    c.references falls))

-- the sum over the chains from a cell, from those over the chains from the cells that it refers to
pub over_chains_is : (w : PlainCell Rings → ℕ) (cells : List (PlainCell Rings)) (rank : List ℕ → ℕ) (n : ℕ)
    → All (FallsFrom rank) cells → (c : PlainCell Rings) → FallsFrom rank c → rank c.name ≤ n
    → over_chains w cells n c
    ≡ w c
    + sum_by (λ r. length r.shifts * option_map_or (over_chains w cells n) (cell_named cells r.cell) 0) c.references
over_chains_is w cells rank n all c falls h = sym (steady w cells rank all n c falls h)
