-- A sum over chains is a sum over their last cells.
use Rattle.std.proofs.Common.{◌≡◌, ℕ, zero, suc, ◌+◌, ◌<◌, ◌≤◌, List, [], ◌∷◌, flat_map, sum_by}
use Rattle.std.proofs.Common.{Option, None, Some, Any, Contains, inl, inr, refl, sym, ap, subst, ◌∙◌, arith}
use Rattle.std.specs.Option.{option_map_or}
use Rattle.std.proofs.lemmas.List.Elements.{Contains-append_left, Contains-append_right, Contains-append_cases}
use Rattle.std.proofs.lemmas.List.Sums.{sum_by-cons, sum_by-append}
use Rattle.lvl_grid.specs.declared.point.Point.{Point}
use Rattle.lvl_grid.specs.declared.map.Map.{Map}
use Rattle.lvl_grid.proofs.Composing.{composed}
use Rattle.lvl_grid.proofs.Anyone.{some_contained, Any-nil, Any-head, Any-tail, Any-uncons}
use Rattle.lvl_cells.specs.Cells.{PlainCell, PlainReference, Rings, map_at, cell_named}
use Rattle.lvl_cells.specs.Chains.{Chain, over_chains, unmoved}
use Rattle.lvl_flat.specs.Ends.{ends, AddsUp}
use Rattle.lvl_flat.specs.inside.Visits.{Pick, picks}
use Rattle.lvl_flat.proofs.Outside.{chain_after}
use Rattle.lvl_flat.proofs.Picks.{picks_any, picks_sum}
use Rattle.lvl_flat.proofs.Ranging.{FirstChoice, first_choice}

module _ {X Y : Type 0} (f : X → List Y) where
  sum_flat : (w : Y → ℕ) (xs : List X) → sum_by w (flat_map f xs) ≡ sum_by (λ x. sum_by w (f x)) xs
  sum_flat w [] = refl
  sum_flat w (x ∷ xs) =
      sum_by-append w (f x) (flat_map f xs)
      ∙ (ap (λ n. sum_by w (f x) + n) (sum_flat w xs) ∙ sym (sum_by-cons (λ y. sum_by w (f y)) x xs))

  in_some : (xs : List X) (y : Y) → Contains (flat_map f xs) y → Any (λ x. Contains (f x) y) xs
  in_some [] y c = absurd (let below : c.0 < 0 = c.1 in omega arith)
  in_some (x ∷ xs) y c = elim (Contains-append_cases (f x) (flat_map f xs) y c) [
    | inl here ↦ Any-head (λ z. Contains (f z) y) x xs here
    | inr later ↦ Any-tail (λ z. Contains (f z) y) x xs (in_some xs y later)
  ]

  in_all : (xs : List X) (y : Y) → Any (λ x. Contains (f x) y) xs → Contains (flat_map f xs) y
  in_all [] y a = absurd (Any-nil (λ x. Contains (f x) y) a)
  in_all (x ∷ xs) y a = elim (Any-uncons (λ z. Contains (f z) y) x xs a) [
    | inl here ↦ Contains-append_left (f x) (flat_map f xs) y here
    | inr later ↦ Contains-append_right (f x) (flat_map f xs) y (in_all xs y later)
  ]

sum_same : {X : Type 0} (f g : X → ℕ) → ((x : X) → f x ≡ g x) → (xs : List X) → sum_by f xs ≡ sum_by g xs
sum_same f g same [] = refl
sum_same f g same (x ∷ xs) =
    sum_by-cons f x xs
    ∙ (ap (λ n. n + sum_by f xs) (same x) ∙ (ap (λ n. g x + n) (sum_same f g same xs) ∙ sym (sum_by-cons g x xs)))

sum_of_one : {X : Type 0} (w : X → ℕ) (x : X) → w x ≡ sum_by w (x ∷ [])
sum_of_one w x = omega (arith, sum_by-cons w x [])

option_sum : (w h : PlainCell Rings → ℕ) (g : PlainCell Rings → List (PlainCell Rings))
    → ((c : PlainCell Rings) → h c ≡ sum_by w (g c)) → (o : Option (PlainCell Rings))
    → option_map_or h o 0 ≡ sum_by w (option_map_or g o [])
option_sum w h g same None = refl
option_sum w h g same (Some c) = same c

over_ends : (w : PlainCell Rings → ℕ) (cells : List (PlainCell Rings)) (n : ℕ) (c : PlainCell Rings)
    → over_chains w cells n c ≡ sum_by w (ends cells n c)
over_ends w cells zero c = sum_of_one w c
over_ends w cells (suc n) c =
    let weigh : PlainReference → ℕ = λ r. option_map_or (over_chains w cells n) (cell_named cells r.cell) 0 in
    let next : Pick → List (PlainCell Rings) = λ p. option_map_or (ends cells n) (cell_named cells p.0.cell) [] in
    let after : sum_by (λ (p : Pick). weigh p.0) (picks c.references)
    ≡ sum_by (λ p. sum_by w (next p)) (picks c.references) =
    sum_same (λ (p : Pick). weigh p.0) (λ p. sum_by w (next p))
    (λ p. option_sum w (over_chains w cells n) (ends cells n) (over_ends w cells n) (cell_named cells p.0.cell))
    (picks c.references) in
    ap (λ k. w c + k) (picks_sum weigh c.references ∙ (after ∙ sym (sum_flat next w (picks c.references))))
    ∙ sym (sum_by-cons w c (flat_map next (picks c.references)))

-- a cell to which some chain of at most n references leads
abbrev Led : List (PlainCell Rings) → ℕ → PlainCell Rings → PlainCell Rings → Type 0
Led cells n c d = (k : ℕ) × (m : Map) × (k ≤ n) × Chain cells c k m d

in_option : (g : PlainCell Rings → List (PlainCell Rings)) (o : Option (PlainCell Rings)) (d : PlainCell Rings)
    → Contains (option_map_or g o []) d → (t : PlainCell Rings) × (o ≡ Some t) × Contains (g t) d
in_option g None d c = absurd (let below : c.0 < 0 = c.1 in omega arith)
in_option g (Some t) d c = (t, refl, c)

led_from : (cells : List (PlainCell Rings)) (n : ℕ) (c d : PlainCell Rings) → Contains (ends cells n c) d
    → Led cells n c d
led_from cells zero c d (zero, below, at) = (0, unmoved, omega arith, (refl, sym at))
led_from cells zero c d (suc i, below, at) = absurd (omega arith)
led_from cells (suc n) c d (zero, below, at) = (0, unmoved, omega arith, (refl, sym at))
led_from cells (suc n) c d (suc i, below, at) =
    let next : Pick → List (PlainCell Rings) = λ p. option_map_or (ends cells n) (cell_named cells p.0.cell) [] in
    let some = in_some next (picks c.references) d (i, omega arith, at) in
    let parts = in_option (ends cells n) (cell_named cells some.1.0.cell) d some.4 in
    let rest : Led cells n parts.0 d = led_from cells n parts.0 d parts.2 in
    let P : PlainReference → Point → Type 0 = λ r e. (r, e) ≡ some.1 in
    let chosen = (picks_any P c.references).1 (some_contained (λ (p : Pick). p ≡ some.1) (picks c.references) some.1
    (some.0, some.2, some.3) refl) in
    let named : cell_named cells chosen.1.cell ≡ Some parts.0 =
    ap (λ (p : Pick). cell_named cells p.0.cell) chosen.4.4 ∙ parts.1 in (
      suc rest.0,
      composed (map_at chosen.1 chosen.4.1) rest.1,
      omega (arith, rest.2),
      chain_after cells c parts.0 chosen.0 chosen.1 chosen.4.0 chosen.4.1 chosen.2 chosen.3 chosen.4.2 chosen.4.3 named
          rest.0 rest.1 d rest.3,
    )

led_to : (cells : List (PlainCell Rings)) (n : ℕ) (c d : PlainCell Rings) (k : ℕ) (m : Map) → k ≤ n
    → Chain cells c k m d → Contains (ends cells n c) d
led_to cells zero c d zero m few chain = (0, omega arith, sym chain.1)
led_to cells zero c d (suc k) m few chain = absurd (omega arith)
led_to cells (suc n) c d zero m few chain = (0, omega arith, sym chain.1)
led_to cells (suc n) c d (suc k) m few chain =
    let next : Pick → List (PlainCell Rings) = λ p. option_map_or (ends cells n) (cell_named cells p.0.cell) [] in
    let first : FirstChoice cells c k m d = first_choice cells c k m d chain in
    let rest : Contains (ends cells n first.next) d =
    led_to cells n first.next d k first.rest (omega arith) first.chain in
    let there : Contains (next first.pick) d =
    subst (λ (o : Option (PlainCell Rings)). Contains (option_map_or (ends cells n) o []) d) (sym first.named) rest in
    let some = in_all next (picks c.references) d
    (some_contained (λ p. Contains (next p) d) (picks c.references) first.pick first.chosen there) in
    (suc some.0, omega (arith, some.1), some.2)

pub adds_up : (cells : List (PlainCell Rings)) (n : ℕ) (c : PlainCell Rings) → AddsUp cells n c
adds_up cells n c = record {
  sum = λ w. over_ends w cells n c;
  led = λ d. (led_from cells n c d, λ l. led_to cells n c d l.0 l.1 l.2 l.3);
}
