-- What may come in a library is of a type that is always read, or a zero byte after its end.
use Rattle.std.proofs.Common.{◌≡◌, ◌<◌, ◌==◌, ◌||◌, ◌&&◌, ℕ, Bool, true, List, [], ◌∷◌, ◌++◌, refl, sym, subst, arith}
use Rattle.std.proofs.Common.{inl, inr}
use Rattle.std.specs.Prelude.{is_some}
use Rattle.std.specs.List.{AllByRecursion, flat_map}
use Rattle.std.proofs.lemmas.Bool.{and_parts, or_cases}
use Rattle.lvl_grammar.specs.Order.{Order, nothing, one, next, either, many, IsWord}
use Rattle.lvl_grammar.proofs.Fills.{all_append, all_left, all_right}
use Rattle.lvl_grammar.proofs.Orders.{type_same}
use Rattle.gds_records.specs.Table.{table, form_among}
use Rattle.gds_elements.specs.Rec.{Rec, kinds}
use Rattle.gds_elements.specs.Rules.{IsKnown}
use Rattle.gds_elements.proofs.Fields.{kinds-snoc}
use Rattle.gds_library.specs.Types.{fill}
use Rattle.gds_library.specs.Order.{a_library}
use Rattle.gds_library.specs.Rules.{InOrder}

-- whether each type in the expression passes the test
abbrev all_pass : (ℕ → Bool) → Order → Bool
all_pass test nothing = true
all_pass test (one k) = test k
all_pass test (next a b) = all_pass test a && all_pass test b
all_pass test (either a b) = all_pass test a && all_pass test b
all_pass test (many a) = all_pass test a

abbrev Passes : (ℕ → Bool) → ℕ → Type 0
Passes test k = test k ≡ true

passes_flat : (test : ℕ → Bool) (a : Order) → ((u : List ℕ) → IsWord a u → AllByRecursion (Passes test) u)
    → (ws : List (List ℕ)) → AllByRecursion (IsWord a) ws → AllByRecursion (Passes test) (flat_map (λ u. u) ws)
passes_flat test a h [] p = tt
passes_flat test a h (w ∷ ws) p =
    all_append (Passes test) w (flat_map (λ u. u) ws) (h w p.0) (passes_flat test a h ws p.1)

-- then so does each type in its words
word_passes : (test : ℕ → Bool) (a : Order) (w : List ℕ) → all_pass test a ≡ true → IsWord a w
    → AllByRecursion (Passes test) w
word_passes test nothing w e h = subst (AllByRecursion (Passes test)) (sym h) tt
word_passes test (one k) w e h = subst (AllByRecursion (Passes test)) (sym h) (e, tt)
word_passes test (next a b) w e h =
    let p = and_parts (all_pass test a) (all_pass test b) e in
    subst (AllByRecursion (Passes test)) (sym h.4)
    (all_append (Passes test) h.0 h.1 (word_passes test a h.0 p.0 h.2) (word_passes test b h.1 p.1 h.3))
word_passes test (either a b) w e h =
    let p = and_parts (all_pass test a) (all_pass test b) e in
    elim h [ inl x ↦ word_passes test a w p.0 x | inr y ↦ word_passes test b w p.1 y ]
word_passes test (many a) w e h =
    subst (AllByRecursion (Passes test)) (sym h.2)
    (passes_flat test a (λ u. word_passes test a u e) h.0 h.1)

abbrev in_library : ℕ → Bool
in_library k = is_some (form_among table k) || (k == fill)

pub ordered_known : (before : List Rec) (r : Rec) → InOrder before r → r.kind < 60 → IsKnown r.kind
ordered_known before r g l =
    let all = all_left (Passes in_library) (kinds (before ++ r ∷ [])) g.0
    (word_passes in_library a_library (kinds (before ++ r ∷ []) ++ g.0) refl g.1) in
    let last = all_right (Passes in_library) (kinds before) (r.kind ∷ [])
    (subst (AllByRecursion (Passes in_library)) (kinds-snoc before r) all) in
    elim (or_cases (is_some (form_among table r.kind)) (r.kind == fill) last.0) [
      | inl k ↦ k
      | inr e ↦ absurd (omega (arith, l, type_same r.kind fill e))
    ]
