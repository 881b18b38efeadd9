use Rattle.std.proofs.Common.{◌≡◌, ◌<◌, ◌≤◌, List, [], ◌∷◌, length, get_or, pos, ap, subst, sym, ◌∙◌, arith}
use Rattle.std.proofs.lemmas.Int.{ints}
use Rattle.lvl_grid.specs.declared.point.Point.{Point}
use Rattle.lvl_grid.proofs.Composing.{same_point}
use Rattle.lvl_names.specs.Shifts.{steps, lattice, StartsAtZero}
use Rattle.oasis_values.proofs.repetition.listed.Goals as goal

abbrev origin : Point
origin = record { x = pos 0; y = pos 0 }

no_step : (q : Point) → steps q 0 origin 0 ≡ origin
no_step q = same_point _ _ (omega (arith, ints)) (omega (arith, ints))

one_step : (q : Point) → steps q 1 origin 0 ≡ q
one_step q = same_point _ _ (omega (arith, ints)) (omega (arith, ints))

-- two shifts, of which the first is zero, are a row
row_of_two : (shifts : List Point) → StartsAtZero shifts → 2 ≤ length shifts → length shifts < 3
    → lattice (get_or shifts 1 origin) 2 origin 1 ≡ shifts
row_of_two [] z some few = absurd (omega (arith, some))
row_of_two (p ∷ []) z some few = absurd (omega (arith, some))
row_of_two (p ∷ q ∷ []) z some few =
    let zero : origin ≡ p = cc in
    ap (λ (s : Point). s ∷ steps q 1 origin 0 ∷ []) (no_step q) ∙ ap (λ (s : Point). origin ∷ s ∷ []) (one_step q)
    ∙ ap (λ (s : Point). s ∷ q ∷ []) zero
row_of_two (p ∷ q ∷ r ∷ shifts) z some few = absurd (omega (arith, few))

pub returns-in-Some : goal.returns-in-Some
returns-in-Some c =
    let same = c.as_slice.ensures.value in
    let starts : StartsAtZero c.as_slice.result.now = subst (λ (l : List Point). StartsAtZero l) (sym same) c.requires in
    c.in-Some.ensures.same
    ∙ row_of_two c.as_slice.result.now starts c.in-len2.len_at_least c.in-len2.len_below ∙ same
