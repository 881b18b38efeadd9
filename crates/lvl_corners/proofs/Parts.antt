-- The corners of two parts of a column, one above the other.
use Rattle.std.proofs.Common.{◌≡◌, Bool, true, false, ◌||◌, List, [], ◌++◌, Some, None}
use Rattle.std.proofs.Common.{ℤ, pos, ◌+ℤ◌, ◌-ℤ◌, ◌<ℤ◌, ◌≤ℤ◌, int_lt, int_le, ◌↔◌, inl, inr, Contains}
use Rattle.std.proofs.Common.{refl, sym, ◌∙◌, ap, arith}
use Rattle.std.specs.Bool.{Decides}
use Rattle.std.proofs.lemmas.Int.{ints, by_lt_z}
use Rattle.std.proofs.lemmas.Bool.{and_parts, and_from, cases_Bool, or_cases, or_left, or_right}
use Rattle.std.proofs.lemmas.Bool.Decides.{same_from_decides}
use Rattle.std.proofs.lemmas.List.Elements.{Contains-append_cases, Contains-append_left}
use Rattle.std.proofs.lemmas.List.Elements.{Contains-append_right}
use Rattle.lvl_grid.specs.declared.point.Square.{Square}
use Rattle.lvl_sweep.specs.Ahead.{is_from}
use Rattle.lvl_corners.specs.declared.corner.Corner.{Corner}
use Rattle.lvl_corners.specs.declared.span.Span.{Span}
use Rattle.lvl_corners.specs.Corners.{bit, change_at, ComesBefore}
use Rattle.lvl_corners.specs.Spans.{is_below, spanned, whole, left_part, right_part, AreCornersIn}
use Rattle.lvl_corners.specs.Parts.{only, AreCornersAt}
use Rattle.lvl_corners.proofs.Pairs.{pairs_of_both}
use Rattle.lvl_corners.proofs.Spans.{bounded_both, half_test, below_end, from_start, lt_of, lt_test, le_of, le_test}

-- the squares below an ordinate, and those from one before it on
pub record AreParts (P L U : Square → Type 0) (at : ℤ) : Type 0 where
  pub low : (s : Square) → L s ↔ ((s.y <ℤ at) × P s)
  pub high : (s : Square) → U s ↔ (((at -ℤ pos 1) ≤ℤ s.y) × P s)

pub both_decide : (P L U : Square → Type 0) (at : ℤ) (h : AreParts P L U at) (c e : Square → Bool)
    → ((s : Square) → Decides (c s) (L s)) → ((s : Square) → Decides (e s) (U s)) → (s : Square)
    → Decides (c s || e s) (P s)
both_decide P L U at h c e l u s = (
  λ t. elim (or_cases (c s) (e s) t) [
    | inl v ↦ ((h.low s).0 ((l s).0 v)).1
    | inr v ↦ ((h.high s).0 ((u s).0 v)).1
  ],
  λ p. by_lt_z s.y at
      (λ lt. or_left (c s) (e s) ((l s).1 ((h.low s).1 (lt, p))))
      (λ ge. or_right (c s) (e s) ((u s).1 ((h.high s).1 (omega (arith, ints, ge), p)))),
)

pub same_change : (c e : Square → Bool) (x y : ℤ) → ((u : ℤ) → c (record { x = u; y = y }) ≡ e (record { x = u; y = y }))
    → ((u : ℤ) → c (record { x = u; y = y -ℤ pos 1 }) ≡ e (record { x = u; y = y -ℤ pos 1 }))
    → change_at c x y ≡ change_at e x y
same_change c e x y here below =
    rw (ap bit (here x), ap bit (here (x -ℤ pos 1)), ap bit (below x), ap bit (below (x -ℤ pos 1))) refl

-- the corners of both parts are those in all rows
pub corners_of_parts : (P L U : Square → Type 0) (x : ℤ) (rows : Span) (at : ℤ) (ks ls : List Corner)
    → AreParts P L U at → spanned rows at ≡ true → AreCornersAt L x (left_part rows at) ks
    → AreCornersAt U x (right_part rows at) ls → AreCornersAt P x rows (ks ++ ls)
corners_of_parts P L U x rows at ks ls parts inner l u =
    let c : Square → Bool = λ s. l.covered s || u.covered s in
    let ends = and_parts (is_from rows.from at) (is_below rows.below at) inner in
    let decides : (s : Square) → Decides (c s) (P s) =
    both_decide P L U at parts l.covered u.covered l.is_covered u.is_covered in
    let in_low : (s : Square) → s.y <ℤ at → c s ≡ l.covered s = λ s lt. same_from_decides (c s) (l.covered s)
    (decides s) (half_test P L (s.y <ℤ at) s (l.covered s) (l.is_covered s) (parts.low s) lt) in
    let in_high : (s : Square) → (at -ℤ pos 1) ≤ℤ s.y → c s ≡ u.covered s = λ s le.
    same_from_decides (c s) (u.covered s) (decides s)
    (half_test P U ((at -ℤ pos 1) ≤ℤ s.y) s (u.covered s) (u.is_covered s) (parts.high s) le) in
    let low_change : (v y : ℤ) → y <ℤ at → change_at c v y ≡ change_at l.covered v y = λ v y lt.
    same_change c l.covered v y (λ w. in_low (record { x = w; y = y }) lt)
    (λ w. in_low (record { x = w; y = y -ℤ pos 1 }) (omega (arith, ints, lt))) in
    let high_change : (v y : ℤ) → at ≤ℤ y → change_at c v y ≡ change_at u.covered v y = λ v y le.
    same_change c u.covered v y (λ w. in_high (record { x = w; y = y }) (omega (arith, ints, le)))
    (λ w. in_high (record { x = w; y = y -ℤ pos 1 }) (omega (arith, ints, le))) in
    let below : (k : Corner) → Contains ks k → k.y <ℤ at = λ k there.
    lt_of k.y at (and_parts (is_from rows.from k.y) (int_lt k.y at) ((l.each k).0 there).1).1 in
    let above : (k : Corner) → Contains ls k → at ≤ℤ k.y = λ k there.
    le_of at k.y (and_parts (int_le at k.y) (is_below rows.below k.y) ((u.each k).0 there).1).0 in
    record {
      covered = c;
      is_covered = decides;
      bounded = bounded_both l.covered u.covered l.bounded u.bounded;
      rising = pairs_of_both ComesBefore ks ls l.rising u.rising (λ k m there other.
          let low = below k there in
          let high = above m other in
          inr (((l.each k).0 there).0 ∙ sym ((u.each m).0 other).0, omega (arith, ints, low, high)));
      each = λ k. (
        λ there. elim (Contains-append_cases ks ls k there) [
          | inl here ↦
              let all = (l.each k).0 here in
              let lt : k.y <ℤ at = below k here in (
                all.0,
                and_from (is_from rows.from k.y) (is_below rows.below k.y)
                    (and_parts (is_from rows.from k.y) (int_lt k.y at) all.1).0 (below_end rows.below k.y at lt ends.1),
                all.2,
                all.3 ∙ sym (low_change k.x k.y lt),
              )
          | inr here ↦
              let all = (u.each k).0 here in
              let le : at ≤ℤ k.y = above k here in (
                all.0,
                and_from (is_from rows.from k.y) (is_below rows.below k.y) (from_start rows.from k.y at le ends.0)
                    (and_parts (int_le at k.y) (is_below rows.below k.y) all.1).1,
                all.2,
                all.3 ∙ sym (high_change k.x k.y le),
              )
        ],
        λ all.
            let both = and_parts (is_from rows.from k.y) (is_below rows.below k.y) all.1 in
            by_lt_z k.y at
            (λ lt. Contains-append_left ks ls k ((l.each k).1 (
              all.0,
              and_from (is_from rows.from k.y) (int_lt k.y at) both.0 (lt_test k.y at lt),
              all.2,
              all.3 ∙ low_change k.x k.y lt,
            )))
            (λ ge. Contains-append_right ks ls k ((u.each k).1 (
              all.0,
              and_from (int_le at k.y) (is_below rows.below k.y) (le_test at k.y ge) both.1,
              all.2,
              all.3 ∙ high_change k.x k.y ge,
            ))),
      );
    }

-- the corners in all rows are those at the abscissa
pub corners_at_all : (P : Square → Type 0) (x : ℤ) (ks : List Corner) → AreCornersAt P x whole ks
    → AreCornersIn P (only x) ks
corners_at_all P x ks h = record {
  covered = h.covered;
  is_covered = h.is_covered;
  bounded = h.bounded;
  rising = h.rising;
  each = λ k. (
    λ there.
        let all = (h.each k).0 there in
        let same = all.0 in (
          and_from (int_le x k.x) (int_lt k.x (x +ℤ pos 1)) (le_test x k.x (omega (arith, ints, same)))
              (lt_test k.x (x +ℤ pos 1) (omega (arith, ints, same))),
          all.2,
          all.3,
        ),
    λ all.
        let both = and_parts (int_le x k.x) (int_lt k.x (x +ℤ pos 1)) all.0 in
        let low = le_of x k.x both.0 in
        let high = lt_of k.x (x +ℤ pos 1) both.1 in
        (h.each k).1 (omega (arith, ints, low, high), refl, all.1, all.2),
  );
}

-- a set without squares has no corners at an abscissa
pub no_corners_at : (P : Square → Type 0) (x : ℤ) (rows : Span) → ((s : Square) → P s → ⊥) → AreCornersAt P x rows []
no_corners_at P x rows none = record {
  covered = λ s. false;
  is_covered = λ s. (λ t. cc, λ p. absurd (none s p));
  bounded = record { left = pos 0; bottom = pos 0; each = λ s t. absurd (cc) };
  rising = λ i j d lt far. absurd (omega (arith, far));
  each = λ k. (λ c. let none = c.1 in absurd (omega (arith, none)), λ all. absurd (all.2 all.3));
}

-- the corners at an abscissa are those from it on, if all squares are left of it
pub corners_beyond : (P : Square → Type 0) (x : ℤ) (ks : List Corner) → ((s : Square) → P s → s.x <ℤ x)
    → AreCornersIn P (only x) ks → AreCornersIn P (record { from = Some x; below = None }) ks
corners_beyond P x ks left h =
    let empty : (u v : ℤ) → x ≤ℤ u → h.covered (record { x = u; y = v }) ≡ false = λ u v le.
    elim (cases_Bool (h.covered (record { x = u; y = v }))) [
      | inl t ↦ let lt = left (record { x = u; y = v }) ((h.is_covered (record { x = u; y = v })).0 t) in
          absurd (omega (arith, ints, lt, le))
      | inr f ↦ f
    ] in
    let none : (u v : ℤ) → x <ℤ u → change_at h.covered u v ≡ pos 0 = λ u v lt.
    rw (
      ap bit (empty u v (omega (arith, ints, lt))),
      ap bit (empty (u -ℤ pos 1) v (omega (arith, ints, lt))),
      ap bit (empty u (v -ℤ pos 1) (omega (arith, ints, lt))),
      ap bit (empty (u -ℤ pos 1) (v -ℤ pos 1) (omega (arith, ints, lt))),
    ) refl in
    record {
      covered = h.covered;
      is_covered = h.is_covered;
      bounded = h.bounded;
      rising = h.rising;
      each = λ k. (
        λ there.
            let all = (h.each k).0 there in (
              and_from (int_le x k.x) true (and_parts (int_le x k.x) (int_lt k.x (x +ℤ pos 1)) all.0).0 refl,
              all.1,
              all.2,
            ),
        λ all.
            let low : x ≤ℤ k.x = le_of x k.x (and_parts (int_le x k.x) true all.0).0 in
            by_lt_z x k.x
            (λ lt. absurd (all.1 (all.2 ∙ none k.x k.y lt)))
            (λ ge. (h.each k).1 (
              and_from (int_le x k.x) (int_lt k.x (x +ℤ pos 1)) (le_test x k.x low)
                  (lt_test k.x (x +ℤ pos 1) (omega (arith, ints, ge))),
              all.1,
              all.2,
            )),
      );
    }
