-- The definitions, computed on examples.
use Rattle.std.proofs.Common.{◌≡◌, Bool, false, ◌&&◌, ◌||◌, [], ◌∷◌, pos, negsuc, int_le, int_lt, refl, inl}
use Rattle.std.proofs.Common.{inr}
use Rattle.std.proofs.Common.{arith, lit<}
use Rattle.std.specs.Fmt.{decimal}
use Rattle.std.proofs.lemmas.Fmt.{decimal_digit}
use Rattle.std.proofs.lemmas.Int.{ints}
use Rattle.lvl_grid.specs.declared.point.Square.{Square}
use Rattle.lvl_corners.specs.Corners.{change_at, ComesBefore, AreCorners}
use Rattle.lvl_corners.specs.Bytes.{corner_bytes, layer_bytes, layer_head}

-- the squares of a rectangle of 10 by 10, and of another that touches it at its upper right corner
abbrev square : Square → Bool
square s = (int_le (pos 0) s.x && int_lt s.x (pos 10)) && (int_le (pos 0) s.y && int_lt s.y (pos 10))

abbrev next : Square → Bool
next s = (int_le (pos 10) s.x && int_lt s.x (pos 20)) && (int_le (pos 10) s.y && int_lt s.y (pos 20))

abbrev both : Square → Bool
both s = square s || next s

lower_left : change_at square (pos 0) (pos 0) ≡ pos 1
lower_left = refl

upper_left : change_at square (pos 0) (pos 10) ≡ negsuc 0
upper_left = refl

lower_right : change_at square (pos 10) (pos 0) ≡ negsuc 0
lower_right = refl

upper_right : change_at square (pos 10) (pos 10) ≡ pos 1
upper_right = refl

on_a_side : change_at square (pos 0) (pos 5) ≡ pos 0
on_a_side = refl

inside : change_at square (pos 5) (pos 5) ≡ pos 0
inside = refl

where_they_touch : change_at both (pos 10) (pos 10) ≡ pos 2
where_they_touch = refl

-- in order of x, then of y
by_x : ComesBefore (record { x = negsuc 4; y = pos 9; change = pos 1 }) (record {
  x = pos 0;
  y = pos 0;
  change = pos
      1;
})
by_x = inl (omega (arith, ints))

by_y : ComesBefore (record { x = pos 0; y = negsuc 0; change = pos 1 }) (record {
  x = pos 0;
  y = pos 0;
  change = pos
      1;
})
by_y = inr (refl, omega (arith, ints))

-- the empty set has no corners
nothing : AreCorners (λ s. false) []
nothing = record {
  rising = λ i j d lt far. absurd (omega (arith, far));
  each = λ k. (λ there. absurd (omega (arith, there.1)), λ both. absurd (both.0 both.1));
}

-- the bytes of a corner at both ends of 64 bits
at_both_ends : corner_bytes (record { x = negsuc 0x7FFFFFFFFFFFFFFF; y = pos 0x7FFFFFFFFFFFFFFF; change = negsuc 1 })
    ≡ 128 ∷ 0 ∷ 0 ∷ 0 ∷ 0 ∷ 0 ∷ 0 ∷ 0 ∷ 127 ∷ 255 ∷ 255 ∷ 255 ∷ 255 ∷ 255 ∷ 255 ∷ 255 ∷ 254 ∷ []
at_both_ends = refl

-- "layer 7 datatype 2", a line feed, and one corner
spelled : layer_bytes 7 2 (record { x = pos 1; y = negsuc 0; change = pos 1 } ∷ [])
    ≡ 108 ∷ 97 ∷ 121 ∷ 101 ∷ 114 ∷ 32 ∷ 55 ∷ 32 ∷ 100 ∷ 97 ∷ 116 ∷ 97 ∷ 116 ∷ 121 ∷ 112 ∷ 101 ∷ 32 ∷ 50 ∷ 10
    ∷ 0 ∷ 0 ∷ 0 ∷ 0 ∷ 0 ∷ 0 ∷ 0 ∷ 1 ∷ 255 ∷ 255 ∷ 255 ∷ 255 ∷ 255 ∷ 255 ∷ 255 ∷ 255 ∷ 1 ∷ []
unfolding layer_head
spelled =
    let seven : decimal 7 ≡ 55 ∷ [] = decimal_digit 7 (lit< tt) in
    let two : decimal 2 ≡ 50 ∷ [] = decimal_digit 2 (lit< tt) in
    rw (seven, two) refl
