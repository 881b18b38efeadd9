-- Corners with the same bytes are equal.
use Rattle.std.proofs.Common.{◌≡◌, ℕ, ◌<◌, ◌^◌, List, [], ◌∷◌, ◌++◌, length, take, drop, flat_map, ℤ, pos}
use Rattle.std.proofs.Common.{negsuc, All, FitsSigned, refl, sym, ◌∙◌, ap, arith}
use Rattle.std.specs.Int.{w8, w64, to_be_bytes, from_be_bytes, cast_unsigned, cast_signed}
use Rattle.std.proofs.lemmas.Int.{to_z-of_z}
use Rattle.std.proofs.lemmas.List.{take_at, drop_at, append_cancel_left}
use Rattle.std.proofs.lemmas.List.Elements.{All-head, All-tail}
use Rattle.std.proofs.lemmas.Nat.{from_be_bytes-to_be_bytes_8}
use Rattle.lvl_grid.specs.Winding.{SomeCovers}
use Rattle.lvl_corners.specs.declared.corner.Corner.{Corner}
use Rattle.lvl_corners.specs.Corners.{FitsCorner}
use Rattle.lvl_corners.specs.Bytes.{corner_bytes, layer_head, layer_bytes, BytesDecide}
use Rattle.lvl_corners.proofs.Totals.{corner_is}
use Rattle.lvl_corners.proofs.Deciding.{one_list, same_squares}

below : (z : ℤ) → FitsSigned w64 z → cast_unsigned w64 z < 2 ^ 64
below (pos n) fits = omega (arith, fits)
below (negsuc n) fits = omega (arith, fits)

-- numbers with the same bits are equal
bits_decide : (a b : ℤ) → FitsSigned w64 a → FitsSigned w64 b → cast_unsigned w64 a ≡ cast_unsigned w64 b → a ≡ b
bits_decide a b f g same = sym (to_z-of_z w64 a f) ∙ (ap (cast_signed w64) same ∙ to_z-of_z w64 b g)

byte_decides : (a b : ℤ) → FitsSigned w8 a → FitsSigned w8 b → cast_unsigned w8 a ≡ cast_unsigned w8 b → a ≡ b
byte_decides a b f g same = sym (to_z-of_z w8 a f) ∙ (ap (cast_signed w8) same ∙ to_z-of_z w8 b g)

eight_decide : (a b : ℤ) → FitsSigned w64 a → FitsSigned w64 b
    → to_be_bytes w64 (cast_unsigned w64 a) ≡ to_be_bytes w64 (cast_unsigned w64 b) → a ≡ b
eight_decide a b f g same =
    bits_decide a b f g (sym (from_be_bytes-to_be_bytes_8 (cast_unsigned w64 a) (below a f))
    ∙ (ap (from_be_bytes w64) same ∙ from_be_bytes-to_be_bytes_8 (cast_unsigned w64 b) (below b g)))

eight_long : (n : ℕ) → length (to_be_bytes w64 n) ≡ 8
eight_long n = refl

-- equal concatenations with first parts of the same length have equal parts
pub parts_decide : (p q r s : List ℕ) (n : ℕ) → length p ≡ n → length r ≡ n → p ++ q ≡ r ++ s → (p ≡ r) × (q ≡ s)
parts_decide p q r s n h k same = (
  sym (take_at p q n h) ∙ (ap (take n) same ∙ take_at r s n k),
  sym (drop_at p q n h) ∙ (ap (drop n) same ∙ drop_at r s n k),
)

first_of : (a b : ℕ) → a ∷ [] ≡ b ∷ [] → a ≡ b
first_of a b h = cc

pub corner_decides : (k l : Corner) → FitsCorner k → FitsCorner l → corner_bytes k ≡ corner_bytes l → k ≡ l
corner_decides k l f g same =
    let by_x = parts_decide (to_be_bytes w64 (cast_unsigned w64 k.x)) _ (to_be_bytes w64 (cast_unsigned w64 l.x)) _ 8
    (eight_long (cast_unsigned w64 k.x)) (eight_long (cast_unsigned w64 l.x)) same in
    let by_y = parts_decide (to_be_bytes w64 (cast_unsigned w64 k.y)) _ (to_be_bytes w64 (cast_unsigned w64 l.y)) _ 8
    (eight_long (cast_unsigned w64 k.y)) (eight_long (cast_unsigned w64 l.y)) by_x.1 in
    corner_is k l (eight_decide k.x l.x f.x_fits g.x_fits by_x.0) (eight_decide k.y l.y f.y_fits g.y_fits by_y.0)
    (byte_decides k.change l.change f.change_fits g.change_fits
    (first_of (cast_unsigned w8 k.change) (cast_unsigned w8 l.change) by_y.1))

pub corner_long : (k : Corner) → length (corner_bytes k) ≡ 17
corner_long k = refl

-- corners that fit and have the same bytes are equal
pub corners_decide : (ks ls : List Corner) → All FitsCorner ks → All FitsCorner ls
    → flat_map corner_bytes ks ≡ flat_map corner_bytes ls → ks ≡ ls
corners_decide [] [] f g same = refl
corners_decide [] (l ∷ ls) f g same = let n = ap length same in absurd (omega (arith, n))
corners_decide (k ∷ ks) [] f g same = let n = ap length same in absurd (omega (arith, n))
corners_decide (k ∷ ks) (l ∷ ls) f g same =
    let parts = parts_decide (corner_bytes k) (flat_map corner_bytes ks) (corner_bytes l) (flat_map corner_bytes ls) 17
    (corner_long k) (corner_long l) same in
    let first = corner_decides k l (All-head FitsCorner k ks f) (All-head FitsCorner l ls g) parts.0 in
    let rest = corners_decide ks ls (All-tail FitsCorner k ks f) (All-tail FitsCorner l ls g) parts.1 in
    rw (first, rest) refl

pub bytes_decide : BytesDecide
bytes_decide layer datatype first second ks ls h k f g = (
  λ same.
      let all = corners_decide ks ls f g (append_cancel_left (layer_head layer datatype) (flat_map corner_bytes ks)
      (flat_map corner_bytes ls) same) in
      same_squares (SomeCovers first) (SomeCovers second) ks ls h k all,
  λ same. ap (layer_bytes layer datatype) (one_list (SomeCovers first) (SomeCovers second) ks ls h k same),
)
