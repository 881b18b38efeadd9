-- Digested Layers are read back from their lines.
use Rattle.std.proofs.Common.{◌≡◌, ◌≢◌, ℕ, zero, suc, ◌+◌, ◌/◌, ◌%◌, ◌<◌, ◌≤◌, ◌^◌, List, [], ◌∷◌, ◌++◌, length}
use Rattle.std.proofs.Common.{slice_index, codes, All, refl, sym, ◌∙◌, ap, subst, arith, Bool, true, not}
use Rattle.std.proofs.Common.{◌==◌}
use Rattle.std.specs.Int.{w32, to_be_bytes, byte_at}
use Rattle.std.specs.Fmt.{decimal}
use Rattle.std.proofs.lemmas.Fmt.{decimal_by_steps, decimal_injective}
use Rattle.std.proofs.lemmas.List.{append_assoc, append_cancel_left}
use Rattle.std.proofs.lemmas.List.Sums.{AllPass-from_list_all}
use Rattle.std.proofs.lemmas.List.Elements.{All-nil, All-cons, All-head, All-tail, All-push, All-weaker}
use Rattle.hex.specs.Hex.{encode_lower, encode_with, lower_digits, decode_of, IsBytes}
use Rattle.hex.proofs.HexLemmas.{decode_of-encode_lower}
use Rattle.sha2.specs.Sha256.{sha256, digest_bytes}
use Rattle.lvl_corners.specs.declared.mask.DigestedLayer.{DigestedLayer}
use Rattle.lvl_corners.specs.Masks.{digest_line, mask_lines}

abbrev IsDigit : ℕ → Type 0
IsDigit b = (48 ≤ b) × (b ≤ 57)

digits : (n : ℕ) → n < 2 ^ 64 → All IsDigit (decimal n)
digits n small =
    decimal_by_steps (λ m ds. All IsDigit ds)
    (λ m lt. All-cons IsDigit (48 + m) [] (omega arith, omega (arith, lt)) (All-nil IsDigit))
    (λ m ds le h. All-push IsDigit ds (48 + m % 10) h (omega arith, omega arith)) n small

-- lists with equal concatenations are equal up to the first c, and from there on
until_first : (c : ℕ) (p q x y : List ℕ) → All (λ b. b ≢ c) p → All (λ b. b ≢ c) q → p ++ c ∷ x ≡ q ++ c ∷ y
    → (p ≡ q) × (x ≡ y)
until_first c [] [] x y f g h = (refl, cc)
until_first c [] (b ∷ q) x y f g h = absurd (All-head (λ b. b ≢ c) b q g (cc))
until_first c (a ∷ p) [] x y f g h = absurd (All-head (λ b. b ≢ c) a p f (cc))
until_first c (a ∷ p) (b ∷ q) x y f g h =
    let first : a ≡ b = cc in
    let rest = until_first c p q x y (All-tail (λ b. b ≢ c) a p f) (All-tail (λ b. b ≢ c) b q g) (cc) in
    (rw (first, rest.0) refl, rest.1)

no_digit : (c n : ℕ) → n < 2 ^ 64 → c < 48 → All (λ b. b ≢ c) (decimal n)
no_digit c n small low =
    All-weaker IsDigit (λ b. b ≢ c) (λ b digit e. let least = digit.0 in absurd (omega (arith, least, e, low)))
    (decimal n) (digits n small)

-- a number and what comes after the space behind it are read back
number_then : (m n : ℕ) (x y : List ℕ) → m < 2 ^ 64 → n < 2 ^ 64 → decimal m ++ 32 ∷ x ≡ decimal n ++ 32 ∷ y
    → (m ≡ n) × (x ≡ y)
number_then m n x y f g h =
    let parts = until_first 32 (decimal m) (decimal n) x y (no_digit 32 m f (omega arith)) (no_digit 32 n g (omega
    arith)) h in
    (decimal_injective m n f g parts.0, parts.1)

is_apart : ℕ → Bool
is_apart b = not (b == 10)

-- no hexadecimal digit is a line feed
digit_apart : (k : ℕ) → k < 16 → slice_index lower_digits k ≢ 10
unfolding is_apart
digit_apart k lt e =
    let all = AllPass-from_list_all is_apart lower_digits refl in
    let at : is_apart (slice_index lower_digits k) ≡ true = all k 0 lt in
    let none : is_apart 10 ≡ true = subst (λ b. is_apart b ≡ true) e at in
    absurd (cc)

pub hex_apart : (bytes : List ℕ) → IsBytes bytes → All (λ b. b ≢ 10) (encode_lower bytes)
unfolding encode_with
hex_apart [] small = All-nil (λ b. b ≢ 10)
hex_apart (b ∷ rest) small =
    let lt : b < 256 = small 0 in
    let later : List ℕ = encode_lower rest in
    All-cons (λ b. b ≢ 10) (slice_index lower_digits (b / 16)) (slice_index lower_digits (b % 16) ∷ later)
    (digit_apart (b / 16) (omega (arith, lt)))
    (All-cons (λ b. b ≢ 10) (slice_index lower_digits (b % 16)) later (digit_apart (b % 16) (omega arith))
    (hex_apart rest (λ i. small (suc i))))

hex_decides : (bs cs : List ℕ) → IsBytes bs → IsBytes cs → encode_lower bs ≡ encode_lower cs → bs ≡ cs
hex_decides bs cs f g e =
    let same = sym (decode_of-encode_lower bs f) ∙ (ap decode_of e ∙ decode_of-encode_lower cs g) in
    cc

byte_small : (i n : ℕ) → byte_at i n < 256
byte_small zero n = omega arith
byte_small (suc i) n = omega arith

word_small : (n : ℕ) → IsBytes (to_be_bytes w32 n)
word_small n zero = byte_small 3 n
word_small n (suc zero) = byte_small 2 n
word_small n (suc (suc zero)) = byte_small 1 n
word_small n (suc (suc (suc zero))) = byte_small 0 n
word_small n (suc (suc (suc (suc i)))) = omega arith

both_small : (xs ys : List ℕ) → IsBytes xs → IsBytes ys → IsBytes (xs ++ ys)
both_small [] ys f g = g
both_small (x ∷ xs) ys f g = λ i. more_small x xs ys f (both_small xs ys (λ j. f (suc j)) g) i
  where
    more_small : (x : ℕ) (xs ys : List ℕ) → IsBytes (x ∷ xs) → IsBytes (xs ++ ys) → IsBytes (x ∷ (xs ++ ys))
    more_small x xs ys f rest zero = f 0
    more_small x xs ys f rest (suc i) = rest i

words_small : (h : List ℕ) (n : ℕ) → IsBytes (digest_bytes h n)
unfolding digest_bytes
words_small h zero = λ i. omega arith
words_small h (suc n) =
    both_small (digest_bytes h n) (to_be_bytes w32 (slice_index h n)) (words_small h n) (word_small (slice_index h n))

-- a SHA-256 consists of bytes
pub sha_small : (m : List ℕ) → IsBytes (sha256 m)
unfolding sha256
sha_small m = words_small _ 8

-- the numbers of a digested Layer that its line spells
pub record FitsLine (l : DigestedLayer) : Type 0 where
  pub layer : l.layer.layer < 2 ^ 64
  pub datatype : l.layer.datatype < 2 ^ 64
  pub corners : l.digest.corners < 2 ^ 64
  pub bytes : IsBytes l.digest.sha256

to_right : (a b c d e f g h t x : List ℕ)
    → (a ++ (b ++ (c ++ (d ++ (e ++ (f ++ (g ++ (h ++ t)))))))) ++ x
    ≡ a ++ (b ++ (c ++ (d ++ (e ++ (f ++ (g ++ (h ++ (t ++ x))))))))
to_right a b c d e f g h t x = simp append_assoc refl

line_then : (l : DigestedLayer) (x : List ℕ)
    → digest_line l ++ x
    ≡ codes "layer " ++ (decimal l.layer.layer ++ 32 ∷ (codes "datatype " ++ (decimal l.layer.datatype
    ++ 32 ∷ (codes "corners " ++ (decimal l.digest.corners
    ++ 32 ∷ (codes "sha256 " ++ (encode_lower l.digest.sha256 ++ 10 ∷ x)))))))
line_then l x =
    to_right (codes "layer ") (decimal l.layer.layer) (codes " datatype ") (decimal l.layer.datatype)
    (codes " corners ") (decimal l.digest.corners) (codes " sha256 ") (encode_lower l.digest.sha256) (10 ∷ []) x

pub digested_is : (l m : DigestedLayer) → l.layer.layer ≡ m.layer.layer → l.layer.datatype ≡ m.layer.datatype
    → l.digest.corners ≡ m.digest.corners → l.digest.sha256 ≡ m.digest.sha256 → l ≡ m
digested_is l m e f g h =
    let build : ℕ → ℕ → ℕ → List ℕ → DigestedLayer = λ layer datatype corners sha. record {
      layer = record { layer = layer; datatype = datatype };
      digest = record { corners = corners; sha256 = sha };
    } in
    let whole : build l.layer.layer l.layer.datatype l.digest.corners l.digest.sha256
    ≡ build m.layer.layer m.layer.datatype m.digest.corners m.digest.sha256 = rw (e, f, g, h) refl in
    whole

-- a digested Layer and what comes after its line are read back
line_decides : (l m : DigestedLayer) (x y : List ℕ) → FitsLine l → FitsLine m → digest_line l ++ x ≡ digest_line m ++ y
    → (l ≡ m) × (x ≡ y)
line_decides l m x y f g h =
    let all = append_cancel_left (codes "layer ") _ _ (sym (line_then l x) ∙ (h ∙ line_then m y)) in
    let layer = number_then l.layer.layer m.layer.layer _ _ f.layer g.layer all in
    let datatype = number_then l.layer.datatype m.layer.datatype _ _ f.datatype g.datatype
    (append_cancel_left (codes "datatype ") _ _ layer.1) in
    let corners = number_then l.digest.corners m.digest.corners _ _ f.corners g.corners
    (append_cancel_left (codes "corners ") _ _ datatype.1) in
    let sha = until_first 10 (encode_lower l.digest.sha256) (encode_lower m.digest.sha256) x y
    (hex_apart l.digest.sha256 f.bytes) (hex_apart m.digest.sha256 g.bytes)
    (append_cancel_left (codes "sha256 ") _ _ corners.1) in
    let bytes = hex_decides l.digest.sha256 m.digest.sha256 f.bytes g.bytes sha.0 in
    (digested_is l m layer.0 datatype.0 corners.0 bytes, sha.1)

never_empty : (l : DigestedLayer) (x : List ℕ) → [] ≡ digest_line l ++ x → ⊥
never_empty l x h = let n = ap length (h ∙ line_then l x) in absurd (omega (arith, n))

-- digested Layers with the same lines are equal
pub lines_decide : (ls ms : List DigestedLayer) → All FitsLine ls → All FitsLine ms → mask_lines ls ≡ mask_lines ms
    → ls ≡ ms
lines_decide [] [] f g h = refl
lines_decide [] (m ∷ ms) f g h = absurd (never_empty m (mask_lines ms) h)
lines_decide (l ∷ ls) [] f g h = absurd (never_empty l (mask_lines ls) (sym h))
lines_decide (l ∷ ls) (m ∷ ms) f g h =
    let both = line_decides l m (mask_lines ls) (mask_lines ms) (All-head FitsLine l ls f) (All-head FitsLine m ms g)
    h in
    let rest = lines_decide ls ms (All-tail FitsLine l ls f) (All-tail FitsLine m ms g) both.1 in
    rw (both.0, rest) refl
