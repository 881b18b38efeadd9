-- The magic string, byte by byte.
use Rattle.std.proofs.Common.{◌≡◌, ℕ, zero, suc, ◌<◌, ◌≤◌, List, [], ◌∷◌, length, drop, get_or, refl, arith}

pub drop_at : (n : ℕ) (xs : List ℕ) → n < length xs → drop n xs ≡ get_or xs n 0 ∷ drop (suc n) xs
drop_at n [] h = absurd (omega (arith, h))
drop_at zero (x ∷ xs) h = refl
drop_at (suc n) (x ∷ xs) h = drop_at n xs (omega (arith, h))

pub drop_end : (n : ℕ) (xs : List ℕ) → length xs ≤ n → drop n xs ≡ []
drop_end zero [] h = refl
drop_end (suc n) [] h = refl
drop_end zero (x ∷ xs) h = absurd (omega (arith, h))
drop_end (suc n) (x ∷ xs) h = drop_end n xs (omega (arith, h))
