-- Bytes that are given piece by piece.
use Rattle.std.proofs.Common.{◌≡◌, ◌+◌, ◌++◌, ◌∷◌, [], ◌≤◌, ℕ, zero, suc, List, Some, ◌∙◌, ap, refl, sym, take, drop, length, length-append, append_assoc, arith}
use Rattle.std.proofs.lemmas.List.{length-take-le}
use Rattle.std.specs.Prelude.{Option, None}
use Rattle.std.specs.Io.KnownBytes.{prepend_known}

prepend_twice : (a b : List ℕ) (o : Option (List ℕ)) → prepend_known a (prepend_known b o) ≡ prepend_known (a ++ b) o
prepend_twice a b None = refl
prepend_twice a b (Some xs) = ap Some (let e = append_assoc a b xs in cc)

-- one more piece
pub next_given : {known before : Option (List ℕ)} (given buf : List ℕ) (n : ℕ) (after : Option (List ℕ))
    → known ≡ prepend_known given before → before ≡ prepend_known (take n buf) after
    → known ≡ prepend_known (given ++ take n buf) after
next_given given buf n after all more = all ∙ ap (prepend_known given) more ∙ prepend_twice given (take n buf) after

pub next_count : (given buf : List ℕ) (n : ℕ) → n ≤ length buf → length (given ++ take n buf) ≡ length given + n
next_count given buf n within = length-append given (take n buf) ∙ ap (λ m. length given + m) (length-take-le n buf within)

-- the first bytes, and the next ones
take_on : (xs : List ℕ) (m n : ℕ) → m + n ≤ length xs → take (m + n) xs ≡ take m xs ++ take n (drop m xs)
take_on xs zero n h = let e : 0 + n ≡ n = omega arith in ap (λ k. take k xs) e
take_on [] (suc m) n h = absurd (omega (arith, h))
take_on (x ∷ xs) (suc m) n h =
    let e : suc m + n ≡ suc (m + n) = omega arith in
    let h' : m + n ≤ length xs = omega (arith, h) in
    ap (λ k. take k (x ∷ xs)) e ∙ ap (λ l. x ∷ l) (take_on xs m n h')

-- one more piece, in the same memory
pub next_over : {known before : Option (List ℕ)} (old new : List ℕ) (m n : ℕ) (after : Option (List ℕ))
    → m + n ≤ length new → take m new ≡ take m old → known ≡ prepend_known (take m old) before
    → before ≡ prepend_known (take n (drop m new)) after → known ≡ prepend_known (take (m + n) new) after
next_over {known} {before} old new m n after h front all more =
    all
    ∙ ap (λ l. prepend_known l before) (sym front)
    ∙ ap (prepend_known (take m new)) more
    ∙ prepend_twice (take m new) (take n (drop m new)) after
    ∙ ap (λ l. prepend_known l after) (sym (take_on new m n h))
