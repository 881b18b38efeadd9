-- Zero bytes at the front: how many there are, and that the numbers add up while more bytes are read.
use Rattle.std.proofs.Common.{◌≡◌, ◌≢◌, ◌==◌, ℕ, zero, suc, ◌+◌, ◌<◌, ◌≤◌, inl, inr, Bool, true, false, cond, nat_le}
use Rattle.std.proofs.Common.{List, [], ◌∷◌, ◌++◌, length, drop, Some, refl, sym, ap, ◌∙◌, subst, arith, append_assoc}
use Rattle.std.proofs.Common.{one-add, length-append}
use Rattle.std.specs.Prelude.{Option, replicate}
use Rattle.std.specs.List.{prefix_len}
use Rattle.std.specs.Io.KnownBytes.{prepend_known}
use Rattle.std.proofs.lemmas.List.{replicate-append-replicate, length-replicate}
use Rattle.std.proofs.lemmas.Bool.Decides.{nat_tests}
use Rattle.std.proofs.lemmas.Bool.{cases_Bool}
use Rattle.lvl_io.specs.Known.{Stays}
use Rattle.gds_records.specs.Tail.{IsNoZeroFirst, TakesZeros, PassesLimit}
use Rattle.lvl_io.proofs.Known.{known_parts}
use Rattle.gds_records.specs.declared.zeros.After.{After}
use Rattle.gds_records.specs.declared.zeros.After.TheVariants.{Nothing, Another, Limit}

-- a number of zero bytes at the front, at most all of them, are split off
pub zeros_front : (n : ℕ) (xs : List ℕ) → n ≤ prefix_len (λ b. b == 0) xs → xs ≡ replicate n 0 ++ drop n xs
zeros_front zero xs h = refl
zeros_front (suc n) [] h = absurd (omega arith)
zeros_front (suc n) (x ∷ xs) h = elim (cases_Bool (x == 0)) [
  | inl same ↦
      let is : x ≡ 0 = grind (arith, nat_tests) in
      let less : n ≤ prefix_len (λ b. b == 0) xs = (let h2 : suc n ≤ 1 + prefix_len (λ b. b == 0) xs = (rw same at h) in
      omega arith) in
      let rest = zeros_front n xs less in
      ap (λ i. i ∷ xs) is ∙ ap (λ l. 0 ∷ l) rest
  | inr other ↦ absurd (let h2 : suc n ≤ 0 = (rw other at h) in omega arith)
]

-- after all of them, the next byte isn't zero
pub zeros_stop : (xs : List ℕ) → IsNoZeroFirst (drop (prefix_len (λ b. b == 0) xs) xs)
zeros_stop [] = tt
zeros_stop (x ∷ xs) = stop_at (x == 0) x xs refl (zeros_stop xs)
  where
    stop_at : (b : Bool) (x : ℕ) (xs : List ℕ) → b ≡ (x == 0) → IsNoZeroFirst (drop (prefix_len (λ b. b == 0) xs) xs)
        → IsNoZeroFirst (drop (cond b (1 + prefix_len (λ b. b == 0) xs) 0) (x ∷ xs))
    stop_at true x xs e h = rw (one-add (prefix_len (λ b. b == 0) xs)) h
    stop_at false x xs e h = λ is. (let k : (x == 0) ≡ true = grind (arith, nat_tests) in let z : true ≡ false =
        sym k ∙ sym e in cc)

-- n zero bytes were taken
abbrev pub Takes : ℕ → Option (List ℕ) → Option (List ℕ) → Type 0
Takes n old new = (xs : List ℕ) → old ≡ Some xs → (left : List ℕ) × (new ≡ Some left) × (xs ≡ replicate n 0 ++ left)

pub takes_read : (n : ℕ) (a b c : Option (List ℕ)) → Takes n a b → Stays b c → Takes n a c
takes_read n a b c t s = λ xs k. let p = t xs k in (p.0, s p.0 p.1, p.2)

-- m more zero bytes, which were ahead
pub takes_more : (n m : ℕ) (a rest : Option (List ℕ)) (old new : List ℕ) → Takes n a (prepend_known old rest)
    → old ≡ replicate m 0 ++ new
    → Takes (n + m) a (prepend_known new rest)
takes_more n m a rest old new t e = λ xs k.
    let p = t xs k in
    let q = known_parts old rest p.0 p.1 in
    let ys = q.0 in
    let left : prepend_known new rest ≡ Some (new ++ ys) = ap (prepend_known new) q.1 in
    let whole : p.0 ≡ replicate m 0 ++ (new ++ ys) = sym q.2 ∙ ap (λ l. l ++ ys) e ∙ append_assoc (replicate m 0) new
    ys in (
      new ++ ys,
      left,
      p.2 ∙ ap (λ l. replicate n 0 ++ l) whole
          ∙ sym (append_assoc (replicate n 0) (replicate m 0) (new ++ ys)) ∙ ap (λ l. l ++ (new ++ ys))
          (replicate-append-replicate n m 0),
    )

no_bytes : (xs : List ℕ) → false ≡ nat_le 1 (length xs) → xs ≡ []
no_bytes [] h = refl
no_bytes (x ∷ xs) h = absurd (let k : length (x ∷ xs) < 1 = grind (arith, nat_tests) in omega arith)

-- the input ends
pub takes_end : (n room : ℕ) (a b c : Option (List ℕ)) → Takes n a b → Stays b c
    → ((left : List ℕ) → b ≡ Some left → false ≡ nat_le 1 (length left))
    → TakesZeros Nothing n room a c
takes_end n room a b c t s e = λ xs k. let p = t xs k in (p.0, s p.0 p.1, p.2, no_bytes p.0 (e p.0 p.1))

no_zero_append : (xs ys : List ℕ) → 0 < length xs → IsNoZeroFirst xs → IsNoZeroFirst (xs ++ ys)
no_zero_append [] ys h p = absurd (omega arith)
no_zero_append (x ∷ xs) ys h p = p

pub takes_another : (n room : ℕ) (a rest : Option (List ℕ)) (ahead : List ℕ) → Takes n a (prepend_known ahead rest)
    → 0 < length ahead → n < room → IsNoZeroFirst ahead
    → TakesZeros Another n room a (prepend_known ahead rest)
takes_another n room a rest ahead t some less first = λ xs k.
    let p = t xs k in
    let q = known_parts ahead rest p.0 p.1 in (
      p.0,
      p.1,
      p.2,
      (
        less,
        omega (arith, ap length q.2, length-append ahead q.0),
        subst IsNoZeroFirst q.2
            (no_zero_append ahead q.0 some first),
      ),
    )

pub takes_too_long : (n room : ℕ) (a rest : Option (List ℕ)) (ahead : List ℕ) → Takes n a (prepend_known ahead rest)
    → 0 < length ahead → n ≡ room
    → TakesZeros Limit n room a (prepend_known ahead rest)
takes_too_long n room a rest ahead t some is = λ xs k.
    let p = t xs k in
    let q = known_parts ahead rest p.0 p.1 in
    (p.0, p.1, p.2, (is, omega (arith, ap length q.2, length-append ahead q.0)))

-- if the bytes pass the limit after zero bytes, only one result is possible

other_within : (n room b : ℕ) (rest more : List ℕ) → n < room → b ≢ 0
    → replicate n 0 ++ (b ∷ rest) ≡ replicate room 0 ++ more → ⊥
other_within n zero b rest more less ne e = omega arith
other_within zero (suc room) b rest more less ne e = ne (let k : b ∷ rest ≡ 0 ∷ (replicate room 0 ++ more) = e in cc)
other_within (suc n) (suc room) b rest more less ne e =
    other_within n room b rest more (omega arith) ne
    (let k : 0 ∷ (replicate n 0 ++ (b ∷ rest)) ≡ 0 ∷ (replicate room 0 ++ more) = e in cc)

-- then zero bytes don't stop before the limit
pub nothing_passes : (a : After) (n room : ℕ) (old new : Option (List ℕ)) (xs : List ℕ) → a ≡ Nothing
    → TakesZeros a n room old new → old ≡ Some xs → n ≤ room → PassesLimit room xs → ⊥
nothing_passes a n room old new xs e t k fits p =
    let left = subst (λ i. TakesZeros i n room old new) e t xs k in
    omega (
      arith,
      p.1,
      ap length (sym p.2 ∙ left.2),
      ap length left.3,
      length-append (replicate room 0) p.0,
      length-append (replicate n 0) left.0,
      length-replicate {A = ℕ},
    )

another_stops : (n room : ℕ) (xs left more : List ℕ) → xs ≡ replicate n 0 ++ left → n < room → 0 < length left
    → IsNoZeroFirst left → xs ≡ replicate room 0 ++ more → ⊥
another_stops n room xs [] more e less some ne p = omega (arith, some)
another_stops n room xs (b ∷ rest) more e less some ne p = other_within n room b rest more less ne (sym e ∙ p)

pub another_passes : (a : After) (n room : ℕ) (old new : Option (List ℕ)) (xs : List ℕ) → a ≡ Another
    → TakesZeros a n room old new → old ≡ Some xs → PassesLimit room xs → ⊥
another_passes a n room old new xs e t k p =
    let left = subst (λ i. TakesZeros i n room old new) e t xs k in
    another_stops n room xs left.0 p.0 left.2 left.3.0 left.3.1 left.3.2 p.2
