-- Without padding an integer is too large exactly if its tenth byte is above 1.
use Rattle.std.proofs.Common.{◌≡◌, ◌↔◌, ℕ, ◌+◌, ◌*◌, ◌%◌, ◌^◌, ◌<◌, ◌≤◌, ◌⊎◌, inl, inr, List, [], ◌∷◌, ◌++◌, length}
use Rattle.std.proofs.Common.{ap, ◌∙◌, subst, arith, length-append}
use Rattle.std.proofs.Math.Nat.{pow-le-pow_right}
use Rattle.lvl_profile.specs.Profiles.{strict}
use Rattle.oasis_values.specs.Numbers.{groups, Continues, IsTooLarge}
use Rattle.oasis_values.proofs.Integers.{groups_lt, groups_snoc, le_or}

-- nine bytes that continue, and a tenth above 1
pub record IsTenthAbove (b : List ℕ) : Type 0 where
  pub front : List ℕ
  pub tenth : ℕ
  pub bytes : b ≡ front ++ (tenth ∷ [])
  pub continues : Continues front
  pub nine : length front ≡ 9
  pub above : 1 < tenth

-- the number in nine bytes and a tenth
tenth_adds : (f : List ℕ) (x : ℕ) → length f ≡ 9
    → (groups (f ++ (x ∷ [])) ≡ groups f + 2 ^ 63 * (x % 128)) × (groups f < 2 ^ 63)
tenth_adds f x e = (
  groups_snoc f x ∙ ap (λ n. groups f + 128 ^ n * (x % 128)) e,
  subst (λ n. groups f < 128 ^ n) e (groups_lt f),
)

-- the number in nine bytes is below 2^63
few_fit : (b : List ℕ) → length b ≤ 9 → groups b < 2 ^ 63
few_fit b few =
    let most : 128 ^ length b ≤ 128 ^ 9 = pow-le-pow_right {n = 128} (omega arith) {i = length b} {j = 9} few in
    omega (arith, groups_lt b, most)

large_nine : (b : List ℕ) (p : IsTooLarge strict b) → length p.front ≡ 9
large_nine b p =
    let size = ap length p.bytes in
    let whole = length-append p.front (p.last ∷ []) in
    elim p.decided [
      | inl large ↦ elim (le_or (length b) 9) [
        | inl few ↦ absurd (omega (arith, large, few_fit b few))
        | inr more ↦ omega (arith, more, size, whole, p.few)
      ]
      | inr full ↦ omega (arith, full.1, size, whole)
    ]

large_above : (b : List ℕ) (p : IsTooLarge strict b) → 1 < p.last
large_above b p = elim p.decided [
  | inl large ↦ elim (le_or p.last 1) [
    | inl low ↦
        let t = tenth_adds p.front p.last (large_nine b p) in
        let v = ap groups p.bytes in
        let small : p.last % 128 ≤ 1 = omega arith in
        absurd (omega (arith, t.0, t.1, v, large, small))
    | inr above ↦ above
  ]
  | inr full ↦ omega (arith, full.0)
]

above_decided : (b front : List ℕ) (x : ℕ) → b ≡ front ++ (x ∷ []) → length front ≡ 9 → 1 < x
    → (2 ^ 64 ≤ groups b) ⊎ ((128 ≤ x) × (length b ≡ 10))
above_decided b front x e nine above = elim (le_or 2 (x % 128)) [
  | inl high ↦
      let t = tenth_adds front x nine in
      let v = ap groups e in
      inl (omega (arith, t.0, v, high))
  | inr low ↦
      let size = ap length e in
      inr (omega (arith, low, above), omega (arith, size, length-append front (x ∷ []), nine))
]

-- if nothing is ignored, an integer is too large exactly if its tenth byte is above 1
pub plain_too_large : (b : List ℕ) → IsTooLarge strict b ↔ IsTenthAbove b
plain_too_large b = (
  (λ p. record {
    front = p.front;
    tenth = p.last;
    bytes = p.bytes;
    continues = p.continues;
    nine = large_nine b p;
    above = large_above b p;
  }),
  (λ q. record {
    front = q.front;
    last = q.tenth;
    bytes = q.bytes;
    continues = q.continues;
    few = omega (arith, q.nine);
    fits = omega (arith, (tenth_adds q.front q.tenth q.nine).1);
    decided = above_decided b q.front q.tenth q.bytes q.nine q.above;
  }),
)
