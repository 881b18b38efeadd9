-- Multiples of steps.
use Rattle.std.proofs.Common.{◌≡◌, ◌≤◌, ◌*◌, ℕ, suc, ℤ, pos, negsuc, ◌*ℤ◌, ◌<ℤ◌, neg_ℤ, unsigned_abs, arith}
use Rattle.std.proofs.Math.Nat.{mul-le-mul_left}
use Rattle.std.proofs.lemmas.Int.{ints, clamps}
use Rattle.lvl_witness.specs.inside.Areas.{IsOnWay}

-- a multiple of a step that isn't positive
pub times_down : (k : ℕ) (a : ℤ) → a <ℤ pos 0 → pos k *ℤ a ≡ neg_ℤ (pos (k * unsigned_abs a))
times_down k (pos u) below = absurd (omega (arith, ints, below))
times_down k (negsuc u) below = omega (arith, ints)

pub zero_times : (a : ℤ) → pos 0 *ℤ a ≡ pos 0
zero_times (pos u) = omega (arith, ints)
zero_times (negsuc u) = omega (arith, ints)

-- a multiple is between zero and a greater one
pub on_way : (i k : ℕ) (a : ℤ) → i ≤ k → IsOnWay (pos i *ℤ a) (pos k *ℤ a)
on_way i k (pos u) less =
    let more : i * u ≤ k * u = omega (arith, mul-le-mul_left u less) in
    record { low = omega (arith, ints, clamps); high = omega (arith, ints, clamps) }
on_way i k (negsuc u) less =
    let more : i * suc u ≤ k * suc u = omega (arith, mul-le-mul_left (suc u) less) in
    record { low = omega (arith, ints, clamps); high = omega (arith, ints, clamps) }
