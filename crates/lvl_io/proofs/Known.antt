-- Lemmas on bytes that are known, some of them read and the rest still to come.
use Rattle.std.proofs.Common.{◌≡◌, ℕ, ◌+◌, ◌-◌, ◌≤◌, List, ◌++◌, None, Some}
use Rattle.std.proofs.Common.{take, drop, slice_range, refl, sym, ap, ◌∙◌, append_assoc, arith}
use Rattle.std.proofs.Common.{drop-drop, length, length-append}
use Rattle.std.proofs.Math.Seq.{take-add}
use Rattle.std.proofs.lemmas.List.{drop-take}
use Rattle.std.specs.Prelude.{Option}
use Rattle.std.specs.Io.KnownBytes.{Consumes, prepend_known}
use Rattle.lvl_io.specs.Known.{Stays}

-- known bytes are those at hand, followed by some others
pub known_parts : (new : List ℕ) (b : Option (List ℕ)) (xs : List ℕ) → prepend_known new b ≡ Some xs
    → (ys : List ℕ) × (b ≡ Some ys) × (new ++ ys ≡ xs)
known_parts new None xs e = absurd (let h : None ≡ Some xs = e in cc)
known_parts new (Some y) xs e = (y, refl, let h : Some (new ++ y) ≡ Some xs = e in cc)

-- there are at least as many known bytes as bytes at hand
pub hand_within : {n : ℕ} (new : List ℕ) (b : Option (List ℕ)) (xs : List ℕ) → prepend_known new b ≡ Some xs
    → n ≤ length new → n ≤ length xs
hand_within new b xs k h = let p = known_parts new b xs k in omega (arith, h, ap length p.2, length-append new p.0)

-- the bytes of a read come after those read before
pub stays_pulled : (a b : Option (List ℕ)) (front new taken : List ℕ) → Consumes a b taken → new ≡ front ++ taken
    → Stays (prepend_known front a) (prepend_known new b)
stays_pulled None b front new taken p e = λ xs k. absurd (let h : None ≡ Some xs = k in cc)
stays_pulled (Some x) None front new taken p e = absurd p
stays_pulled (Some x) (Some y) front new taken p e =
    λ xs k. let h : Some (front ++ x) ≡ Some xs = k in
    ap Some (ap (λ l. l ++ y) e ∙ append_assoc front taken y ∙ ap (λ l. front ++ l) (sym p)) ∙ h

-- a range that begins n later lacks its first n elements
pub range_skip : (xs : List ℕ) (a e n : ℕ) → a + n ≤ e → slice_range xs (a + n) e ≡ drop n (slice_range xs a e)
range_skip xs a e n h =
    let whole : n + (e - (a + n)) ≡ e - a = omega arith in
    ap (take (e - (a + n))) (sym (drop-drop n a xs))
    ∙ sym (drop-take n (e - (a + n)) (drop a xs))
    ∙ ap (λ k. drop n (take k (drop a xs))) whole

pub range_front : (xs : List ℕ) (k : ℕ) → slice_range xs 0 k ≡ take k xs
range_front xs k = ap (λ m. take m xs) (omega arith)

-- a range at the front grew, and its first elements stayed
pub range_grown : (old new : List ℕ) (at n : ℕ) → take at new ≡ take at old
    → slice_range new 0 (at + n) ≡ slice_range old 0 at ++ take n (drop at new)
range_grown old new at n e =
    range_front new (at + n) ∙ take-add at n new ∙ ap (λ l. l ++ take n (drop at new)) (e ∙ sym (range_front old at))
