-- Faults that hold whatever comes after the bytes that were seen.
use Rattle.lvl_profile.specs.declared.ignore.Ignore.{Ignore}
use Rattle.std.proofs.Common.{◌≡◌, ℕ, ◌+◌, ◌<◌, ◌≤◌, true, nat_le, List, ◌++◌, length, take, Result, Ok, Err, IfErr}
use Rattle.std.proofs.Common.{refl, ap, ◌∙◌, arith, length-append, length-take}
use Rattle.std.proofs.lemmas.Bool.Decides.{nat_tests}
use Rattle.gds_records.specs.Step.{header, Decides, IsUnhad}
use Rattle.gds_records.specs.declared.fault.RecordFault.{RecordFault}
use Rattle.gds_records.specs.declared.fault.RecordFault.TheVariants.{Truncated, TooLong, Read}
use Rattle.gds_records.proofs.Steps.{header-append, step_no_header, step_bad_header, step_wants, want_had, want_long}

at_least : (n : ℕ) (xs ys : List ℕ) → n ≤ length xs → true ≡ nat_le n (length (xs ++ ys))
at_least n xs ys h =
    let long : n ≤ length (xs ++ ys) = omega (arith, h, length-append xs ys) in
    grind (arith, nat_tests)

-- no room for a header
pub seen_header : (ignore : Ignore) (f : RecordFault) (room : ℕ) (ahead : List ℕ) → IsUnhad f
    → (f ≡ TooLong → (room < 4) × (room < length ahead)) → Decides ignore f room ahead
seen_header ignore Truncated room ahead u h = λ t r more. absurd (t refl)
seen_header ignore Read room ahead u h = λ t r more. absurd (r refl)
seen_header ignore TooLong room ahead u h = λ t r more.
    let b = h refl in
    step_no_header ignore room (ahead ++ more) TooLong (at_least 1 ahead more (omega (arith, b.1)))
    (want_long 4 (room + 1) room (ahead ++ more) (at_least (room + 1) ahead more (omega (arith, b.1))) (omega arith)
    (omega (arith, b.0)))
seen_header ignore f room ahead u h = absurd u

-- a header with a fault
pub seen_bad : (ignore : Ignore) (f : RecordFault) (room : ℕ) (ahead : List ℕ) → 4 ≤ length ahead → 4 ≤ room
    → header ignore ahead ≡ Err f
    → Decides ignore f room ahead
seen_bad ignore f room ahead long fits h = λ t r more.
    step_bad_header ignore room (ahead ++ more) 4 f (at_least 1 ahead more (omega (arith, long)))
    (want_had 4 4 room (ahead ++ more) (at_least 4 ahead more long) (omega arith) fits)
    (header-append ignore ahead more long ∙ h)

-- no room for a payload
seen_payload : (ignore : Ignore) (f : RecordFault) (room n : ℕ) (ahead : List ℕ) → 4 ≤ length ahead → 4 ≤ room
    → header ignore ahead ≡ Ok n
    → IsUnhad f → (f ≡ TooLong → (room < n) × (room < length ahead)) → Decides ignore f room ahead
seen_payload ignore Truncated room n ahead long fits e u h = λ t r more. absurd (t refl)
seen_payload ignore Read room n ahead long fits e u h = λ t r more. absurd (r refl)
seen_payload ignore TooLong room n ahead long fits e u h = λ t r more.
    let b = h refl in
    step_wants ignore room (ahead ++ more) 4 n (at_least 1 ahead more (omega (arith, long)))
    (want_had 4 4 room (ahead ++ more) (at_least 4 ahead more long) (omega arith) fits)
    (header-append ignore ahead more long ∙ e)
    ∙ want_long n (room + 1) room (ahead ++ more) (at_least (room + 1) ahead more (omega (arith, b.1))) (omega arith)
    (omega (arith, b.0))
seen_payload ignore f room n ahead long fits e u h = absurd u

pub seen_last : (ignore : Ignore) (res : Result ℕ RecordFault) (room n : ℕ) (old ahead : List ℕ)
    → take (length old) ahead ≡ old
    → 4 ≤ length old → 4 ≤ room → header ignore ahead ≡ Ok n
    → IfErr res IsUnhad → (res ≡ Err TooLong → (room < n) × (room < length ahead))
    → IfErr res (λ f. Decides ignore f room ahead)
seen_last ignore (Ok m) room n old ahead front long fits e u h = tt
seen_last ignore (Err f) room n old ahead front long fits e u h =
    seen_payload ignore f room n ahead (omega (arith, ap length front, length-take (length old) ahead, long)) fits e u
    (λ t. h (ap Err t))

-- no room at all
pub seen_limit : (ignore : Ignore) (room : ℕ) (ahead : List ℕ) → room ≡ 0 → 0 < length ahead
    → Decides ignore TooLong room ahead
seen_limit ignore room ahead e some = seen_header ignore TooLong room ahead tt
    (λ _. (omega (arith, e), omega (arith, e, some)))
