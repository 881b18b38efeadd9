-- The bytes end within a record if and only if `Truncated` is returned.
use Rattle.lvl_profile.specs.declared.ignore.Ignore.{Ignore}
use Rattle.std.proofs.Common.{◌≡◌, ◌≢◌, ◌==◌, ℕ, ◌+◌, ◌*◌, ◌-◌, ◌<◌, ◌≤◌, ◌⊎◌, inl, inr, Bool, true, false, cond}
use Rattle.std.proofs.Common.{nat_le, nat_lt, ◌&&◌, ◌||◌, ◌%◌, List, ◌++◌, length, drop, slice_index, Result, Ok, Err}
use Rattle.std.proofs.Common.{None, Some, refl, sym, ap, ◌∙◌, arith, length-append, length-drop}
use Rattle.std.proofs.lemmas.List.{length-replicate}
use Rattle.std.specs.Prelude.{Option, replicate}
use Rattle.std.proofs.lemmas.Bool.Decides.{nat_tests}
use Rattle.std.proofs.lemmas.Bool.{cases_Bool}
use Rattle.gds_records.specs.Table.{form_of, form_fault, allows}
use Rattle.gds_records.specs.Step.{want, header, step, ◌>>=◌, header_fault, unless, OfHeader, HasByteLength}
use Rattle.gds_records.specs.Spelled.{IsBegun, IsCut, IsUnfinished}
use Rattle.gds_records.proofs.Steps.{header-append, step_end, step_goes, step_no_header, step_wants, want_had}
use Rattle.gds_records.proofs.Steps.{want_short}
use Rattle.gds_records.proofs.Laws.{header_ok, header_spelled, length_spelled, record_said, four, want_ok}
use Rattle.gds_records.specs.declared.form.Form.{Form}
use Rattle.gds_records.specs.declared.fault.RecordFault.{RecordFault}
use Rattle.gds_records.specs.declared.fault.RecordFault.TheVariants.{Truncated, BadLength, BadDataType, UnknownRecord}
use Rattle.gds_records.specs.declared.fault.RecordFault.TheVariants.{TooLong, Read}

-- no fault of a header is `Truncated`

of_header_cond : (b : Bool) (f : RecordFault) (o : Option RecordFault) → OfHeader (Some f) → OfHeader o
    → OfHeader (cond b (Some f) o)
of_header_cond true f o p q = p
of_header_cond false f o p q = q

of_header_else : (b : Bool) (f : RecordFault) (o : Option RecordFault) → OfHeader o → OfHeader (Some f)
    → OfHeader (cond b o (Some f))
of_header_else true f o p q = p
of_header_else false f o p q = q

of_form : (o : Option Form) (d n : ℕ) → OfHeader (form_fault o d n)
of_form None d n = tt
of_form (Some f) d n =
    of_header_else (f.data_type == d) BadDataType _ (of_header_else (allows f.lengths n) BadLength None tt tt) tt

of_header : (ignore : Ignore) (len kind d : ℕ) → OfHeader (header_fault ignore len kind d)
of_header ignore len kind d =
    of_header_cond (nat_lt len 4 || (len % 2 == 1)) BadLength _ tt
    (of_header_cond (nat_le 60 kind) UnknownRecord _ tt
    (of_header_cond (nat_lt 6 d) BadDataType _ tt (of_form (form_of ignore kind) d (len - 4))))

unless_truncated : (o : Option RecordFault) (n : ℕ) → OfHeader o → unless o n ≡ Err Truncated → ⊥
unless_truncated None n p e = let h : Ok n ≡ Err Truncated = e in cc
unless_truncated (Some f) n p e = let h : Err f ≡ Err Truncated = e in let k : f ≡ Truncated = cc in rw k at p

header_whole : (ignore : Ignore) (xs : List ℕ) → header ignore xs ≡ Err Truncated → ⊥
unfolding header
header_whole ignore xs e =
    let len = 256 * slice_index xs 0 + slice_index xs 1 in
    unless_truncated (header_fault ignore len (slice_index xs 2) (slice_index xs 3)) len
    (of_header ignore len (slice_index xs 2) (slice_index xs 3)) e

-- where `Truncated` comes from

bind_err : {A B : Type 0} (r : Result A RecordFault) (f : A → Result B RecordFault) (g : RecordFault)
    → (r >>= f) ≡ Err g
    → (r ≡ Err g) ⊎ ((x : A) × (r ≡ Ok x) × (f x ≡ Err g))
bind_err (Ok x) f g e = inr (x, refl, e)
bind_err (Err h) f g e = inl (let k : Err h ≡ Err g = e in cc)

chosen_truncated : (a b : Bool) (n : ℕ) → cond a (Ok n) (cond b (Err Truncated) (Err TooLong)) ≡ Err Truncated
    → (a ≡ false) × (b ≡ true)
chosen_truncated true b n e = absurd (let h : Ok n ≡ Err Truncated = e in cc)
chosen_truncated false true n e = (refl, refl)
chosen_truncated false false n e = absurd (let h : Err TooLong ≡ Err Truncated = e in cc)

pub want_truncated : (n room : ℕ) (xs : List ℕ) → want n room xs ≡ Err Truncated → (length xs < n) × (length xs ≤ room)
unfolding want
want_truncated n room xs e =
    let p = chosen_truncated (nat_le n (length xs) && nat_le n room) (nat_le (length xs) room) n e in
    let fits : length xs ≤ room = grind (arith, nat_tests, p.1) in
    (grind (arith, nat_tests, p.0, fits), fits)

-- a whole header isn't cut
pub header_stands : (room : ℕ) (xs : List ℕ) (e : RecordFault) → e ≡ Truncated → (e ≢ Read → want 4 room xs ≡ Err e)
    → 4 ≤ length xs → ⊥
header_stands room xs e is h long =
    let w = want_truncated 4 room xs (h (λ r. let k : Truncated ≡ Read = sym is ∙ r in cc) ∙ ap Err is) in
    omega arith

-- a header without a fault, and less than its payload
begun : (ignore : Ignore) (n : ℕ) (xs : List ℕ) → header ignore xs ≡ Ok n → HasByteLength xs → 4 ≤ length xs
    → length xs < n → IsBegun ignore xs
begun ignore n xs e bytes long short =
    let says = header_ok ignore xs n e in
    let more = replicate (n - length xs) 0 in
    let p = drop 4 xs ++ more in
    let all : 4 + length p ≡ n = omega (
      arith,
      length-append (drop 4 xs) more,
      length-drop {A = ℕ},
      length-replicate {A = ℕ},
    ) in
    record {
      kind = slice_index xs 2;
      data_type = slice_index xs 3;
      payload = p;
      more = more;
      allowed = record_said ignore n xs p says bytes all;
      spelled = record {
        high = slice_index xs 0;
        low = slice_index xs 1;
        byte = bytes.1;
        len = sym says.len ∙ sym all;
        bytes_are = ap (λ l. l ++ more) (four xs long);
      };
      short = omega (arith, length-replicate {A = ℕ});
    }

-- fewer bytes in hand than a header has
pub few_unfinished : (ignore : Ignore) (room : ℕ) (hand : List ℕ) → length hand < 4 → length hand ≤ room
    → IsUnfinished ignore room hand
few_unfinished ignore room hand few fits = (fits, λ some. (some, inl few))

-- a header in hand without a fault, and less than its payload
pub cut_unfinished : (ignore : Ignore) (n room : ℕ) (hand : List ℕ) → header ignore hand ≡ Ok n → HasByteLength hand
    → 4 ≤ length hand
    → length hand < n → length hand ≤ room → IsUnfinished ignore room hand
cut_unfinished ignore n room hand e bytes long few fits =
    (fits, λ some. (some, inr (begun ignore n hand e bytes long few)))

-- `Truncated` is returned only if all bytes left are the beginning of a record
pub law_truncated : (ignore : Ignore) (room : ℕ) (xs : List ℕ) → step ignore room xs ≡ Err Truncated
    → (4 ≤ length xs → HasByteLength xs)
    → (length xs ≤ room) × IsCut ignore xs
law_truncated ignore room xs e bytes = elim (cases_Bool (nat_le 1 (length xs))) [
  | inr none ↦ absurd (let h : Ok 0 ≡ Err Truncated = sym (step_end ignore room xs (sym none)) ∙ e in cc)
  | inl some ↦
      let stands : 0 < length xs = grind (arith, nat_tests) in
      elim (bind_err (want 4 room xs) (λ _. header ignore xs >>= λ n. want n room xs) Truncated
      (sym (step_goes ignore room xs (sym some)) ∙ e)) [
        | inl w ↦ let s = want_truncated 4 room xs w in (s.1, (stands, inl s.0))
        | inr p ↦ elim (bind_err (header ignore xs) (λ n. want n room xs) Truncated p.2) [
          | inl h ↦ absurd (header_whole ignore xs h)
          | inr q ↦
              let s = want_truncated q.0 room xs q.2 in
              let long = (want_ok 4 room p.0 xs p.1).1 in
              (s.1, (stands, inr (begun ignore q.0 xs q.1 (bytes long) long s.0)))
        ]
      ]
]

-- and if they are, it is returned
pub law_cut : (ignore : Ignore) (room : ℕ) (xs : List ℕ) → length xs ≤ room → IsCut ignore xs
    → step ignore room xs ≡ Err Truncated
law_cut ignore room xs fits cut =
    let stands = cut.0 in
    let some : true ≡ nat_le 1 (length xs) = grind (arith, nat_tests) in
    let no : false ≡ nat_le (length xs + 1) (length xs) = grind (arith, nat_tests) in
    elim (cases_Bool (nat_le 4 (length xs))) [
      | inr is_short ↦
          let short : length xs < 4 = grind (arith, nat_tests) in
          step_no_header ignore room xs Truncated some
          (want_short 4 (length xs + 1) room xs no (omega arith) (omega arith))
      | inl is_long ↦
          let long : 4 ≤ length xs = grind (arith, nat_tests) in
          elim cut.1 [
            | inl short ↦ absurd (omega arith)
            | inr b ↦
                let n = 4 + length b.payload in
                let head : header ignore xs ≡ Ok n = sym (header-append ignore xs b.more long) ∙ header_spelled ignore
                (xs ++ b.more)
                b.payload b.kind b.data_type b.allowed b.spelled in
                let less : length xs < n =
                omega (
                  arith,
                  b.short,
                  length_spelled (xs ++ b.more) b.payload b.kind b.data_type b.spelled,
                  length-append xs b.more,
                ) in
                step_wants ignore room xs 4 n some (want_had 4 4 room xs (sym is_long) (omega arith) (omega arith)) head
                ∙ want_short n (length xs + 1) room xs no (omega arith) (omega arith)
          ]
    ]
