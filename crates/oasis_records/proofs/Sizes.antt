-- Integers with the number of bytes that were taken for them.
use Rattle.std.proofs.Common.{◌≡◌, ℕ, List, ◌++◌, length, take, Result, Ok, Err, refl, sym, ap, ◌∙◌}
use Rattle.std.specs.Prelude.{Option}
use Rattle.std.specs.Borrow.{GName}
use Rattle.lvl_io.specs.Spelling.{IsPrefixFree, CanSay, IsBegun}
use Rattle.lvl_refusal.specs.declared.Cause.TheVariants.{Breach}
use Rattle.lvl_profile.specs.declared.profile.Profile.{Profile}
use Rattle.oasis_values.specs.Input.{input_profile, room_left}
use Rattle.oasis_values.specs.Reads.{Fails, bytes_had, Reads}
use Rattle.oasis_values.specs.Spelling.{Spelling}
use Rattle.oasis_values.proofs.Codes.{IsCode}
use Rattle.oasis_values.specs.declared.fault.ValueFault.{ValueFault}
use Rattle.oasis_values.specs.declared.input.Input.{Input}
use Rattle.oasis_records.specs.Sizes.{Sized}
use Rattle.oasis_records.specs.declared.measured.Measured.{Measured}
use Rattle.oasis_values.proofs.Reading.{err_as}

abbrev pub measured : ℕ → ℕ → Measured
measured v n = record { value = v; len = n }

abbrev of_len : ℕ → Result ℕ ValueFault → Result Measured ValueFault
of_len n (Ok v) = Ok (measured v n)
of_len n (Err f) = Err f

sized_says : (S : Spelling ℕ) (i : Profile) (b : List ℕ) (r : Result ℕ ValueFault) → S i b r
    → Sized S i b (of_len (length b) r)
sized_says S i b (Ok v) s = (s, refl)
sized_says S i b (Err f) s = s

sized_said : (S : Spelling ℕ) (i : Profile) → CanSay (S i) → CanSay (Sized S i)
sized_said S i s =
    record { bytes = s.bytes; value = of_len (length s.bytes) s.value; says = sized_says S i s.bytes s.value s.says }

sized_only : (S : Spelling ℕ) (i : Profile) → IsPrefixFree (S i)
    → (b c m n : List ℕ) (x y : Result Measured ValueFault)
    → Sized S i b x → Sized S i c y → b ++ m ≡ c ++ n → (b ≡ c) × (x ≡ y)
sized_only S i s b c m n (Ok x) (Ok y) p q e =
    let o = s.only b c m n (Ok x.value) (Ok y.value) p.0 q.0 e in
    let v : x.value ≡ y.value = let h : Ok x.value ≡ Ok y.value = o.1 in cc in
    let l : x.len ≡ y.len = p.1 ∙ ap length o.0 ∙ sym q.1 in
    (o.0, ap (λ j. Ok (measured j x.len)) v ∙ ap (λ j. Ok (measured y.value j)) l)
sized_only S i s b c m n (Ok x) (Err f) p q e =
    absurd (let o = s.only b c m n (Ok x.value) (Err f) p.0 q e in let h : Ok x.value ≡ Err f = o.1 in cc)
sized_only S i s b c m n (Err f) (Ok y) p q e =
    absurd (let o = s.only b c m n (Err f) (Ok y.value) p q.0 e in let h : Err f ≡ Ok y.value = o.1 in cc)
sized_only S i s b c m n (Err f) (Err h) p q e =
    let o = s.only b c m n (Err f) (Err h) p q e in
    let k : f ≡ h = let j : Err f ≡ Err h = o.1 in cc in
    (o.0, ap Err k)

pub sized_code : {S : Spelling ℕ} → IsCode S → IsCode (Sized S)
sized_code {S = S} s =
    record {
      free = λ i. record { only = sized_only S i (s.free i) };
      said = λ i. sized_said S i (s.said i);
      grows = λ less more within b m p. (s.grows less more within b m.value p.0, p.1);
    }

sized_begun : (S : Spelling ℕ) (i : Profile) (xs : List ℕ) → IsBegun (S i) xs → IsBegun (Sized S i) xs
sized_begun S i xs p =
    record {
      more = p.more;
      value = of_len (length (xs ++ p.more)) p.value;
      short = p.short;
      says = sized_says S i (xs ++ p.more) p.value p.says;
    }

sized_fails : (S : Spelling ℕ) (i : Profile) (room had : ℕ) (xs : List ℕ) (f : ValueFault)
    → Fails (S i) room had xs f → Fails (Sized S i) room had xs f
sized_fails S i room had xs f p =
    record {
      truncated = λ e. let q = p.truncated e in (q.0, sized_begun S i xs q.1);
      too_long = λ e. let q = p.too_long e in (q.0, q.1, sized_begun S i (take room xs) q.2);
      unread = λ e. let q = p.unread e in (q.0, sized_begun S i (take had xs) q.1);
      breached = λ e.
          let q = p.breached e in
          record {
            count = q.count;
            within = q.within;
            seen = q.seen;
            front = record {
              bytes = q.front.bytes;
              rest = q.front.rest;
              says = q.front.says;
              whole = q.front.whole;
              count = q.front.count;
            };
          };
    }

pub reads_sized_err : {R : Type 0} {remaining : R → Option (List ℕ)} {errors : R → ℕ} {lent : R → List GName}
    {S : Spelling ℕ} {old new : Input R} (f : ValueFault)
    → Reads remaining errors lent S old new (Err (Breach f))
    → Reads remaining errors lent (Sized S) old new (Err (Breach f))
reads_sized_err {S = S} {old = old} {new = new} f p =
    record {
      again = λ h. ap (err_as Measured) (p.again h);
      fresh = λ h k. p.fresh h (ap (err_as ℕ) k);
      answers = λ h xs k. sized_fails S (input_profile old) (room_left old) (bytes_had old new) xs f
          (p.answers h xs k);
      left = p.left;
      forward = p.forward;
      profiles = p.profiles;
      failed = p.failed;
      counted = p.counted;
      same = p.same;
    }
