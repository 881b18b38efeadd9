-- What parsing a text of digits returns.
use Rattle.std.proofs.Common.{◌≡◌, ◌≢◌, ℕ, ◌<◌, ◌≤◌, ◌^◌, List, [], ◌∷◌, length, All, Option, Some, None, Result, Ok}
use Rattle.std.proofs.Common.{Err, sym, ap, subst, ◌∙◌, arith, refl, rules, drop, get_or, suc, ℤ, pos, neg_ℤ, ◌⊎◌, inl}
use Rattle.std.proofs.Common.{inr, ⊎_elim, Bor, Bool, false, cond, ◌==◌, unwrap_or, FitsSigned, w64}
use Rattle.std.specs.Str.Parse.{ParsesUnsigned, ParsesSigned, IsNumeral, digits_value, signed_digits_value}
use Rattle.std.specs.Str.Parse.{without_leading_sign}
use Rattle.std.specs.Option.{MatchOption}
use Rattle.std.specs.Result.{result_ok}
use Rattle.std.proofs.lemmas.List.Elements.{All-head, All-tail}
use Rattle.std.proofs.lemmas.Str.Parse.{IsNumeralModel, IsDigitsTest, numerals_by_value, parse_digits}
use Rattle.std.proofs.lemmas.Option.{same_Some}
use Rattle.lvl_view.specs.Texts.{IsDigits, IsNumber, IsCoordinate, IsOnly, minus}
use Rattle.lvl_view.proofs.Cutting.{only_none}

abbrev pub AllDigit : List ℕ → Type 0
AllDigit text = All (λ b. (48 ≤ b) × (b ≤ 57)) text

reports : IsDigitsTest AllDigit
reports = record {
  empty = search rules;
  parts = λ c cs h. (All-head (λ b. (48 ≤ b) × (b ≤ 57)) c cs h, All-tail (λ b. (48 ≤ b) × (b ≤ 57)) c cs h);
  more = λ c cs one rest. search (rules, one, rest);
}

pub own : IsNumeralModel AllDigit (digits_value 10)
own = numerals_by_value AllDigit reports

pub number_read : {E : Type 0} (text : List ℕ) (r : Result ℕ E) → IsDigits 10 text → ParsesUnsigned 32 10 text r
    → IsOnly (IsNumber text) (result_ok r)
number_read {E} text (Ok n) d h =
    let read : ((0 < length text) × (digits_value 10 text < 2 ^ 32)) × (n ≡ digits_value 10 text) =
    parse_digits own {E = E} 32 text (Ok n) h d.digits in
    λ v. (
      λ k. ap Some (read.1 ∙ k.value),
      λ e. let same : n ≡ v = same_Some n v e in
          record {
            digits = d;
            value = sym read.1 ∙ same;
            fits = subst (λ m. m < 2 ^ 32) (sym read.1 ∙ same) read.0.1;
          },
    )
number_read {E} text (Err e) d h =
    let read : ¬ ((0 < length text) × (digits_value 10 text < 2 ^ 32)) =
    parse_digits own {E = E} 32 text (Err e) h d.digits in
    only_none (IsNumber text) None refl (λ v k. read (d.some, subst (λ m. m < 2 ^ 32) (sym k.value) k.fits))

-- a text without its minus, if it has one
abbrev pub IsSignOff : List ℕ → List ℕ → Type 0
IsSignOff text digits = ((text ≡ digits) × ((rest : List ℕ) → text ≢ minus ∷ rest)) ⊎ (text ≡ minus ∷ digits)

pub sign_off : (t : Bor (List ℕ)) (r : Option (Bor (List ℕ))) (d : Bor (List ℕ)) → d ≡ unwrap_or r t
    → MatchOption r ((rest : List ℕ) → t.now ≢ minus ∷ rest) (λ x. t.now ≡ minus ∷ x.now) → IsSignOff t.now d.now
sign_off t None d e m = inl (ap (λ (x : Bor (List ℕ)). x.now) (sym e), m)
sign_off t (Some x) d e m = inr (m ∙ ap (λ (y : Bor (List ℕ)). minus ∷ y.now) (sym e))

plain : (ds : List ℕ) → AllDigit ds
    → (signed_digits_value 10 ds ≡ pos (digits_value 10 ds)) × (without_leading_sign ds ≡ ds)
plain [] h = (refl, refl)
plain (b ∷ bs) h =
    let one : (48 ≤ b) × (b ≤ 57) = All-head (λ d. (48 ≤ d) × (d ≤ 57)) b bs h in
    let unsigned : (b == 45) ≡ false = grind (arith, one) in
    let bare : (b == 43) ≡ false = grind (arith, one) in
    let same : without_leading_sign (b ∷ bs) ≡ b ∷ bs =
    ap (λ (t : Bool). cond t bs (drop (cond (b == 43) 1 0) (b ∷ bs))) unsigned
    ∙ ap (λ (t : Bool). drop (cond t 1 0) (b ∷ bs)) bare in (
      ap
          (λ (t : Bool). cond t (neg_ℤ (pos (digits_value 10 (without_leading_sign (b ∷ bs)))))
          (pos (digits_value 10 (without_leading_sign (b ∷ bs))))) unsigned
          ∙ ap (λ (t : List ℕ). pos (digits_value 10 t)) same,
      same,
    )

numeral : (most : ℕ) (ds : List ℕ) → IsDigits most ds → IsNumeral 10 ds
numeral most ds d = (d.some, own.to ds d.digits)

-- the value of a coordinate's text is what `parse` returns
said : (text : List ℕ) (z : ℤ) → IsCoordinate text z
    → (z ≡ signed_digits_value 10 text) × IsNumeral 10 (without_leading_sign text)
said text z h =
    ⊎_elim (λ e. (
      e.1 ∙ (sym (plain h.digits h.are.digits).0 ∙ ap (λ (t : List ℕ). signed_digits_value 10 t) (sym e.0)),
      subst (λ t. IsNumeral 10 (without_leading_sign t)) (sym e.0)
          (subst (IsNumeral 10) (sym (plain h.digits h.are.digits).1) (numeral 19 h.digits h.are)),
    )) (λ e. (
      e.1 ∙ ap (λ (t : List ℕ). signed_digits_value 10 t) (sym e.0),
      subst (λ t. IsNumeral 10 (without_leading_sign t)) (sym e.0) (numeral 19 h.digits h.are),
    )) h.spelled

spelled : (text digits : List ℕ) → IsSignOff text digits → AllDigit digits
    → ((text ≡ digits) × (signed_digits_value 10 text ≡ pos (digits_value 10 digits)))
    ⊎ ((text ≡ minus ∷ digits) × (signed_digits_value 10 text ≡ neg_ℤ (pos (digits_value 10 digits))))
spelled text digits s d =
    ⊎_elim (λ e. inl (e.0, ap (λ (t : List ℕ). signed_digits_value 10 t) e.0 ∙ (plain digits d).0))
    (λ e. inr (e, ap (λ (t : List ℕ). signed_digits_value 10 t) e)) s

not_minus : (bs cs : List ℕ) → AllDigit bs → bs ≡ minus ∷ cs → ⊥
not_minus [] cs h e = absurd (let n : 0 ≡ suc (length cs) = ap (λ (l : List ℕ). length l) e in omega (arith, n))
not_minus (b ∷ bs) cs h e =
    let one : (48 ≤ b) × (b ≤ 57) = All-head (λ d. (48 ≤ d) × (d ≤ 57)) b bs h in
    let same : b ≡ 45 = ap (λ (l : List ℕ). get_or l 0 0) e in omega (arith, one, same)

digits_same : (text digits : List ℕ) → IsSignOff text digits → (z : ℤ) (h : IsCoordinate text z) → h.digits ≡ digits
digits_same text digits s z h =
    ⊎_elim (λ e. ⊎_elim (λ f. sym f.0 ∙ e.0) (λ f. absurd (e.1 h.digits f.0)) h.spelled)
    (λ e. ⊎_elim (λ f. absurd (not_minus h.digits digits h.are.digits (sym f.0 ∙ e)))
    (λ f. ap (λ (l : List ℕ). drop 1 l) (sym f.0 ∙ e)) h.spelled) s

pub no_coordinate : (text digits : List ℕ) → IsSignOff text digits → ¬ IsDigits 19 digits
    → IsOnly (IsCoordinate text) None
no_coordinate text digits s n =
    only_none (IsCoordinate text) None refl (λ z h. n (subst (IsDigits 19) (digits_same text digits s z h) h.are))

pub coordinate_read : {E : Type 0} (text digits : List ℕ) (r : Result ℤ E) → IsSignOff text digits → IsDigits 19 digits
    → ParsesSigned w64 10 text r → IsOnly (IsCoordinate text) (result_ok r)
coordinate_read text digits (Ok z) s d h = λ v. (
  λ k. ap Some (h.1 ∙ sym (said text v k).0),
  λ e. let same : signed_digits_value 10 text ≡ v = sym h.1 ∙ same_Some z v e in
      record {
        digits = digits;
        are = d;
        spelled =
            ⊎_elim (λ f. inl (f.0, sym same ∙ f.1)) (λ f. inr (f.0, sym same ∙ f.1)) (spelled text digits s d.digits);
        fits = subst (λ x. FitsSigned w64 x) same h.0.1;
      },
)
coordinate_read text digits (Err e) s d h =
    only_none (IsCoordinate text) None refl
    (λ v k. h ((said text v k).1, subst (λ x. FitsSigned w64 x) (said text v k).0 k.fits))
