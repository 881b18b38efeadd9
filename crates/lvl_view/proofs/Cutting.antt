-- A text of two parts with a character between them is read in one way only, if the first part lacks the character.
use Rattle.std.proofs.Common.{◌≡◌, ◌≢◌, ℕ, zero, suc, ◌<◌, ◌≤◌, List, [], ◌∷◌, ◌++◌, length, get_or, All, Option, Some}
use Rattle.std.proofs.Common.{None, Bor, sym, ap, subst, ◌∙◌, refl, drop, arith, ◌↔◌, ⊎_elim, ℤ, w64, to_z, of_z}
use Rattle.std.proofs.Common.{FitsSigned}
use Rattle.std.proofs.lemmas.Option.{same_Some}
use Rattle.std.proofs.lemmas.List.Elements.{All-head, All-tail}
use Rattle.std.proofs.lemmas.Str.Pattern.{IsSplitOnceResult, split_after, split_parts}
use Rattle.std.proofs.lemmas.Int.{to_z-of_z}
use Rattle.lvl_view.specs.Texts.{IsJoined, IsHeaded, IsNumber, IsCoordinate, IsOnly, Span, minus}

-- no byte of the list is the character
abbrev pub Lacks : ℕ → List ℕ → Type 0
Lacks c [] = Unit {0}
Lacks c (b ∷ bs) = (b ≢ c) × Lacks c bs

-- the character isn't a digit
abbrev pub IsNoDigit : ℕ → Type 0
IsNoDigit c = 48 ≤ c → c ≤ 57 → ⊥

lacks_index : (c : ℕ) (bs : List ℕ) → Lacks c bs → (i : ℕ) → i < length bs → get_or bs i 0 ≢ c
lacks_index c [] h i lt = absurd (omega arith)
lacks_index c (b ∷ bs) h zero lt = h.0
lacks_index c (b ∷ bs) h (suc i) lt = lacks_index c bs h.1 i (omega arith)

lacks_append : (c d : ℕ) (xs ys : List ℕ) → Lacks c xs → d ≢ c → Lacks c ys → Lacks c (xs ++ d ∷ ys)
lacks_append c d [] ys h n k = (n, k)
lacks_append c d (x ∷ xs) ys h n k = (h.0, lacks_append c d xs ys h.1 n k)

lacks_digits : (c : ℕ) (bs : List ℕ) → IsNoDigit c → All (λ b. (48 ≤ b) × (b ≤ 57)) bs → Lacks c bs
lacks_digits c [] n h = tt
lacks_digits c (b ∷ bs) n h =
    let one : (48 ≤ b) × (b ≤ 57) = All-head (λ d. (48 ≤ d) × (d ≤ 57)) b bs h in (
      λ e. n (subst (λ d. 48 ≤ d) e one.0) (subst (λ d. d ≤ 57) e one.1),
      lacks_digits c bs n (All-tail (λ d. (48 ≤ d) × (d ≤ 57)) b bs h),
    )

pub number_lacks : (c : ℕ) → IsNoDigit c → (text : List ℕ) (n : ℕ) → IsNumber text n → Lacks c text
number_lacks c far text n h = lacks_digits c text far h.digits.digits

pub coordinate_lacks : (c : ℕ) → IsNoDigit c → minus ≢ c → (text : List ℕ) (z : ℤ) → IsCoordinate text z → Lacks c text
coordinate_lacks c far n text z h =
    let digits : Lacks c h.digits = lacks_digits c h.digits far h.are.digits in
    ⊎_elim (λ e. subst (Lacks c) (sym e.0) digits) (λ e. subst (Lacks c) (sym e.0) (n, digits)) h.spelled

module _ {A B : Type 0} (c : ℕ) (P : List ℕ → A → Type 0) (Q : List ℕ → B → Type 0) where
  pub joined_lacks : (d : ℕ) → ((t : List ℕ) (a : A) → P t a → Lacks d t) → ((t : List ℕ) (b : B) → Q t b → Lacks d t)
      → c ≢ d → (text : List ℕ) (a : A) (b : B) → IsJoined c P Q text a b → Lacks d text
  joined_lacks d p q n text a b j =
      subst (Lacks d) (sym j.joined)
      (lacks_append d c j.before j.after (p j.before a j.before_is) n (q j.after b j.after_is))

  -- a text that lacks the character isn't two parts joined by it
  pub uncut : ((t : List ℕ) (a : A) → P t a → Lacks c t) → c < 128 → (text : List ℕ) → IsSplitOnceResult c text None
      → (a : A) (b : B) → ¬ IsJoined c P Q text a b
  uncut lacks small text h a b j =
      split_after c text j.before j.after None h small j.joined (lacks_index c j.before (lacks j.before a j.before_is))

  -- a text is two parts joined by the character exactly if it is so when cut at the first such character
  pub cut : ((t : List ℕ) (a : A) → P t a → Lacks c t) → c < 128 → (text : List ℕ) (l r : Bor (List ℕ))
      → IsSplitOnceResult c text (Some (l, r)) → (a : A) (b : B) → IsJoined c P Q text a b ↔ (P l.now a × Q r.now b)
  cut lacks small text l r h a b = (
    λ j. let e =
        split_after c text j.before j.after (Some (l, r)) h small j.joined
        (lacks_index c j.before (lacks j.before a j.before_is)) in
        (subst (λ t. P t a) (sym e.0) j.before_is, subst (λ t. Q t b) (sym e.1) j.after_is),
    λ p. record {
      before = l.now;
      after = r.now;
      joined = (split_parts c text (Some (l, r)) h small).0;
      before_is = p.0;
      after_is = p.1;
    },
  )

pub headed_lacks : {A : Type 0} (c : ℕ) (P : List ℕ → A → Type 0) (d : ℕ) → ((t : List ℕ) (a : A) → P t a → Lacks d t)
    → c ≢ d → (text : List ℕ) (a : A) → IsHeaded c P text a → Lacks d text
headed_lacks c P d p n text a j = subst (Lacks d) (sym j.headed) (n, p j.rest a j.rest_is)

-- if P holds of no value, the answer is None
pub only_none : {A : Type 0} (P : A → Type 0) (o : Option A) → o ≡ None → ((v : A) → ¬ P v) → IsOnly P o
only_none P o e n = λ v. (λ p. absurd (n v p), λ s. absurd (let t : None ≡ Some v = sym e ∙ s in cc))

-- if the answer is None, P holds of no value
pub none_only : {A : Type 0} (P : A → Type 0) → IsOnly P None → (v : A) → ¬ P v
none_only P h v p = let t : None ≡ Some v = (h v).0 p in cc

-- if the answer is a value, P holds of no other
pub some_only : {A : Type 0} (P : A → Type 0) (a b : A) → IsOnly P (Some a) → P b → a ≡ b
some_only P a b h p = same_Some a b ((h b).0 p)

-- a value made of two parts, read from a text of two parts with a character between them
module _ {A B V : Type 0} (c : ℕ) (P : List ℕ → A → Type 0) (Q : List ℕ → B → Type 0)
    (first : V → A) (second : V → B) (make : A → B → V) (whole : (v : V) → make (first v) (second v) ≡ v)
    (one : (a : A) (b : B) → first (make a b) ≡ a) (two : (a : A) (b : B) → second (make a b) ≡ b)
    (lacks : (t : List ℕ) (a : A) → P t a → Lacks c t) (small : c < 128) (text : List ℕ) where
  abbrev pub IsMade : V → Type 0
  IsMade v = IsJoined c P Q text (first v) (second v)

  pub none_uncut : (o : Option V) → o ≡ None → IsSplitOnceResult c text None → IsOnly IsMade o
  none_uncut o e h = only_none IsMade o e (λ v. uncut c P Q lacks small text h (first v) (second v))

  module _ (l r : Bor (List ℕ)) (h : IsSplitOnceResult c text (Some (l, r))) where
    pub none_first : (o : Option V) → o ≡ None → IsOnly (P l.now) None → IsOnly IsMade o
    none_first o e n =
        only_none IsMade o e
        (λ v j. none_only (P l.now) n (first v) ((cut c P Q lacks small text l r h (first v) (second v)).0 j).0)

    pub none_second : (o : Option V) → o ≡ None → IsOnly (Q r.now) None → IsOnly IsMade o
    none_second o e n =
        only_none IsMade o e
        (λ v j. none_only (Q r.now) n (second v) ((cut c P Q lacks small text l r h (first v) (second v)).0 j).1)

    pub made : (a : A) (b : B) → IsOnly (P l.now) (Some a) → IsOnly (Q r.now) (Some b) → IsOnly IsMade (Some (make a b))
    made a b f g = λ v. (
      λ j. let both = (cut c P Q lacks small text l r h (first v) (second v)).0 j in
          let left : a ≡ first v = some_only (P l.now) a (first v) f both.0 in
          let right : b ≡ second v = some_only (Q r.now) b (second v) g both.1 in
          ap Some (ap (λ (x : A). make x b) left ∙ (ap (λ (y : B). make (first v) y) right ∙ whole v)),
      λ e. let same : make a b ≡ v = same_Some (make a b) v e in
          let left : a ≡ first v = sym (one a b) ∙ ap first same in
          let right : b ≡ second v = sym (two a b) ∙ ap second same in
          (cut c P Q lacks small text l r h (first v) (second v)).1 (
            subst (P l.now) left ((f a).1 refl),
            subst (Q r.now) right ((g b).1 refl),
          ),
    )

-- a text with a character in front of it
module _ {A : Type 0} (c : ℕ) (P : List ℕ → A → Type 0) (text : List ℕ) where
  pub unheaded : (o : Option A) → o ≡ None → ((rest : List ℕ) → text ≢ c ∷ rest) → IsOnly (IsHeaded c P text) o
  unheaded o e n = only_none (IsHeaded c P text) o e (λ v j. n j.rest j.headed)

  pub headed : (rest : List ℕ) (o : Option A) → text ≡ c ∷ rest → IsOnly (P rest) o → IsOnly (IsHeaded c P text) o
  headed rest o e h = λ v. (
    λ j. let same : j.rest ≡ rest = ap (drop 1) (sym j.headed ∙ e) in (h v).0 (subst (λ t. P t v) same j.rest_is),
    λ s. record { rest = rest; headed = e; rest_is = (h v).1 s },
  )

-- the same for a pair of coordinates, each stored in 64 bits and read back
pub carried : (P : Span → Type 0) (a b : ℤ) → FitsSigned w64 a → FitsSigned w64 b → IsOnly P (Some (a, b))
    → IsOnly P (Some (to_z w64 (of_z w64 a), to_z w64 (of_z w64 b)))
carried P a b f g h =
    subst (λ (x : ℤ). IsOnly P (Some (x, to_z w64 (of_z w64 b)))) (sym (to_z-of_z w64 a f))
    (subst (λ (y : ℤ). IsOnly P (Some (a, y))) (sym (to_z-of_z w64 b g)) h)

pub carried_one : (P : ℤ → Type 0) (a : ℤ) → FitsSigned w64 a → IsOnly P (Some a)
    → IsOnly P (Some (to_z w64 (of_z w64 a)))
carried_one P a f h = subst (λ (x : ℤ). IsOnly P (Some x)) (sym (to_z-of_z w64 a f)) h
