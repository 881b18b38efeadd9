-- What bytes say, put together: values one after another, integers, strings and the magic string.
use Rattle.std.proofs.Common.{◌≡◌, ◌==◌, ℕ, zero, suc, ◌≤◌, ◌^◌, true, List, [], ◌∷◌, ◌++◌}
use Rattle.std.proofs.Common.{length, Some, None, Result, Ok, nat_lt, nat_le, refl, sym, subst, arith}
use Rattle.std.specs.Prelude.{if◌then◌else◌}
use Rattle.std.specs.List.{AllByRecursion}
use Rattle.std.proofs.lemmas.Bool.{ltb-true, leb-true}
use Rattle.std.proofs.lemmas.List.{append-nil}
use Rattle.std.proofs.lemmas.List.Elements.{All-nil, All-cons}
use Rattle.lvl_profile.specs.declared.profile.Profile.{Profile}
use Rattle.oasis_values.specs.Known.{Known, Seen}
use Rattle.oasis_values.specs.Numbers.{groups, IsByte, IsUnsigned}
use Rattle.oasis_values.specs.Spelling.{Spelling, Gives, Then, Chain}
use Rattle.oasis_values.specs.Texts.{text_length, has_character, character, IsCharacter, AreCharacters, IsString}
use Rattle.oasis_values.proofs.Integers.{few_bytes}
use Rattle.oasis_values.specs.declared.fault.ValueFault.{ValueFault}
use Rattle.oasis_values.specs.declared.fault.ValueFault.TheVariants.{StringByte}
use Rattle.oasis_values.specs.declared.text.Text.{Text}
use Rattle.oasis_records.specs.Ends.{fits}
use Rattle.oasis_records.specs.Magic.{magic as magic_string, IsMagicByte, AreMagicBytes, IsMagic}
use Rattle.oasis_records.specs.Rules.{Must, UnlessRuled}
use Rattle.oasis_records.specs.declared.fault.RecordRule.TheVariants.{Magic}

-- n zero bytes
abbrev pub zeros : ℕ → List ℕ
zeros zero = []
zeros (suc n) = 0 ∷ zeros n

-- one after another, and what is said is seen otherwise

pub after : {A B : Type 0} (profile : Profile) (S : Spelling A) (T : A → Spelling B) (a b : List ℕ) (x : A)
    (y : Result B ValueFault)
    → S profile a (Ok x) → T x profile b y → Then S T profile (a ++ b) y
after profile S T a b x y s t =
    record { value = Ok x; first = a; second = b; first_says = s; second_says = t; joined = refl }

pub alone : {A B : Type 0} (profile : Profile) (S : Spelling A) (T : A → Spelling B) (a : List ℕ) (x : A)
    (y : Result B ValueFault)
    → S profile a (Ok x) → T x profile [] y → Then S T profile a y
alone profile S T a x y s t =
    record { value = Ok x; first = a; second = []; first_says = s; second_says = t; joined = sym (append-nil a) }

pub seen : {A B : Type 0} (profile : Profile) (h : A → B) (S : Spelling A) (a : List ℕ) (x : A) → S profile a (Ok x)
    → Seen h S profile a (Ok (h x))
seen profile h S a x s = alone profile S (λ x. Gives (Ok (h x))) a x (Ok (h x)) s (refl, refl)

pub chained : {A B : Type 0} (profile : Profile) (S : A → Spelling A) (show : A → B) (n : ℕ) (a x : A)
    (first rest : List ℕ) (ys : List B)
    → S a profile first (Ok x) → Chain S show n x profile rest (Ok ys)
    → Chain S show (suc n) a profile (first ++ rest) (Ok (show x ∷ ys))
chained profile S show n a x first rest ys s c =
    after profile (S a) (λ x. Then (Chain S show n x) (λ ys. Gives (Ok (show x ∷ ys)))) first rest x (Ok (show x ∷ ys)) s
    (alone profile (Chain S show n x) (λ ys. Gives (Ok (show x ∷ ys))) rest ys (Ok (show x ∷ ys)) c (refl, refl))

-- integers of a byte, and of two

pub small : (profile : Profile) (n : ℕ) → nat_lt n 128 ≡ true → n ≡ groups (n ∷ []) → nat_lt n (2 ^ 64) ≡ true
    → IsUnsigned profile (n ∷ []) (Ok n)
small profile n low value fits = record {
  front = [];
  last = n;
  bytes = refl;
  continues = All-nil (λ b. 128 ≤ b);
  ends = ltb-true n 128 low;
  few = omega (arith, (few_bytes profile).0);
  value = value;
  fits = ltb-true n (2 ^ 64) fits;
}

pub wide : (profile : Profile) (a b n : ℕ) → nat_le 128 a ≡ true → nat_lt b 128 ≡ true → n ≡ groups (a ∷ b ∷ [])
    → nat_lt n (2 ^ 64) ≡ true
    → IsUnsigned profile (a ∷ b ∷ []) (Ok n)
wide profile a b n high low value fits = record {
  front = a ∷ [];
  last = b;
  bytes = refl;
  continues = All-cons (λ b. 128 ≤ b) a [] (leb-true 128 a high) (All-nil (λ b. 128 ≤ b));
  ends = ltb-true b 128 low;
  few = omega (arith, (few_bytes profile).0);
  value = value;
  fits = ltb-true n (2 ^ 64) fits;
}

pub zero_integers : (profile : Profile) (n a : ℕ) → Chain (λ _. IsUnsigned) (λ n. n) n a profile (zeros n) (Ok (zeros n))
zero_integers profile zero a = (refl, refl)
zero_integers profile (suc n) a =
    chained profile (λ _. IsUnsigned) (λ n. n) n a 0 (0 ∷ []) (zeros n) (zeros n) (small profile 0 refl refl refl)
    (zero_integers profile n 0)

pub zero_bytes : (profile : Profile) (n a : ℕ) → Chain (λ _. IsByte) (λ x. x) n a profile (zeros n) (Ok (zeros n))
zero_bytes profile zero a = (refl, refl)
zero_bytes profile (suc n) a =
    chained profile (λ _. IsByte) (λ x. x) n a 0 (0 ∷ []) (zeros n) (zeros n) refl (zero_bytes profile n 0)

-- the magic string

pub magic_byte : (profile : Profile) (m : ℕ) → m == m ≡ true → IsMagicByte m profile (m ∷ []) (Ok (Ok m))
magic_byte profile m e =
    alone profile IsByte (λ b. Must (b == m) b Magic) (m ∷ []) m (Ok (Ok m)) refl
    (subst (λ c. Must c m Magic profile [] (Ok (Ok m))) (sym e) (refl, refl))

pub magic_bytes : (profile : Profile) (ms : List ℕ) → AllByRecursion (λ m. m == m ≡ true) ms
    → AreMagicBytes ms profile ms (Ok (Ok tt))
magic_bytes profile [] p = (refl, refl)
magic_bytes profile (m ∷ ms) p =
    after profile (IsMagicByte m) (UnlessRuled (λ _. AreMagicBytes ms)) (m ∷ []) ms (Ok m) (Ok (Ok tt))
    (magic_byte profile m p.0)
    (magic_bytes profile ms p.1)

pub magic_said : (profile : Profile) → IsMagic profile magic_string (Ok (Ok tt))
magic_said profile =
    magic_bytes profile magic_string
    (refl, (refl, (refl, (refl, (refl, (refl, (refl, (refl, (refl, (refl, (refl, (refl, (refl, tt)))))))))))))

-- strings

pub one_character : (profile : Profile) (kind : Text) (c : ℕ) → has_character kind c ≡ true
    → IsCharacter kind profile (c ∷ []) (Ok c)
one_character profile kind c e =
    alone profile IsByte (λ c. Known (character kind c) StringByte) (c ∷ []) c (Ok c) refl
    (subst (λ b. Known (if b then Some c else None) StringByte profile [] (Ok c)) (sym e) (refl, refl))

pub characters : (profile : Profile) (kind : Text) (cs : List ℕ) (a : ℕ)
    → AllByRecursion (λ c. has_character kind c ≡ true) cs
    → Chain (λ _. IsCharacter kind) (λ c. c) (length cs) a profile cs (Ok cs)
characters profile kind [] a p = (refl, refl)
characters profile kind (c ∷ cs) a p =
    chained profile (λ _. IsCharacter kind) (λ c. c) (length cs) a c (c ∷ []) cs cs (one_character profile kind c p.0)
    (characters profile kind cs c p.1)

pub three : (profile : Profile) (kind : Text) (cs : List ℕ) → text_length kind 255 3 ≡ Some 3 → length cs ≡ 3
    → AllByRecursion (λ c. has_character kind c ≡ true) cs
    → IsString kind 255 profile (3 ∷ cs) (Ok cs)
three profile kind cs e n p =
    after profile IsUnsigned (λ n. Then (Known (text_length kind 255 n) StringByte) (AreCharacters kind)) (3 ∷ []) cs 3
    (Ok cs)
    (small profile 3 refl refl refl)
    (after profile (Known (text_length kind 255 3) StringByte) (AreCharacters kind) [] cs 3 (Ok cs)
    (subst (λ o. Known o StringByte profile [] (Ok 3)) (sym e) (refl, refl))
    (subst (λ k. AreCharacters kind k profile cs (Ok cs)) n (characters profile kind cs 0 p)))
