-- The laws of spellings, and of those that are combined from others.
use Rattle.std.proofs.Common.{◌≡◌, refl, sym, subst, ℕ, zero, suc, List, ◌++◌, Result, Ok, Err}
use Rattle.std.specs.Prelude.{Option, Some, None}
use Rattle.lvl_io.specs.Spelling.{IsPrefixFree, CanSay, UnlessBreached, Then as ThenAlways}
use Rattle.lvl_io.proofs.Spelling.{gives_free, gives_said, then_free, then_said}
use Rattle.lvl_profile.specs.Profiles.{IsWider}
use Rattle.lvl_profile.specs.declared.profile.Profile.{Profile}
use Rattle.lvl_profile.specs.Limits.{AreWithin}
use Rattle.lvl_profile.specs.declared.limits.Limits.{Limits}
use Rattle.oasis_values.specs.Known.{Allowed, Known, Seen}
use Rattle.oasis_values.specs.Spelling.{Spelling, Gives, Then, Chain}
use Rattle.oasis_values.specs.declared.fault.ValueFault.{ValueFault}

-- under any profile the spelling is prefix-free, and there are bytes that say something; and what spells a value still
-- spells it under a wider profile
pub record IsCode {A : Type 0} (S : Spelling A) : Type 0 where
  pub free : (i : Profile) → IsPrefixFree (S i)
  pub said : (i : Profile) → CanSay (S i)
  pub grows : (less more : Profile) → IsWider less more → (b : List ℕ) (x : A) → S less b (Ok x) → S more b (Ok x)

pub gives_code : {A : Type 0} {r : Result A ValueFault} → IsCode (Gives r)
gives_code {r = r} =
    record { free = λ i. gives_free r; said = λ i. gives_said r; grows = λ less more within b x s. s }

both_grow : {A B : Type 0} (S S' : List ℕ → Result A ValueFault → Type 0)
    (T T' : A → List ℕ → Result B ValueFault → Type 0) → ((b : List ℕ) (x : A) → S b (Ok x) → S' b (Ok x))
    → ((x : A) (b : List ℕ) (y : B) → T x b (Ok y) → T' x b (Ok y))
    → (b first second : List ℕ) (y : B) (r : Result A ValueFault) → S first r → UnlessBreached T r second (Ok y)
    → b ≡ first ++ second → ThenAlways S' T' b (Ok y)
both_grow S S' T T' s t b first second y (Ok x) p q e =
    record {
      value = Ok x;
      first = first;
      second = second;
      first_says = s first x p;
      second_says = t x second y q;
      joined = e;
    }
both_grow S S' T T' s t b first second y (Err f) p q e = absurd (let h : Ok y ≡ Err f = q.1 in cc)

pub then_code : {A B : Type 0} {S : Spelling A} {T : A → Spelling B} → IsCode S → ((x : A) → IsCode (T x))
    → IsCode (Then S T)
then_code {S = S} {T = T} s t =
    record {
      free = λ i. then_free (S i) (λ x. T x i) (s.free i) (λ x. (t x).free i);
      said = λ i. then_said (S i) (λ x. T x i) (s.said i) (λ x. (t x).said i);
      grows = λ less more within b y p. both_grow (S less) (S more) (λ x. T x less) (λ x. T x more)
          (s.grows less more within) (λ x. (t x).grows less more within) b p.first p.second y p.value
          p.first_says p.second_says p.joined;
    }

pub chain_code : {A B : Type 0} {S : A → Spelling A} (show : A → B) (n : ℕ) (a : A) → ((x : A) → IsCode (S x))
    → IsCode (Chain S show n a)
chain_code show zero a s = gives_code
chain_code {S = S} show (suc n) a s =
    then_code (s a) (λ x. then_code (chain_code {S = S} show n x s) (λ ys. gives_code))

pub known_code : {A : Type 0} (o : Option A) (f : ValueFault) → IsCode (Known o f)
known_code (Some x) f = gives_code
known_code None f = gives_code

-- a value that wider limits give as well
pub allowed_code : {A : Type 0} (g : Limits → Option A) (f : ValueFault)
    → ((less more : Limits) → AreWithin less more → (x : A) → g less ≡ Some x → g more ≡ Some x) → IsCode (Allowed g f)
allowed_code {A = A} g f law =
    record {
      free = λ i. (known_code (g i.limits) f).free i;
      said = λ i. (known_code (g i.limits) f).said i;
      grows = λ less more within b x s. grow less more within b x (g less.limits) refl s;
    }
  where
    grow : (less more : Profile) → IsWider less more → (b : List ℕ) (x : A) (o : Option A) → g less.limits ≡ o
        → Known o f less b (Ok x) → Known (g more.limits) f more b (Ok x)
    grow less more within b x (Some y) e s =
        subst (λ o. Known o f more b (Ok x)) (sym (law less.limits more.limits within.limits y e)) s
    grow less more within b x None e s = absurd (let k : Ok x ≡ Err f = s.1 in cc)

pub seen_code : {A B : Type 0} (g : A → B) {S : Spelling A} → IsCode S → IsCode (Seen g S)
seen_code g {S = S} s = then_code {S = S} {T = λ x. Gives (Ok (g x))} s (λ x. gives_code)
