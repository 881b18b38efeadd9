-- The laws of spellings: which are prefix-free, which can say something, and when a spelling is begun.
use Rattle.std.proofs.Common.{◌≡◌, ℕ, zero, suc, inl, inr, List, [], ◌∷◌, ◌++◌, length, Result, Ok, Err, refl, sym, ap}
use Rattle.std.proofs.Common.{◌∙◌, subst, arith, append_assoc, append-nil, length-append}
use Rattle.std.proofs.lemmas.List.{append_cancel_left}
use Rattle.lvl_io.specs.Known.{Agree}
use Rattle.lvl_io.specs.Spelling.{IsPrefixFree, FirstBytesSay, IsBegun, NoneAgrees, CanSay, Gives, After}
use Rattle.lvl_io.specs.Spelling.{UnlessBreached}
use Rattle.lvl_io.specs.Spelling.{Then, Chain}

-- prefix-free

pub gives_free : {A : Type 0} (x : A) → IsPrefixFree (Gives x)
gives_free x = record { only = λ b c m n y z p q e. (p.0 ∙ sym q.0, p.1 ∙ sym q.1) }

after_only : {A B : Type 0} (S : List ℕ → A → Type 0) (T : A → List ℕ → B → Type 0) → IsPrefixFree S
    → ((x : A) → IsPrefixFree (T x))
    → (b c m n : List ℕ) (y z : B) → After S T b y → After S T c z → b ++ m ≡ c ++ n → (b ≡ c) × (y ≡ z)
after_only S T s t b c m n y z p q e =
    let joined : p.first ++ (p.second ++ m) ≡ q.first ++ (q.second ++ n) =
    sym (append_assoc p.first p.second m) ∙ ap (λ l. l ++ m) (sym p.joined) ∙ e ∙ ap (λ l. l ++ n) q.joined
    ∙ append_assoc q.first q.second n in
    let one = s.only p.first q.first (p.second ++ m) (q.second ++ n) p.value q.value p.first_says q.first_says joined in
    let rest = append_cancel_left q.first (p.second ++ m) (q.second ++ n) (ap (λ l. l ++ (p.second ++ m)) (sym one.0)
    ∙ joined) in
    let second = subst (λ x. T x p.second y) one.1 p.second_says in
    let two = (t q.value).only p.second q.second m n y z second q.second_says rest in
    (p.joined ∙ ap (λ l. l ++ p.second) one.0 ∙ ap (λ l. q.first ++ l) two.0 ∙ sym q.joined, two.1)

pub after_free : {A B : Type 0} (S : List ℕ → A → Type 0) (T : A → List ℕ → B → Type 0) → IsPrefixFree S
    → ((x : A) → IsPrefixFree (T x)) → IsPrefixFree (After S T)
after_free S T s t = record { only = after_only S T s t }

unless_free : {A B F : Type 0} (T : A → List ℕ → Result B F → Type 0) → ((x : A) → IsPrefixFree (T x))
    → (r : Result A F) → IsPrefixFree (UnlessBreached T r)
unless_free T t (Ok x) = t x
unless_free T t (Err f) = gives_free (Err f)

pub then_free : {A B F : Type 0} (S : List ℕ → Result A F → Type 0) (T : A → List ℕ → Result B F → Type 0)
    → IsPrefixFree S → ((x : A) → IsPrefixFree (T x)) → IsPrefixFree (Then S T)
then_free S T s t = after_free S (UnlessBreached T) s (unless_free T t)

pub chain_free : {A B F : Type 0} (S : A → List ℕ → Result A F → Type 0) (show : A → B) (n : ℕ) (a : A)
    → ((x : A) → IsPrefixFree (S x)) → IsPrefixFree (Chain S show n a)
chain_free S show zero a s = gives_free (Ok [])
chain_free S show (suc n) a s =
    then_free (S a) (λ x. Then (Chain S show n x) (λ ys. Gives (Ok (show x ∷ ys)))) (s a)
    (λ x. then_free (Chain S show n x) (λ ys. Gives (Ok (show x ∷ ys))) (chain_free S show n x s)
    (λ ys. gives_free (Ok (show x ∷ ys))))

-- there are bytes that say something

pub gives_said : {A : Type 0} (x : A) → CanSay (Gives x)
gives_said x = record { bytes = []; value = x; says = (refl, refl) }

pub after_said : {A B : Type 0} (S : List ℕ → A → Type 0) (T : A → List ℕ → B → Type 0) → CanSay S
    → ((x : A) → CanSay (T x)) → CanSay (After S T)
after_said S T s t =
    let u = t s.value in
    record {
      bytes = s.bytes ++ u.bytes;
      value = u.value;
      says = record {
        value = s.value;
        first = s.bytes;
        second = u.bytes;
        first_says = s.says;
        second_says = u.says;
        joined = refl;
      };
    }

unless_said : {A B F : Type 0} (T : A → List ℕ → Result B F → Type 0) → ((x : A) → CanSay (T x)) → (r : Result A F)
    → CanSay (UnlessBreached T r)
unless_said T t (Ok x) = t x
unless_said T t (Err f) = gives_said (Err f)

pub then_said : {A B F : Type 0} (S : List ℕ → Result A F → Type 0) (T : A → List ℕ → Result B F → Type 0) → CanSay S
    → ((x : A) → CanSay (T x)) → CanSay (Then S T)
then_said S T s t = after_said S (UnlessBreached T) s (unless_said T t)

pub chain_said : {A B F : Type 0} (S : A → List ℕ → Result A F → Type 0) (show : A → B) (n : ℕ) (a : A)
    → ((x : A) → CanSay (S x)) → CanSay (Chain S show n a)
chain_said S show zero a s = gives_said (Ok [])
chain_said S show (suc n) a s =
    then_said (S a) (λ x. Then (Chain S show n x) (λ ys. Gives (Ok (show x ∷ ys)))) (s a)
    (λ x. then_said (Chain S show n x) (λ ys. Gives (Ok (show x ∷ ys))) (chain_said S show n x s)
    (λ ys. gives_said (Ok (show x ∷ ys))))

-- a pair is begun if its first part is, or if the first part is said and the second is begun

after_begun : {A B : Type 0} (S : List ℕ → A → Type 0) (T : A → List ℕ → B → Type 0) (xs : List ℕ) → IsBegun S xs
    → ((x : A) → CanSay (T x)) → IsBegun (After S T) xs
after_begun S T xs s t =
    let u = t s.value in
    record {
      more = s.more ++ u.bytes;
      value = u.value;
      short = omega (arith, s.short, length-append s.more u.bytes);
      says = record {
        value = s.value;
        first = xs ++ s.more;
        second = u.bytes;
        first_says = s.says;
        second_says = u.says;
        joined = sym (append_assoc xs s.more u.bytes);
      };
    }

pub then_begun : {A B F : Type 0} (S : List ℕ → Result A F → Type 0) (T : A → List ℕ → Result B F → Type 0)
    (xs : List ℕ) → IsBegun S xs → ((x : A) → CanSay (T x)) → IsBegun (Then S T) xs
then_begun S T xs s t = after_begun S (UnlessBreached T) xs s (unless_said T t)

pub then_goes_on : {A B F : Type 0} (S : List ℕ → Result A F → Type 0) (T : A → List ℕ → Result B F → Type 0)
    (b ys : List ℕ) (x : A)
    → S b (Ok x) → IsBegun (T x) ys → IsBegun (Then S T) (b ++ ys)
then_goes_on S T b ys x s t =
    record {
      more = t.more;
      value = t.value;
      short = t.short;
      says = record {
        value = Ok x;
        first = b;
        second = ys ++ t.more;
        first_says = s;
        second_says = t.says;
        joined = append_assoc b ys t.more;
      };
    }

-- the whole is said, by both parts or by a breach of the first

pub then_both : {A B F : Type 0} (S : List ℕ → Result A F → Type 0) (T : A → List ℕ → Result B F → Type 0)
    (b c : List ℕ) (x : A) (r : Result B F)
    → S b (Ok x) → T x c r → Then S T (b ++ c) r
then_both S T b c x r s t =
    record { value = Ok x; first = b; second = c; first_says = s; second_says = t; joined = refl }

pub then_breached : {A B F : Type 0} (S : List ℕ → Result A F → Type 0) (T : A → List ℕ → Result B F → Type 0)
    (b : List ℕ) (f : F)
    → S b (Err f) → Then S T b (Err f)
then_breached S T b f s =
    record {
      value = Err f;
      first = b;
      second = [];
      first_says = s;
      second_says = (refl, refl);
      joined = let e : b ++ [] ≡ b = simp append-nil in sym e;
    }

-- if the front says x, nothing that agrees with the bytes says anything else

pub front_only : {A : Type 0} (S : List ℕ → A → Type 0) (xs : List ℕ) (n : ℕ) (x y : A) → IsPrefixFree S
    → FirstBytesSay S xs n x → (b : List ℕ) → S b y → Agree b xs → x ≡ y
front_only S xs n x y s f b p agree = elim agree.1 [
  | inl longer ↦
      (s.only f.bytes b (f.rest ++ agree.0) [] x y f.says p
      (sym (append_assoc f.bytes f.rest agree.0) ∙ ap (λ l. l ++ agree.0) (sym f.whole) ∙ sym longer
      ∙ sym (append-nil b))).1
  | inr longer ↦ (s.only f.bytes b f.rest agree.0 x y f.says p (sym f.whole ∙ longer)).1
]

-- bytes that breach a rule begin with no value's spelling
pub breached_none : {A F : Type 0} (S : List ℕ → Result A F → Type 0) (xs : List ℕ) (n : ℕ) (f : F) (x : A)
    → IsPrefixFree S → FirstBytesSay S xs n (Err f) → NoneAgrees S xs (Ok x)
breached_none S xs n f x s p = λ b q agree. let h : Err f ≡ Ok x = front_only S xs n (Err f) (Ok x) s p b q agree in cc

-- an unfinished beginning has no complete spelling at its front
pub begun_open : {A : Type 0} (S : List ℕ → A → Type 0) (xs : List ℕ) (n : ℕ) (x : A) → IsPrefixFree S → IsBegun S xs
    → FirstBytesSay S xs n x → ⊥
begun_open S xs n x s p f =
    let e = (s.only f.bytes (xs ++ p.more) (f.rest ++ p.more) [] x p.value f.says p.says
    (sym (append_assoc f.bytes f.rest p.more) ∙ ap (λ l. l ++ p.more) (sym f.whole)
    ∙ sym (append-nil (xs ++ p.more)))).0 in
    omega (arith, p.short, ap length e, length-append xs p.more, ap length f.whole, length-append f.bytes f.rest)
