-- Unsigned integers and their bytes.
use Rattle.std.proofs.Common.{◌≡◌, ℕ, suc, ◌+◌, ◌*◌, ◌%◌, ◌^◌, ◌<◌, ◌≤◌, ◌⊎◌, inl, inr, List, [], ◌∷◌, ◌++◌, length}
use Rattle.std.proofs.Common.{Result, Ok, Err, refl, sym, ap, ◌∙◌, subst, arith, append_assoc, take, drop, get_or}
use Rattle.std.proofs.Common.{mul_assoc, mul-le-mul_left, nat_le, length-append, Bool, true, false, not, if◌then◌else◌}
use Rattle.lvl_profile.specs.Profiles.{IsWider}
use Rattle.lvl_profile.specs.declared.profile.Profile.{Profile}
use Rattle.std.proofs.lemmas.Bool.Decides.{nat_tests}
use Rattle.std.proofs.lemmas.List.Elements.{All-append, All-cons, All-nil}
use Rattle.std.proofs.lemmas.List.{take_more, length-take, take-append-drop}
use Rattle.std.proofs.Math.Nat.{pow-le-pow_right, pow-suc}
use Rattle.std.proofs.lemmas.Bool.{cases_Bool}
use Rattle.lvl_io.specs.Spelling.{FirstBytesSay, IsBegun, CanSay}
use Rattle.oasis_values.specs.Numbers.{IsOneByte, IsByte, groups, Continues, most_bytes, IsInteger, IsTooLarge}
use Rattle.oasis_values.specs.Numbers.{IsUnsigned}
use Rattle.oasis_values.proofs.Codes.{IsCode}
use Rattle.oasis_values.specs.declared.fault.ValueFault.{ValueFault}
use Rattle.oasis_values.specs.declared.fault.ValueFault.TheVariants.{IntegerTooLarge}

byte_only : (b c m n : List ℕ) (x y : Result ℕ ValueFault) → IsOneByte b x → IsOneByte c y → b ++ m ≡ c ++ n → (b ≡ c)
    × (x ≡ y)
byte_only b c m n (Ok x) (Ok y) p q e =
    let h : x ∷ m ≡ y ∷ n = ap (λ l. l ++ m) (sym p) ∙ e ∙ ap (λ l. l ++ n) q in
    let k : x ≡ y = cc in
    (p ∙ ap (λ i. i ∷ []) k ∙ sym q, ap Ok k)
byte_only b c m n (Ok x) (Err f) p q e = absurd q
byte_only b c m n (Err f) y p q e = absurd p

pub byte_code : IsCode IsByte
byte_code =
    record {
      free = λ i. record { only = byte_only };
      said = λ i. record { bytes = 0 ∷ []; value = Ok 0; says = refl };
      grows = λ less more within b x s. s;
    }

pub le_or : (i k : ℕ) → (i ≤ k) ⊎ (k < i)
le_or i k =
    elim (cases_Bool (nat_le i k)) [ inl a ↦ inl (grind (arith, nat_tests)) | inr b ↦ inr (grind (arith, nat_tests)) ]

most_within : (b : Bool) → (10 ≤ (if b then 256 else 10)) × ((if b then 256 else 10) ≤ 256)
most_within true = (omega arith, omega arith)
most_within false = (omega arith, omega arith)

all_tail : (z : ℕ) (g : List ℕ) → Continues (z ∷ g) → Continues g
all_tail z g c = λ k d h. c (suc k) d (omega (arith, h))

-- if a front ends with its last byte, another that continues is at least as long
short_front : (f g m n : List ℕ) (x y : ℕ) → Continues g → x < 128 → f ++ (x ∷ m) ≡ g ++ (y ∷ n) → length g ≤ length f
short_front [] [] m n x y c h e = omega arith
short_front [] (z ∷ g) m n x y c h e =
    absurd (let first : 128 ≤ z = c 0 0 (omega arith) in let k : x ∷ m ≡ z ∷ (g ++ (y ∷ n)) = e in
    let i : x ≡ z = cc in omega arith)
short_front (a ∷ f) [] m n x y c h e = omega arith
short_front (a ∷ f) (z ∷ g) m n x y c h e =
    let k : a ∷ (f ++ (x ∷ m)) ≡ z ∷ (g ++ (y ∷ n)) = e in
    let t : f ++ (x ∷ m) ≡ g ++ (y ∷ n) = cc in
    omega (arith, short_front f g m n x y (all_tail z g c) h t)

same_front : (f g m n : List ℕ) (x y : ℕ) → length f ≡ length g → f ++ (x ∷ m) ≡ g ++ (y ∷ n) → (f ≡ g) × (x ≡ y)
same_front [] [] m n x y l e = (refl, let k : x ∷ m ≡ y ∷ n = e in cc)
same_front [] (z ∷ g) m n x y l e = absurd (omega (arith, l))
same_front (a ∷ f) [] m n x y l e = absurd (omega (arith, l))
same_front (a ∷ f) (z ∷ g) m n x y l e =
    let k : a ∷ (f ++ (x ∷ m)) ≡ z ∷ (g ++ (y ∷ n)) = e in
    let t : f ++ (x ∷ m) ≡ g ++ (y ∷ n) = cc in
    let s = same_front f g m n x y (omega (arith, l)) t in
    let i : a ≡ z = cc in
    (ap (λ j. j ∷ f) i ∙ ap (λ l. z ∷ l) s.0, s.1)

pub groups_snoc : (f : List ℕ) (x : ℕ) → groups (f ++ (x ∷ [])) ≡ groups f + 128 ^ length f * (x % 128)
groups_snoc [] x = omega arith
groups_snoc (a ∷ f) x =
    let h = groups_snoc f x in
    let p : 128 ^ suc (length f) ≡ 128 * 128 ^ length f = simp pow-suc (omega arith) in
    let q : 128 ^ suc (length f) * (x % 128) ≡ 128 * (128 ^ length f * (x % 128)) =
    rw p (mul_assoc 128 (128 ^ length f) (x % 128)) in
    omega (arith, h, q)

pub groups_lt : (f : List ℕ) → groups f < 128 ^ length f
groups_lt [] = omega arith
groups_lt (a ∷ f) =
    let h = groups_lt f in
    let p : 128 ^ suc (length f) ≡ 128 * 128 ^ length f = simp pow-suc (omega arith) in
    omega (arith, h, p)

joined : (f m b : List ℕ) (x : ℕ) → b ≡ f ++ (x ∷ []) → b ++ m ≡ f ++ (x ∷ m)
joined f m b x e = ap (λ l. l ++ m) e ∙ append_assoc f (x ∷ []) m

fronts : (f g m n b c : List ℕ) (x y : ℕ) → b ≡ f ++ (x ∷ []) → c ≡ g ++ (y ∷ []) → b ++ m ≡ c ++ n
    → f ++ (x ∷ m) ≡ g ++ (y ∷ n)
fronts f g m n b c x y p q e = sym (joined f m b x p) ∙ e ∙ joined g n c y q

same_bytes : (f g m n b c : List ℕ) (x y : ℕ) → b ≡ f ++ (x ∷ []) → c ≡ g ++ (y ∷ []) → length f ≡ length g
    → b ++ m ≡ c ++ n → b ≡ c
same_bytes f g m n b c x y p q l e =
    let s = same_front f g m n x y l (fronts f g m n b c x y p q e) in
    p ∙ ap (λ h. h ++ (x ∷ [])) s.0 ∙ ap (λ i. g ++ (i ∷ [])) s.1 ∙ sym q

-- a shorter front and the byte after it are at the beginning of a longer one
longer_front : (f g m n : List ℕ) (x y : ℕ) → f ++ (x ∷ m) ≡ g ++ (y ∷ n) → length f < length g
    → (rest : List ℕ) × (g ≡ (f ++ (x ∷ [])) ++ rest)
longer_front f [] m n x y e h = absurd (omega (arith, h))
longer_front [] (z ∷ g) m n x y e h =
    let k : x ∷ m ≡ z ∷ (g ++ (y ∷ n)) = e in
    let i : z ≡ x = cc in
    (g, ap (λ j. j ∷ g) i)
longer_front (a ∷ f) (z ∷ g) m n x y e h =
    let k : a ∷ (f ++ (x ∷ m)) ≡ z ∷ (g ++ (y ∷ n)) = e in
    let t : f ++ (x ∷ m) ≡ g ++ (y ∷ n) = cc in
    let i : z ≡ a = cc in
    let s = longer_front f g m n x y t (omega (arith, h)) in
    (s.0, ap (λ j. j ∷ g) i ∙ ap (λ l. a ∷ l) s.1)

groups_more : (b rest : List ℕ) → groups b ≤ groups (b ++ rest)
groups_more [] rest = omega arith
groups_more (z ∷ b) rest = let h = groups_more b rest in omega (arith, h)

-- if bytes show that no integer begins with them, no longer front continues from them
too_large_last : {i : Profile} (c g m n : List ℕ) (y : ℕ) (q : IsTooLarge i c) → c ++ n ≡ g ++ (y ∷ m)
    → length q.front < length g → length g < most_bytes i → groups g < 2 ^ 64 → ⊥
too_large_last c g m n y q e h few fits =
    let longer = longer_front q.front g n m q.last y (sym (joined q.front n c q.last q.bytes) ∙ e) h in
    let whole : g ≡ c ++ longer.0 = longer.1 ∙ ap (λ l. l ++ longer.0) (sym q.bytes) in
    let low : groups c ≤ groups g = subst (λ l. groups c ≤ groups l) (sym whole) (groups_more c longer.0) in
    let size = ap length q.bytes in
    elim q.decided [
      | inl large ↦ omega (arith, large, low, fits)
      | inr full ↦ omega (arith, full.1, size, length-append q.front (q.last ∷ []), h, few)
    ]

-- bytes that show that no integer begins with them begin none
too_large_none : (i : Profile) (b c m n : List ℕ) (x : ℕ) → IsInteger i b x → IsTooLarge i c → b ++ m ≡ c ++ n → ⊥
too_large_none i b c m n x p q e =
    let h = fronts p.front q.front m n b c p.last q.last p.bytes q.bytes e in
    let less = short_front p.front q.front m n p.last q.last q.continues p.ends h in
    let low : groups p.front < 2 ^ 64 =
    let k = groups_more p.front (p.last ∷ []) in
    let s = p.value ∙ ap groups p.bytes in omega (arith, k, s, p.fits) in
    elim (le_or (length p.front) (length q.front)) [
      | inl same ↦
          let s = same_front p.front q.front m n p.last q.last (omega (arith, same, less)) h in
          let bytes = same_bytes p.front q.front m n b c p.last q.last p.bytes q.bytes (omega (arith, same, less)) e in
          elim q.decided [
            | inl large ↦ (let v = p.value ∙ ap groups bytes in omega (arith, large, v, p.fits))
            | inr full ↦ omega (arith, full.0, s.1, p.ends)
          ]
      | inr longer ↦
          too_large_last c p.front m n p.last q (sym e ∙ joined p.front m b p.last p.bytes) longer p.few low
    ]

too_large_only : (i : Profile) (b c m n : List ℕ) → IsTooLarge i b → IsTooLarge i c → b ++ m ≡ c ++ n → b ≡ c
too_large_only i b c m n p q e =
    elim (le_or (length p.front) (length q.front)) [
      | inl below ↦ elim (le_or (length q.front) (length p.front)) [
        | inl above ↦
            same_bytes p.front q.front m n b c p.last q.last p.bytes q.bytes (omega (arith, below, above)) e
        | inr longer ↦
            absurd (too_large_last b q.front n m q.last p (e ∙ joined q.front n c q.last q.bytes) longer q.few q.fits)
      ]
      | inr longer ↦
          absurd (too_large_last c p.front m n p.last q (sym e ∙ joined p.front m b p.last p.bytes) longer p.few p.fits)
    ]

unsigned_only : (i : Profile) (b c m n : List ℕ) (x y : Result ℕ ValueFault) → IsUnsigned i b x → IsUnsigned i c y
    → b ++ m ≡ c ++ n → (b ≡ c) × (x ≡ y)
unsigned_only i b c m n (Ok x) (Ok y) p q e =
    let h = fronts p.front q.front m n b c p.last q.last p.bytes q.bytes e in
    let less = short_front p.front q.front m n p.last q.last q.continues p.ends h in
    let more = short_front q.front p.front n m q.last p.last p.continues q.ends (sym h) in
    let same = same_bytes p.front q.front m n b c p.last q.last p.bytes q.bytes (omega (arith, less, more)) e in
    (same, ap Ok (p.value ∙ ap groups same ∙ sym q.value))
unsigned_only i b c m n (Ok x) (Err f) p (q0, q) e = absurd (too_large_none i b c m n x p q e)
unsigned_only i b c m n (Err f) (Ok y) (p0, p) q e = absurd (too_large_none i c b n m y q p (sym e))
unsigned_only i b c m n (Err f) (Err g) (p0, p) (q0, q) e =
    (too_large_only i b c m n p q e, ap Err (p0 ∙ sym q0))

most_of : (b : Bool) → not b ≡ true → ◌≡◌ {A = ℕ} (if b then 256 else 10) 10
most_of true h = absurd (let e : false ≡ true = h in cc)
most_of false h = refl

-- without padding an integer has at most ten bytes
pub most_plain : (i : Profile) → not i.ignore.padding ≡ true → most_bytes i ≡ 10
most_plain i h = most_of i.ignore.padding h

pub few_bytes : (i : Profile) → (10 ≤ most_bytes i) × (most_bytes i ≤ 256)
few_bytes i = most_within i.ignore.padding

bytes_grow : (less more : Bool) → (less ≡ true → more ≡ true)
    → (if less then 256 else 10) ≤ (if more then 256 else 10)
bytes_grow true true h = omega arith
bytes_grow true false h = absurd (let e : false ≡ true = h refl in cc)
bytes_grow false true h = omega arith
bytes_grow false false h = omega arith

unsigned_grows : (less more : Profile) → IsWider less more → (b : List ℕ) (n : ℕ) → IsInteger less b n
    → IsInteger more b n
unsigned_grows less more within b n p =
    let wide : most_bytes less ≤ most_bytes more = bytes_grow less.ignore.padding more.ignore.padding within.ignore.padding in
    record {
      front = p.front;
      last = p.last;
      bytes = p.bytes;
      continues = p.continues;
      ends = p.ends;
      few = omega (arith, p.few, wide);
      value = p.value;
      fits = p.fits;
    }

-- bytes that continue, of which there are few and whose number fits, begin an integer: a zero byte ends it
pub continues_begun : (i : Profile) (xs : List ℕ) → Continues xs → length xs < most_bytes i → groups xs < 2 ^ 64
    → IsBegun (IsUnsigned i) xs
continues_begun i xs c few fits =
    let g = groups_snoc xs 0 in
    let all : groups (xs ++ (0 ∷ [])) ≡ groups xs = g ∙ omega arith in
    record {
      more = 0 ∷ [];
      value = Ok (groups xs);
      short = omega arith;
      says = record {
        front = xs;
        last = 0;
        bytes = refl;
        continues = c;
        ends = omega arith;
        few = few;
        value = sym all;
        fits = fits;
      };
    }

unsigned_said : (i : Profile) → CanSay (IsUnsigned i)
unsigned_said i =
    record {
      bytes = 0 ∷ [];
      value = Ok 0;
      says = record {
        front = [];
        last = 0;
        bytes = refl;
        continues = λ k d h. absurd (omega (arith, h));
        ends = omega arith;
        few = omega (arith, (few_bytes i).0);
        value = refl;
        fits = omega arith;
      };
    }

pub unsigned_code : IsCode IsUnsigned
unsigned_code =
    record {
      free = λ i. record { only = unsigned_only i };
      said = unsigned_said;
      grows = unsigned_grows;
    }

-- a tenth byte adds at most 2^63, and each byte before it less than the next unit
pub sum_fits : (i v x : ℕ) → i ≤ 9 → (i ≡ 9 → x % 128 ≤ 1) → v < 128 ^ i → v + 128 ^ i * (x % 128) < 2 ^ 64
sum_fits i v x le tenth lt = elim (le_or i 8) [
  | inl low ↦
      let most : 128 ^ i ≤ 128 ^ 8 = pow-le-pow_right {n = 128} (omega arith) {i = i} {j = 8} low in
      let digit : 128 ^ i * (x % 128) ≤ 128 ^ i * 127 = mul-le-mul_left (128 ^ i) (omega arith) in
      omega (arith, most, digit, lt)
  | inr more ↦
      let nine : i ≡ 9 = omega (arith, le, more) in
      let p : 128 ^ i ≡ 2 ^ 63 = ap (λ k. 128 ^ k) nine in
      let few = tenth nine in
      let digit : 128 ^ i * (x % 128) ≤ 128 ^ i * 1 = mul-le-mul_left (128 ^ i) (omega arith) in
      omega (arith, p, digit, lt)
]

pub value_lt : (xs : List ℕ) (i v : ℕ) → i < length xs → v ≡ groups (take i xs) → v < 128 ^ i
value_lt xs i v h e =
    let lt = groups_lt (take i xs) in
    let l : length (take i xs) ≡ i = omega (arith, length-take {A = ℕ}) in
    subst (λ k. v < 128 ^ k) l (subst (λ k. k < 128 ^ length (take i xs)) (sym e) lt)

one_more : (xs : List ℕ) (i v x : ℕ) → i < length xs → v ≡ groups (take i xs) → x ≡ get_or xs i 0
    → v + 128 ^ i * (x % 128) ≡ groups (take (i + 1) xs)
one_more xs i v x h e g =
    let l : length (take i xs) ≡ i = omega (arith, length-take {A = ℕ}) in
    let s = groups_snoc (take i xs) (get_or xs i 0) in
    let t = take_more xs i 0 h in
    ap (λ k. k + 128 ^ i * (x % 128)) e
    ∙ ap (λ k. groups (take i xs) + 128 ^ k * (x % 128)) (sym l)
    ∙ ap (λ k. groups (take i xs) + 128 ^ length (take i xs) * (k % 128)) g
    ∙ sym s ∙ ap groups (sym t)

pub more_groups : (xs : List ℕ) (i v u : ℕ) (x : ℕ) → i < length xs → v ≡ groups (take i xs) → u ≡ 128 ^ i
    → x ≡ get_or xs i 0 % 128 → v + u * x ≡ groups (take (i + 1) xs)
more_groups xs i v u x h e p g =
    ap (λ k. v + k * x) p ∙ ap (λ k. v + 128 ^ i * k) g ∙ one_more xs i v (get_or xs i 0) h e refl

pub next_fits : (xs : List ℕ) (i v u x : ℕ) → i < length xs → i ≤ 9 → (i ≡ 9 → get_or xs i 0 % 128 ≤ 1)
    → v ≡ groups (take i xs) → u ≡ 128 ^ i → x ≡ get_or xs i 0 % 128 → v + u * x < 2 ^ 64
next_fits xs i v u x h le tenth e p g =
    let fits = sum_fits i v (get_or xs i 0) le tenth (value_lt xs i v h e) in
    let same : u * x ≡ 128 ^ i * (get_or xs i 0 % 128) = ap (λ k. k * x) p ∙ ap (λ k. 128 ^ i * k) g in
    omega (arith, fits, same)

pub next_unit : (i u m : ℕ) → u ≡ 128 ^ i → m ≡ 128 → u * m ≡ 128 ^ (i + 1)
next_unit i u m p e =
    ap (λ k. k * m) p ∙ ap (λ k. 128 ^ i * k) e ∙ sym (pow-suc 128 i) ∙ ap (λ k. 128 ^ k) (omega arith)

pub more_continues : (xs : List ℕ) (i : ℕ) → i < length xs → Continues (take i xs) → 128 ≤ get_or xs i 0
    → Continues (take (i + 1) xs)
more_continues xs i h c b =
    let P : ℕ → Type 0 = λ x. 128 ≤ x in
    let one = All-append P (take i xs) (get_or xs i 0 ∷ []) c (All-cons P (get_or xs i 0) [] b (All-nil P)) in
    subst Continues (sym (take_more xs i 0 h)) one

-- an integer ends with the byte at index n
pub whole_front : (i : Profile) (xs : List ℕ) (n v : ℕ) → n < length xs → n < most_bytes i → Continues (take n xs)
    → v ≡ groups (take (n + 1) xs) → v < 2 ^ 64 → get_or xs n 0 < 128 → FirstBytesSay (IsUnsigned i) xs (n + 1) (Ok v)
whole_front i xs n v h few c e fits ends =
    let l : length (take n xs) ≡ n = omega (arith, length-take {A = ℕ}) in
    record {
      bytes = take (n + 1) xs;
      rest = drop (n + 1) xs;
      says = record {
        front = take n xs;
        last = get_or xs n 0;
        bytes = take_more xs n 0 h;
        continues = c;
        ends = ends;
        few = omega (arith, l, few);
        value = e;
        fits = fits;
      };
      whole = sym (take-append-drop (n + 1) xs);
      count = omega (arith, length-take {A = ℕ});
    }

-- the byte at index n shows that no integer begins with the bytes
pub too_large_front : (i : Profile) (xs : List ℕ) (n : ℕ) → n < length xs → n < most_bytes i → Continues (take n xs)
    → groups (take n xs) < 2 ^ 64
    → ((2 ^ 64 ≤ groups (take (n + 1) xs)) ⊎ ((128 ≤ get_or xs n 0) × (n + 1 ≡ most_bytes i)))
    → FirstBytesSay (IsUnsigned i) xs (n + 1) (Err IntegerTooLarge)
too_large_front i xs n h few c fits decided =
    let l : length (take n xs) ≡ n = omega (arith, length-take {A = ℕ}) in
    let all : length (take (n + 1) xs) ≡ n + 1 = omega (arith, length-take {A = ℕ}) in
    record {
      bytes = take (n + 1) xs;
      rest = drop (n + 1) xs;
      says = (
        refl,
        record {
          front = take n xs;
          last = get_or xs n 0;
          bytes = take_more xs n 0 h;
          continues = c;
          few = omega (arith, l, few);
          fits = fits;
          decided = elim decided [ inl large ↦ inl large | inr full ↦ inr (full.0, all ∙ full.1) ];
        },
      );
      whole = sym (take-append-drop (n + 1) xs);
      count = all;
    }

-- a tenth group that isn't 0 or 1 is too large
pub tenth_large : (xs : List ℕ) → 9 < length xs → 1 < get_or xs 9 0 % 128 → 2 ^ 64 ≤ groups (take 10 xs)
tenth_large xs h above =
    let s = one_more xs 9 (groups (take 9 xs)) (get_or xs 9 0) h refl refl in
    omega (arith, s, above)

-- after ten groups, a group that isn't zero is too large
pub later_large : (xs : List ℕ) (n : ℕ) → n < length xs → 10 ≤ n → 0 < get_or xs n 0 % 128
    → 2 ^ 64 ≤ groups (take (n + 1) xs)
later_large xs n h late above =
    let s = one_more xs n (groups (take n xs)) (get_or xs n 0) h refl refl in
    let high : 128 ^ 10 ≤ 128 ^ n = pow-le-pow_right {n = 128} (omega arith) {i = 10} {j = n} late in
    let some : 128 ^ n * 1 ≤ 128 ^ n * (get_or xs n 0 % 128) = mul-le-mul_left (128 ^ n) (omega (arith, above)) in
    omega (arith, s, high, some)

-- and one that is zero adds nothing
pub zero_group : (xs : List ℕ) (n v : ℕ) → n < length xs → v ≡ groups (take n xs) → get_or xs n 0 % 128 ≡ 0
    → v ≡ groups (take (n + 1) xs)
zero_group xs n v h e zero =
    let s = one_more xs n v (get_or xs n 0) h e refl in
    let none : 128 ^ n * (get_or xs n 0 % 128) ≡ 0 = rw zero (omega arith) in
    omega (arith, s, none)
