-- Bytes in hand, taken as values of which each is one byte.
use Rattle.std.proofs.Common.{◌≡◌, ℕ, zero, suc, ◌+◌, ◌-◌, ◌<◌, ◌≤◌, List, [], ◌∷◌, ◌++◌, Ok, Some, refl, sym, ap, ◌∙◌, arith}
use Rattle.std.proofs.Common.{take, drop, length, All, append_assoc, append-nil, false, subst}
use Rattle.std.specs.Prelude.{Option}
use Rattle.std.proofs.lemmas.List.Elements.{All-head, All-tail}
use Rattle.std.specs.Borrow.{GName}
use Rattle.std.specs.Io.KnownBytes.{prepend_known}
use Rattle.lvl_io.specs.Spelling.{FirstBytesSay}
use Rattle.lvl_io.proofs.Known.{known_parts}
use Rattle.lvl_profile.specs.declared.profile.Profile.{Profile}
use Rattle.oasis_values.specs.Input.{has_failed, room_left}
use Rattle.oasis_values.specs.Reads.{Reads}
use Rattle.oasis_values.specs.Spelling.{Spelling}
use Rattle.oasis_values.specs.Known.{Known}
use Rattle.oasis_values.specs.Texts.{character, IsCharacter}
use Rattle.oasis_values.specs.inside.Moved.{HasMovedOn}
use Rattle.oasis_values.proofs.Found.{reads_found}
use Rattle.oasis_values.proofs.Loops.{Going, going_on, going_as}
use Rattle.oasis_values.specs.declared.fault.ValueFault.TheVariants.{StringByte}
use Rattle.oasis_values.specs.declared.input.Input.{Input}
use Rattle.oasis_values.specs.declared.text.Text.{Text}

-- a byte that a string of the kind may have says itself
says_itself : (kind : Text) (profile : Profile) (c : ℕ) (xs : List ℕ) → character kind c ≡ Some c
    → FirstBytesSay (IsCharacter kind profile) (c ∷ xs) 1 (Ok c)
says_itself kind profile c xs any = record {
  bytes = c ∷ [];
  rest = xs;
  says = record {
    value = Ok c;
    first = c ∷ [];
    second = [];
    first_says = refl;
    second_says = subst (λ o. Known o StringByte profile [] (Ok c)) (sym any) (refl, refl);
    joined = refl;
  };
  whole = refl;
  count = refl;
}

first_in_hand : (kind : Text) (profile : Profile) (front : List ℕ) (known : Option (List ℕ)) (c : ℕ)
    (hand xs : List ℕ) → front ≡ c ∷ hand → prepend_known front known ≡ Some xs → character kind c ≡ Some c
    → FirstBytesSay (IsCharacter kind profile) xs 1 (Ok c)
first_in_hand kind profile front known c hand xs e k any =
    let p = known_parts front known xs k in
    let whole : (c ∷ (hand ++ p.0)) ≡ xs = ap (λ l. l ++ p.0) (sym e) ∙ p.2 in
    subst (λ l. FirstBytesSay (IsCharacter kind profile) l 1 (Ok c)) whole (says_itself kind profile c (hand ++ p.0) any)

one_in_hand : {R : Type 0} {remaining : R → Option (List ℕ)} {errors : R → ℕ} {lent : R → List GName}
    (kind : Text) (i j : Input R) (c : ℕ) (hand : List ℕ) → i.ahead ≡ c ∷ hand → has_failed i ≡ false
    → HasMovedOn 1 i j → character kind c ≡ Some c
    → Reads remaining errors lent (IsCharacter kind) i j (Ok c)
one_in_hand {remaining = remaining} {errors = errors} {lent = lent} kind i j c hand ahead live moved any =
    reads_found remaining errors lent (IsCharacter kind) i j i.ahead c 1 live (moved.failed ∙ live)
    moved.ahead moved.offset moved.profile
    (λ xs k. subst (λ r. prepend_known i.ahead (remaining r) ≡ Some xs) (sym moved.reader) k)
    moved.had moved.within
    (λ xs k. first_in_hand kind i.profile i.ahead (remaining i.reader) c hand xs ahead k any)
    (ap errors moved.reader) (ap lent moved.reader)

-- the state after one byte in hand
abbrev after_one : {R : Type 0} (i : Input R) (hand : List ℕ) → 1 ≤ room_left i → Input R
after_one i hand room = record {
  reader = i.reader;
  ahead = hand;
  offset = i.offset + 1;
  profile = i.profile;
  failed = i.failed;
  within = omega (arith, room);
}

-- as many values are left
going_left : {R A B : Type 0} {remaining : R → Option (List ℕ)} {errors : R → ℕ} {lent : R → List GName}
    {S : A → Spelling A} {show : A → B} {n : ℕ} {a : A} {first now : Input R} {left more : ℕ} {b : A} {said : List B}
    → left ≡ more → Going remaining errors lent S show n a first now left b said
    → Going remaining errors lent S show n a first now more b said
going_left {remaining = remaining} {errors = errors} {lent = lent} {S = S} {show = show} {n = n} {a = a}
    {first = first} {now = now} {b = b} {said = said} e g =
    subst (λ i. Going remaining errors lent S show n a first now i b said) e g

-- bytes in hand were taken as the next values
going_hand : {R : Type 0} {remaining : R → Option (List ℕ)} {errors : R → ℕ} {lent : R → List GName}
    {n a b : ℕ} {first : Input R} {said : List ℕ} (kind : Text) (k m : ℕ) (now new : Input R) (hand : List ℕ)
    → Going remaining errors lent (λ _. IsCharacter kind) (λ c. c) n a first now (suc k + m) b said
    → now.ahead ≡ hand → HasMovedOn (suc k) now new → All (λ c. character kind c ≡ Some c) (take (suc k) hand)
    → (last : ℕ) × Going remaining errors lent (λ _. IsCharacter kind) (λ c. c) n a first new m last
    (said ++ take (suc k) hand)
going_hand kind k m now new [] g e moved any = absurd (omega (arith, moved.had, ap length e))
going_hand kind zero m now new (c ∷ hand) g e moved any =
    (c, going_on m g (omega arith) (one_in_hand kind now new c hand e g.live moved (All-head (λ x. character kind x ≡ Some x) c [] any)))
going_hand {said = said} kind (suc k) m now new (c ∷ hand) g e moved any =
    let room : 1 ≤ room_left now = omega (arith, moved.within) in
    let mid = after_one now hand room in
    let once : HasMovedOn 1 now mid = record {
      had = omega (arith, moved.had);
      within = room;
      ahead = ap (drop 1) (sym e);
      offset = refl;
      profile = refl;
      failed = refl;
      reader = refl;
    } in
    let next = going_on (suc k + m) g (omega arith) (one_in_hand kind now mid c hand e g.live once (All-head (λ x. character kind x ≡ Some x) c (take (suc k) hand) any)) in
    let rest = going_hand kind k m mid new hand next refl (record {
      had = omega (arith, moved.had, ap length e);
      within = omega (arith, moved.within);
      ahead = moved.ahead ∙ ap (drop (suc (suc k))) e;
      offset = moved.offset ∙ omega arith;
      profile = moved.profile;
      failed = moved.failed;
      reader = moved.reader;
    }) (All-tail (λ x. character kind x ≡ Some x) c (take (suc k) hand) any) in (
      rest.0,
      going_as (append_assoc said (c ∷ []) (take (suc k) hand)) rest.1,
    )

-- the same, if none was taken too
pub going_taken : {R : Type 0} {remaining : R → Option (List ℕ)} {errors : R → ℕ} {lent : R → List GName}
    {n a b : ℕ} {first : Input R} {said : List ℕ} (kind : Text) (k left : ℕ) (now new : Input R)
    → Going remaining errors lent (λ _. IsCharacter kind) (λ c. c) n a first now left b said → k ≤ left
    → (k ≡ 0 → new ≡ now) → (0 < k → HasMovedOn k now new) → All (λ c. character kind c ≡ Some c) (take k now.ahead)
    → (last : ℕ) × Going remaining errors lent (λ _. IsCharacter kind) (λ c. c) n a first new (left - k) last
    (said ++ take k now.ahead)
going_taken {remaining = remaining} {errors = errors} {lent = lent} {n = n} {a = a} {b = b} {first = first}
    {said = said} kind zero left now new g within none moved any = (
      b,
      subst (λ i. Going remaining errors lent (λ _. IsCharacter kind) (λ c. c) n a first i (left - 0) b (said ++ []))
          (sym (none refl)) (going_left (omega arith) (going_as (sym (append-nil said)) g)),
    )
going_taken kind (suc k) left now new g within none moved any =
    let parts : left ≡ suc k + (left - suc k) = omega (arith, within) in
    going_hand kind k (left - suc k) now new now.ahead (going_left parts g) refl (moved (omega arith)) any
