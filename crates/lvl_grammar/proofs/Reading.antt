-- How a stream is read: from its beginning, one record at a time.
use Rattle.std.proofs.Common.{◌≡◌, ℕ, ◌+◌, ◌-◌, ◌<◌, ◌≤◌, List, [], ◌∷◌, ◌++◌, length, take, drop, refl, sym, ap, ◌∙◌}
use Rattle.std.proofs.Common.{subst}
use Rattle.std.proofs.Common.{append_assoc, arith, length-append, length-take}
use Rattle.std.specs.Prelude.{Option, Some}
use Rattle.std.proofs.lemmas.List.{take-append-drop}
use Rattle.lvl_grammar.specs.Grammar.{Grammar}
use Rattle.lvl_grammar.specs.Front.{IsFront}
use Rattle.lvl_grammar.specs.Refused.{Faults, IsFrontAt, IsUnread}
use Rattle.lvl_grammar.specs.inside.ReadTo.{ReadTo}
use Rattle.lvl_grammar.proofs.Spelled.{spells_join, follow_join}
use Rattle.lvl_grammar.proofs.Stuck.{parts_at}

-- at the beginning nothing has been read
pub reads_begin : {R : Type 0} (G : Grammar R) (xs : List ℕ) (Has : List R → Type 0) (left : Option (List ℕ))
    → left ≡ Some xs → Has [] → ReadTo G xs 0 Has left
reads_begin G xs Has left e h = record {
  records = [];
  front = record { spelled = refl; followed = tt; within = omega arith };
  holds = h;
  left_is = e;
  within = omega arith;
}

-- if the reader failed, what was read before is a front
pub unread_front : {R K : Type 0} {G : Grammar R} (F : Faults G K) (xs : List ℕ) (left : Option (List ℕ)) (at : ℕ)
    → IsUnread F xs left at → IsFrontAt G xs at
unread_front F xs left at u = record { within = u.within; records = u.records; front = u.front }

-- a reader that fails after some records has given the first of the bytes that follow them
pub reads_unread : {R K : Type 0} {G : Grammar R} (F : Faults G K) (xs : List ℕ) (at : ℕ) (Has : List R → Type 0)
    (was left : Option (List ℕ)) (to : ReadTo G xs at Has was) (given rest : List ℕ)
    → drop at xs ≡ given ++ rest → left ≡ Some rest → (0 < length given → F.begun to.records given)
    → IsUnread F xs left at
reads_unread F xs at Has was left to given rest parts is begun = record {
  within = to.within;
  records = to.records;
  front = to.front;
  given = given;
  rest = rest;
  parts = parts;
  left_is = is;
  begun = begun;
}

-- a front followed by one more record
pub front_on : {R : Type 0} (G : Grammar R) (bytes text : List ℕ) (rs : List R) (r : R) → IsFront G bytes rs
    → G.spells rs text r → G.follows rs r → length (bytes ++ text) ≤ G.limit → IsFront G (bytes ++ text) (rs ++ r ∷ [])
front_on G bytes text rs r f s g l = record {
  spelled = spells_join G [] bytes text rs r f.spelled s;
  followed = follow_join G [] rs r f.followed g;
  within = l;
}

-- reading one more record
pub reads_on : {R : Type 0} (G : Grammar R) (xs : List ℕ) (at : ℕ) (Has Has' : List R → Type 0)
    (left : Option (List ℕ)) (to : ReadTo G xs at Has left) (r : R) (text rest : List ℕ)
    → drop at xs ≡ text ++ rest → G.spells to.records text r → G.follows to.records r
    → length text ≤ G.limit - at → Has' (to.records ++ r ∷ []) → ReadTo G xs (at + length text) Has' (Some rest)
reads_on G xs at Has Has' left to r text rest here s g l h =
    let n : length (take at xs) ≡ at = omega (arith, length-take at xs, to.within) in
    let all : xs ≡ (take at xs ++ text) ++ rest = sym (take-append-drop at xs) ∙ ap (λ l. take at xs ++ l) here
    ∙ sym (append_assoc (take at xs) text rest) in
    let m : at + length text ≡ length (take at xs ++ text) = omega (arith, length-append (take at xs) text, n) in
    let cut = parts_at xs (take at xs ++ text) rest (at + length text) all m in
    let front : IsFront G (take at xs ++ text) (to.records ++ r ∷ []) = front_on G (take at xs) text to.records r
    to.front s g (omega (arith, m, n, l, to.front.within)) in
    record {
      records = to.records ++ r ∷ [];
      front = subst (λ l. IsFront G l (to.records ++ r ∷ [])) (sym cut.0) front;
      holds = h;
      left_is = ap (λ (l : List ℕ). Some l) (sym cut.1);
      within = omega (arith, ap length all, length-append (take at xs ++ text) rest, m);
    }
