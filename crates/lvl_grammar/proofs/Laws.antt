-- What a format has to prove, and the law of one reading: of two fronts that agree, one begins with the other.
use Rattle.std.proofs.Common.{◌≡◌, ℕ, ◌<◌, ◌≤◌, ◌⊎◌, List, [], ◌∷◌, ◌++◌, length, refl, sym, ap, ◌∙◌, subst}
use Rattle.std.proofs.Common.{append_assoc, inl, inr, arith, length-append}
use Rattle.std.proofs.lemmas.List.{append-nil, append_cancel_left}
use Rattle.lvl_io.specs.Known.{Agree}
use Rattle.lvl_grammar.specs.Grammar.{Grammar}
use Rattle.lvl_grammar.specs.Front.{SpellsAll, FollowAll, IsFront, SpellsWhole}
use Rattle.lvl_grammar.specs.Refused.{Faults}

-- what a format has to prove
pub record IsGrammar {R : Type 0} (G : Grammar R) : Type 0 where
  -- after the same records, if two lists of bytes begin alike, they begin with the same record, spelled by the same
  -- bytes
  pub decided : (before : List R) (r s : R) (a b x y : List ℕ) → G.spells before a r → G.spells before b s
      → G.follows before r → G.follows before s → a ++ x ≡ b ++ y → (a ≡ b) × (r ≡ s)
  -- a record has at least one byte
  pub some : (before : List R) (a : List ℕ) (r : R) → G.spells before a r → 0 < length a

-- and what of its faults
pub record AreFaults {R K : Type 0} {G : Grammar R} (F : Faults G K) : Type 0 where
  pub grammar : IsGrammar G
  -- a rule is breached only by bytes that are there
  pub here : (before : List R) (room : ℕ) (ys : List ℕ) (k : K) → F.wrong before room ys k → 0 < length ys
  -- bytes that breach a rule begin with no record that may follow
  pub stops : (before : List R) (room : ℕ) (ys text : List ℕ) (r : R) (k : K) → F.wrong before room ys k
      → G.spells before text r → G.follows before r → Agree text ys → length text ≤ room → ⊥
  -- nor does an unfinished beginning of a record, in a file that isn't whole
  pub cut : (before : List R) (ys text rest : List ℕ) (r : R) → F.begun before ys → ¬ G.ends before
      → G.spells before text r → G.follows before r → ys ≡ text ++ rest → ⊥

-- the second front begins with the first
pub record IsLongerFront {R : Type 0} (G : Grammar R) (before : List R) (a b : List ℕ) (rs ss : List R) : Type 0
  where
    pub more : List R
    pub tail : List ℕ
    pub records_are : ss ≡ rs ++ more
    pub bytes_are : b ≡ a ++ tail
    pub spelled : SpellsAll G (before ++ rs) tail more
    pub followed : FollowAll G (before ++ rs) more

from_nothing : {R : Type 0} (G : Grammar R) (before : List R) (a b : List ℕ) (ss : List R) → a ≡ []
    → SpellsAll G before b ss → FollowAll G before ss → IsLongerFront G before a b [] ss
from_nothing G before a b ss e p f = record {
  more = ss;
  tail = b;
  records_are = refl;
  bytes_are = ap (λ l. l ++ b) (sym e);
  spelled = subst (λ l. SpellsAll G l b ss) (sym (append-nil before)) p;
  followed = subst (λ l. FollowAll G l ss) (sym (append-nil before)) f;
}

one_more : {R : Type 0} (G : Grammar R) (before : List R) (r : R) (first a b a' b' : List ℕ) (rs ss : List R)
    → a' ≡ first ++ a → b' ≡ first ++ b → IsLongerFront G (before ++ r ∷ []) a b rs ss
    → IsLongerFront G before a' b' (r ∷ rs) (r ∷ ss)
one_more G before r first a b a' b' rs ss e f h = record {
  more = h.more;
  tail = h.tail;
  records_are = ap (λ l. r ∷ l) h.records_are;
  bytes_are = f ∙ ap (λ l. first ++ l) h.bytes_are ∙ sym (append_assoc first a h.tail) ∙ ap (λ l. l ++ h.tail) (sym e);
  spelled = subst (λ l. SpellsAll G l h.tail h.more) (append_assoc before (r ∷ []) rs) h.spelled;
  followed = subst (λ l. FollowAll G l h.more) (append_assoc before (r ∷ []) rs) h.followed;
}

-- of two fronts that agree, one begins with the other
pub one_reading : {R : Type 0} (G : Grammar R) → IsGrammar G → (before : List R) (rs ss : List R) (a b x y : List ℕ)
    → SpellsAll G before a rs → FollowAll G before rs → SpellsAll G before b ss → FollowAll G before ss
    → a ++ x ≡ b ++ y
    → IsLongerFront G before a b rs ss ⊎ IsLongerFront G before b a ss rs
one_reading G is before [] ss a b x y p f q g e = inl (from_nothing G before a b ss p q g)
one_reading G is before (r ∷ rs) [] a b x y p f q g e = inr (from_nothing G before b a (r ∷ rs) q p f)
one_reading G is before (r ∷ rs) (s ∷ ss) a b x y p f q g e =
    let h : p.0 ++ (p.1 ++ x) ≡ q.0 ++ (q.1 ++ y) = sym (append_assoc p.0 p.1 x) ∙ ap (λ l. l ++ x) (sym p.4) ∙ e
    ∙ ap (λ l. l ++ y) q.4 ∙ append_assoc q.0 q.1 y in
    let same = is.decided before r s p.0 q.0 (p.1 ++ x) (q.1 ++ y) p.2 q.2 f.0 g.0 h in
    let rest : p.1 ++ x ≡ q.1 ++ y = append_cancel_left q.0 (p.1 ++ x) (q.1 ++ y)
    (ap (λ l. l ++ (p.1 ++ x)) (sym same.0) ∙ h) in
    let q' : SpellsAll G (before ++ r ∷ []) q.1 ss = subst (λ i. SpellsAll G (before ++ i ∷ []) q.1 ss) (sym same.1)
    q.3 in
    let g' : FollowAll G (before ++ r ∷ []) ss = subst (λ i. FollowAll G (before ++ i ∷ []) ss) (sym same.1) g.1 in
    let b' : b ≡ p.0 ++ q.1 = q.4 ∙ ap (λ l. l ++ q.1) (sym same.0) in
    subst (λ i. IsLongerFront G before a b (r ∷ rs) (i ∷ ss) ⊎ IsLongerFront G before b a (i ∷ ss) (r ∷ rs)) same.1
    (elim (one_reading G is (before ++ r ∷ []) rs ss p.1 q.1 x y p.3 f.1 q' g' rest) [
      | inl m ↦ inl (one_more G before r p.0 p.1 q.1 a b rs ss p.4 b' m)
      | inr m ↦ inr (one_more G before r p.0 q.1 p.1 b a ss rs b' p.4 m)
    ])

-- an empty list of bytes spells no record
pub spells_empty : {R : Type 0} (G : Grammar R) → IsGrammar G → (before : List R) (bytes : List ℕ) (rs : List R)
    → length bytes ≡ 0 → SpellsAll G before bytes rs → rs ≡ []
spells_empty G is before bytes [] n p = refl
spells_empty G is before bytes (r ∷ rs) n p =
    absurd (omega (arith, n, is.some before p.0 r p.2, ap length p.4, length-append p.0 p.1))

-- a front that begins with another of at least its length has the same records
pub goes_same : {R : Type 0} (G : Grammar R) → IsGrammar G → (a b : List ℕ) (rs ss : List R) → length b ≤ length a
    → IsLongerFront G [] a b rs ss → ss ≡ rs
goes_same G is a b rs ss l h =
    let n : length h.tail ≡ 0 = omega (arith, ap length h.bytes_are, length-append a h.tail, l) in
    h.records_are ∙ ap (λ m. rs ++ m) (spells_empty G is ([] ++ rs) h.tail h.more n h.spelled) ∙ append-nil rs

-- the bytes of a front decide its records
pub same_records : {R : Type 0} (G : Grammar R) → IsGrammar G → (xs : List ℕ) (rs ss : List R) → IsFront G xs rs
    → IsFront G xs ss → rs ≡ ss
same_records G is xs rs ss p q =
    elim (one_reading G is [] rs ss xs xs [] [] p.spelled p.followed q.spelled q.followed refl) [
      | inl m ↦ sym (goes_same G is xs xs rs ss (omega arith) m)
      | inr m ↦ goes_same G is xs xs ss rs (omega arith) m
    ]

-- a file has one reading
pub one_whole : {R : Type 0} (G : Grammar R) → IsGrammar G → (xs : List ℕ) (rs ss : List R) → SpellsWhole G xs rs
    → SpellsWhole G xs ss → rs ≡ ss
one_whole G is xs rs ss p q = same_records G is xs rs ss p.front q.front
