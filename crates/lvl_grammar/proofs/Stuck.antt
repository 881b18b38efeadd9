-- If a rule is breached, or the input ends within a record, it is no whole file.
use Rattle.std.proofs.Common.{◌≡◌, ℕ, ◌-◌, ◌<◌, ◌≤◌, List, [], ◌∷◌, ◌++◌, length, take, drop, sym, ap, ◌∙◌, subst}
use Rattle.std.proofs.Common.{append_assoc, inl, inr, arith, length-append, length-take, length-drop}
use Rattle.std.specs.Prelude.{Option}
use Rattle.std.proofs.Math.Seq.{take-append_seam, drop-append_seam}
use Rattle.std.proofs.lemmas.List.{append-nil, append_cancel_left, take-append-drop}
use Rattle.lvl_io.specs.Known.{Agree}
use Rattle.lvl_grammar.specs.Grammar.{Grammar}
use Rattle.lvl_grammar.specs.Front.{SpellsAll, FollowAll, IsFront, SpellsWhole, SpellsNothing}
use Rattle.lvl_grammar.specs.Refused.{Faults, IsStuck, IsBreached, IsTruncated, IsHopeless}
use Rattle.lvl_grammar.specs.inside.ReadTo.{IsSeenWrong}
use Rattle.lvl_grammar.proofs.Agreeing.{agree_ends, ends_agree}
use Rattle.lvl_grammar.proofs.Laws.{IsGrammar, AreFaults, one_reading, goes_same}

-- a record that goes on from a front, agrees with the bytes after it, and is within the limit
record IsNext {R : Type 0} (G : Grammar R) (records : List R) (room : ℕ) (ys : List ℕ) : Type 0 where
  r : R
  text : List ℕ
  spelled : G.spells records text r
  followed : G.follows records r
  agrees : Agree text ys
  within : length text ≤ room

next_of : {R : Type 0} (G : Grammar R) (front ys bytes x y : List ℕ) (rs ss more : List R) (tail : List ℕ)
    → SpellsAll G rs tail more → FollowAll G rs more
    → bytes ≡ front ++ tail → length front < length bytes → length bytes ≤ G.limit → front ++ (ys ++ x) ≡ bytes ++ y
    → IsNext G rs (G.limit - length front) ys
next_of G front ys bytes x y rs ss [] tail p f e l w h =
    absurd (omega (arith, l, ap length e, length-append front tail, ap length p))
next_of G front ys bytes x y rs ss (r ∷ more) tail p f e l w h =
    let g : front ++ (ys ++ x) ≡ front ++ (p.0 ++ (p.1 ++ y)) = h ∙ ap (λ i. i ++ y) (e ∙ ap (λ i. front ++ i) p.4)
    ∙ append_assoc front (p.0 ++ p.1) y ∙ ap (λ i. front ++ i) (append_assoc p.0 p.1 y) in
    record {
      r = r;
      text = p.0;
      spelled = p.2;
      followed = f.0;
      agrees = ends_agree p.0 ys (p.1 ++ y) x (sym (append_cancel_left front (ys ++ x) (p.0 ++ (p.1 ++ y)) g));
      within = omega (arith, w, ap length e, length-append front tail, ap length p.4, length-append p.0 p.1);
    }

-- a longer front that agrees with the input has a next record
goes_on : {R : Type 0} (G : Grammar R) → IsGrammar G → (xs : List ℕ) (at : ℕ) (rs ss : List R) (bytes : List ℕ)
    → at ≤ length xs → IsFront G (take at xs) rs → IsFront G bytes ss → at < length bytes → Agree bytes xs
    → IsNext G rs (G.limit - at) (drop at xs)
goes_on G is xs at rs ss bytes within front next long agree =
    let q = agree_ends bytes xs agree in
    let n : length (take at xs) ≡ at = omega (arith, length-take at xs, within) in
    let whole : take at xs ++ (drop at xs ++ q.1) ≡ bytes ++ q.0 = sym (append_assoc (take at xs) (drop at xs) q.1)
    ∙ ap (λ l. l ++ q.1) (take-append-drop at xs) ∙ sym q.2 in
    subst (λ i. IsNext G rs (G.limit - i) (drop at xs)) n
    (elim (one_reading G is [] rs ss (take at xs) bytes (drop at xs ++ q.1) q.0 front.spelled front.followed
    next.spelled next.followed whole) [
      | inl m ↦ next_of G (take at xs) (drop at xs) bytes q.1 q.0 rs ss m.more m.tail m.spelled m.followed m.bytes_are
          (omega (arith, n, long)) next.within whole
      | inr m ↦ absurd (omega (arith, ap length m.bytes_are, length-append bytes m.tail, n, long))
    ])

-- if a rule is breached, the input is stuck
pub law_stuck : {R K : Type 0} {G : Grammar R} (F : Faults G K) → AreFaults F
    → (xs : List ℕ) (at : ℕ) (rs : List R) (k : K)
    → at ≤ length xs → IsFront G (take at xs) rs → F.wrong rs (G.limit - at) (drop at xs) k → IsStuck G xs at
law_stuck {G = G} F is xs at rs k within front wrong = record {
  some = omega (arith, is.here rs (G.limit - at) (drop at xs) k wrong, length-drop at xs, within);
  records = rs;
  front = front;
  none = λ ss bytes next long agree.
      let n = goes_on G is.grammar xs at rs ss bytes within front next long agree in
      is.stops rs (G.limit - at) (drop at xs) n.text n.r k wrong n.spelled n.followed n.agrees n.within;
}

-- a stuck input is no whole file
pub stuck_none : {R : Type 0} (G : Grammar R) (xs : List ℕ) (at : ℕ) → IsStuck G xs at → SpellsNothing G xs
stuck_none G xs at s records p = s.none records xs p.front s.some ([], inl (sym (append-nil xs)))

cut_by : {R K : Type 0} {G : Grammar R} (F : Faults G K) → AreFaults F
    → (xs : List ℕ) (at : ℕ) (t : IsTruncated F xs at) (records : List R) → SpellsWhole G xs records
    → (more : List R) (tail : List ℕ)
    → records ≡ t.records ++ more → xs ≡ take at xs ++ tail → SpellsAll G t.records tail more
    → FollowAll G t.records more → ⊥
cut_by {G = G} F is xs at t records p [] tail e b s f = t.unended (subst G.ends (e ∙ append-nil t.records) p.whole)
cut_by {G = G} F is xs at t records p (r ∷ more) tail e b s f =
    let here : drop at xs ≡ s.0 ++ s.1 = append_cancel_left (take at xs) (drop at xs) (s.0 ++ s.1)
    (take-append-drop at xs ∙ b ∙ ap (λ l. take at xs ++ l) s.4) in
    is.cut t.records (drop at xs) s.0 s.1 r t.cut t.unended s.2 f.0 here

-- nor is a truncated one
pub truncated_none : {R K : Type 0} {G : Grammar R} (F : Faults G K) → AreFaults F
    → (xs : List ℕ) (at : ℕ) → IsTruncated F xs at
    → SpellsNothing G xs
truncated_none {G = G} F is xs at t records p =
    elim (one_reading G is.grammar [] t.records records (take at xs) xs (drop at xs) [] t.front.spelled t.front.followed
    p.front.spelled p.front.followed (take-append-drop at xs ∙ sym (append-nil xs))) [
      | inl m ↦ cut_by F is xs at t records p m.more m.tail m.records_are m.bytes_are m.spelled m.followed
      | inr m ↦
          t.unended (subst G.ends (sym (goes_same G is.grammar xs (take at xs) records t.records
          (omega (arith, length-take at xs, t.within)) m)) p.whole)
    ]

-- what is seen to be wrong breaches a rule, and the input is stuck
pub seen_stuck : {R K : Type 0} {G : Grammar R} (F : Faults G K) → AreFaults F
    → (xs : List ℕ) (at : ℕ) (left : Option (List ℕ)) (k : K) → IsSeenWrong F xs at left k
    → IsStuck G xs at × IsBreached F xs at k
seen_stuck {G = G} F is xs at left k s =
    let wrong : F.wrong s.records (G.limit - at) (drop at xs) k = subst (λ l. F.wrong s.records (G.limit - at) l k)
    (sym s.parts) (s.wrong s.rest) in (
      law_stuck F is xs at s.records k s.within s.front wrong,
      record {
        records = s.records;
        front = s.front;
        wrong =
            wrong;
        only = s.only;
      },
    )

-- an input in two parts
pub parts_at : (xs a b : List ℕ) (n : ℕ) → xs ≡ a ++ b → n ≡ length a → (take n xs ≡ a) × (drop n xs ≡ b)
parts_at xs a b n e h = (
  ap (take n) e ∙ ap (λ i. take i (a ++ b)) h ∙ take-append_seam a b,
  ap (drop n) e ∙ ap (λ i. drop i (a ++ b)) h
      ∙ drop-append_seam a b,
)

-- no whole file begins with the bytes that were taken
pub seen_hopeless : {R K : Type 0} {G : Grammar R} (F : Faults G K) → AreFaults F
    → (xs : List ℕ) (at : ℕ) (left : Option (List ℕ)) (k : K) → IsSeenWrong F xs at left k → IsHopeless G xs left
seen_hopeless {G = G} F is xs at left k s = record {
  taken = take at xs ++ s.seen;
  some =
      let seen = is.here s.records (G.limit - at) (s.seen ++ []) k (s.wrong []) in
      omega (arith, seen, length-append s.seen [], length-append (take at xs) s.seen);
  rest = s.rest;
  parts = sym (take-append-drop at xs) ∙ ap (λ l. take at xs ++ l) s.parts
      ∙ sym (append_assoc (take at xs) s.seen s.rest);
  left_is = s.left_is;
  none = λ more.
      let zs = (take at xs ++ s.seen) ++ more in
      let n : at ≡ length (take at xs) = omega (arith, length-take at xs, s.within) in
      let z = parts_at zs (take at xs) (s.seen ++ more) at (append_assoc (take at xs) s.seen more) n in
      let front : IsFront G (take at zs) s.records = subst (λ l. IsFront G l s.records) (sym z.0) s.front in
      let wrong : F.wrong s.records (G.limit - at) (drop at zs) k = subst (λ l. F.wrong s.records (G.limit - at) l k)
      (sym z.1) (s.wrong more) in
      let within : at ≤ length zs =
      omega (arith, n, length-append (take at xs) s.seen, length-append (take at xs ++ s.seen) more) in
      stuck_none G zs at (law_stuck F is zs at s.records k within front wrong);
}
