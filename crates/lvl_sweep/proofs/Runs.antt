-- How a merge of two ranges begins and ends.
use Rattle.std.proofs.Common.{◌≡◌, ℕ, ◌+◌, ◌-◌, ◌<◌, ◌≤◌, zero, suc, false, List, ◌++◌, length, get_or, take, drop, ℤ}
use Rattle.std.proofs.Common.{◌<ℤ◌, ◌≤ℤ◌, All, Option, None, Some, refl, sym, ◌∙◌, ap, arith, inl, inr, subst}
use Rattle.std.specs.List.{AllWithin, SwappedAt}
use Rattle.std.specs.List.Sorted.{IsPermutation}
use Rattle.std.specs.Ordering.{int_cmp, is_lt}
use Rattle.std.proofs.lemmas.Int.{ints}
use Rattle.std.proofs.lemmas.Bool.{cases_lt}
use Rattle.std.proofs.lemmas.List.{length-take, length-drop, length-append, get_or-take, get_or-drop}
use Rattle.std.proofs.lemmas.List.Sorted.{All-permutation, IsPermutation-trans}
use Rattle.std.proofs.lemmas.Slice.{take-put_mid_below, between-put_mid}
use Rattle.lvl_sweep.specs.declared.edge.Edge.{Edge}
use Rattle.lvl_sweep.specs.declared.merge.Merge.{Merge}
use Rattle.lvl_sweep.specs.inside.Runs.{IsSameWithin, IsSameFrom, IsRenewed, IsMerging, IsEndOf}
use Rattle.lvl_sweep.proofs.Orders.{second_by}
use Rattle.lvl_sweep.proofs.Merges.{all_kept, rise_kept, part_of}

-- some edges are exchanged with others
pub record Exchanged (es fs : List Edge) (to from i : ℕ) : Type 0 where
  pub long : length fs ≡ length es
  pub permutation : IsPermutation es fs
  pub there : (k : ℕ) (d : Edge) → k < i → get_or fs (to + k) d ≡ get_or es (from + k) d
  pub back : (k : ℕ) (d : Edge) → k < i → get_or fs (from + k) d ≡ get_or es (to + k) d
  pub before : IsSameWithin es fs 0 to
  pub between : IsSameWithin es fs (to + i) from
  pub later : IsSameFrom es fs (from + i)

-- one more edge
pub exchanged_more : (es fs gs : List Edge) (to from count i : ℕ) → to + count ≤ from → i < count
    → Exchanged es fs to from i → SwappedAt fs gs (to + i) (from + i) → length gs ≡ length fs → IsPermutation fs gs
    → Exchanged es gs to from (i + 1)
exchanged_more es fs gs to from count i apart lt h s long moved = record {
  long = long ∙ h.long;
  permutation = IsPermutation-trans es fs gs h.permutation moved;
  there = λ k d near. elim (cases_lt k i) [
    | inl low ↦ s.2 (to + k) d (omega (arith, low)) (omega (arith, low, lt, apart)) ∙ h.there k d low
    | inr high ↦ let at : k ≡ i = omega arith in rw at (s.0 d ∙ h.later (from + i) d (omega arith))
  ];
  back = λ k d near. elim (cases_lt k i) [
    | inl low ↦ s.2 (from + k) d (omega (arith, low, lt, apart)) (omega (arith, low)) ∙ h.back k d low
    | inr high ↦ let at : k ≡ i = omega arith in
        rw at (s.1 d ∙ h.between (to + i) d (omega arith) (omega (arith, lt, apart)))
  ];
  before = λ k d le near. s.2 k d (omega (arith, near)) (omega (arith, near, apart, lt)) ∙ h.before k d le near;
  between = λ k d le near. s.2 k d (omega (arith, le)) (omega (arith, near)) ∙ h.between k d (omega (arith, le)) near;
  later = λ k d le. s.2 k d (omega (arith, le, apart, lt)) (omega (arith, le)) ∙ h.later k d (omega (arith, le));
}

pub none_within : (P : Edge → Type 0) (es : List Edge) (i j : ℕ) → j ≤ i → AllWithin P es i j
none_within P es i j h k d le lt = absurd (omega (arith, h, le, lt))

-- the edges that begin have changed places with edges that ended
pub start_exchanged : (es fs : List Edge) (y : ℤ) (from next end low : ℕ) (m : Merge) → IsRenewed es y from next end
    → end ≤ from + next → low + (end - next) ≡ from → Exchanged es fs low next (end - next)
    → m.low ≡ low → m.fresh ≡ from → m.from ≡ from → m.alive ≡ next → m.first ≡ end → m.end ≡ end → IsMerging fs y m
start_exchanged es fs y from next end low m h many is x mlow mfresh mfrom malive mfirst mend =
    let count : ℕ = end - next in
    let whole : next + count ≡ end = omega (arith, h.order.1) in
    let inner : low ≤ from = omega (arith, is) in
    let olds : IsSameWithin es fs from next = λ k d le lt. x.between k d (omega (arith, le, is)) lt in
    let lows : IsSameWithin es fs 0 low = x.before in
    let at_there : (k : ℕ) (d : Edge) → low ≤ k → k < from → get_or fs k d ≡ get_or es (next + (k - low)) d =
    λ k d le lt.
    let e : low + (k - low) ≡ k = omega (arith, le) in
    subst (λ (n : ℕ). get_or fs n d ≡ get_or es (next + (k - low)) d) e
    (x.there (k - low) d (omega (arith, le, lt, is))) in
    let at_back : (k : ℕ) (d : Edge) → next ≤ k → k < end → get_or fs k d ≡ get_or es (low + (k - next)) d =
    λ k d le lt.
    let e : next + (k - next) ≡ k = omega (arith, le) in
    subst (λ (n : ℕ). get_or fs n d ≡ get_or es (low + (k - next)) d) e (x.back (k - next) d (omega (arith, le, lt))) in
    let begun : AllWithin (λ e. e.low ≤ℤ y) fs 0 end = λ k d le lt.
    elim (cases_lt k low) [
      | inl a ↦ rw (lows k d le a) (h.begun k d le lt)
      | inr a ↦ elim (cases_lt k from) [
        | inl b ↦ rw (at_there k d a b) (h.begun (next + (k - low)) d (omega arith) (omega (arith, a, b, is)))
        | inr b ↦ elim (cases_lt k next) [
          | inl c ↦ rw (olds k d b c) (h.begun k d le lt)
          | inr c ↦
              rw (at_back k d c lt) (h.begun (low + (k - next)) d (omega arith)
              (omega (arith, c, lt, is, h.order.0, h.order.1)))
        ]
      ]
    ] in
    record {
      low = omega (arith, mlow, mfresh, inner);
      fresh = omega (arith, mfresh, mfrom);
      from = omega (arith, mfrom, malive, h.order.0);
      gap = omega (arith, mlow, mfresh, malive, mfirst, is, h.order.1);
      first = omega (arith, mfirst, mend);
      end = omega (arith, mend, x.long, h.order.2);
      begun = rw mend begun;
      ended =
          rw mlow (all_kept (λ e. e.high ≤ℤ y) es fs 0 low lows
          (part_of (λ e. e.high ≤ℤ y) es 0 from 0 low (omega arith) inner h.ended));
      ended_between = none_within (λ e. e.high ≤ℤ y) fs m.fresh m.from (omega (arith, mfresh, mfrom));
      ended_after =
          rw (malive, mfirst) (λ k d le lt. rw (at_back k d le lt)
          (h.ended (low + (k - next)) d (omega arith) (omega (arith, le, lt, is))));
      fresh_alive =
          rw (mlow, mfresh) (λ k d le lt. rw (at_there k d le lt)
          (h.fresh (next + (k - low)) d (omega arith) (omega (arith, le, lt, is))));
      put_alive = none_within (λ e. y <ℤ e.high) fs m.first m.end (omega (arith, mfirst, mend));
      rising_fresh =
          rw (mlow, mfresh) (λ i j d le on lt. rw (
            at_there i d le (omega (arith, on, lt)),
            at_there j d (omega (arith, le, on)) lt,
          ) (h.rising_fresh (next + (i - low)) (next + (j - low)) d (omega arith) (omega (arith, le, on))
          (omega (arith, le, on, lt, is))));
      rising = rw (mfrom, malive) (rise_kept es fs from next olds h.rising);
      rising_put = rw (mfirst, mend) (λ i j d le on lt. absurd (omega (arith, le, on, lt)));
      fresh_before = rw (mfirst, mend) (λ a b d le lt to far. absurd (omega (arith, to, far)));
      before = rw (mfirst, mend) (λ a b d le lt to far. absurd (omega (arith, to, far)));
    }

-- a list with a part of it replaced
abbrev pub part_put : ℕ → ℕ → List Edge → List Edge → List Edge
part_put a n es fs = take a es ++ (fs ++ drop n (drop a es))

put_before : (a n : ℕ) (es fs : List Edge) → a ≤ length es → IsSameWithin es (part_put a n es fs) 0 a
put_before a n es fs within k d le lt =
    sym (get_or-take a (part_put a n es fs) k d lt)
    ∙ (ap (λ (l : List Edge). get_or l k d) (take-put_mid_below a n es fs a (omega arith) within) ∙ get_or-take a es
    k d lt)

put_within : (a e : ℕ) (es fs : List Edge) → a ≤ length es → length fs ≡ e - a → (k : ℕ) (d : Edge) → a ≤ k → k < e
    → get_or (part_put a (e - a) es fs) k d ≡ get_or fs (k - a) d
put_within a e es fs within long k d le lt =
    let l : List Edge = part_put a (e - a) es fs in
    let same : take (e - a) (drop a l) ≡ fs = between-put_mid a (e - a) es fs e within long in
    let on : a + (k - a) ≡ k = omega (arith, le) in
    let there : get_or l (a + (k - a)) d ≡ get_or fs (k - a) d = sym (get_or-drop a l (k - a) d)
    ∙ (sym (get_or-take (e - a) (drop a l) (k - a) d (omega (arith, le, lt)))
    ∙ ap (λ (m : List Edge). get_or m (k - a) d) same) in
    subst (λ (m : ℕ). get_or l m d ≡ get_or fs (k - a) d) on there

-- an order that holds between consecutive items holds between all
rise_by : (es : List Edge) (n i j : ℕ) (d : Edge)
    → ((k : ℕ) → k + 1 < length es → (get_or es k d).x ≤ℤ (get_or es (k + 1) d).x) → j ≡ i + n → j < length es
    → (get_or es i d).x ≤ℤ (get_or es j d).x
rise_by es zero i j d next at lt = let e : j ≡ i = omega arith in rw e (omega (arith, ints))
rise_by es (suc n) i j d next at lt =
    let e : j ≡ (i + n) + 1 = omega arith in
    let before : (get_or es i d).x ≤ℤ (get_or es (i + n) d).x = rise_by es n i (i + n) d next refl
    (omega (arith, e, lt)) in
    let last : (get_or es (i + n) d).x ≤ℤ (get_or es ((i + n) + 1) d).x = next (i + n) (omega (arith, e, lt)) in
    rw e (omega (arith, ints, before, last))

long_put : (a e : ℕ) (es fs : List Edge) → a ≤ length es → length fs ≡ e - a → e ≤ length es → a ≤ e
    → length (part_put a (e - a) es fs) ≡ length es
long_put a e es fs within long far le =
    omega (
      arith,
      length-append (take a es) (fs ++ drop (e - a) (drop a es)),
      length-append fs (drop (e - a) (drop a es)),
      length-take a es,
      length-drop (e - a) (drop a es),
      length-drop a es,
      within,
      long,
      far,
      le,
    )

-- those alive and those that begin are sorted together
pub start_sorted : (es fs : List Edge) (y : ℤ) (from next end : ℕ) (m : Merge) → IsRenewed es y from next end
    → length fs ≡ length (take (end - from) (drop from es)) → IsPermutation (take (end - from) (drop from es)) fs
    → ((k : ℕ) (d : Edge) → 0 ≤ k → k + 1 < length fs → is_lt (int_cmp (get_or fs (k + 1) d).x (get_or fs k d).x)
    ≡ false)
    → m.low ≡ from → m.fresh ≡ from → m.from ≡ from → m.alive ≡ end → m.first ≡ end → m.end ≡ end
    → IsMerging (part_put from (end - from) es fs) y m
start_sorted es fs y from next end m h long moved order mlow mfresh mfrom malive mfirst mend =
    let gs : List Edge = part_put from (end - from) es fs in
    let within : from ≤ length es = omega (arith, h.order.0, h.order.1, h.order.2) in
    let many : length fs ≡ end - from = omega (
      arith,
      long,
      length-take (end - from) (drop from es),
      length-drop from es,
      h.order.2,
    ) in
    let begun_mid : All (λ e. e.low ≤ℤ y) (take (end - from) (drop from es)) = λ k d lt.
    let short : k < end - from = omega (arith, length-take (end - from) (drop from es), lt) in
    rw (get_or-take (end - from) (drop from es) k d short, get_or-drop from es k d)
    (h.begun (from + k) d (omega arith) (omega (arith, short))) in
    let begun_new : All (λ e. e.low ≤ℤ y) fs = All-permutation (λ e. e.low ≤ℤ y) (take (end - from) (drop from es)) fs
    moved begun_mid in
    let begun : AllWithin (λ e. e.low ≤ℤ y) gs 0 end = λ k d le lt.
    elim (cases_lt k from) [
      | inl a ↦ rw (put_before from (end - from) es fs within k d le a) (h.begun k d le lt)
      | inr a ↦ rw (put_within from end es fs within many k d a lt)
          (begun_new (k - from) d (omega (arith, many, a, lt)))
    ] in
    let rising : (i j : ℕ) (d : Edge) → i ≤ j → j < length fs → (get_or fs i d).x ≤ℤ (get_or fs j d).x = λ i j d on lt.
    rise_by fs (j - i) i j d (λ k short. second_by (get_or fs (k + 1) d).x (get_or fs k d).x
    (int_cmp (get_or fs (k + 1) d).x (get_or fs k d).x) refl (order k d (omega arith) short)) (omega (arith, on))
    lt in
    record {
      low = omega (arith, mlow, mfresh);
      fresh = omega (arith, mfresh, mfrom);
      from = omega (arith, mfrom, malive, h.order.0, h.order.1);
      gap = omega (arith, mlow, mfresh, malive, mfirst);
      first = omega (arith, mfirst, mend);
      end = omega (
        arith,
        mend,
        long_put from end es fs within many h.order.2 (omega (arith, h.order.0, h.order.1)),
        h.order.2,
      );
      begun = rw mend begun;
      ended = rw mlow (all_kept (λ e. e.high ≤ℤ y) es gs 0 from (put_before from (end - from) es fs within) h.ended);
      ended_between = none_within (λ e. e.high ≤ℤ y) gs m.fresh m.from (omega (arith, mfresh, mfrom));
      ended_after = none_within (λ e. e.high ≤ℤ y) gs m.alive m.first (omega (arith, malive, mfirst));
      fresh_alive = none_within (λ e. y <ℤ e.high) gs m.low m.fresh (omega (arith, mlow, mfresh));
      put_alive = none_within (λ e. y <ℤ e.high) gs m.first m.end (omega (arith, mfirst, mend));
      rising_fresh = rw (mlow, mfresh) (λ i j d le on lt. absurd (omega (arith, le, on, lt)));
      rising =
          rw (mfrom, malive) (λ i j d le on lt. rw (
            put_within from end es fs within many i d le (omega (arith, on, lt)),
            put_within from end es fs within many j d (omega (arith, le, on)) lt,
          ) (rising (i - from) (j - from) d (omega (arith, le, on)) (omega (arith, many, le, on, lt))));
      rising_put = rw (mfirst, mend) (λ i j d le on lt. absurd (omega (arith, le, on, lt)));
      fresh_before = rw (mfirst, mend) (λ a b d le lt to far. absurd (omega (arith, to, far)));
      before = rw (mfirst, mend) (λ a b d le lt to far. absurd (omega (arith, to, far)));
    }

same_value : (a b : ℤ) → Some a ≡ Some b → b ≤ℤ a
same_value a b e = let same : a ≡ b = cc in omega (arith, ints, same)

-- if no edge is put, the strip ends where the next edge begins
pub no_end : (es : List Edge) (first end : ℕ) (begins top : Option ℤ) → first ≡ end → top ≡ begins
    → IsEndOf es first end begins top
no_end es first end begins None e t = (omega (arith, e), sym t)
no_end es first end begins (Some b) e t = (
  none_within (λ e. b ≤ℤ e.high) es first end (omega (arith, e)),
  (λ a k. same_value a b (sym k ∙ sym t)),
  inr
      (sym t),
)
