-- Two ranges of edges, merged by abscissa from their ends, within the list that has both.
use Rattle.std.proofs.Common.{◌≡◌, ◌≢◌, ℕ, ◌+◌, ◌-◌, ◌<◌, ◌≤◌, false, List, length, get_or, ℤ, pos, ◌<ℤ◌, ◌≤ℤ◌, Option}
use Rattle.std.proofs.Common.{None, Some, IfSome, IfNone, sym, ◌∙◌, ap, arith, inl, inr}
use Rattle.std.specs.List.{AllWithin, SwappedAt}
use Rattle.std.proofs.lemmas.Int.{ints}
use Rattle.std.proofs.lemmas.Bool.{cases_lt, cases_eq}
use Rattle.std.proofs.lemmas.List.{get_or_default}
use Rattle.lvl_sweep.specs.declared.edge.Edge.{Edge}
use Rattle.lvl_sweep.specs.declared.merge.Merge.{Merge}
use Rattle.lvl_sweep.specs.inside.Edges.{IsLower}
use Rattle.lvl_sweep.specs.inside.Runs.{IsSameWithin, RiseWithin, AreBefore, IsEndOf, IsMerging, AreFresh, AreActive}

nothing : Edge
nothing = record { low = pos 0; x = pos 0; ring = 0; high = pos 0; up = false }

pub all_kept : (P : Edge → Type 0) (es fs : List Edge) (i j : ℕ) → IsSameWithin es fs i j → AllWithin P es i j
    → AllWithin P fs i j
all_kept P es fs i j same h k d le lt = rw (same k d le lt) (h k d le lt)

pub rise_kept : (es fs : List Edge) (i j : ℕ) → IsSameWithin es fs i j → RiseWithin es i j → RiseWithin fs i j
rise_kept es fs i j same h a b d le on lt = rw (same a d le (omega arith), same b d (omega arith) lt) (h a b d le on lt)

pub part_of : (P : Edge → Type 0) (es : List Edge) (i j p q : ℕ) → i ≤ p → q ≤ j → AllWithin P es i j
    → AllWithin P es p q
part_of P es i j p q low high h k d le lt = h k d (omega arith) (omega arith)

pub rise_part : (es : List Edge) (i j p q : ℕ) → i ≤ p → q ≤ j → RiseWithin es i j → RiseWithin es p q
rise_part es i j p q low high h a b d le on lt = h a b d (omega arith) on (omega arith)

-- an exchange leaves the other edges as they are
swapped_same : (es fs : List Edge) (p q i j : ℕ) → SwappedAt es fs p q → ((k : ℕ) → i ≤ k → k < j → (k ≢ p) × (k ≢ q))
    → IsSameWithin es fs i j
swapped_same es fs p q i j s off k d le lt = s.2 k d (off k le lt).0 (off k le lt).1

-- a test is still true of all edges of a range after two of them are exchanged
all_swapped : (P : Edge → Type 0) (es fs : List Edge) (p q i j : ℕ) → SwappedAt es fs p q → i ≤ p → p < j → i ≤ q
    → q < j → AllWithin P es i j → AllWithin P fs i j
all_swapped P es fs p q i j s pl ph ql qh h k d le lt =
    elim (cases_eq k p) [
      | inl at ↦ rw (at, s.0 d) (h q d ql qh)
      | inr off ↦ elim (cases_eq k q) [
        | inl at ↦ rw (at, s.1 d) (h p d pl ph)
        | inr far ↦ rw (s.2 k d off far) (h k d le lt)
      ]
    ]

-- the edge at index p is put at q, in front of a range
all_front : (P : Edge → Type 0) (es fs : List Edge) (p q first end : ℕ) → SwappedAt es fs p q → q + 1 ≡ first
    → p < first → ((d : Edge) → P (get_or es p d)) → AllWithin P es first end → AllWithin P fs q end
all_front P es fs p q first end s e near one h k d le lt =
    elim (cases_lt q k) [
      | inl far ↦ rw (s.2 k d (omega arith) (omega arith)) (h k d (omega arith) lt)
      | inr here ↦ let at : k ≡ q = omega arith in rw (at, s.1 d) (one d)
    ]

before_front : (es fs : List Edge) (p q first end i j : ℕ) → SwappedAt es fs p q → q + 1 ≡ first → p < first
    → IsSameWithin es fs i j
    → ((a : ℕ) (d : Edge) → i ≤ a → a < j → (get_or es a d).x ≤ℤ (get_or es p d).x) → AreBefore es i j first end
    → AreBefore fs i j q end
before_front es fs p q first end i j s e near same one h a b d le lt from to =
    elim (cases_lt q b) [
      | inl far ↦ rw (same a d le lt, s.2 b d (omega arith) (omega arith)) (h a b d le lt (omega arith) to)
      | inr here ↦ let at : b ≡ q = omega arith in rw (at, s.1 d, same a d le lt) (one a d le lt)
    ]

rise_front : (es fs : List Edge) (p q first end : ℕ) → SwappedAt es fs p q → q + 1 ≡ first → p < first
    → ((b : ℕ) (d : Edge) → first ≤ b → b < end → (get_or es p d).x ≤ℤ (get_or es b d).x) → RiseWithin es first end
    → RiseWithin fs q end
rise_front es fs p q first end s e near one h a b d le on lt =
    elim (cases_lt q a) [
      | inl far ↦ rw (s.2 a d (omega arith) (omega arith), s.2 b d (omega arith) (omega arith))
          (h a b d (omega arith) on lt)
      | inr here ↦
          let at : a ≡ q = omega arith in
          elim (cases_lt q b) [
            | inl later ↦ rw (at, s.1 d, s.2 b d (omega arith) (omega arith)) (one b d (omega arith) lt)
            | inr same ↦ let too : b ≡ q = omega arith in rw (at, too) (omega (arith, ints))
          ]
    ]

-- where the strip ends after one more edge is put
pub end_front : (es fs : List Edge) (p q first end : ℕ) (b old new : Option ℤ) → SwappedAt es fs p q → q + 1 ≡ first
    → p < first → first ≤ end → p < length es → IfNone new ⊥
    → IfSome new (λ t. (d : Edge) → IsLower (get_or es p d).high old t) → IsEndOf es first end b old
    → IsEndOf fs q end b new
end_front es fs p q first end b None None s e near le in' some low h = absurd some
end_front es fs p q first end b (Some l) None s e near le in' some low h = absurd some
end_front es fs p q first end b None (Some t) s e near le in' some low h = (
  all_front (λ e. t ≤ℤ e.high) es fs p q first end s e near (λ d. let is : t ≡ (get_or es p d).high = low d in
      omega (arith, ints, is)) (λ k d far lt. absurd (omega (arith, h.0, far, lt))),
  (λ a k. absurd (let clash : None ≡ Some a = sym h.1 ∙ k in cc)),
  inl (q, omega arith, omega arith, λ d. rw (s.1 d) (sym (low d))),
)
end_front es fs p q first end b (Some l) (Some t) s e near le in' some low h = (
  all_front (λ e. t ≤ℤ e.high) es fs p q first end s e near (λ d. (low d).0)
      (λ k d far lt. let a : l ≤ℤ (get_or es k d).high = h.0 k d far lt in let c : t ≤ℤ l = (low d).1 in
      omega (arith, ints, a, c)),
  (λ a k. let far : l ≤ℤ a = h.1 a k in let c : t ≤ℤ l = (low nothing).1 in omega (arith, ints, far, c)),
  elim (low nothing).2 [
    | inl here ↦ inl (q, omega arith, omega arith, λ d. rw (s.1 d, get_or_default es p d nothing in') (sym here))
    | inr same ↦ elim h.2 [
      | inl f ↦ inl (
        f.0,
        omega (arith, f.1),
        f.2,
        λ d. rw (s.2 f.0 d (omega (arith, f.1)) (omega (arith, f.1))) (f.3 d ∙ sym same),
      )
      | inr begin ↦ inr (begin ∙ ap Some (sym same))
    ]
  ],
)

-- one more of those that begin is put
pub put_fresh : (es fs : List Edge) (y : ℤ) (m n : Merge) → IsMerging es y m → AreFresh es m
    → SwappedAt es fs n.fresh n.first → length fs ≡ length es
    → n.low ≡ m.low → n.fresh + 1 ≡ m.fresh → n.from ≡ m.from → n.alive ≡ m.alive → n.first + 1 ≡ m.first
    → n.end ≡ m.end → IsMerging fs y n
put_fresh es fs y m n h last s long low fresh from alive first end =
    let p : ℕ = n.fresh in
    let q : ℕ = n.first in
    let some : m.low < m.fresh = last.0 in
    let near : p < m.first = omega (arith, h.fresh, h.from, h.gap, some, fresh) in
    let room : m.alive ≤ q = omega (arith, h.gap, some, first) in
    let there : p < m.alive = omega (arith, h.fresh, h.from, fresh) in
    let one : p < m.fresh = omega (arith, fresh) in
    let inner : m.low ≤ p = omega (arith, some, fresh) in
    let lows : IsSameWithin es fs 0 m.low = swapped_same es fs p q 0 m.low s
    (λ k le lt. (omega (arith, inner, lt), omega (arith, inner, lt, room, there))) in
    let news : IsSameWithin es fs m.low p = swapped_same es fs p q m.low p s
    (λ k le lt. (omega (arith, lt), omega (arith, lt, room, there))) in
    let olds : IsSameWithin es fs m.from m.alive = swapped_same es fs p q m.from m.alive s
    (λ k le lt. (omega (arith, le, one, h.fresh), omega (arith, lt, room))) in
    let before : (a : ℕ) (d : Edge) → m.from ≤ a → a < m.alive → (get_or es a d).x ≤ℤ (get_or es p d).x = λ a d le lt.
    let far : (get_or es a d).x ≤ℤ (get_or es (m.alive - 1) d).x = h.rising a (m.alive - 1) d le (omega (arith, lt))
    (omega (arith, lt)) in
    let by : (get_or es (m.alive - 1) d).x ≤ℤ (get_or es (m.fresh - 1) d).x = last.1 (omega (arith, le, lt)) d in
    let at : m.fresh - 1 ≡ p = omega (arith, fresh) in
    let by' : (get_or es (m.alive - 1) d).x ≤ℤ (get_or es p d).x = rw at at by in
    omega (arith, ints, far, by') in
    record {
      low = omega (arith, low, fresh, some);
      fresh = omega (arith, fresh, from, h.fresh);
      from = omega (arith, from, alive, h.from);
      gap = omega (arith, low, fresh, alive, first, h.gap);
      first = omega (arith, first, end, h.first);
      end = omega (arith, end, long, h.end);
      begun = rw end (all_swapped (λ e. e.low ≤ℤ y) es fs p q 0 m.end s (omega arith) (omega (arith, near, h.first))
          (omega arith) (omega (arith, first, h.first)) h.begun);
      ended = rw low (all_kept (λ e. e.high ≤ℤ y) es fs 0 m.low lows h.ended);
      ended_between = rw from (λ k d le lt. elim (cases_eq k p) [
        | inl at ↦ rw (at, s.0 d) (h.ended_after q d room (omega (arith, first)))
        | inr off ↦ rw (s.2 k d off (omega (arith, lt, h.from, room)))
            (h.ended_between k d (omega (arith, le, off, fresh)) lt)
      ]);
      ended_after = rw alive (λ k d le lt. rw (s.2 k d (omega (arith, le, there)) (omega (arith, lt)))
          (h.ended_after k d le (omega (arith, lt, first))));
      fresh_alive =
          rw low (all_kept (λ e. y <ℤ e.high) es fs m.low p news (part_of (λ e. y <ℤ e.high) es m.low m.fresh m.low p
          (omega arith) (omega (arith, one)) h.fresh_alive));
      put_alive =
          rw end (all_front (λ e. y <ℤ e.high) es fs p q m.first m.end s first near (λ d. h.fresh_alive p d inner one)
          h.put_alive);
      rising_fresh =
          rw low (rise_kept es fs m.low p news (rise_part es m.low m.fresh m.low p (omega arith) (omega (arith, one))
          h.rising_fresh));
      rising = rw (from, alive) (rise_kept es fs m.from m.alive olds h.rising);
      rising_put =
          rw end (rise_front es fs p q m.first m.end s first near (λ b d le lt. h.fresh_before p b d inner one le lt)
          h.rising_put);
      fresh_before = rw (low, end) (before_front es fs p q m.first m.end m.low p s first near news
          (λ a d le lt. h.rising_fresh a p d le (omega (arith, lt)) one) (λ a b d le lt to far. h.fresh_before a b d le
          (omega (arith, lt, one)) to far));
      before = rw (from, alive, end) (before_front es fs p q m.first m.end m.from m.alive s first near olds before
          h.before);
    }

-- one more of those that were alive is put
pub put_active : (es fs : List Edge) (y : ℤ) (m n : Merge) → IsMerging es y m → AreActive es m
    → SwappedAt es fs n.alive n.first → length fs ≡ length es → ((d : Edge) → y <ℤ (get_or es n.alive d).high)
    → n.low ≡ m.low → n.fresh ≡ m.fresh → n.from ≡ m.from → n.alive + 1 ≡ m.alive → n.first + 1 ≡ m.first
    → n.end ≡ m.end → IsMerging fs y n
put_active es fs y m n h last s long up low fresh from alive first end =
    let p : ℕ = n.alive in
    let q : ℕ = n.first in
    let some : m.from < m.alive = last.0 in
    let room : m.alive ≤ m.first = omega (arith, h.gap, h.low) in
    let near : p < m.first = omega (arith, room, alive) in
    let on : p ≤ q = omega (arith, near, first) in
    let one : p < m.alive = omega (arith, alive) in
    let inner : m.from ≤ p = omega (arith, some, alive) in
    let lows : IsSameWithin es fs 0 m.low = swapped_same es fs p q 0 m.low s
    (λ k le lt. (omega (arith, inner, lt, h.low, h.fresh), omega (arith, inner, lt, h.low, h.fresh, on))) in
    let news : IsSameWithin es fs m.low m.fresh = swapped_same es fs p q m.low m.fresh s
    (λ k le lt. (omega (arith, lt, inner, h.fresh), omega (arith, lt, inner, h.fresh, on))) in
    let olds : IsSameWithin es fs m.from p = swapped_same es fs p q m.from p s
    (λ k le lt. (omega (arith, lt), omega (arith, lt, on))) in
    let before : (a : ℕ) (d : Edge) → m.low ≤ a → a < m.fresh → (get_or es a d).x ≤ℤ (get_or es p d).x = λ a d le lt.
    let far : (get_or es a d).x ≤ℤ (get_or es (m.fresh - 1) d).x = h.rising_fresh a (m.fresh - 1) d le
    (omega (arith, lt)) (omega (arith, lt)) in
    let by : (get_or es (m.fresh - 1) d).x ≤ℤ (get_or es (m.alive - 1) d).x = last.1 (omega (arith, le, lt)) d in
    let at : m.alive - 1 ≡ p = omega (arith, alive) in
    let by' : (get_or es (m.fresh - 1) d).x ≤ℤ (get_or es p d).x = rw at at by in
    omega (arith, ints, far, by') in
    record {
      low = omega (arith, low, fresh, h.low);
      fresh = omega (arith, fresh, from, h.fresh);
      from = omega (arith, from, inner);
      gap = omega (arith, low, fresh, alive, first, h.gap);
      first = omega (arith, first, end, h.first);
      end = omega (arith, end, long, h.end);
      begun = rw end (all_swapped (λ e. e.low ≤ℤ y) es fs p q 0 m.end s (omega arith) (omega (arith, near, h.first))
          (omega arith) (omega (arith, first, h.first)) h.begun);
      ended = rw low (all_kept (λ e. e.high ≤ℤ y) es fs 0 m.low lows h.ended);
      ended_between =
          rw (fresh, from) (λ k d le lt. rw (s.2 k d (omega (arith, lt, inner)) (omega (arith, lt, inner, on)))
          (h.ended_between k d le lt));
      ended_after = (λ k d le lt. elim (cases_eq k p) [
        | inl at ↦ rw (at, s.0 d) (h.ended_after q d (omega (arith, at, lt, alive)) (omega (arith, first)))
        | inr off ↦ rw (s.2 k d off (omega (arith, lt))) (h.ended_after k d (omega (arith, le, off, alive))
            (omega (arith, lt, first)))
      ]);
      fresh_alive = rw (low, fresh) (all_kept (λ e. y <ℤ e.high) es fs m.low m.fresh news h.fresh_alive);
      put_alive = rw end (all_front (λ e. y <ℤ e.high) es fs p q m.first m.end s first near up h.put_alive);
      rising_fresh = rw (low, fresh) (rise_kept es fs m.low m.fresh news h.rising_fresh);
      rising =
          rw from (rise_kept es fs m.from p olds (rise_part es m.from m.alive m.from p (omega arith)
          (omega (arith, one)) h.rising));
      rising_put = rw end (rise_front es fs p q m.first m.end s first near (λ b d le lt. h.before p b d inner one le lt)
          h.rising_put);
      fresh_before = rw (low, fresh, end) (before_front es fs p q m.first m.end m.low m.fresh s first near news before
          h.fresh_before);
      before = rw (from, end) (before_front es fs p q m.first m.end m.from p s first near olds
          (λ a d le lt. h.rising a p d le (omega (arith, lt)) one)
          (λ a b d le lt to far. h.before a b d le (omega (arith, lt, one)) to far));
    }

-- one that has ended is left where it is
pub left_after : (es : List Edge) (y : ℤ) (m n : Merge) → IsMerging es y m → AreActive es m
    → ((d : Edge) → (get_or es n.alive d).high ≤ℤ y)
    → n.low ≡ m.low → n.fresh ≡ m.fresh → n.from ≡ m.from → n.alive + 1 ≡ m.alive → n.first ≡ m.first → n.end ≡ m.end
    → IsMerging es y n
left_after es y m n h last down low fresh from alive first end =
    let some : m.from < m.alive = last.0 in
    let one : n.alive ≤ m.alive = omega (arith, alive) in
    record {
      low = omega (arith, low, fresh, h.low);
      fresh = omega (arith, fresh, from, h.fresh);
      from = omega (arith, from, some, alive);
      gap = omega (arith, low, fresh, alive, first, h.gap);
      first = omega (arith, first, end, h.first);
      end = omega (arith, end, h.end);
      begun = rw end h.begun;
      ended = rw low h.ended;
      ended_between = rw (fresh, from) h.ended_between;
      ended_after = rw first (λ k d le lt. elim (cases_eq k n.alive) [
        | inl at ↦ rw at (down d)
        | inr off ↦ h.ended_after k d (omega (arith, le, off, alive)) lt
      ]);
      fresh_alive = rw (low, fresh) h.fresh_alive;
      put_alive = rw (first, end) h.put_alive;
      rising_fresh = rw (low, fresh) h.rising_fresh;
      rising = rw from (rise_part es m.from m.alive m.from n.alive (omega arith) one h.rising);
      rising_put = rw (first, end) h.rising_put;
      fresh_before = rw (low, fresh, first, end) h.fresh_before;
      before = rw (from, first, end) (λ a b d le lt to far. h.before a b d le (omega (arith, lt, one)) to far);
    }
