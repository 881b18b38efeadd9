-- How a sweep goes on to a row.
use Rattle.std.proofs.Common.{◌≡◌, ℕ, ◌+◌, ◌-◌, ◌<◌, ◌≤◌, true, false, ◌&&◌, cond, List, length, get_or, take, drop, ℤ}
use Rattle.std.proofs.Common.{pos, ◌<ℤ◌, ◌≤ℤ◌, int_lt, int_le, Option, All, refl, sym, ◌∙◌, arith, inl, inr}
use Rattle.std.specs.List.{sum_by, AllWithin}
use Rattle.std.specs.Global.{Vec}
use Rattle.std.specs.List.Sorted.{IsPermutation}
use Rattle.std.proofs.lemmas.Int.{ints}
use Rattle.std.proofs.lemmas.Bool.{cases_lt}
use Rattle.std.proofs.lemmas.List.{length-take, length-drop, get_or-take, get_or-drop}
use Rattle.std.proofs.lemmas.List.Elements.{All-weaker}
use Rattle.std.proofs.lemmas.List.Sums.{sum_by-take-drop}
use Rattle.std.proofs.lemmas.List.Sorted.{length_permutation, sum_by-IsPermutation, All-permutation}
use Rattle.lvl_sweep.specs.declared.edge.Edge.{Edge}
use Rattle.lvl_sweep.specs.declared.strips.Strips.{Strips}
use Rattle.lvl_sweep.specs.inside.Edges.{IsBeginOf}
use Rattle.lvl_sweep.specs.inside.Alive.{alive, HasSame}
use Rattle.lvl_sweep.specs.inside.Rows.{alive_at, row, row_at}
use Rattle.lvl_sweep.specs.inside.Walks.{IsRowOf}
use Rattle.lvl_sweep.specs.inside.Runs.{IsSameFrom, RiseWithin, IsEndOf, IsRenewed}
use Rattle.lvl_sweep.specs.inside.Strips.{AreStrips, IsAt, CanLoad}
use Rattle.lvl_sweep.proofs.Alive.{sum_filter, sum_same, sum_none}
use Rattle.lvl_sweep.proofs.Alikes.{alive_alike, balanced_alike, row_of_alive, one_begin}

pub nothing : Edge
nothing = record { low = pos 0; x = pos 0; ring = 0; high = pos 0; up = false }

-- the edges from one index up to another
abbrev pub run : List Edge → ℕ → ℕ → List Edge
run es i j = take (j - i) (drop i es)

run_at : (es : List Edge) (i j k : ℕ) (d : Edge) → k < length (run es i j) → (i + k < j) × (i + k < length es)
    × (get_or (run es i j) k d ≡ get_or es (i + k) d)
run_at es i j k d lt =
    let short : k < j - i = omega (arith, length-take (j - i) (drop i es), lt) in
    let within : i + k < length es = omega (arith, length-take (j - i) (drop i es), length-drop i es, lt) in
    (omega arith, within, get_or-take (j - i) (drop i es) k d short ∙ get_or-drop i es k d)

all_run : (P : Edge → Type 0) (es : List Edge) (i j : ℕ) → AllWithin P es i j → All P (run es i j)
all_run P es i j h k d lt =
    let at = run_at es i j k d lt in
    rw at.2 (h (i + k) d (omega arith) at.0)

all_before : (P : Edge → Type 0) (es : List Edge) (n : ℕ) → AllWithin P es 0 n → All P (take n es)
all_before P es n h k d lt =
    let near : k < n = omega (arith, length-take n es, lt) in
    rw (get_or-take n es k d near) (h k d (omega arith) near)

all_after : (P : Edge → Type 0) (es : List Edge) (n : ℕ) → AllWithin P es n (length es) → All P (drop n es)
all_after P es n h k d lt = rw (get_or-drop n es k d) (h (n + k) d (omega arith) (omega (arith, length-drop n es, lt)))

pub dead_low : (y : ℤ) (e : Edge) → e.high ≤ℤ y → alive y e ≡ false
dead_low y e h =
    let t : int_lt y e.high ≡ false = grind (arith, ints) in
    elim (int_le e.low y) as (λ b. (b && int_lt y e.high) ≡ false) [ true ↦ t | false ↦ refl ]

pub dead_high : (y : ℤ) (e : Edge) → y <ℤ e.low → alive y e ≡ false
dead_high y e h = let t : int_le e.low y ≡ false = grind (arith, ints) in rw t refl

pub alive_there : (y : ℤ) (e : Edge) → e.low ≤ℤ y → y <ℤ e.high → alive y e ≡ true
alive_there y e h k =
    let a : int_le e.low y ≡ true = grind (arith, ints) in
    let b : int_lt y e.high ≡ true = grind (arith, ints) in
    rw (a, b) refl

-- the edges alive in a row, if those before have ended and those after are still to come
run_alive : (es : List Edge) (i j : ℕ) (y : ℤ) → i ≤ j → AllWithin (λ e. e.high ≤ℤ y) es 0 i
    → AllWithin (λ e. e.low ≤ℤ y) es 0 j → AllWithin (λ e. y <ℤ e.high) es i j
    → AllWithin (λ e. y <ℤ e.low) es j (length es)
    → HasSame (alive_at es y) (run es i j)
run_alive es i j y le ended begun high coming f =
    let g : Edge → ℕ = λ e. cond (alive y e) (f e) 0 in
    let first : sum_by g (take i es) ≡ 0 =
    sum_none g (take i es) (All-weaker (λ e. e.high ≤ℤ y) (λ e. g e ≡ 0) (λ e k. rw (dead_low y e k) refl)
    (take i es) (all_before (λ e. e.high ≤ℤ y) es i ended)) in
    let both : AllWithin (λ e. alive y e ≡ true) es i j = λ k d low lt. alive_there y (get_or es k d)
    (begun k d (omega arith) lt) (high k d low lt) in
    let second : sum_by g (run es i j) ≡ sum_by f (run es i j) =
    sum_same g f (run es i j) (All-weaker (λ e. alive y e ≡ true) (λ e. g e ≡ f e) (λ e k. rw k refl) (run es i j)
    (all_run (λ e. alive y e ≡ true) es i j both)) in
    let late : AllWithin (λ e. y <ℤ e.low) (drop i es) (j - i) (length (drop i es)) =
    λ k d low lt. rw (get_or-drop i es k d)
    (coming (i + k) d (omega (arith, low, le)) (omega (arith, length-drop i es, lt))) in
    let third : sum_by g (drop (j - i) (drop i es)) ≡ 0 = sum_none g (drop (j - i) (drop i es))
    (All-weaker (λ e. y <ℤ e.low) (λ e. g e ≡ 0) (λ e k. rw (dead_high y e k) refl) (drop (j - i) (drop i es))
    (all_after (λ e. y <ℤ e.low) (drop i es) (j - i) late)) in
    omega (
      arith,
      first,
      second,
      third,
      sum_filter (alive y) f es,
      sum_by-take-drop g es i,
      sum_by-take-drop g (drop i es) (j - i),
    )

-- the edges alive in the row of a sweep
abbrev pub active : Strips → List Edge
active s = run s.edges.items s.from s.next

active_same : (s : Strips) → IsAt s → HasSame (alive_at s.edges.items s.y) (active s)
active_same s h = run_alive s.edges.items s.from s.next s.y h.strips.within.0 h.ended h.begun h.alive h.coming

-- they are a row to be walked
pub row_walked : (s : Strips) → IsAt s → IsRowOf (active s) (length s.windings.counts.items)
row_walked s h = record {
  rising = λ i j d lt far.
      let a = run_at s.edges.items s.from s.next i d (omega (arith, lt, far)) in
      let b = run_at s.edges.items s.from s.next j d far in
      rw (a.2, b.2) (h.strips.rising (s.from + i) (s.from + j) d (omega arith) (omega (arith, lt)) b.0);
  numbers = λ k d lt.
      let at = run_at s.edges.items s.from s.next k d lt in
      rw at.2 (h.strips.numbers (s.from + k) d at.1);
  few = omega (
    arith,
    length-take (s.next - s.from) (drop s.from s.edges.items),
    length-drop s.from s.edges.items,
    h.strips.few,
  );
  balanced = balanced_alike (alive_at s.edges.items s.y) (active s) (active_same s h) (h.strips.balanced s.y);
}

-- and its intervals are those of the row of the sweep
pub row_here : (s : Strips) → IsAt s → row (active s) ≡ row_at s.edges.items s.y
row_here s h = row_of_alive s.edges.items (active s) s.y (active_same s h) (h.strips.balanced s.y)

-- edges that begin neither below y nor above it begin at y
fresh_low : (s : Strips) (end k : ℕ) (y : ℤ) (d : Edge) → CanLoad s y
    → AllWithin (λ e. e.low ≤ℤ y) s.edges.items s.next end → s.next ≤ k → k < end → k < length s.edges.items
    → (get_or s.edges.items k d).low ≡ y
fresh_low s end k y d h begun le near lt =
    let low : y ≤ℤ (get_or s.edges.items k d).low = h.coming k d le lt in
    let high : (get_or s.edges.items k d).low ≤ℤ y = begun k d le near in
    omega (arith, ints, low, high)

-- the edges are ready for the row
pub renewed : (s : Strips) (end : ℕ) (y : ℤ) → CanLoad s y → s.next ≤ end → end ≤ length s.edges.items
    → AllWithin (λ e. e.low ≤ℤ y) s.edges.items s.next end → IsRenewed s.edges.items y s.from s.next end
renewed s end y h le within begun = record {
  order = (h.strips.within.0, le, within);
  ended = h.ended;
  begun = λ k d low lt. elim (cases_lt k s.next) [
    | inl near ↦ h.begun k d low near
    | inr far ↦ begun k d far lt
  ];
  fresh = λ k d low lt.
      let there : (get_or s.edges.items k d).low ≡ y = fresh_low s end k y d h begun low lt (omega (arith, lt, within))
      in
      let full : (get_or s.edges.items k d).low <ℤ (get_or s.edges.items k d).high =
      h.strips.full k d (omega (arith, lt, within)) in
      omega (arith, ints, there, full);
  rising = h.strips.rising;
  rising_fresh = λ i j d low on lt.
      let a : (get_or s.edges.items i d).low ≡ y = fresh_low s end i y d h begun low (omega (arith, on, lt))
      (omega (arith, on, lt, within)) in
      let b : (get_or s.edges.items j d).low ≡ y = fresh_low s end j y d h begun (omega (arith, low, on)) lt
      (omega (arith, lt, within)) in
      elim (cases_lt i j) [
        | inl less ↦ (h.strips.order i j d low less (omega (arith, lt, within))).1 (a ∙ sym b)
        | inr same ↦ let e : i ≡ j = omega (arith, on, same) in rw e (omega (arith, ints))
      ];
}

-- what stays after the edges that begin by y begins above it
still_coming : (s : Strips) (end : ℕ) (y : ℤ) → AreStrips s → s.next ≤ end
    → (end < length s.edges.items → (d : Edge) → y <ℤ (get_or s.edges.items end d).low)
    → AllWithin (λ e. y <ℤ e.low) s.edges.items end (length s.edges.items)
still_coming s end y h le first k d low lt =
    let next : y <ℤ (get_or s.edges.items end d).low = first (omega (arith, low, lt)) d in
    elim (cases_lt end k) [
      | inl far ↦ let up : (get_or s.edges.items end d).low ≤ℤ (get_or s.edges.items k d).low =
          (h.order end k d le far lt).0 in omega (arith, ints, next, up)
      | inr near ↦ let e : k ≡ end = omega (arith, low, near) in rw e next
    ]

pub same_edges : (es fs : List Edge) → IsPermutation es fs → HasSame es fs
same_edges es fs moved f = sum_by-IsPermutation f es fs moved

-- the invariant of the sweep after it goes on to row y
pub loaded : (s : Strips) (new : Vec Edge) (first end : ℕ) (begins top : Option ℤ) (y : ℤ) → CanLoad s y → s.next ≤ end
    → end ≤ length s.edges.items
    → (end < length s.edges.items → (d : Edge) → y <ℤ (get_or s.edges.items end d).low)
    → IsBeginOf s.edges.items end begins
    → IsPermutation s.edges.items new.items → first ≤ end → IsSameFrom s.edges.items new.items end
    → AllWithin (λ e. e.high ≤ℤ y) new.items 0 first → AllWithin (λ e. e.low ≤ℤ y) new.items 0 end
    → AllWithin (λ e. y <ℤ e.high) new.items first end
    → RiseWithin new.items first end → IsEndOf new.items first end begins top
    → IsAt (record { edges = new; from = first; next = end; top = top; windings = s.windings; y = y })
loaded s new first end begins top y h le within next begin moved fits later ended begun high rising ends =
    let long : length new.items ≡ length s.edges.items = omega (arith, length_permutation s.edges.items new.items moved)
    in
    record {
      strips = record {
        order = λ i j d low on lt. rw (later i d low, later j d (omega (arith, low, on)))
            (h.strips.order i j d (omega (arith, low, le)) on (omega (arith, lt, long)));
        full = All-permutation (λ e. e.low <ℤ e.high) s.edges.items new.items moved h.strips.full;
        numbers = All-permutation (λ e. e.ring < length s.windings.counts.items) s.edges.items new.items moved
            h.strips.numbers;
        few = omega (arith, long, h.strips.few);
        balanced = λ v. balanced_alike (alive_at s.edges.items v) (alive_at new.items v)
            (alive_alike s.edges.items new.items v (same_edges s.edges.items new.items moved)) (h.strips.balanced v);
        within = (fits, omega (arith, long, within));
        rising = rising;
        rest = h.strips.rest;
      };
      ended = ended;
      begun = begun;
      alive = high;
      coming = λ k d low lt. rw (later k d low) (still_coming s end y h.strips le next k d low
          (omega (arith, lt, long)));
      top = λ b is. rw (one_begin s.edges.items new.items end begins b long later begin is) ends;
    }
