-- Corners that are gathered part by part, right of an abscissa.
use Rattle.std.proofs.Common.{◌≡◌, Bool, true, false, ◌&&◌, ◌||◌, List, [], ◌++◌, Some, cond}
use Rattle.std.proofs.Common.{ℤ, pos, ◌+ℤ◌, ◌-ℤ◌, ◌<ℤ◌, ◌≤ℤ◌, int_lt, int_le, ◌↔◌, inl, inr, Contains}
use Rattle.std.proofs.Common.{◌∷◌, ℕ, ◌<◌, ◌+◌, length, take, get_or, refl, sym, ◌∙◌, ap, subst, arith}
use Rattle.std.specs.Bool.{Decides}
use Rattle.std.proofs.lemmas.Int.{ints, by_lt_z}
use Rattle.std.proofs.lemmas.Bool.{and_parts, and_from, and_right, or_cases, or_left, or_right}
use Rattle.std.proofs.lemmas.Bool.Decides.{same_from_decides}
use Rattle.std.proofs.lemmas.List.{append-nil}
use Rattle.std.proofs.lemmas.List.Elements.{Contains-append_cases, Contains-append_left}
use Rattle.std.proofs.lemmas.List.Elements.{Contains-append_right}
use Rattle.lvl_grid.specs.declared.point.Square.{Square}
use Rattle.lvl_sweep.specs.Ahead.{is_from}
use Rattle.lvl_corners.specs.declared.corner.Corner.{Corner}
use Rattle.lvl_corners.specs.declared.digest.LayerHash.{LayerHash}
use Rattle.lvl_corners.specs.declared.mark.Mark.{Mark}
use Rattle.lvl_corners.specs.declared.span.Span.{Span}
use Rattle.lvl_corners.specs.Corners.{change_at, ComesBefore}
use Rattle.std.specs.Ordering.{int_eq}
use Rattle.lvl_corners.specs.Gathered.{near, AreGathered, AreMoreGathered, HasGathered, IsLowered}
use Rattle.lvl_corners.specs.Parts.{AreCornersAt}
use Rattle.lvl_corners.specs.Spans.{is_below, spanned, whole, left_part, right_part, AreCornersIn}
use Rattle.lvl_corners.specs.inside.Marks.{change_of, is_at, net}
use Rattle.lvl_corners.specs.Digests.{HashesOn}
use Rattle.lvl_corners.specs.inside.Parts.{is_right, AreMarksNear}
use Rattle.lvl_corners.proofs.IntTests.{eq_is, eq_yes}
use Rattle.lvl_corners.proofs.Nets.{cond_same, net_more, net_push}
use Rattle.lvl_corners.proofs.Pairs.{pairs_of_both}
use Rattle.lvl_corners.proofs.Parts.{AreParts, both_decide, same_change}
use Rattle.lvl_corners.proofs.Spans.{bounded_both, half_test, below_end, from_start, lt_of, lt_test, le_of, le_test}
use Rattle.lvl_corners.proofs.Spans as spans

none_change : (t : Bool) → pos 0 ≡ cond t ((pos 0 -ℤ pos 0) -ℤ (pos 0 -ℤ pos 0)) (pos 0)
none_change true = refl
none_change false = refl

-- nothing is gathered of a set without squares
pub gathered_none : (P : Square → Type 0) (x end : ℤ) (rows : Span) (h : LayerHash) → h.right.items ≡ []
    → ((s : Square) → P s → ⊥) → AreGathered P x end rows h
gathered_none P x end rows h none empty = record {
  covered = λ s. false;
  is_covered = λ s. (λ t. cc, λ p. absurd (empty s p));
  bounded = record { left = pos 0; bottom = pos 0; each = λ s t. absurd (cc) };
  changes = λ u v low high. ap (net u v) none ∙ none_change (spanned rows v);
}

le_no : (a b : ℤ) → b <ℤ a → int_le a b ≡ false
le_no a b h = grind (arith, ints)

lt_no : (a b : ℤ) → b ≤ℤ a → int_lt a b ≡ false
lt_no a b h = grind (arith, ints)

-- what is gathered of one more part, up to an end that may be lower
pub gathered_more : (P L U : Square → Type 0) (x end stop : ℤ) (rows : Span) (at : ℤ) (old new : LayerHash)
    → AreParts P L U at → spanned rows at ≡ true → stop ≤ℤ end → AreGathered L x end (left_part rows at) old
    → AreMoreGathered U x stop (right_part rows at) old new → AreGathered P x stop rows new
gathered_more P L U x end stop rows at old new parts inner lower l u =
    let c : Square → Bool = λ s. l.covered s || u.covered s in
    let ends = and_parts (is_from rows.from at) (is_below rows.below at) inner in
    let decides : (s : Square) → Decides (c s) (P s) =
    both_decide P L U at parts l.covered u.covered l.is_covered u.is_covered in
    let in_low : (s : Square) → s.y <ℤ at → c s ≡ l.covered s = λ s lt. same_from_decides (c s) (l.covered s)
    (decides s) (half_test P L (s.y <ℤ at) s (l.covered s) (l.is_covered s) (parts.low s) lt) in
    let in_high : (s : Square) → (at -ℤ pos 1) ≤ℤ s.y → c s ≡ u.covered s = λ s le.
    same_from_decides (c s) (u.covered s) (decides s)
    (half_test P U ((at -ℤ pos 1) ≤ℤ s.y) s (u.covered s) (u.is_covered s) (parts.high s) le) in
    let low_change : (v y : ℤ) → y <ℤ at → change_at c v y ≡ change_at l.covered v y = λ v y lt.
    same_change c l.covered v y (λ w. in_low (record { x = w; y = y }) lt)
    (λ w. in_low (record { x = w; y = y -ℤ pos 1 }) (omega (arith, ints, lt))) in
    let high_change : (v y : ℤ) → at ≤ℤ y → change_at c v y ≡ change_at u.covered v y = λ v y le.
    same_change c u.covered v y (λ w. in_high (record { x = w; y = y }) (omega (arith, ints, le)))
    (λ w. in_high (record { x = w; y = y -ℤ pos 1 }) (omega (arith, ints, le))) in
    record {
      covered = c;
      is_covered = decides;
      bounded = bounded_both l.covered u.covered l.bounded u.bounded;
      changes = λ v y low high.
          let before = l.changes v y low (omega (arith, ints, high, lower)) in
          let more = u.changes v y low high in
          by_lt_z y at
          (λ lt.
          let rows_are : spanned (left_part rows at) y ≡ spanned rows y =
          ap (λ (t : Bool). is_from rows.from y && t) (lt_test y at lt ∙ sym (below_end rows.below y at lt ends.1)) in
          let none : spanned (right_part rows at) y ≡ false =
          ap (λ (t : Bool). t && is_below rows.below y) (le_no at y lt) in
          let first : net v y old.right.items ≡ cond (spanned rows y) (change_at c v y) (pos 0) =
          before ∙ (ap (λ (t : Bool). cond t (change_at l.covered v y) (pos 0)) rows_are
          ∙ ap (λ (z : ℤ). cond (spanned rows y) z (pos 0)) (sym (low_change v y lt))) in
          let then : net v y new.right.items ≡ net v y old.right.items +ℤ pos 0 =
          more ∙ ap (λ (t : Bool). net v y old.right.items +ℤ cond t (change_at u.covered v y) (pos 0)) none in
          omega (arith, ints, first, then))
          (λ ge.
          let none : spanned (left_part rows at) y ≡ false = and_right (is_from rows.from y) (int_lt y at)
          (lt_no y at ge) in
          let rows_are : spanned (right_part rows at) y ≡ spanned rows y =
          ap (λ (t : Bool). t && is_below rows.below y) (le_test at y ge ∙ sym (from_start rows.from y at ge ends.0)) in
          let first : net v y old.right.items ≡ pos 0 =
          before ∙ ap (λ (t : Bool). cond t (change_at l.covered v y) (pos 0)) none in
          let then : net v y new.right.items
          ≡ net v y old.right.items +ℤ cond (spanned rows y) (change_at c v y) (pos 0) =
          more ∙ (ap (λ (t : Bool). net v y old.right.items +ℤ cond t (change_at u.covered v y) (pos 0)) rows_are
          ∙ ap (λ (z : ℤ). net v y old.right.items +ℤ cond (spanned rows y) z (pos 0)) (sym (high_change v y ge))) in
          omega (arith, ints, first, then));
    }

-- the test of the squares left of an abscissa
left_decides : (P Q : Square → Type 0) (end : ℤ) (c : Square → Bool) → ((s : Square) → Decides (c s) (P s))
    → ((s : Square) → Q s ↔ ((s.x <ℤ end) × P s)) → (s : Square) → Decides (c s && int_lt s.x end) (Q s)
left_decides P Q end c d q s = (
  λ t. let both = and_parts (c s) (int_lt s.x end) t in (q s).1 (lt_of s.x end both.1, (d s).0 both.0),
  λ h. let both = (q s).0 h in and_from (c s) (int_lt s.x end) ((d s).1 both.1) (lt_test s.x end both.0),
)

kept_left : (t b : Bool) → b ≡ true → (t && b) ≡ t
kept_left true b h = h
kept_left false b h = refl

-- what is gathered up to a lower end
pub gathered_left : (P Q : Square → Type 0) (x end stop : ℤ) (rows : Span) (h : LayerHash) → stop ≤ℤ end
    → ((s : Square) → Q s ↔ ((s.x <ℤ stop) × P s)) → AreGathered P x end rows h → AreGathered Q x stop rows h
gathered_left P Q x end stop rows h lower q g =
    let c : Square → Bool = λ s. g.covered s && int_lt s.x stop in
    let same : (s : Square) → s.x <ℤ stop → c s ≡ g.covered s = λ s lt. kept_left (g.covered s) (int_lt s.x stop)
    (lt_test s.x stop lt) in
    record {
      covered = c;
      is_covered = left_decides P Q stop g.covered g.is_covered q;
      bounded = record {
        left = g.bounded.left;
        bottom = g.bounded.bottom;
        each = λ s t. g.bounded.each s (and_parts (g.covered s) (int_lt s.x stop) t).0;
      };
      changes = λ u v low high. g.changes u v low (omega (arith, ints, high, lower))
          ∙ ap (λ (z : ℤ). cond (spanned rows v) z (pos 0))
          (sym (spans.same_change c g.covered u v (λ w. same (record { x = u; y = w }) high)
          (λ w. same (record { x = u -ℤ pos 1; y = w }) (omega (arith, ints, high)))));
    }

-- the corners at an abscissa are those of the squares left of an end, if none of the squares up to the abscissa is at
-- or beyond the end
pub corners_left : (P Q : Square → Type 0) (x end : ℤ) (rows : Span) (ks : List Corner)
    → ((s : Square) → P s → s.x ≤ℤ x → s.x <ℤ end) → ((s : Square) → Q s ↔ ((s.x <ℤ end) × P s))
    → AreCornersAt P x rows ks → AreCornersAt Q x rows ks
corners_left P Q x end rows ks near q h =
    let c : Square → Bool = λ s. h.covered s && int_lt s.x end in
    let decides = left_decides P Q end h.covered h.is_covered q in
    let same : (s : Square) → s.x ≤ℤ x → h.covered s ≡ c s = λ s le. same_from_decides (h.covered s) (c s)
    (h.is_covered s) (λ t. ((q s).0 ((decides s).0 t)).1, λ p. (decides s).1 ((q s).1 (near s p le, p))) in
    let change : (u v : ℤ) → u ≡ x → change_at h.covered u v ≡ change_at c u v = λ u v is.
    spans.same_change h.covered c u v (λ w. same (record { x = u; y = w }) (omega (arith, ints, is)))
    (λ w. same (record { x = u -ℤ pos 1; y = w }) (omega (arith, ints, is))) in
    record {
      covered = c;
      is_covered = decides;
      bounded = record {
        left = h.bounded.left;
        bottom = h.bounded.bottom;
        each = λ s t. h.bounded.each s (and_parts (h.covered s) (int_lt s.x end) t).0;
      };
      rising = h.rising;
      each = λ k. (
        λ there. let all = (h.each k).0 there in (all.0, all.1, all.2, all.3 ∙ change k.x k.y all.0),
        λ all. (h.each k).1 (all.0, all.1, all.2, all.3 ∙ sym (change k.x k.y all.0)),
      );
    }

-- the corners of one set on both sides of an abscissa
pub corners_of_both : (P : Square → Type 0) (span : Span) (at : ℤ) (ks ls : List Corner) → spanned span at ≡ true
    → AreCornersIn P (left_part span at) ks → AreCornersIn P (right_part span at) ls → AreCornersIn P span (ks ++ ls)
corners_of_both P span at ks ls inner l r =
    let ends = and_parts (is_from span.from at) (is_below span.below at) inner in
    let same : (s : Square) → r.covered s ≡ l.covered s = λ s. same_from_decides (r.covered s) (l.covered s)
    (r.is_covered s) (l.is_covered s) in
    let change : (u v : ℤ) → change_at r.covered u v ≡ change_at l.covered u v = λ u v.
    spans.same_change r.covered l.covered u v (λ w. same (record { x = u; y = w }))
    (λ w. same (record { x = u -ℤ pos 1; y = w })) in
    let left_of : (k : Corner) → Contains ks k → k.x <ℤ at = λ k there.
    lt_of k.x at (and_parts (is_from span.from k.x) (int_lt k.x at) ((l.each k).0 there).0).1 in
    let right_of : (k : Corner) → Contains ls k → at ≤ℤ k.x = λ k there.
    le_of at k.x (and_parts (int_le at k.x) (is_below span.below k.x) ((r.each k).0 there).0).0 in
    record {
      covered = l.covered;
      is_covered = l.is_covered;
      bounded = l.bounded;
      rising = pairs_of_both ComesBefore ks ls l.rising r.rising (λ k m there other.
          let low = left_of k there in
          let high = right_of m other in
          inl (omega (arith, ints, low, high)));
      each = λ k. (
        λ there. elim (Contains-append_cases ks ls k there) [
          | inl here ↦
              let all = (l.each k).0 here in
              let lt : k.x <ℤ at = left_of k here in (
                and_from (is_from span.from k.x) (is_below span.below k.x)
                    (and_parts (is_from span.from k.x) (int_lt k.x at) all.0).0 (below_end span.below k.x at lt ends.1),
                all.1,
                all.2,
              )
          | inr here ↦
              let all = (r.each k).0 here in
              let le : at ≤ℤ k.x = right_of k here in (
                and_from (is_from span.from k.x) (is_below span.below k.x) (from_start span.from k.x at le ends.0)
                    (and_parts (int_le at k.x) (is_below span.below k.x) all.0).1,
                all.1,
                all.2 ∙ change k.x k.y,
              )
        ],
        λ all.
            let parts = and_parts (is_from span.from k.x) (is_below span.below k.x) all.0 in
            by_lt_z k.x at
            (λ lt. Contains-append_left ks ls k ((l.each k).1 (
              and_from (is_from span.from k.x) (int_lt k.x at) parts.0 (lt_test k.x at lt),
              all.1,
              all.2,
            )))
            (λ ge. Contains-append_right ks ls k ((r.each k).1 (
              and_from (int_le at k.x) (is_below span.below k.x) (le_test at k.x ge) parts.1,
              all.1,
              all.2 ∙ sym (change k.x k.y),
            ))),
      );
    }

-- what is gathered at all ordinates is that of the squares
pub gathered_all : (P : Square → Type 0) (x end : ℤ) (h : LayerHash) (g : AreGathered P x end whole h)
    → HasGathered g.covered (record { from = Some (x +ℤ pos 1); below = Some end }) h
gathered_all P x end h g = record {
  bounded = g.bounded;
  changes = λ u v inside.
      let both = and_parts (int_le (x +ℤ pos 1) u) (int_lt u end) inside in
      let low = le_of (x +ℤ pos 1) u both.0 in
      g.changes u v (omega (arith, ints, low)) (lt_of u end both.1);
}

-- what is near up to a lower end is near up to the end
pub near_lower : (x end stop z : ℤ) → stop ≤ℤ end → near x stop z ≡ true → near x end z ≡ true
near_lower x end stop z lower h = elim (or_cases (int_eq z x) (int_lt x z && int_lt z stop) h) [
  | inl same ↦ or_left (int_eq z x) (int_lt x z && int_lt z end) same
  | inr right ↦
      let both = and_parts (int_lt x z) (int_lt z stop) right in
      let lt = lt_of z stop both.1 in
      or_right (int_eq z x) (int_lt x z && int_lt z end)
      (and_from (int_lt x z) (int_lt z end) both.0 (lt_test z end (omega (arith, ints, lt, lower))))
]

-- x is near, and so is what is right of it and left of the end
pub near_here : (x end z : ℤ) → z ≡ x → near x end z ≡ true
near_here x end z same = or_left (int_eq z x) (int_lt x z && int_lt z end) (eq_yes z x same)

pub near_right : (x end z : ℤ) → x <ℤ z → z <ℤ end → near x end z ≡ true
near_right x end z low high =
    or_right (int_eq z x) (int_lt x z && int_lt z end)
    (and_from (int_lt x z) (int_lt z end) (lt_test x z low) (lt_test z end high))

-- one more mark, which is appended
pub one_pushed : (t here : Bool) (base old new all d : ℤ) → (here ≡ true → t ≡ true)
    → new ≡ old +ℤ cond here d (pos 0) → old ≡ base +ℤ cond t all (pos 0)
    → new ≡ base +ℤ cond t (all +ℤ cond here d (pos 0)) (pos 0)
one_pushed true true base old new all d inner h k = omega (arith, ints, h, k)
one_pushed true false base old new all d inner h k = omega (arith, ints, h, k)
one_pushed false true base old new all d inner h k = let no = inner refl in cc
one_pushed false false base old new all d inner h k = omega (arith, ints, h, k)

-- one more mark, which isn't
pub one_skipped : (t here : Bool) (base old all d : ℤ) → (here ≡ true → t ≡ false)
    → old ≡ base +ℤ cond t all (pos 0) → old ≡ base +ℤ cond t (all +ℤ cond here d (pos 0)) (pos 0)
one_skipped true true base old all d outer k = let no = outer refl in cc
one_skipped true false base old all d outer k = omega (arith, ints, k)
one_skipped false here base old all d outer k = omega (arith, ints, k)

-- an end that is lowered twice
pub lowered_both : (x a b d : ℤ) → IsLowered x a b → IsLowered x b d → IsLowered x a d
lowered_both x a b d h k = (
  let first = h.0 in
      let then = k.0 in
      omega (arith, ints, first, then),
  elim k.1 [
    | inl right ↦ inl right
    | inr same ↦ elim h.1 [
      | inl right ↦ inl (omega (arith, ints, right, same))
      | inr as_well ↦ inr (same ∙ as_well)
    ]
  ],
)

at_is : (u v : ℤ) (m : Mark) → is_at u v m ≡ true → (m.x ≡ u) × (m.y ≡ v)
at_is u v m h =
    let both = and_parts (int_eq m.y v) (int_eq m.x u) h in
    (eq_is m.x u both.1, eq_is m.y v both.0)

-- a mark right of x, left of the end and in the rows is appended
pub right_pushed : (x end : ℤ) (rows : Span) (base old ms : List Mark) (i : ℕ) (d : Mark) (u v : ℤ) → i < length ms
    → is_right x end rows (get_or ms i d) ≡ true
    → net u v old ≡ net u v base +ℤ cond (spanned rows v) (net u v (take i ms)) (pos 0)
    → net u v (old ++ get_or ms i d ∷ []) ≡ net u v base +ℤ cond (spanned rows v) (net u v (take (i + 1) ms)) (pos 0)
right_pushed x end rows base old ms i d u v lt right before =
    let m : Mark = get_or ms i d in
    one_pushed (spanned rows v) (is_at u v m) (net u v base) (net u v old) (net u v (old ++ m ∷ []))
    (net u v (take i ms)) (change_of m)
    (λ here. subst (λ (z : ℤ). spanned rows z ≡ true) (at_is u v m here).1
    (and_parts (int_lt x m.x && int_lt m.x end) (spanned rows m.y) right).1) (net_push u v old m) before
    ∙ ap (λ (z : ℤ). net u v base +ℤ cond (spanned rows v) z (pos 0)) (sym (net_more u v ms i d lt))

true_and_false : (t b : Bool) → t ≡ true → (t && b) ≡ false → b ≡ false
true_and_false true b h e = e
true_and_false false b h e = absurd (cc)

-- another mark isn't
pub right_skipped : (x end : ℤ) (rows : Span) (base old ms : List Mark) (i : ℕ) (d : Mark) (u v : ℤ) → i < length ms
    → x <ℤ u → u <ℤ end → is_right x end rows (get_or ms i d) ≡ false
    → net u v old ≡ net u v base +ℤ cond (spanned rows v) (net u v (take i ms)) (pos 0)
    → net u v old ≡ net u v base +ℤ cond (spanned rows v) (net u v (take (i + 1) ms)) (pos 0)
right_skipped x end rows base old ms i d u v lt low high wrong before =
    let m : Mark = get_or ms i d in
    one_skipped (spanned rows v) (is_at u v m) (net u v base) (net u v old) (net u v (take i ms)) (change_of m)
    (λ here.
    let at = at_is u v m here in
    let same = at.0 in
    let inside : (int_lt x m.x && int_lt m.x end) ≡ true =
    and_from (int_lt x m.x) (int_lt m.x end) (lt_test x m.x (omega (arith, ints, low, same)))
    (lt_test m.x end (omega (arith, ints, high, same))) in
    subst (λ (z : ℤ). spanned rows z ≡ false) at.1
    (true_and_false (int_lt x m.x && int_lt m.x end) (spanned rows m.y) inside wrong)) before
    ∙ ap (λ (z : ℤ). net u v base +ℤ cond (spanned rows v) z (pos 0)) (sym (net_more u v ms i d lt))

-- the marks at x, and those of them that are in the rows
pub at_changes : (P : Square → Type 0) (x end : ℤ) (rows : Span) (found here : List Mark) (m : AreMarksNear P x end found)
    → ((u v : ℤ) → net u v here ≡ cond (int_eq u x && spanned rows v) (net u v found) (pos 0)) → (u v : ℤ)
    → net u v here ≡ cond (int_eq u x && spanned rows v) (change_at m.covered u v) (pos 0)
at_changes P x end rows found here m few u v =
    few u v ∙ cond_same (int_eq u x && spanned rows v) (net u v found) (change_at m.covered u v)
    (λ t. m.changes u v (near_here x end u (eq_is u x (and_parts (int_eq u x) (spanned rows v) t).0)))

-- the gathered marks in a span
pub within_changes : (covered : Square → Bool) (span : Span) (h : LayerHash) (here : List Mark)
    → HasGathered covered span h
    → ((u v : ℤ) → net u v here ≡ cond (spanned span u) (net u v h.right.items) (pos 0)) → (u v : ℤ)
    → net u v here ≡ cond (spanned span u) (change_at covered u v) (pos 0)
within_changes covered span h here g few u v =
    few u v ∙ cond_same (spanned span u) (net u v h.right.items) (change_at covered u v) (g.changes u v)

-- what is gathered of a part, after what is beyond the end was dropped
pub more_gathered : (P : Square → Type 0) (x end stop : ℤ) (rows : Span) (old new : LayerHash)
    → (kept found pushed : List Mark) → stop ≤ℤ end → AreMarksNear P x stop found
    → ((u v : ℤ) → u <ℤ end → net u v kept ≡ net u v old.right.items)
    → ((u v : ℤ) → x <ℤ u → u <ℤ stop
    → net u v pushed ≡ net u v kept +ℤ cond (spanned rows v) (net u v found) (pos 0))
    → new.right.items ≡ pushed → AreMoreGathered P x stop rows old new
more_gathered P x end stop rows old new kept found pushed lower m first then is = record {
  covered = m.covered;
  is_covered = m.is_covered;
  bounded = m.bounded;
  changes = λ u v low high.
      let before = first u v (omega (arith, ints, high, lower)) in
      let all : net u v pushed ≡ net u v kept +ℤ cond (spanned rows v) (change_at m.covered u v) (pos 0) =
      then u v low high
      ∙ ap (λ (z : ℤ). net u v kept +ℤ cond (spanned rows v) z (pos 0)) (m.changes u v (near_right x stop u low high)) in
      let now = ap (net u v) is in
      omega (arith, ints, before, all, now);
}

-- nothing is gathered of a part without squares
pub none_gathered : (P : Square → Type 0) (x end : ℤ) (rows : Span) (old new : LayerHash) → ((s : Square) → P s → ⊥)
    → ((u v : ℤ) → u <ℤ end → net u v new.right.items ≡ net u v old.right.items) → AreMoreGathered P x end rows old new
none_gathered P x end rows old new empty same = record {
  covered = λ s. false;
  is_covered = λ s. (λ t. cc, λ p. absurd (empty s p));
  bounded = record { left = pos 0; bottom = pos 0; each = λ s t. absurd (cc) };
  changes = λ u v low high.
      let before = same u v high in
      let none = none_change (spanned rows v) in
      omega (arith, ints, before, none);
}

-- a hash that has taken nothing more
pub hashed_none : (old new : LayerHash) → new.layer ≡ old.layer → new.hasher ≡ old.hasher → new.corners ≡ old.corners
    → HashesOn old new []
hashed_none old new layer hasher corners before held = record {
  bytes = rw (layer, hasher, append-nil before) held.bytes;
  count = rw (corners, append-nil before) held.count;
}

-- what is gathered of a part up to a lower end
pub more_lower : (P : Square → Type 0) (x end stop : ℤ) (rows : Span) (old new : LayerHash) → stop ≤ℤ end
    → AreMoreGathered P x end rows old new → AreMoreGathered P x stop rows old new
more_lower P x end stop rows old new lower m = record {
  covered = m.covered;
  is_covered = m.is_covered;
  bounded = m.bounded;
  changes = λ u v low high. m.changes u v low (omega (arith, ints, high, lower));
}
