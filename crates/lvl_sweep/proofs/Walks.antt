-- What a walk over the edges of a row finds.
use Rattle.std.proofs.Common.{◌≡◌, ◌≢◌, ℕ, ◌+◌, ◌-◌, ◌<◌, ◌≤◌, Bool, true, false, ◌&&◌, not, eqb, List, [], ◌∷◌, ◌++◌}
use Rattle.std.proofs.Common.{length, get_or, set, take, drop, ℤ, pos, ◌+ℤ◌, ◌<ℤ◌, ◌≤ℤ◌, int_lt, int_le, Option, None}
use Rattle.std.proofs.Common.{Some, All, count_by, IsTrue, ◌↔◌, refl, sym, ◌∙◌, arith, inl, inr, cond, unsigned_abs}
use Rattle.std.proofs.Common.{IfNone}
use Rattle.std.specs.List.{AllPairs}
use Rattle.std.specs.Ordering.{int_eq}
use Rattle.std.proofs.lemmas.Int.{ints, by_lt_z}
use Rattle.std.proofs.lemmas.Bool.{cases_lt, cases_Bool, both_ways}
use Rattle.std.proofs.lemmas.Bool.Decides.{same_from_decides}
use Rattle.std.proofs.lemmas.List.{take_more, take_all, get_or_default, length-take, length-set, length-drop}
use Rattle.std.proofs.lemmas.List.{get_or-take, get_or-drop}
use Rattle.std.proofs.lemmas.List.Elements.{All-weaker, All-nil, All-take, All-get_or, All-from_get_or}
use Rattle.std.proofs.lemmas.List.Sums.{sum_by-take-drop}
use mathlib.Core.Bool.{beq}
use Rattle.lvl_sweep.specs.declared.edge.Edge.{Edge}
use Rattle.lvl_sweep.specs.declared.windings.Windings.{Windings}
use Rattle.lvl_sweep.specs.declared.walk.WalkPosition.{WalkPosition}
use Rattle.lvl_sweep.specs.inside.Edges.{turn, how_many_turn, net, net_left, IsInside, AreAtRest}
use Rattle.lvl_sweep.specs.inside.Rows.{inside, Balanced, row_from, far_of}
use Rattle.lvl_sweep.specs.Ahead.{is_from}
use Rattle.lvl_sweep.specs.inside.Walks.{IsRowOf, HasPassed, IsPartedAt, IsParted, is_inside, IsRightOf, HasTurned}
use Rattle.lvl_sweep.specs.inside.Walks.{NeverTurns}
use Rattle.lvl_sweep.proofs.Winds.{count_none, counts_more, inside_left}
use Rattle.lvl_sweep.proofs.Insides.{inside_is, inside_far}
use Rattle.lvl_sweep.proofs.RowLists.{row_first, row_none}

-- at rest nothing is passed
pub started : (es : List Edge) (w : Windings) → AreAtRest w → HasPassed es 0 w
started es w rest = record {
  within = omega arith;
  counts = λ r lt. All-get_or (λ c. c ≡ pos 0) w.counts.items r (pos 0) lt rest.counts;
  turning =
      rest.turning ∙ sym (count_none (λ c. not (int_eq c (pos 0))) w.counts.items
      (All-weaker (λ c. c ≡ pos 0) (λ c. not (int_eq c (pos 0)) ≡ false) (λ c e. rw e refl) w.counts.items
      rest.counts));
}

-- one more edge
pub passed_more : (es : List Edge) (i : ℕ) (d : Edge) (w v : Windings) → i < length es
    → All (λ e. e.ring < length w.counts.items) es → HasPassed es i w
    → v.counts.items ≡ set w.counts.items (get_or es i d).ring
    (get_or w.counts.items (get_or es i d).ring (pos 0) +ℤ turn (get_or es i d).up)
    → v.turning ≡ how_many_turn v.counts.items
    → HasPassed es (i + 1) v
passed_more es i d w v lt numbers old counts many =
    let more : take (i + 1) es ≡ take i es ++ get_or es i d ∷ [] = take_more es i d lt in
    let same : length v.counts.items ≡ length w.counts.items = rw (counts, length-set) refl in
    record {
      within = omega (arith, lt);
      counts = rw more (λ r k. counts_more w.counts.items v.counts.items (take i es) (get_or es i d) r counts old.counts
          (All-get_or (λ e. e.ring < length w.counts.items) es i d lt numbers) (rw same at k));
      turning = many;
    }

-- the number of counts stays the same
pub as_many : (cs new : List ℤ) (i : ℕ) (c : ℤ) → new ≡ set cs i c → length new ≡ length cs
as_many cs new i c e = rw (e, length-set) refl

count_front : (p : Edge → Bool) (es : List Edge) (i : ℕ) → All (λ e. p e ≡ false) (drop i es)
    → count_by p es ≡ count_by p (take i es)
count_front p es i none = omega (arith, sum_by-take-drop (λ e. cond (p e) 1 0) es i, count_none p (drop i es) none)

left_front : (r : ℕ) (z : ℤ) (es : List Edge) (i : ℕ) → All (λ e. z <ℤ e.x) (drop i es)
    → net_left r z es ≡ net_left r z (take i es)
left_front r z es i far =
    let off : (e : Edge) (b : Bool) → z <ℤ e.x → (int_le e.x z && b) ≡ false = λ e b k. let t : int_le e.x z ≡ false =
    grind (arith, ints) in rw t refl in
    let ups : count_by (λ e. int_le e.x z && (eqb e.ring r && e.up)) es ≡ count_by
    (λ e. int_le e.x z && (eqb e.ring r && e.up)) (take i es) =
    count_front (λ e. int_le e.x z && (eqb e.ring r && e.up)) es i
    (All-weaker (λ e. z <ℤ e.x) (λ e. (int_le e.x z && (eqb e.ring r && e.up)) ≡ false)
    (λ e k. off e (eqb e.ring r && e.up) k) (drop i es) far) in
    let downs : count_by (λ e. int_le e.x z && (eqb e.ring r && not e.up)) es ≡ count_by
    (λ e. int_le e.x z && (eqb e.ring r && not e.up)) (take i es) =
    count_front (λ e. int_le e.x z && (eqb e.ring r && not e.up)) es i
    (All-weaker (λ e. z <ℤ e.x) (λ e. (int_le e.x z && (eqb e.ring r && not e.up)) ≡ false)
    (λ e k. off e (eqb e.ring r && not e.up) k) (drop i es) far) in
    rw (ups, downs) refl

-- between the edges passed and the others, the counts say whether it is inside
pub turning_reports : (es : List Edge) (i : ℕ) (w : Windings) (z : ℤ) → All (λ e. e.ring < length w.counts.items) es
    → HasPassed es i w → All (λ e. e.x ≤ℤ z) (take i es) → All (λ e. z <ℤ e.x) (drop i es) → inside es z ≡ is_inside w
turning_reports es i w z numbers passed left right =
    let front : IsTrue (is_inside w) ↔ IsInside (take i es) z = inside_left (take i es) w.counts.items z w.turning
    (is_inside w) left (All-take (λ e. e.ring < length w.counts.items) i es numbers) passed.counts passed.turning
    refl in
    same_from_decides {P = IsInside (take i es) z} (inside es z) (is_inside w) (
      λ h. let f : IsInside es z = (inside_is es z).0 h in (f.0, λ e. f.1 (left_front f.0 z es i right ∙ e)),
      λ f. (inside_is es z).1 (f.0, λ e. f.1 (sym (left_front f.0 z es i right) ∙ e)),
    )
    front

-- after all edges of a balanced row the counts are at rest
pub ended : (es : List Edge) (w : Windings) → Balanced es → HasPassed es (length es) w → AreAtRest w
ended es w balanced passed =
    let all : take (length es) es ≡ es = take_all (length es) es (omega arith) in
    let counts : (r : ℕ) → r < length w.counts.items → get_or w.counts.items r (pos 0) ≡ net r es =
    rw all at passed.counts in
    let zero : All (λ c. c ≡ pos 0) w.counts.items = All-from_get_or (λ c. c ≡ pos 0) w.counts.items (pos 0)
    (λ r lt. counts r lt ∙ balanced r) in
    record {
      counts = zero;
      turning = passed.turning ∙ count_none (λ c. not (int_eq c (pos 0))) w.counts.items
          (All-weaker (λ c. c ≡ pos 0) (λ c. not (int_eq c (pos 0)) ≡ false) (λ c e. rw e refl) w.counts.items zero);
    }

pub item_same : (es : List Edge) (i : ℕ) (c d : Edge) → i < length es → get_or es i c ≡ get_or es i d
item_same es i c d lt = get_or_default es i c d lt

rising_at : (es : List Edge) (i j : ℕ) (d : Edge) → AllPairs (λ d e. d.x ≤ℤ e.x) es → i ≤ j → j < length es
    → (get_or es i d).x ≤ℤ (get_or es j d).x
rising_at es i j d h le lt = elim (cases_lt i j) [
  | inl near ↦ h i j d near lt
  | inr far ↦ let e : i ≡ j = omega arith in rw e (omega (arith, ints))
]

-- the edges from index i on aren't left of the one at index i
pub from_on_right : (es : List Edge) (i : ℕ) (z : ℤ) (d : Edge) → AllPairs (λ d e. d.x ≤ℤ e.x) es
    → (i < length es → z <ℤ (get_or es i d).x) → All (λ e. z <ℤ e.x) (drop i es)
from_on_right es i z d h here = All-from_get_or (λ e. z <ℤ e.x) (drop i es) d (λ k lt.
    let within : i + k < length es = omega (arith, length-drop i es, lt) in
    let at : get_or (drop i es) k d ≡ get_or es (i + k) d = get_or-drop i es k d in
    let low : z <ℤ (get_or es i d).x = here (omega arith) in
    let le : (get_or es i d).x ≤ℤ (get_or es (i + k) d).x = rising_at es i (i + k) d h (omega arith) within in
    rw at (omega (arith, ints, low, le)))

pub before_left : (es : List Edge) (i : ℕ) (x : ℤ) (d : Edge)
    → ((k : ℕ) → k < i → k < length es → (get_or es k d).x ≤ℤ x) → All (λ e. e.x ≤ℤ x) (take i es)
before_left es i x d h = All-from_get_or (λ e. e.x ≤ℤ x) (take i es) d (λ k lt.
    let near : k < i = omega (arith, length-take i es, lt) in
    let at : get_or (take i es) k d ≡ get_or es k d = get_or-take i es k d near in
    rw at (h k near (omega (arith, length-take i es, lt))))

-- all edges of one abscissa are passed
pub parted : (es : List Edge) (i j : ℕ) (x : ℤ) → i < length es → i ≤ j → j ≤ length es
    → AllPairs (λ d e. d.x ≤ℤ e.x) es
    → ((d : Edge) → (get_or es i d).x ≡ x)
    → ((k : ℕ) (d : Edge) → i ≤ k → k < j → (get_or es k d).x ≡ x)
    → (j < length es → (d : Edge) → (get_or es j d).x ≢ x)
    → (i < j) × IsPartedAt es j x
parted es i j x lt le within rising here same other =
    let d : Edge = record { low = pos 0; x = pos 0; ring = 0; high = pos 0; up = false } in
    let on : i < j = elim (cases_lt i j) [
      | inl k ↦ k
      | inr far ↦ let e : j ≡ i = omega arith in absurd (other (omega arith) d (rw e (here d)))
    ] in (
      on,
      record {
        left = before_left es j x d (λ k near short. elim (cases_lt k i) [
          | inl low ↦ let a : (get_or es k d).x ≤ℤ (get_or es i d).x = rising_at es k i d rising (omega arith) lt in
              let b : (get_or es i d).x ≡ x = here d in omega (arith, ints, a, b)
          | inr high ↦ let a : (get_or es k d).x ≡ x = same k d high near in omega (arith, ints, a)
        ]);
        right = from_on_right es j x d rising (λ short.
            let a : (get_or es i d).x ≤ℤ (get_or es j d).x = rising_at es i j d rising (omega arith) short in
            let b : (get_or es i d).x ≡ x = here d in
            let c : (get_or es j d).x ≢ x = other short d in
            by_lt_z x (get_or es j d).x (λ k. k) (λ k. absurd (c (omega (arith, ints, a, b, k)))));
      },
    )

abbrev is_before : Option ℤ → ℤ → Bool
is_before None z = false
is_before (Some c) z = int_lt z c

-- an abscissa before the next edge and not before the place is between both
between : (es : List Edge) (i : ℕ) (o : Option ℤ) (z : ℤ) (d : Edge) → AllPairs (λ d e. d.x ≤ℤ e.x) es → IsParted es i o
    → is_before o z ≡ false → (i < length es → z <ℤ (get_or es i d).x) → All (λ e. e.x ≤ℤ z) (take i es)
    × All (λ e. z <ℤ e.x) (drop i es)
between es i None z d rising place later before =
    (rw place (All-nil (λ e. e.x ≤ℤ z)), from_on_right es i z d rising before)
between es i (Some c) z d rising place later before =
    let past : c ≤ℤ z = grind (arith, ints) in (
      All-weaker (λ e. e.x ≤ℤ c) (λ e. e.x ≤ℤ z) (λ e k. omega (arith, ints, k, past)) (take i es) place.left,
      from_on_right es i z d rising before,
    )

-- up to the place the wanted side wasn't found
pub record Looked (es : List Edge) (wanted : Bool) (first now : WalkPosition) (w w' : Windings) : Type 0 where
  pub passed : HasPassed es now.at w'
  pub parted : IsParted es now.at now.x
  pub rings : length w'.counts.items ≡ length w.counts.items
  pub side : is_inside w' ≡ not wanted
  pub from : first.at ≤ now.at
  pub seen : (z : ℤ) → is_from first.x z ≡ true → is_before now.x z ≡ true → inside es z ≡ not wanted

pub numbers_of : (es : List Edge) (n m : ℕ) → m ≡ n → All (λ e. e.ring < n) es → All (λ e. e.ring < m) es
numbers_of es n m e h = rw e h

-- nor is it found before the next edge
pub looked_on : (es : List Edge) (wanted : Bool) (first now : WalkPosition) (w w' : Windings) (d : Edge)
    → IsRowOf es (length w.counts.items) → Looked es wanted first now w w' → (z : ℤ) → is_from first.x z ≡ true
    → (now.at < length es → z <ℤ (get_or es now.at d).x) → inside es z ≡ not wanted
looked_on es wanted first now w w' d row h z past before =
    elim (cases_Bool (is_before now.x z)) [
      | inl t ↦ h.seen z past t
      | inr t ↦
          let both = between es now.at now.x z d row.rising h.parted t before in
          turning_reports es now.at w' z (numbers_of es (length w.counts.items) (length w'.counts.items) h.rings
          row.numbers) h.passed both.0 both.1 ∙ h.side
    ]

right_of : (es : List Edge) (i j : ℕ) (o : Option ℤ) (d : Edge) → IsParted es i o → i ≤ j → j < length es
    → IsRightOf o (get_or es j d).x
right_of es i j None d h le lt = tt
right_of es i j (Some c) d h le lt =
    let at : get_or (drop i es) (j - i) d ≡ get_or es (i + (j - i)) d = get_or-drop i es (j - i) d in
    let same : i + (j - i) ≡ j = omega arith in
    let far : c <ℤ (get_or (drop i es) (j - i) d).x = h.right (j - i) d (omega (arith, length-drop i es)) in
    rw (at, same) at far

-- the edges of one more abscissa, after which the side is the same
pub look_more : (es : List Edge) (wanted : Bool) (first now : WalkPosition) (w w' v : Windings) (at : ℕ) (x : ℤ)
    (d : Edge)
    → IsRowOf es (length w.counts.items) → Looked es wanted first now w w' → now.at < length es
    → x ≡ (get_or es now.at d).x
    → HasPassed es at v → IsPartedAt es at x → now.at < at → length v.counts.items ≡ length w'.counts.items
    → is_inside v ≡ not wanted
    → Looked es wanted first (record { at = at; x = Some x }) w v
look_more es wanted first now w w' v at x d row h lt is passed place on rings side = record {
  passed = passed;
  parted = place;
  rings = rings ∙ h.rings;
  side = side;
  from = omega (arith, h.from, on);
  seen = λ z past before. looked_on es wanted first now w w' d row h z past (λ short. let k : z <ℤ x =
      grind (arith, ints) in rw is at k);
}

-- the edges of one more abscissa, after which the side is the wanted one
pub turned : (es : List Edge) (wanted : Bool) (first now : WalkPosition) (w w' v : Windings) (at : ℕ) (x : ℤ) (d : Edge)
    → IsRowOf es (length w.counts.items) → IsParted es first.at first.x → Looked es wanted first now w w'
    → now.at < length es → x ≡ (get_or es now.at d).x
    → now.at < at → is_inside v ≡ wanted
    → HasTurned es wanted first (record { at = at; x = Some x }) v x
turned es wanted first now w w' v at x d row place h lt is on side = record {
  here = refl;
  side = side;
  on = omega (arith, h.from, on);
  right = rw is (right_of es first.at now.at first.x d place h.from lt);
  before = λ z past before. looked_on es wanted first now w w' d row h z past (λ short. rw is at before);
}

pub never : (es : List Edge) (wanted : Bool) (first now : WalkPosition) (w w' : Windings)
    → IsRowOf es (length w.counts.items)
    → Looked es wanted first now w w' → length es ≤ now.at → NeverTurns es wanted first now
never es wanted first now w w' row h far = record {
  all = omega (arith, far, h.passed.within);
  after = λ z past. looked_on es wanted first now w w' (record {
    low = pos 0;
    x = pos 0;
    ring = 0;
    high = pos 0;
    up = false;
  }) row h z past (λ short. absurd (omega (arith, short, far)));
}

past_place : (o : Option ℤ) (x : ℤ) → IsRightOf o x → is_from o x ≡ true
past_place None x h = refl
past_place (Some a) x h = grind (arith, ints)

right_at : (o : Option ℤ) (a x : ℤ) → o ≡ Some a → IsRightOf o x → a <ℤ x
right_at o a x e h = rw e at h

-- if the walk gets inside at s and outside at e, the first interval is from s to e
pub first_interval : (es : List Edge) (n : ℕ) (p q r : WalkPosition) (v w : Windings) (s e : ℤ) → IsRowOf es n
    → All (λ e. e.ring < length w.counts.items) es → HasTurned es true p q v s → HasTurned es false q r w e
    → HasPassed es r.at w → IsParted es r.at r.x → row_from es p.x ≡ (s, e) ∷ row_from es r.x
first_interval es n p q r v w s e row numbers t u passed place =
    let parted : IsPartedAt es r.at e = rw u.here at place in
    let first : row_from es p.x ≡ (s, e) ∷ row_from es (Some e) = row_first es p.x s e row.balanced
    (past_place p.x s t.right) (right_at q.x s e t.here u.right) t.before
    (λ z low high. u.before z (rw t.here (let k : int_le s z ≡ true = grind (arith, ints) in k)) high)
    (turning_reports es r.at w e numbers passed parted.left parted.right ∙ u.side) in
    rw u.here first

pub no_interval : (es : List Edge) (n : ℕ) (p q : WalkPosition) → IsRowOf es n → NeverTurns es true p q
    → row_from es p.x ≡ []
no_interval es n p q row h = row_none es p.x row.balanced h.after

-- a walk that gets inside gets outside again
pub turns_out : (es : List Edge) (n : ℕ) (p q r : WalkPosition) (v : Windings) (s : ℤ) → IsRowOf es n
    → HasTurned es true p q v s → NeverTurns es false q r → ⊥
turns_out es n p q r v s row t h =
    let z : ℤ = pos (far_of es + unsigned_abs s + 1) in
    let far : inside es z ≡ false = inside_far es z row.balanced (omega arith) in
    let low : s ≤ℤ z = omega (arith, ints) in
    let past : is_from (Some s) z ≡ true = grind (arith, ints) in
    let there : is_from q.x z ≡ true = rw t.here past in
    both_ways (inside es z) far (h.after z there)

pub at_none : {A : Type 0} (r : Option A) (P : Type 0) → P → IfNone r P
at_none None P h = h
at_none (Some x) P h = tt

pub wanted_is : (a b : Bool) → beq a b ≡ true → a ≡ b
wanted_is true true h = refl
wanted_is true false h = absurd (let clash : false ≡ true = h in cc)
wanted_is false true h = absurd (let clash : false ≡ true = h in cc)
wanted_is false false h = refl

pub wanted_is_not : (a b : Bool) → beq a b ≡ false → a ≡ not b
wanted_is_not true true h = absurd (let clash : true ≡ false = h in cc)
wanted_is_not true false h = refl
wanted_is_not false true h = refl
wanted_is_not false false h = absurd (let clash : true ≡ false = h in cc)

-- the edges passed after i are at x, with one more
pub same_more : (es : List Edge) (i j : ℕ) (x : ℤ) → ((k : ℕ) (d : Edge) → i ≤ k → k < j → (get_or es k d).x ≡ x)
    → ((d : Edge) → (get_or es j d).x ≡ x) → (k : ℕ) (d : Edge) → i ≤ k → k < j + 1 → (get_or es k d).x ≡ x
same_more es i j x h here k d le lt =
    elim (cases_lt k j) [ inl near ↦ h k d le near | inr far ↦ let e : k ≡ j = omega arith in rw e (here d) ]
