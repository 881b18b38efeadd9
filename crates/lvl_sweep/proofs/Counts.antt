-- A slab list of rings has few bands, and its bands few intervals.
use Rattle.std.proofs.Common.{◌≡◌, ◌≢◌, ◌+◌, ◌*◌, ◌<◌, ◌≤◌, Bool, true, false, ◌&&◌, not, List, [], ◌∷◌, ◌++◌, length}
use Rattle.std.proofs.Common.{get_or, ℤ, pos, ◌+ℤ◌, ◌-ℤ◌, ◌<ℤ◌, ◌≤ℤ◌, int_lt, int_le, Option, None, Some, All, Any}
use Rattle.std.proofs.Common.{Contains, count_by, refl, sym, ◌∙◌, ap, arith, subst, ◌⊎◌, inl, inr}
use Rattle.std.specs.List.{list_any}
use Rattle.std.specs.Ordering.{int_eq}
use Rattle.std.proofs.lemmas.Int.{ints, by_lt_z}
use Rattle.std.proofs.lemmas.Bool.{cases_Bool, both_ways, and_parts, and_right}
use Rattle.std.proofs.lemmas.Bool.Decides.{Decides-int_eq, same_from_decides}
use Rattle.std.proofs.lemmas.List.{append_assoc, length-append, get_or_default, get_or_append_left, get_or-append-add}
use Rattle.std.proofs.lemmas.List.Elements.{All-weaker, All-nil, All-cons, All-head, All-contains}
use Rattle.std.proofs.lemmas.List.Folds.{Any-from_list_any, list_any_none}
use Rattle.std.proofs.lemmas.List.Sums.{count_by-le-length}
use Rattle.lvl_grid.specs.declared.point.Point.{Point}
use Rattle.lvl_grid.specs.declared.point.Square.{Square}
use Rattle.lvl_grid.specs.Winding.{winding, edges, goes_up, goes_down}
use Rattle.lvl_grid.proofs.Sides.{winding_same, SameSide}
use Rattle.lvl_region.specs.Region.{SomeCovers}
use Rattle.lvl_sweep.specs.Slab.{Slab, value_of, AreSteps, spans, AreIntervals, slabs_cover}
use Rattle.lvl_sweep.specs.Bands.{AreBandsOf, HaveOrdinates, AreFewerThanLines, is_vertical, all_edges}
use Rattle.lvl_sweep.specs.Bands.{HaveFewIntervals}
use Rattle.lvl_sweep.proofs.Winds.{count_same}
use Rattle.lvl_sweep.proofs.Insides.{none_of}
use Rattle.lvl_sweep.proofs.BandLists.{in_value, cover_is, each_there}
use Rattle.lvl_sweep.proofs.Tops.{fewer_by, fewer_at}
use Rattle.lvl_sweep.proofs.OneList.{same_value, value_has}
use Rattle.lvl_sweep.proofs.Firsts.{Stands, stands, early, here, at_end, right_of}
use Rattle.lvl_sweep.proofs.Slabs.{none_left_of, at_head, past_head}

-- rings with the same windings cover the same squares
some_same : (rings : List (List Point)) (s t : Square) → All (λ ring. winding ring s ≡ winding ring t) rings
    → SomeCovers rings s → SomeCovers rings t
some_same rings s t h c =
    let same : winding c.1 s ≡ winding c.1 t = All-contains (λ ring. winding ring s ≡ winding ring t) rings c.1 h
    (c.0, c.2, c.3) in
    (c.0, c.1, c.2, c.3, λ e. c.4 (same ∙ e))

cover_same : (rings : List (List Point)) (slabs : List Slab) (s t : Square) → AreBandsOf rings slabs
    → All (λ ring. winding ring s ≡ winding ring t) rings → slabs_cover slabs s ≡ slabs_cover slabs t
cover_same rings slabs s t of h =
    same_from_decides {P = SomeCovers rings t} (slabs_cover slabs s) (slabs_cover slabs t) (
      λ k. some_same rings s t h ((of.covers s).0 k),
      λ c. (of.covers s).1
          (some_same rings t s (All-weaker (λ ring. winding ring s ≡ winding ring t)
          (λ ring. winding ring t ≡ winding ring s) (λ ring e. sym e) rings h) c),
    )
    (of.covers t)

contained : (lines : List ℤ) (y : ℤ) → Contains lines y ⊎ All (λ v. int_eq v y ≡ false) lines
contained lines y = elim (cases_Bool (list_any (λ v. int_eq v y) lines)) [
  | inl some ↦ let f = Any-from_list_any (λ v. int_eq v y) lines some in
      inl (subst (λ (v : ℤ). Contains lines v) ((Decides-int_eq f.1 y).0 f.4) (f.0, f.2, f.3))
  | inr none ↦ inr (none_of (λ v. int_eq v y) lines none)
]

same_line : (v y : ℤ) → v ≢ y → int_le v (y -ℤ pos 1) ≡ int_le v y
same_line v y h = by_lt_z v y
    (λ lt.
    let a : int_le v (y -ℤ pos 1) ≡ true = grind (arith, ints) in
    let b : int_le v y ≡ true = grind (arith, ints) in
    a ∙ sym b)
    (λ ge.
    let far : y <ℤ v = by_lt_z y v (λ k. k) (λ k. absurd (h (omega (arith, ints, ge, k)))) in
    let a : int_le v (y -ℤ pos 1) ≡ false = grind (arith, ints) in
    let b : int_le v y ≡ false = grind (arith, ints) in
    a ∙ sym b)

-- across an ordinate that no vertex has, the rows are the same
row_above : (rings : List (List Point)) (slabs : List Slab) (lines : List ℤ) (y x : ℤ) → AreBandsOf rings slabs
    → HaveOrdinates lines rings → All (λ v. int_eq v y ≡ false) lines
    → slabs_cover slabs (record { x = x; y = y -ℤ pos 1 }) ≡ slabs_cover slabs (record { x = x; y = y })
row_above rings slabs lines y x of has none =
    let s : Square = record { x = x; y = y -ℤ pos 1 } in
    let t : Square = record { x = x; y = y } in
    cover_same rings slabs s t of (All-weaker (λ ring. All (λ p. Contains lines p.y) ring)
    (λ ring. winding ring s ≡ winding ring t)
    (λ ring h. winding_same s t ring (All-weaker (λ (p : Point). Contains lines p.y) (SameSide s t)
    (λ p c. (
      refl,
      same_line p.y y (λ e. both_ways (int_eq p.y y) (All-contains (λ v. int_eq v y ≡ false) lines p.y none c)
          ((Decides-int_eq p.y y).1 e)),
    )) ring h)) rings has)

-- so if the value changes at an ordinate, some vertex has it
value_changes : (rings : List (List Point)) (slabs : List Slab) (lines : List ℤ) (y : ℤ) → AreBandsOf rings slabs
    → HaveOrdinates lines rings → value_of slabs (y -ℤ pos 1) ≢ value_of slabs y → Contains lines y
value_changes rings slabs lines y of has changes = elim (contained lines y) [
  | inl c ↦ c
  | inr none ↦
      absurd (changes (same_value (value_of slabs (y -ℤ pos 1)) (value_of slabs y)
      (λ r e. value_has slabs (y -ℤ pos 1) r of.list.rows e) (λ r e. value_has slabs y r of.list.rows e) (λ x.
      sym (cover_is (record { x = x; y = y -ℤ pos 1 }) slabs of.list.steps)
      ∙ (row_above rings slabs lines y x of has none ∙ cover_is (record { x = x; y = y }) slabs of.list.steps))))
]

-- the lines at or above a contained one are more than those above it
more_above : (lines : List ℤ) (a b : ℤ) → a <ℤ b → Contains lines a
    → count_by (λ v. int_le b v) lines < count_by (λ v. int_le a v) lines
more_above lines a b lt c =
    let at : int_le a (get_or lines c.0 (pos 0)) ≡ true = rw (get_or_default lines c.0 (pos 0) a c.1 ∙ c.2)
    (let t : int_le a a ≡ true = grind (arith, ints) in t) in
    let past : int_le b (get_or lines c.0 (pos 0)) ≡ false = rw (get_or_default lines c.0 (pos 0) a c.1 ∙ c.2)
    (let t : int_le b a ≡ false = grind (arith, ints) in t) in
    fewer_at (λ v. int_le a v) (λ v. int_le b v) lines c.0 (pos 0) (λ v h. grind (arith, ints)) c.1 at past

some_at : (o p : Option (List (ℤ × ℤ))) (v : List (ℤ × ℤ)) → o ≡ None → p ≡ Some v → o ≢ p
some_at o p v e f h = let clash : None ≡ Some v = sym e ∙ (h ∙ f) in cc

two_values : (o p : Option (List (ℤ × ℤ))) (u v : List (ℤ × ℤ)) → o ≡ Some u → p ≡ Some v → u ≢ v → o ≢ p
two_values o p u v e f differ h = let same : Some u ≡ Some v = sym e ∙ (h ∙ f) in differ (let k : u ≡ v = cc in k)

-- the bands from one on, and one more, are no more than the lines from its first row on
bands_few : (rings : List (List Point)) (slabs : List Slab) (lines : List ℤ) (s : Slab) (ss : List Slab)
    → AreBandsOf rings slabs → HaveOrdinates lines rings → AreSteps (s ∷ ss)
    → ((z : ℤ) → s.from ≤ℤ z → value_of slabs z ≡ value_of (s ∷ ss) z) → Contains lines s.from
    → length (s ∷ ss) + 1 ≤ count_by (λ v. int_le s.from v) lines
bands_few rings slabs lines s [] of has steps same c =
    let last : value_of slabs (s.to -ℤ pos 1) ≡ Some s.value = same (s.to -ℤ pos 1) (omega (arith, ints, steps.0))
    ∙ at_head s [] (s.to -ℤ pos 1) (omega (arith, ints, steps.0)) (omega (arith, ints)) in
    let after : value_of slabs s.to ≡ None = same s.to (omega (arith, ints, steps.0)) ∙ past_head s [] s.to
    (omega (arith, ints)) in
    let top : Contains lines s.to = value_changes rings slabs lines s.to of has
    (λ e. some_at (value_of slabs s.to) (value_of slabs (s.to -ℤ pos 1)) s.value after last (sym e)) in
    let far : count_by (λ v. int_le (s.to +ℤ pos 1) v) lines < count_by (λ v. int_le s.to v) lines =
    more_above lines s.to (s.to +ℤ pos 1) (omega (arith, ints)) top in
    omega (arith, more_above lines s.from s.to steps.0 c, far)
bands_few rings slabs lines s (t ∷ ts) of has steps same c =
    let up : s.from <ℤ t.from = omega (arith, ints, steps.0, steps.1.0) in
    let at : value_of slabs t.from ≡ Some t.value = same t.from (omega (arith, ints, up))
    ∙ (past_head s (t ∷ ts) t.from steps.1.0 ∙ at_head t ts t.from (omega (arith, ints)) steps.2.0) in
    let under : value_of slabs (t.from -ℤ pos 1) ≡ value_of (s ∷ t ∷ ts) (t.from -ℤ pos 1) =
    same (t.from -ℤ pos 1) (omega (arith, ints, up)) in
    let differs : value_of slabs (t.from -ℤ pos 1) ≢ value_of slabs t.from = by_lt_z s.to t.from
    (λ lt.
    let none : value_of slabs (t.from -ℤ pos 1) ≡ None =
    under ∙ (past_head s (t ∷ ts) (t.from -ℤ pos 1) (omega (arith, ints, lt)) ∙ none_left_of t ts (t.from -ℤ pos 1)
    steps.2 (omega (arith, ints))) in
    some_at (value_of slabs (t.from -ℤ pos 1)) (value_of slabs t.from) t.value none at)
    (λ ge.
    let touch : s.to ≡ t.from = omega (arith, ints, ge, steps.1.0) in
    let some : value_of slabs (t.from -ℤ pos 1) ≡ Some s.value = under ∙ at_head s (t ∷ ts) (t.from -ℤ pos 1)
    (omega (arith, ints, up)) (omega (arith, ints, touch)) in
    two_values (value_of slabs (t.from -ℤ pos 1)) (value_of slabs t.from) s.value t.value some at (steps.1.1 touch)) in
    let low : Contains lines t.from = value_changes rings slabs lines t.from of has differs in
    let rest : length (t ∷ ts) + 1 ≤ count_by (λ v. int_le t.from v) lines = bands_few rings slabs lines t ts of has
    steps.2 (λ z le. same z (omega (arith, ints, up, le)) ∙ past_head s (t ∷ ts) z
    (omega (arith, ints, steps.1.0, le))) low in
    omega (arith, more_above lines s.from t.from up c, rest)

fewer_by_cases : (rings : List (List Point)) (slabs us : List Slab) → slabs ≡ us → AreBandsOf rings slabs
    → AreFewerThanLines rings us
fewer_by_cases rings slabs [] e of = λ lines has some. omega (arith, some)
fewer_by_cases rings slabs (s ∷ ss) e of = λ lines has some.
    let steps : AreSteps (s ∷ ss) = subst AreSteps e of.list.steps in
    let same : (z : ℤ) → value_of slabs z ≡ value_of (s ∷ ss) z = λ z. ap (λ l. value_of l z) e in
    let none : value_of slabs (s.from -ℤ pos 1) ≡ None = same (s.from -ℤ pos 1) ∙ none_left_of s ss (s.from -ℤ pos 1)
    steps (omega (arith, ints)) in
    let first : value_of slabs s.from ≡ Some s.value = same s.from ∙ at_head s ss s.from (omega (arith, ints))
    steps.0 in
    let low : Contains lines s.from = value_changes rings slabs lines s.from of has
    (some_at (value_of slabs (s.from -ℤ pos 1)) (value_of slabs s.from) s.value none first) in
    omega (
      arith,
      bands_few rings slabs lines s ss of has steps (λ z le. same z) low,
      count_by-le-length (λ v. int_le s.from v) lines,
    )

-- the bands are fewer than the ordinates of the vertices
pub few_bands : (rings : List (List Point)) (slabs : List Slab) → AreBandsOf rings slabs → AreFewerThanLines rings slabs
few_bands rings slabs of = fewer_by_cases rings slabs slabs refl of

-- an edge that crosses rows at abscissa z
abbrev is_on : ℤ → Point × Point → Bool
is_on z e = is_vertical e && int_eq e.0.x z

front_of : (P : Point × Point → Type 0) (es fs : List (Point × Point)) → All P (es ++ fs) → All P es
front_of P es fs h k d lt = rw (get_or_append_left es fs d k lt) at (h k d (omega (arith, length-append es fs, lt)))

back_of : (P : Point × Point → Type 0) (es fs : List (Point × Point)) → All P (es ++ fs) → All P fs
back_of P es fs h k d lt =
    rw (get_or-append-add es fs k d) at (h (length es + k) d (omega (arith, length-append es fs, lt)))

each_ring : (P : Point × Point → Type 0) (rings : List (List Point)) → All P (all_edges rings)
    → All (λ ring. All P (edges ring)) rings
each_ring P [] h = All-nil (λ ring. All P (edges ring))
each_ring P (ring ∷ rings) h =
    All-cons (λ ring. All P (edges ring)) ring rings (front_of P (edges ring) (all_edges rings) h)
    (each_ring P rings (back_of P (edges ring) (all_edges rings) h))

no_row : (a b y : ℤ) → int_eq a b ≡ true → (int_le a y && int_lt y b) ≡ false
no_row a b y e = let same : a ≡ b = (Decides-int_eq a b).0 e in by_lt_z y a
    (λ lt. let t : int_le a y ≡ false = grind (arith, ints) in rw t refl)
    (λ ge. let t : int_lt y b ≡ false = grind (arith, ints) in and_right (int_le a y) (int_lt y b) t)

same_side : (x z : ℤ) → x ≢ z → int_lt (z -ℤ pos 1) x ≡ int_lt z x
same_side x z h = by_lt_z z x
    (λ lt.
    let a : int_lt (z -ℤ pos 1) x ≡ true = grind (arith, ints) in
    let b : int_lt z x ≡ true = grind (arith, ints) in
    a ∙ sym b)
    (λ ge.
    let far : x <ℤ z = by_lt_z x z (λ k. k) (λ k. absurd (h (omega (arith, ints, ge, k)))) in
    let a : int_lt (z -ℤ pos 1) x ≡ false = grind (arith, ints) in
    let b : int_lt z x ≡ false = grind (arith, ints) in
    a ∙ sym b)

-- an edge that isn't at z counts the same on both sides of it
tests_alike : (x z a b y : ℤ) → (not (int_eq a b) && int_eq x z) ≡ false
    → (int_lt (z -ℤ pos 1) x && (int_le a y && int_lt y b)) ≡ (int_lt z x && (int_le a y && int_lt y b))
tests_alike x z a b y h = elim (cases_Bool (int_eq a b)) [
  | inl flat ↦ let t : (int_le a y && int_lt y b) ≡ false = no_row a b y flat in and_right (int_lt (z -ℤ pos 1) x)
      (int_le a y && int_lt y b) t ∙ sym (and_right (int_lt z x) (int_le a y && int_lt y b) t)
  | inr tall ↦
      let apart : x ≢ z = λ e.
      let on : (not (int_eq a b) && int_eq x z) ≡ true = rw (tall, (Decides-int_eq x z).1 e) refl in
      both_ways (not (int_eq a b) && int_eq x z) h on in
      ap (λ t. t && (int_le a y && int_lt y b)) (same_side x z apart)
]

flat_too : (a b x z : ℤ) → (not (int_eq a b) && int_eq x z) ≡ false → (not (int_eq b a) && int_eq x z) ≡ false
flat_too a b x z h = elim (cases_Bool (int_eq b a)) [
  | inl flat ↦ rw flat refl
  | inr tall ↦
      let same : int_eq a b ≡ false =
      elim (cases_Bool (int_eq a b)) [
        | inl t ↦ absurd (both_ways (int_eq b a) tall ((Decides-int_eq b a).1 (sym ((Decides-int_eq a b).0 t))))
        | inr t ↦ t
      ] in
      let off : int_eq x z ≡ false = rw same at h in
      and_right (not (int_eq b a)) (int_eq x z) off
]

winding_beside : (ring : List Point) (z y : ℤ) → All (λ e. is_on z e ≡ false) (edges ring)
    → winding ring (record { x = z -ℤ pos 1; y = y }) ≡ winding ring (record { x = z; y = y })
winding_beside ring z y h =
    let s : Square = record { x = z -ℤ pos 1; y = y } in
    let t : Square = record { x = z; y = y } in
    let ups : count_by (goes_up s) (edges ring) ≡ count_by (goes_up t) (edges ring) = count_same (goes_up s) (goes_up t)
    (edges ring) (All-weaker (λ e. is_on z e ≡ false) (λ e. goes_up s e ≡ goes_up t e)
    (λ e k. tests_alike e.0.x z e.0.y e.1.y y k) (edges ring) h) in
    let downs : count_by (goes_down s) (edges ring) ≡ count_by (goes_down t) (edges ring) =
    count_same (goes_down s) (goes_down t) (edges ring)
    (All-weaker (λ e. is_on z e ≡ false) (λ e. goes_down s e ≡ goes_down t e)
    (λ e k. tests_alike e.0.x z e.1.y e.0.y y (flat_too e.0.y e.1.y e.0.x z k)) (edges ring) h) in
    rw (ups, downs) refl

-- if a row changes at an abscissa, some edge has it
changes_at : (rings : List (List Point)) (slabs : List Slab) (z y : ℤ) → AreBandsOf rings slabs
    → slabs_cover slabs (record { x = z -ℤ pos 1; y = y }) ≢ slabs_cover slabs (record { x = z; y = y })
    → Any (λ e. is_on z e ≡ true) (all_edges rings)
changes_at rings slabs z y of differs = elim (cases_Bool (list_any (is_on z) (all_edges rings))) [
  | inl some ↦ Any-from_list_any (is_on z) (all_edges rings) some
  | inr none ↦
      let each : All (λ ring. All (λ e. is_on z e ≡ false) (edges ring)) rings = each_ring (λ e. is_on z e ≡ false)
      rings (none_of (is_on z) (all_edges rings) none) in
      absurd (differs (cover_same rings slabs (record { x = z -ℤ pos 1; y = y }) (record { x = z; y = y }) of
      (All-weaker (λ ring. All (λ e. is_on z e ≡ false) (edges ring))
      (λ ring. winding ring (record { x = z -ℤ pos 1; y = y }) ≡ winding ring (record { x = z; y = y }))
      (λ ring h. winding_beside ring z y h) rings each)))
]

abbrev from_on : ℤ → Point × Point → Bool
from_on z e = is_vertical e && int_le z e.0.x

still_on : (a b : ℤ) (v : Bool) (x : ℤ) → a <ℤ b → (v && int_le b x) ≡ true → (v && int_le a x) ≡ true
still_on a b v x lt h =
    let both = and_parts v (int_le b x) h in
    let t : int_le a x ≡ true = let k : int_le b x ≡ true = both.1 in grind (arith, ints) in
    rw (both.0, t) refl

-- the vertical edges from one abscissa on are more than those from a later one on, if there is one there
more_right : (rings : List (List Point)) (a b : ℤ) → a <ℤ b → Any (λ e. is_on a e ≡ true) (all_edges rings)
    → count_by (from_on b) (all_edges rings) < count_by (from_on a) (all_edges rings)
more_right rings a b lt f =
    let both = and_parts (is_vertical f.1) (int_eq f.1.0.x a) f.4 in
    let at : f.1.0.x ≡ a = (Decides-int_eq f.1.0.x a).0 both.1 in
    let on : from_on a f.1 ≡ true = rw (both.0, at) (let t : int_le a a ≡ true = grind (arith, ints) in t) in
    let off : from_on b f.1 ≡ false = and_right (is_vertical f.1) (int_le b f.1.0.x)
    (rw at (let t : int_le b a ≡ false = grind (arith, ints) in t)) in
    fewer_at (from_on a) (from_on b) (all_edges rings) f.0 f.1 (λ e h. still_on a b (is_vertical e) e.0.x lt h) f.2
    (rw f.3 on) (rw f.3 off)

differ_by : (p q : Bool) → p ≡ false → q ≡ true → p ≢ q
differ_by p q e f h = both_ways q (sym h ∙ e) f

differ_back : (p q : Bool) → p ≡ true → q ≡ false → p ≢ q
differ_back p q e f h = both_ways q f (sym h ∙ e)

-- both ends of an interval
ends_of : (rings : List (List Point)) (slabs : List Slab) (y : ℤ) (fr : List (ℤ × ℤ)) (i : ℤ × ℤ) (is : List (ℤ × ℤ))
    → AreBandsOf rings slabs → ((x : ℤ) → slabs_cover slabs (record { x = x; y = y }) ≡ list_any (spans x)
    (fr ++ i ∷ is)) → AreIntervals (fr ++ i ∷ is)
    → (i.0 <ℤ i.1) × Any (λ e. is_on i.0 e ≡ true) (all_edges rings) × Any (λ e. is_on i.1 e ≡ true) (all_edges rings)
ends_of rings slabs y fr i is of row order =
    let s : Stands fr i is = stands fr i is order in
    let before : list_any (spans (i.0 -ℤ pos 1)) fr ≡ false = list_any_none (spans (i.0 -ℤ pos 1)) fr
    (All-weaker (λ (k : ℤ × ℤ). k.1 <ℤ i.0) (λ k. spans (i.0 -ℤ pos 1) k ≡ false)
    (λ k h. right_of (i.0 -ℤ pos 1) k (omega (arith, ints, h))) fr s.before) in (
      s.full,
      changes_at rings slabs i.0 y of
          (differ_by _ _ (row (i.0 -ℤ pos 1) ∙ (early (i.0 -ℤ pos 1) fr i is s (omega (arith, ints)) ∙ before))
          (row i.0 ∙ here i.0 fr i is s (omega (arith, ints)) s.full)),
      changes_at rings slabs i.1 y of
          (differ_back _ _ (row (i.1 -ℤ pos 1) ∙ here (i.1 -ℤ pos 1) fr i is s (omega (arith, ints, s.full))
          (omega (arith, ints))) (row i.1 ∙ at_end fr i is s)),
    )

-- there is an edge at both ends of each interval
intervals_few : (rings : List (List Point)) (slabs : List Slab) (y : ℤ) (fr : List (ℤ × ℤ)) (i : ℤ × ℤ)
    (is : List (ℤ × ℤ)) → AreBandsOf rings slabs
    → ((x : ℤ) → slabs_cover slabs (record { x = x; y = y }) ≡ list_any (spans x) (fr ++ i ∷ is))
    → AreIntervals (fr ++ i ∷ is) → 2 * length (i ∷ is) ≤ count_by (from_on i.0) (all_edges rings)
intervals_few rings slabs y fr i [] of row order =
    let ends = ends_of rings slabs y fr i [] of row order in
    let low : count_by (from_on i.1) (all_edges rings) < count_by (from_on i.0) (all_edges rings) =
    more_right rings i.0 i.1 ends.0 ends.1 in
    let high : count_by (from_on (i.1 +ℤ pos 1)) (all_edges rings) < count_by (from_on i.1) (all_edges rings) =
    more_right rings i.1 (i.1 +ℤ pos 1) (omega (arith, ints)) ends.2 in
    omega (arith, low, high)
intervals_few rings slabs y fr i (j ∷ js) of row order =
    let ends = ends_of rings slabs y fr i (j ∷ js) of row order in
    let s : Stands fr i (j ∷ js) = stands fr i (j ∷ js) order in
    let next : i.1 <ℤ j.0 = All-head (λ (k : ℤ × ℤ). i.1 <ℤ k.0) j js s.later in
    let same : fr ++ i ∷ j ∷ js ≡ (fr ++ i ∷ []) ++ j ∷ js = sym (append_assoc fr (i ∷ []) (j ∷ js)) in
    let rest : 2 * length (j ∷ js) ≤ count_by (from_on j.0) (all_edges rings) =
    intervals_few rings slabs y (fr ++ i ∷ []) j js of (λ x. row x ∙ ap (list_any (spans x)) same)
    (subst AreIntervals same order) in
    let low : count_by (from_on i.1) (all_edges rings) < count_by (from_on i.0) (all_edges rings) =
    more_right rings i.0 i.1 ends.0 ends.1 in
    let high : count_by (from_on j.0) (all_edges rings) < count_by (from_on i.1) (all_edges rings) =
    more_right rings i.1 j.0 next ends.2 in
    omega (arith, low, high, rest)

row_few : (rings : List (List Point)) (slabs : List Slab) (y : ℤ) (r : List (ℤ × ℤ)) → AreBandsOf rings slabs
    → ((x : ℤ) → slabs_cover slabs (record { x = x; y = y }) ≡ list_any (spans x) r) → AreIntervals r
    → 2 * length r ≤ count_by is_vertical (all_edges rings)
row_few rings slabs y [] of row order = omega arith
row_few rings slabs y (i ∷ is) of row order =
    omega (
      arith,
      intervals_few rings slabs y [] i is of row order,
      fewer_by is_vertical (from_on i.0) (all_edges rings) (λ e h. (and_parts (is_vertical e) (int_le i.0 e.0.x) h).0),
    )

-- twice a band's intervals are no more than the vertical edges of the rings
pub few_intervals : (rings : List (List Point)) (slabs : List Slab) → AreBandsOf rings slabs
    → HaveFewIntervals rings slabs
few_intervals rings slabs of k d lt =
    let b : Slab = get_or slabs k d in
    let there : value_of slabs b.from ≡ Some b.value = each_there slabs of.list.steps k d lt in
    row_few rings slabs b.from b.value of (λ x. cover_is (record { x = x; y = b.from }) slabs of.list.steps
    ∙ ap (in_value x) there) (of.list.rows k d lt).1
