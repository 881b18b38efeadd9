-- The list of the bands from a row on.
use Rattle.std.proofs.Common.{◌||◌, ◌≡◌, ◌≢◌, ℕ, ◌+◌, ◌<◌, ◌≤◌, Bool, true, false, ◌&&◌, cond, List, [], ◌∷◌, length}
use Rattle.std.proofs.Common.{get_or, ℤ, pos, ◌<ℤ◌, ◌≤ℤ◌, int_lt, int_le, unsigned_abs, Option, None, Some, All, refl}
use Rattle.std.proofs.Common.{sym, ◌∙◌, ap, arith}
use Rattle.std.specs.List.{list_any}
use Rattle.std.specs.Ordering.{int_eq}
use Rattle.std.specs.Bool.{Decides}
use Rattle.std.proofs.lemmas.Int.{ints, by_lt_z}
use Rattle.std.proofs.lemmas.Bool.{and_parts, and_from}
use Rattle.std.proofs.lemmas.Bool.Decides.{Decides-int_eq}
use Rattle.std.proofs.lemmas.List.Elements.{All-weaker, All-nil, All-cons, All-head, All-tail}
use Rattle.lvl_grid.specs.declared.point.Square.{Square}
use Rattle.lvl_sweep.specs.declared.edge.Edge.{Edge}
use Rattle.lvl_sweep.specs.Slab.{Step, Slab, holds, value_of, Follows, AreSteps, spans, AreIntervals, IsSlabList}
use Rattle.lvl_sweep.specs.Slab.{slabs_cover}
use Rattle.lvl_sweep.specs.inside.Alive.{alive}
use Rattle.lvl_sweep.specs.Ahead.{is_from}
use Rattle.lvl_sweep.specs.inside.Rows.{from_on, steps_from, inside, far_of, Balanced, row, alive_at, row_at, as_value}
use Rattle.lvl_sweep.specs.inside.Rows.{same_row, bands_from}
use Rattle.lvl_sweep.proofs.Steps.{IsNoneBeyond, steps_give, none_from, first_from, same_from}
use Rattle.lvl_sweep.proofs.Insides.{each_within}
use Rattle.lvl_sweep.proofs.RowLists.{row_none, row_covers, row_intervals}
use Rattle.lvl_sweep.proofs.Slabs.{early_rest, at_head, past_head}

pub pair_is : (i j : ℤ × ℤ) → i.0 ≡ j.0 → i.1 ≡ j.1 → i ≡ j
pair_is i j e f =
    let build : ℤ → ℤ → ℤ × ℤ = λ a b. (a, b) in
    let whole : build i.0 i.1 ≡ build j.0 j.1 = rw (e, f) refl in
    whole

-- two intervals are compared by both ends
pub pair_decides : (i j : ℤ × ℤ) → Decides (int_eq i.0 j.0 && int_eq i.1 j.1) (i ≡ j)
pair_decides i j = (
  λ h.
      let both = and_parts (int_eq i.0 j.0) (int_eq i.1 j.1) h in
      pair_is i j ((Decides-int_eq i.0 j.0).0 both.0) ((Decides-int_eq i.1 j.1).0 both.1),
  λ e. rw e (and_from (int_eq j.0 j.0) (int_eq j.1 j.1) ((Decides-int_eq j.0 j.0).1 refl)
      ((Decides-int_eq j.1 j.1).1 refl)),
)

same_row_is : (is js : List (ℤ × ℤ)) → same_row is js ≡ true → is ≡ js
same_row_is [] [] h = refl
same_row_is [] (j ∷ js) h = cc
same_row_is (i ∷ is) [] h = cc
same_row_is (i ∷ is) (j ∷ js) h =
    let parts = and_parts (int_eq i.0 j.0 && int_eq i.1 j.1) (same_row is js) h in
    let both = and_parts (int_eq i.0 j.0) (int_eq i.1 j.1) parts.0 in
    let head : i ≡ j = pair_is i j ((Decides-int_eq i.0 j.0).0 both.0) ((Decides-int_eq i.1 j.1).0 both.1) in
    let tail : is ≡ js = same_row_is is js parts.1 in
    rw (head, tail) refl

same_row_self : (is : List (ℤ × ℤ)) → same_row is is ≡ true
same_row_self [] = refl
same_row_self (i ∷ is) =
    and_from (int_eq i.0 i.0 && int_eq i.1 i.1) (same_row is is)
    (and_from (int_eq i.0 i.0) (int_eq i.1 i.1) ((Decides-int_eq i.0 i.0).1 refl) ((Decides-int_eq i.1 i.1).1 refl))
    (same_row_self is)

one_row : (is js : List (ℤ × ℤ)) → Decides (same_row is js) (is ≡ js)
one_row is js = (λ h. same_row_is is js h, λ e. rw e (same_row_self js))

none_alive : (y : ℤ) (es : List Edge) → All (λ e. alive y e ≡ false) es → alive_at es y ≡ []
none_alive y [] h = refl
none_alive y (e ∷ es) h =
    rw (All-head (λ e. alive y e ≡ false) e es h) (none_alive y es (All-tail (λ e. alive y e ≡ false) e es h))

same_alive : (y v : ℤ) (es : List Edge) → All (λ e. alive v e ≡ alive y e) es → alive_at es v ≡ alive_at es y
same_alive y v [] h = refl
same_alive y v (e ∷ es) h =
    let here : alive v e ≡ alive y e = All-head (λ e. alive v e ≡ alive y e) e es h in
    rw (here, same_alive y v es (All-tail (λ e. alive v e ≡ alive y e) e es h)) refl

nothing : (z : ℤ) → inside [] z ≡ false
unfolding inside
nothing z = refl

empty_row : row [] ≡ []
empty_row = row_none [] None (λ r. refl) (λ z h. nothing z)

-- a row that no edge crosses has no interval
pub row_at_none : (es : List Edge) (y : ℤ) → All (λ e. alive y e ≡ false) es → row_at es y ≡ []
unfolding row_at
row_at_none es y h = rw (none_alive y es h) empty_row

-- rows crossed by the same edges are the same
pub row_at_same : (es : List Edge) (y v : ℤ) → All (λ e. alive v e ≡ alive y e) es → row_at es v ≡ row_at es y
unfolding row_at
row_at_same es y v h = ap row (same_alive y v es h)

dead_far : (far : ℕ) (y : ℤ) (low high : ℤ) → far < unsigned_abs y → (unsigned_abs low + unsigned_abs high) ≤ far
    → (int_le low y && int_lt y high) ≡ false
dead_far far y low high h k = by_lt_z y (pos 0)
    (λ lt. let below : y <ℤ low = omega (arith, ints) in let t : int_le low y ≡ false = grind (arith, ints) in
    rw t refl)
    (λ ge. let above : high ≤ℤ y = omega (arith, ints) in let t : int_lt y high ≡ false = grind (arith, ints) in
    elim (int_le low y) as (λ b. (b && int_lt y high) ≡ false) [ true ↦ t | false ↦ refl ])

within : (es : List Edge) → IsNoneBeyond (far_of es) (λ y. as_value (row_at es y))
within es y far =
    ap as_value (row_at_none es y (All-weaker
    (λ e. (unsigned_abs e.low + unsigned_abs e.x + unsigned_abs e.high) ≤ far_of es) (λ e. alive y e ≡ false)
    (λ e k. dead_far (far_of es) y e.low e.high far (omega (arith, k))) es (each_within es)))

-- lists of edges with the same rows have the same bands
pub bands_same : (es fs : List Edge) (o : Option ℤ) → ((v : ℤ) → row_at es v ≡ row_at fs v)
    → bands_from es o ≡ bands_from fs o
unfolding bands_from
bands_same es fs o rows =
    same_from same_row one_row (far_of es) (far_of fs) o o (λ v. as_value (row_at es v)) (λ v. as_value (row_at fs v))
    (within es) (within fs) (λ z. ap (λ t. cond (is_from o z) (as_value t) None) (rows z))

-- no row from y on has intervals
pub bands_none : (es : List Edge) (y : ℤ) → ((v : ℤ) → y ≤ℤ v → row_at es v ≡ []) → bands_from es (Some y) ≡ []
unfolding bands_from
bands_none es y none = none_from same_row one_row (far_of es) (Some y) (λ v. as_value (row_at es v)) (within es) (λ v h.
    let far : y ≤ℤ v = grind (arith, ints) in ap as_value (none v far))

-- no row from y up to t has intervals
pub bands_skip : (es : List Edge) (y t : ℤ) → y ≤ℤ t → ((v : ℤ) → y ≤ℤ v → v <ℤ t → row_at es v ≡ [])
    → bands_from es (Some y) ≡ bands_from es (Some t)
unfolding bands_from
bands_skip es y t le none =
    same_from same_row one_row (far_of es) (far_of es) (Some y) (Some t) (λ v. as_value (row_at es v))
    (λ v. as_value (row_at es v)) (within es) (within es) (λ v.
    by_lt_z v y
    (λ lt.
    let a : int_le y v ≡ false = grind (arith, ints) in
    let b : int_le t v ≡ false = grind (arith, ints) in
    rw (a, b) refl)
    (λ ge. by_lt_z v t
    (λ lt.
    let a : int_le y v ≡ true = grind (arith, ints) in
    let b : int_le t v ≡ false = grind (arith, ints) in
    rw (a, b) (ap as_value (none v ge lt)))
    (λ far.
    let a : int_le y v ≡ true = grind (arith, ints) in
    let b : int_le t v ≡ true = grind (arith, ints) in
    rw (a, b) refl)))

value_is : (r : List (ℤ × ℤ)) → r ≢ [] → as_value r ≡ Some r
value_is [] h = absurd (h refl)
value_is (i ∷ is) h = refl

value_of_some : (q r : List (ℤ × ℤ)) → as_value q ≡ Some r → q ≡ r
value_of_some [] r h = cc
value_of_some (i ∷ is) r h = cc

-- the rows from y up to t are r, and row t is another
pub bands_first : (es : List Edge) (y t : ℤ) (r : List (ℤ × ℤ)) → y <ℤ t → r ≢ []
    → ((v : ℤ) → y ≤ℤ v → v <ℤ t → row_at es v ≡ r) → row_at es t ≢ r
    → bands_from es (Some y) ≡ record { from = y; to = t; value = r } ∷ bands_from es (Some t)
unfolding bands_from
bands_first es y t r lt full here stops =
    let self : int_le y y ≡ true = grind (arith, ints) in
    first_from same_row one_row (far_of es) (Some y) (λ v. as_value (row_at es v)) y t r (within es) self lt
    (λ v h k. let far : y ≤ℤ v = grind (arith, ints) in absurd (omega (arith, ints, far, k)))
    (λ v h k. ap as_value (here v h k) ∙ value_is r full)
    (λ h. stops (value_of_some (row_at es t) r h))

all_later : {V : Type 0} (s : Step V) (ss : List (Step V)) → Follows s ss → AreSteps ss → All (λ t. s.to ≤ℤ t.from) ss
all_later s [] f a = All-nil (λ t. s.to ≤ℤ t.from)
all_later s (t ∷ ts) f a =
    let rest : All (λ u. t.to ≤ℤ u.from) ts = all_later t ts a.1 a.2 in
    All-cons (λ u. s.to ≤ℤ u.from) t ts f.0 (All-weaker (λ u. t.to ≤ℤ u.from) (λ u. s.to ≤ℤ u.from)
    (λ u k. omega (arith, ints, f.0, a.0, k)) ts rest)

-- at the start of each step its value holds
pub each_there : {V : Type 0} (ss : List (Step V)) → AreSteps ss → All (λ t. value_of ss t.from ≡ Some t.value) ss
each_there [] a = All-nil (λ t. value_of [] t.from ≡ Some t.value)
each_there (s ∷ ss) a =
    let later : (k : ℕ) (d : Step _) → k < length ss
    → value_of (s ∷ ss) (get_or ss k d).from ≡ Some (get_or ss k d).value = λ k d lt.
    past_head s ss (get_or ss k d).from (all_later s ss a.1 a.2 k d lt) ∙ each_there ss a.2 k d lt in
    All-cons (λ t. value_of (s ∷ ss) t.from ≡ Some t.value) s ss (at_head s ss s.from (omega (arith, ints)) a.0) later

-- whether the value of a row has the abscissa x
abbrev pub in_value : ℤ → Option (List (ℤ × ℤ)) → Bool
in_value x None = false
in_value x (Some r) = list_any (spans x) r

or_none : (a b : Bool) → b ≡ false → (a || b) ≡ a
or_none true b h = refl
or_none false b h = h

-- in a list of steps no two bands have the same row
pub cover_is : (s : Square) (ss : List Slab) → AreSteps ss → slabs_cover ss s ≡ in_value s.x (value_of ss s.y)
cover_is s [] a = refl
cover_is s (b ∷ bs) a =
    elim (holds b s.y) as (λ t. holds b s.y ≡ t → ((t && list_any (spans s.x) b.value) || slabs_cover bs s) ≡ in_value
    s.x (cond t (Some b.value) (value_of bs s.y))) [
      | true ↦ λ here.
          let parts = and_parts (int_le b.from s.y) (int_lt s.y b.to) here in
          let high : s.y <ℤ b.to = grind (arith, ints) in
          or_none (list_any (spans s.x) b.value) (slabs_cover bs s)
          (cover_is s bs a.2 ∙ ap (in_value s.x) (early_rest b bs s.y a.1 a.2 high))
      | false ↦ λ there. cover_is s bs a.2
    ] refl

in_as_value : (x : ℤ) (r : List (ℤ × ℤ)) → in_value x (as_value r) ≡ list_any (spans x) r
in_as_value x [] = refl
in_as_value x (i ∷ is) = refl

-- the bands of the edges are a slab list
pub record AreSlabsOf (es : List Edge) (slabs : List Slab) : Type 0 where
  pub list : IsSlabList slabs
  pub covers : (s : Square) → slabs_cover slabs s ≡ inside (alive_at es s.y) s.x

row_at_covers : (es : List Edge) (s : Square) → Balanced (alive_at es s.y)
    → list_any (spans s.x) (row_at es s.y) ≡ inside (alive_at es s.y) s.x
unfolding row_at
row_at_covers es s balanced = row_covers (alive_at es s.y) s.x balanced

row_at_intervals : (es : List Edge) (y : ℤ) → Balanced (alive_at es y) → AreIntervals (row_at es y)
unfolding row_at
row_at_intervals es y balanced = row_intervals (alive_at es y) balanced

on_some : {V : Type 0} (t : Bool) (o : Option V) (v : V) → cond t o None ≡ Some v → o ≡ Some v
on_some true o v h = h
on_some false o v h = cc

full : (r q : List (ℤ × ℤ)) → as_value r ≡ Some q → q ≢ []
full [] q h e = cc
full (i ∷ is) q h e = cc

-- if no row below y has intervals, the bands from y on are all bands
pub bands_are : (es : List Edge) (y : ℤ) → ((v : ℤ) → Balanced (alive_at es v)) → ((v : ℤ) → v <ℤ y → row_at es v ≡ [])
    → AreSlabsOf es (bands_from es (Some y))
unfolding bands_from
bands_are es y balanced none =
    let f : ℤ → Option (List (ℤ × ℤ)) = λ v. as_value (row_at es v) in
    let slabs : List Slab = steps_from same_row (far_of es) (Some y) f in
    let given = steps_give same_row one_row (far_of es) (Some y) f (within es) in
    record {
      list = record {
        steps = given.steps;
        rows = λ k d lt.
            let b : Slab = get_or slabs k d in
            let there : value_of slabs b.from ≡ Some b.value = each_there slabs given.steps k d lt in
            let is : as_value (row_at es b.from) ≡ Some b.value =
            on_some (int_le y b.from) (as_value (row_at es b.from)) b.value (sym (given.values b.from) ∙ there) in
            let same : row_at es b.from ≡ b.value = value_of_some (row_at es b.from) b.value is in
            (full (row_at es b.from) b.value is, rw same at (row_at_intervals es b.from (balanced b.from)));
      };
      covers = λ s.
          let value : from_on (Some y) f s.y ≡ f s.y = by_lt_z s.y y
          (λ lt. let t : int_le y s.y ≡ false = grind (arith, ints) in rw t (sym (ap as_value (none s.y lt))))
          (λ ge. let t : int_le y s.y ≡ true = grind (arith, ints) in rw t refl) in
          cover_is s slabs given.steps ∙ (ap (in_value s.x) (given.values s.y ∙ value)
          ∙ (in_as_value s.x (row_at es s.y) ∙ row_at_covers es s (balanced s.y)));
    }
