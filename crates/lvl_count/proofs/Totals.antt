-- The rings of all cells, multiplied by how often each is placed, are those that the top places.
use Rattle.std.proofs.Common.{◌≡◌, ◌<◌, ◌≤◌, ◌+◌, ◌*◌, ◌^◌, ◌⊎◌, inl, inr, ℕ, zero, suc, Bool, true, false, cond, nat_lt}
use Rattle.std.proofs.Common.{List, []}
use Rattle.std.proofs.Common.{◌∷◌, length, get_or, map, take, filter, sum_by, Option, Some, None, All, Contains, refl}
use Rattle.std.proofs.Common.{ap, ◌∙◌, subst, arith}
use Rattle.std.specs.List.{slice_get}
use Rattle.std.specs.Option.{option_map_or}
use Rattle.std.proofs.Math.Nat.{mul-le-mul_left}
use Rattle.std.proofs.lemmas.Bool.{ltb-true}
use Rattle.std.proofs.lemmas.Bool.Decides.{nat_tests}
use Rattle.std.proofs.lemmas.List.Sums.{sum_by-cons, sum_by_more, sum_by-take-le}
use Rattle.std.proofs.lemmas.List.Kept.{AllPairs-filter}
use Rattle.std.proofs.lemmas.List.Elements.{All-contains, All-filter, All-map, All-weaker, filter_passes}
use Rattle.lvl_names.specs.declared.layer.Layer.{Layer}
use Rattle.lvl_names.specs.Layers.{ComesBefore, same_layer}
use Rattle.lvl_names.proofs.Elements.{contains_at}
use Rattle.lvl_names.proofs.Layers.{is_same}
use Rattle.lvl_cells.specs.Cells.{PlainCell, PlainShape, Rings, each_ring}
use Rattle.lvl_cells.specs.Chains.{own_rings, own_rings_on, over_chains, placed_rings_on}
use Rattle.lvl_cells.specs.Checks.{Settled, IsChecked}
use Rattle.lvl_cells.proofs.Sequences.{one_answer}
use Rattle.lvl_count.specs.Counted.{AreCounted}
use Rattle.lvl_count.specs.declared.counts.LayerRings.{LayerRings}
use Rattle.lvl_count.specs.inside.Counts.{AreSorted, AreListed, more, rings_on, placed_on}
use Rattle.lvl_cells.specs.Times.{at_place, AreTimes}
use Rattle.lvl_count.proofs.Growing.{layer_of, at_more, sorted_kept}

-- what one more cell adds
pub cell_more : (layer : Layer) (cells : List (PlainCell Rings)) (times places : List ℕ) (i : ℕ) (c : PlainCell Rings)
    → i < length places → slice_get cells (get_or places i 0) ≡ Some c
    → placed_on layer cells times (take (i + 1) places)
    ≡ placed_on layer cells times (take i places) + get_or times (get_or places i 0) 0 * rings_on layer c.shapes
cell_more layer cells times places i c low at =
    let k : ℕ = get_or places i 0 in
    let own : get_or times k 0 * at_place (own_rings_on each_ring layer) cells k
    ≡ get_or times k 0 * rings_on layer c.shapes =
    ap (λ o. get_or times k 0 * option_map_or (own_rings_on each_ring layer) o 0) at in
    omega
    (arith, own, sum_by_more (λ n. get_or times n 0 * at_place (own_rings_on each_ring layer) cells n) places i 0 low)

-- a cell that isn't placed adds nothing
pub cell_skipped : (layer : Layer) (cells : List (PlainCell Rings)) (times places : List ℕ) (i : ℕ) → i < length places
    → get_or times (get_or places i 0) 0 ≡ 0
    → placed_on layer cells times (take (i + 1) places) ≡ placed_on layer cells times (take i places)
cell_skipped layer cells times places i low none =
    let k : ℕ = get_or places i 0 in
    let own : get_or times k 0 * at_place (own_rings_on each_ring layer) cells k
    ≡ 0 * at_place (own_rings_on each_ring layer) cells k =
    ap (λ n. n * at_place (own_rings_on each_ring layer) cells k) none in
    omega
    (arith, own, sum_by_more (λ n. get_or times n 0 * at_place (own_rings_on each_ring layer) cells n) places i 0 low)

sum_le : {X : Type 0} (f g : X → ℕ) (xs : List X) → ((x : X) → f x ≤ g x) → sum_by f xs ≤ sum_by g xs
sum_le f g [] less = omega arith
sum_le f g (x ∷ xs) less = omega (arith, sum_by-cons f x xs, sum_by-cons g x xs, less x, sum_le f g xs less)

part_le : (b : Bool) (n : ℕ) → cond b n 0 ≤ n
part_le true n = omega arith
part_le false n = omega arith

own_le : (layer : Layer) (c : PlainCell Rings) → own_rings_on each_ring layer c ≤ own_rings each_ring c
own_le layer c =
    sum_le (λ (h : PlainShape Rings). cond (same_layer h.layer layer) (length h.figure * length h.shifts) 0)
    (λ (h : PlainShape Rings). length h.figure * length h.shifts) c.shapes
    (λ h. part_le (same_layer h.layer layer) (length h.figure * length h.shifts))

at_place_le : (v w : PlainCell Rings → ℕ) (cells : List (PlainCell Rings)) (k : ℕ)
    → ((c : PlainCell Rings) → v c ≤ w c) → at_place v cells k ≤ at_place w cells k
at_place_le v w cells k less =
    elim (slice_get cells k) as (λ o. option_map_or v o 0 ≤ option_map_or w o 0) [
      | None ↦ omega arith
      | Some c ↦ less c
    ]

-- the rings on a Layer are within the limit
pub placed_few : (s : Settled) (times : List ℕ) (layer : Layer) → IsChecked s → AreTimes s times → placed_on layer s.cells times s.order < 2 ^ 64
placed_few s times layer checked t =
    let on : PlainCell Rings → ℕ = own_rings_on each_ring layer in
    let all : PlainCell Rings → ℕ = own_rings each_ring in
    let same : checked.settled.cell ≡ t.top = one_answer checked.settled.is t.is_top in
    let few : over_chains all s.cells (length s.cells) t.top < 2 ^ 64 =
    subst (λ (c : PlainCell Rings). over_chains all s.cells (length s.cells) c < 2 ^ 64) same
    (omega (arith, checked.settled.few_rings, checked.narrow)) in
    omega (
      arith,
      few,
      t.whole all,
      sum_le (λ k. get_or times k 0 * at_place on s.cells k) (λ k. get_or times k 0 * at_place all s.cells k) s.order
          (λ k. mul-le-mul_left (get_or times k 0) (at_place_le on all s.cells k (own_le layer))),
    )

-- the rings of a cell that are added are within the limit
pub cell_few : (s : Settled) (times : List ℕ) (old counts : List LayerRings) (i : ℕ)
    (c : PlainCell Rings) → IsChecked s → AreTimes s times → i < length s.order
    → slice_get s.cells (get_or s.order i 0) ≡ Some c → All (λ n. n.rings ≡ 0) old
    → counts ≡ map (more (λ l. placed_on l s.cells times (take i s.order))) old
    → All (λ n. n.rings + get_or times (get_or s.order i 0) 0 * rings_on n.layer c.shapes < 2 ^ 64) counts
cell_few s times old counts i c checked t low at none so_far k d within =
    let f : Layer → ℕ = λ l. placed_on l s.cells times (take i s.order) in
    let place = at_more f old counts k d so_far within in
    let n : LayerRings = get_or old k d in
    let here : (get_or counts k d).rings ≡ n.rings + f n.layer = ap (λ (x : LayerRings). x.rings) place.1 in
    let layer : (get_or counts k d).layer ≡ n.layer = ap layer_of place.1 in
    let own : get_or times (get_or s.order i 0) 0 * rings_on (get_or counts k d).layer c.shapes
    ≡ get_or times (get_or s.order i 0) 0 * rings_on n.layer c.shapes =
    ap (λ l. get_or times (get_or s.order i 0) 0 * rings_on l c.shapes) layer in
    let part : placed_on n.layer s.cells times (take (i + 1) s.order) ≤ placed_on n.layer s.cells times s.order =
    sum_by-take-le (λ p. get_or times p 0 * at_place (own_rings_on each_ring n.layer) s.cells p) s.order (i + 1) in
    omega (
      arith,
      here,
      own,
      part,
      none k d place.0,
      cell_more n.layer s.cells times s.order i c low at,
      placed_few s times n.layer checked t,
    )

nothing_or_more : (n : ℕ) → (n ≡ 0) ⊎ (0 < n)
nothing_or_more zero = inl refl
nothing_or_more (suc n) = inr (omega arith)

-- a sum that isn't zero has a summand that isn't
some_part : {X : Type 0} (f : X → ℕ) (xs : List X) → 0 < sum_by f xs
    → (k : ℕ) × (x : X) × (slice_get xs k ≡ Some x) × (0 < f x)
some_part f [] h = absurd (omega (arith, h))
some_part f (x ∷ xs) h =
    elim (nothing_or_more (f x)) [
      | inl none ↦
          let rest = some_part f xs (omega (arith, h, sum_by-cons f x xs, none)) in
          (suc rest.0, rest.1, rest.2, rest.3)
      | inr some ↦ (zero, x, refl, some)
    ]

both_parts : (a b : ℕ) → 0 < a * b → (0 < a) × (0 < b)
both_parts zero b h = absurd (omega (arith, h))
both_parts (suc a) zero h = absurd (omega (arith, h))
both_parts (suc a) (suc b) h = (omega arith, omega arith)

part_there : (b : Bool) (n : ℕ) → 0 < cond b n 0 → b ≡ true
part_there true n h = refl
part_there false n h = absurd (omega (arith, h))

-- a cell with rings on a Layer has a shape on it
has_shape : (layer : Layer) (c : PlainCell Rings) → 0 < own_rings_on each_ring layer c
    → (h : PlainShape Rings) × (Contains c.shapes h) × (h.layer ≡ layer)
has_shape layer c some =
    let part =
    some_part (λ (h : PlainShape Rings). cond (same_layer h.layer layer) (length h.figure * length h.shifts) 0) c.shapes
    some in
    let same = part_there (same_layer part.1.layer layer) (length part.1.figure * length part.1.shifts) part.3 in
    (part.1, contains_at c.shapes part.0 part.1 part.2, is_same part.1.layer layer same)

on_some_cell : (layer : Layer) (cells : List (PlainCell Rings)) (k : ℕ)
    → 0 < at_place (own_rings_on each_ring layer) cells k
    → (c : PlainCell Rings) × (slice_get cells k ≡ Some c) × (0 < own_rings_on each_ring layer c)
on_some_cell layer cells k some =
    elim (slice_get cells k)
    as (λ o. slice_get cells k ≡ o → 0 < option_map_or (own_rings_on each_ring layer) o 0
    → (c : PlainCell Rings) × (slice_get cells k ≡ Some c) × (0 < own_rings_on each_ring layer c)) [
      | None ↦ λ e h. absurd (omega (arith, h))
      | Some c ↦ λ e h. (c, e, h)
    ] refl some

-- a Layer on which rings are placed is listed
pub placed_listed : (cells : List (PlainCell Rings)) (times places : List ℕ) (layers : List Layer) (layer : Layer)
    → All (AreListed cells times layers) places → 0 < placed_on layer cells times places → Contains layers layer
placed_listed cells times places layers layer listed some =
    let part =
    some_part (λ k. get_or times k 0 * at_place (own_rings_on each_ring layer) cells k) places some in
    let k : ℕ = part.1 in
    let both = both_parts (get_or times k 0) (at_place (own_rings_on each_ring layer) cells k) part.3 in
    let cell = on_some_cell layer cells k both.1 in
    let shape = has_shape layer cell.0 cell.2 in
    let here : AreListed cells times layers k =
    All-contains (AreListed cells times layers) places k listed (contains_at places part.0 k part.2) in
    subst (Contains layers) shape.2
    (All-contains (λ (h : PlainShape Rings). Contains layers h.layer) cell.0.shapes shape.0
    (here both.0 cell.0 cell.1) shape.1)

-- its count isn't zero
abbrev pub is_filled : LayerRings → Bool
is_filled c = nat_lt 0 c.rings

filled_if : (n : ℕ) → 0 < n → nat_lt 0 n ≡ true
filled_if n h = grind (arith, nat_tests)

-- a Layer to which rings are added isn't left out
still_there : (f : Layer → ℕ) (counts : List LayerRings) (layer : Layer) → 0 < f layer
    → Contains (map layer_of counts) layer → Contains (map layer_of (filter is_filled (map (more f) counts))) layer
still_there f [] layer some (k, within, is) = absurd (omega (arith, within))
still_there f (c ∷ cs) layer some (zero, within, is) =
    let here : 0 < c.rings + f c.layer = omega (arith, some, ap f is) in
    let yes : nat_lt 0 (c.rings + f c.layer) ≡ true = filled_if (c.rings + f c.layer) here in
    rw yes (zero, omega arith, is)
still_there f (c ∷ cs) layer some (suc k, within, is) =
    let rest = still_there f cs layer some (k, omega (arith, within), is) in
    elim (nat_lt 0 (c.rings + f c.layer))
    as (λ b.
    Contains
    (map layer_of (cond b (more f c ∷ filter is_filled (map (more f) cs)) (filter is_filled (map (more f) cs))))
    layer) [
      | true ↦ (suc rest.0, omega (arith, rest.1), rest.2)
      | false ↦ rest
    ]

-- counts that begin with zero and to which the rings of all cells are added are those of what the top places, once the
-- zeros are left out
pub all_counted : (s : Settled) (times : List ℕ) (old : List LayerRings) (top : PlainCell Rings) → AreTimes s times
    → slice_get s.cells s.top ≡ Some top → AreSorted old
    → All (AreListed s.cells times (map (λ c. c.layer) old)) s.order
    → All (λ c. c.rings ≡ 0) old
    → AreCounted each_ring s.cells top
    (filter is_filled (map (more (λ l. placed_on l s.cells times s.order)) old))
all_counted s times old top t is_top sorted listed none =
    let f : Layer → ℕ = λ l. placed_on l s.cells times s.order in
    let all : List LayerRings = map (more f) old in
    let same : t.top ≡ top = one_answer t.is_top is_top in
    let placed : (layer : Layer) → f layer ≡ placed_rings_on each_ring layer s.cells top = λ layer.
    t.whole (own_rings_on each_ring layer) ∙ ap (placed_rings_on each_ring layer s.cells) same in
    let is_right : LayerRings → Type 0 = λ c. c.rings ≡ placed_rings_on each_ring c.layer s.cells top in
    record {
      sorted =
          AllPairs-filter (λ (a b : LayerRings). ComesBefore a.layer b.layer) is_filled all (sorted_kept f old sorted);
      filled =
          All-weaker (λ (c : LayerRings). is_filled c ≡ true) (λ (c : LayerRings). 0 < c.rings)
          (λ c yes. ltb-true 0 c.rings yes) (filter is_filled all) (filter_passes is_filled all);
      counted =
          All-filter is_filled is_right all
          (All-map is_right (more f) old
          (λ k d within.
          let c : LayerRings = get_or old k d in
          omega (arith, none k d within, placed c.layer)));
      whole = λ layer some.
          let more_than_none : 0 < f layer = omega (arith, some, placed layer) in
          still_there f old layer more_than_none
          (placed_listed s.cells times s.order (map layer_of old) layer listed more_than_none);
    }
