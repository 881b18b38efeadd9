-- The placements of one cell, passed on along its references.
use Rattle.std.proofs.Common.{◌≡◌, ℕ, zero, suc, ◌+◌, ◌*◌, ◌<◌, ◌≤◌, List, [], length, get_or, set, drop, sum_by}
use Rattle.std.proofs.Common.{replicate, Some, refl, sym, ap, ◌∙◌, subst, arith}
use Rattle.std.specs.List.{slice_get}
use Rattle.std.specs.Option.{option_map, option_map_or}
use Rattle.std.proofs.Math.ListN.{length-set}
use Rattle.std.proofs.lemmas.List.{get_or-set_same, get_or-replicate, length-replicate}
use Rattle.std.proofs.lemmas.List.Sums.{sum_by-drop_more}
use Rattle.std.proofs.lemmas.Option.{slice_get-map, slice_get_within, slice_get-get_or, slice_get_read}
use Rattle.std.proofs.lemmas.Option.{get_or_from_slice_get}
use Rattle.lvl_cells.specs.Cells.{PlainCell, PlainReference, Rings, names, cell_named}
use Rattle.lvl_cells.specs.Chains.{over_chains}
use Rattle.lvl_cells.specs.Checks.{Settled, IsTargetOf}
use Rattle.lvl_cells.specs.Soundness.{AreLinked, IsOrder}
use Rattle.std.proofs.lemmas.List.Elements.{All-contains}
use Rattle.lvl_names.proofs.Elements.{contains_at}
use Rattle.lvl_cells.proofs.Arcs.{is_link}
use Rattle.lvl_cells.proofs.Counting.{found}
use Rattle.lvl_cells.proofs.Sequences.{one_answer}
use Rattle.lvl_cells.proofs.Summing.{count_step}
use Rattle.lvl_cells.specs.Times.{at_place, AreTimes}
use Rattle.lvl_cells.specs.inside.Times.{over_all, chains_at, weighed, IsUnderWay, adds, IsPassing, HasMoreChains}
use Rattle.lvl_cells.proofs.Weighing.{set_later, weighed_more, weighed_all, weighed_least, weighed_none}

at_cell : (w : PlainCell Rings → ℕ) (cells : List (PlainCell Rings)) (k : ℕ) (c : PlainCell Rings)
    → slice_get cells k ≡ Some c → at_place w cells k ≡ w c
at_cell w cells k c at = ap (λ o. option_map_or w o 0) at

-- a cell begins with all its references left
pub passing_begins : (s : Settled) (i k here : ℕ) (c : PlainCell Rings) (times : List ℕ) → AreLinked s.cells
    → IsOrder s.cells s.order → slice_get s.order i ≡ Some k → slice_get s.cells k ≡ Some c → here ≡ get_or times k 0
    → IsUnderWay s i times → IsPassing s i here c.references times
passing_begins s i k here c times linked ordered at cell_is is way = record {
  top = way.top;
  is_top = way.is_top;
  long = way.long;
  whole = λ w.
      let cells : List (PlainCell Rings) = s.cells in
      let f : ℕ → ℕ = at_place w cells in
      let g : ℕ → ℕ = chains_at w cells in
      let left : ℕ = sum_by (adds w cells) c.references in
      let more = weighed_more f g times i k s.order at in
      let own : get_or times k 0 * f k ≡ here * w c =
      ap (λ n. n * f k) (sym is) ∙ ap (λ n. here * n) (at_cell w cells k c cell_is) in
      let all : get_or times k 0 * g k ≡ here * (w c + left) =
      ap (λ n. n * g k) (sym is)
      ∙ (ap (λ n. here * n) (at_cell (over_all w cells) cells k c cell_is)
      ∙ ap (λ n. here * n) (count_step w cells s.order k c linked ordered cell_is)) in
      omega (arith, way.whole w, more, own, all);
}

-- once no reference is left, the cell passed on its placements
pub passing_ends : (s : Settled) (i here : ℕ) (left : List PlainReference) (times : List ℕ)
    → left ≡ [] → IsPassing s i here left times → IsUnderWay s (i + 1) times
passing_ends s i here left times none p = record {
  top = p.top;
  is_top = p.is_top;
  long = p.long;
  whole = λ w.
      let e : i + 1 ≡ suc i = omega arith in
      let empty : here * sum_by (adds w s.cells) left ≡ here * 0 = ap (λ l. here * sum_by (adds w s.cells) l) none in
      rw e (omega (arith, p.whole w, empty));
}

-- the target of a reference is later in the order
later_in : (s : Settled) (i k j q : ℕ) → IsOrder s.cells s.order → slice_get s.order i ≡ Some k
    → IsTargetOf s.cells k j q → (p : ℕ) × (slice_get s.order p ≡ Some q) × (suc i ≤ p)
later_in s i k j q ordered at t =
    let name_of : PlainCell Rings → List ℕ = λ c. c.name in
    let link = is_link s.cells k t.cell j t.reference t.cell_is t.reference_is in
    let from : slice_get (names s.cells) k ≡ Some t.cell.name =
    slice_get-map name_of s.cells k ∙ ap (option_map name_of) t.cell_is in
    let named = found (λ c. Unit {0}) s.cells t.reference.cell t.target (λ n d h. tt) t.named in
    let to : slice_get (names s.cells) q ≡ Some t.reference.cell =
    slice_get-map name_of s.cells q ∙ (ap (option_map name_of) t.target_is ∙ ap Some named.0) in
    let place = ordered.there q (slice_get_within s.cells q t.target t.target_is) in
    let there : slice_get s.order place.0 ≡ Some q =
    slice_get-get_or s.order place.0 q place.1 ∙ ap Some place.2 in
    let later = ordered.falls i place.0 k q t.cell.name t.reference.cell at there from to link in
    (place.0, there, omega (arith, later))

-- the next reference is the first of those that are left
first_left : (w : PlainCell Rings → ℕ) (cells : List (PlainCell Rings)) (refs : List PlainReference) (j : ℕ)
    (r : PlainReference) (d : PlainCell Rings) → slice_get refs j ≡ Some r → cell_named cells r.cell ≡ Some d
    → sum_by (adds w cells) (drop j refs)
    ≡ length r.shifts * over_all w cells d + sum_by (adds w cells) (drop (j + 1) refs)
first_left w cells refs j r d at named =
    let first : adds w cells (get_or refs j r) ≡ length r.shifts * over_all w cells d =
    ap (adds w cells) (get_or_from_slice_get refs j r r at)
    ∙ ap (λ o. length r.shifts * option_map_or (over_all w cells) o 0) named in
    omega (arith, sum_by-drop_more (adds w cells) refs j r (slice_get_within refs j r at), first)

-- one reference fewer is left
pub passing_more : (s : Settled) (i k here j q : ℕ) (c : PlainCell Rings) (r : PlainReference) (times : List ℕ)
    → IsOrder s.cells s.order → slice_get s.order i ≡ Some k → slice_get s.cells k ≡ Some c
    → slice_get c.references j ≡ Some r → IsTargetOf s.cells k j q → IsPassing s i here (drop j c.references) times
    → IsPassing s i here (drop (j + 1) c.references) (set times q (get_or times q 0 + here * length r.shifts))
passing_more s i k here j q c r times ordered at cell_is reference_is t p =
    let cells : List (PlainCell Rings) = s.cells in
    let x : ℕ = here * length r.shifts in
    let same : t.cell ≡ c = one_answer t.cell_is cell_is in
    let one : t.reference ≡ r =
    one_answer (subst (λ (d : PlainCell Rings). slice_get d.references j ≡ Some t.reference) same t.reference_is)
    reference_is in
    let named : cell_named cells r.cell ≡ Some t.target =
    subst (λ (u : PlainReference). cell_named cells u.cell ≡ Some t.target) one t.named in
    let later = later_in s i k j q ordered at t in
    record {
      top = p.top;
      is_top = p.is_top;
      long = length-set times q (get_or times q 0 + x) ∙ p.long;
      whole = λ w.
          let f : ℕ → ℕ = at_place w cells in
          let g : ℕ → ℕ = chains_at w cells in
          let low : q < length times = omega (arith, slice_get_within cells q t.target t.target_is, p.long) in
          let grown = set_later f g times q x (suc i) later.0 s.order ordered.once later.1 later.2 low in
          let target : x * g q ≡ x * over_all w cells t.target =
          ap (λ n. x * n) (at_cell (over_all w cells) cells q t.target t.target_is) in
          let split : here * sum_by (adds w cells) (drop j c.references)
          ≡ here * (length r.shifts * over_all w cells t.target + sum_by (adds w cells) (drop (j + 1) c.references)) =
          ap (λ n. here * n) (first_left w cells c.references j r t.target reference_is named) in
          omega (arith, p.whole w, grown, target, split);
    }

one_at_least : (cells : List (PlainCell Rings)) (n : ℕ) (c : PlainCell Rings) → 1 ≤ over_chains (λ d. 1) cells n c
one_at_least cells zero c = omega arith
one_at_least cells (suc n) c = omega arith

-- a product with a factor that isn't zero
pub le_product : (a m : ℕ) → 1 ≤ m → a ≤ a * m
le_product a zero h = absurd (omega (arith, h))
le_product a (suc m) h = omega arith

-- if the target of a reference is placed more often than `most`, the top has more chains than that
pub passing_many : (s : Settled) (i k here j q most : ℕ) (c : PlainCell Rings) (r : PlainReference) (times : List ℕ)
    → IsOrder s.cells s.order → slice_get s.order i ≡ Some k → slice_get s.cells k ≡ Some c
    → slice_get c.references j ≡ Some r → IsTargetOf s.cells k j q → IsPassing s i here (drop j c.references) times
    → most < get_or times q 0 + here * length r.shifts → HasMoreChains s most
passing_many s i k here j q most c r times ordered at cell_is reference_is t p many =
    let cells : List (PlainCell Rings) = s.cells in
    let one : PlainCell Rings → ℕ = λ d. 1 in
    let next = passing_more s i k here j q c r times ordered at cell_is reference_is t p in
    let new : ℕ = get_or times q 0 + here * length r.shifts in
    let f : ℕ → ℕ = at_place one cells in
    let g : ℕ → ℕ = chains_at one cells in
    let later = later_in s i k j q ordered at t in
    let low : q < length times = omega (arith, slice_get_within cells q t.target t.target_is, p.long) in
    let least = weighed_least f g (set times q new) (suc i) later.0 q s.order later.1 later.2 in
    let now : get_or (set times q new) q 0 * g q ≡ new * g q = ap (λ n. n * g q) (get_or-set_same times q new 0 low) in
    let full : 1 ≤ g q =
    subst (λ n. 1 ≤ n) (sym (at_cell (over_all one cells) cells q t.target t.target_is))
    (one_at_least cells (length cells) t.target) in
    record {
      top = next.top;
      is_top = next.is_top;
      more = omega (arith, least, now, le_product new (g q) full, next.whole one, many);
    }

-- one step of the code, for one reference
pub record IsStep (s : Settled) (i here j q x : ℕ) (items : List PlainReference) (times : List ℕ) : Type 0 where
  pub low : q < length times
  pub many : (most : ℕ) → most < get_or times q 0 + x → HasMoreChains s most
  pub next : IsPassing s i here (drop (j + 1) items) (set times q (get_or times q 0 + x))

-- the cell at an index of the order, as the code reads it
pub cell_read : (s : Settled) (order : List ℕ) (cells : List (PlainCell Rings)) (i : ℕ) (c : PlainCell Rings)
    → IsOrder s.cells s.order → order ≡ s.order → cells ≡ s.cells → i < length s.order
    → c ≡ get_or cells (get_or order i 0) c
    → (slice_get s.order i ≡ Some (get_or order i 0)) × (slice_get s.cells (get_or order i 0) ≡ Some c)
cell_read s order cells i c sorted ordered celled low read =
    let k : ℕ = get_or order i 0 in
    let at : slice_get s.order i ≡ Some k =
    slice_get-get_or s.order i 0 low ∙ ap (λ l. Some (get_or l i 0)) (sym ordered) in
    let there : k < length s.cells =
    All-contains (λ n. n < length s.cells) s.order k sorted.within (contains_at s.order i k at) in
    (at, slice_get_read s.cells (length s.cells) k c refl there (read ∙ ap (λ l. get_or l k c) celled))

pub step_along : (s : Settled) (i here j q n : ℕ) (order : List ℕ) (cells : List (PlainCell Rings))
    (items : List PlainReference) (c : PlainCell Rings) (r : PlainReference) (times : List ℕ)
    → IsOrder s.cells s.order → order ≡ s.order → cells ≡ s.cells → i < length s.order
    → c ≡ get_or cells (get_or order i 0) c → items ≡ c.references → j < length items → r ≡ get_or items j r
    → n ≡ length r.shifts → IsTargetOf s.cells (get_or order i 0) j q → IsPassing s i here (drop j items) times
    → IsStep s i here j q (here * n) items times
step_along s i here j q n order cells items c r times sorted ordered celled within cell_is listed low read is t p =
    let k : ℕ = get_or order i 0 in
    let at = cell_read s order cells i c sorted ordered celled within cell_is in
    let there : slice_get c.references j ≡ Some r =
    subst (λ l. slice_get l j ≡ Some r) listed (slice_get_read items (length items) j r refl low read) in
    let now : IsPassing s i here (drop j c.references) times =
    subst (λ l. IsPassing s i here (drop j l) times) listed p in
    subst (λ x. IsStep s i here j q (here * x) items times) (sym is)
    (subst (λ l. IsStep s i here j q (here * length r.shifts) l times) (sym listed)
    (record {
      low = omega (arith, slice_get_within s.cells q t.target t.target_is, p.long);
      many = λ most. passing_many s i k here j q most c r times sorted at.0 at.1 there t now;
      next = passing_more s i k here j q c r times sorted at.0 at.1 there t now;
    }))

-- the top is placed once, and nothing else so far
pub under_way_begins : (s : Settled) (top : PlainCell Rings) (n : ℕ) → IsOrder s.cells s.order
    → slice_get s.cells s.top ≡ Some top → n ≡ length s.cells → IsUnderWay s 0 (set (replicate n 0) s.top 1)
under_way_begins s top n sorted is long =
    let cells : List (PlainCell Rings) = s.cells in
    let place = sorted.there s.top (slice_get_within cells s.top top is) in
    let there : slice_get s.order place.0 ≡ Some s.top =
    slice_get-get_or s.order place.0 s.top place.1 ∙ ap Some place.2 in
    let zeros : List ℕ = replicate n 0 in
    let count : length zeros ≡ length cells = length-replicate n 0 ∙ long in
    let within : s.top < length cells = slice_get_within cells s.top top is in
    let low : s.top < length zeros = omega (arith, count, within) in
    let none : get_or zeros s.top 0 + 1 ≡ 1 =
    ap (λ t. t + 1) (get_or-replicate n s.top 0 0 (omega (arith, within, long))) in
    record {
      top = top;
      is_top = is;
      long = length-set zeros s.top 1 ∙ count;
      whole = λ w.
          let f : ℕ → ℕ = at_place w cells in
          let g : ℕ → ℕ = chains_at w cells in
          let grown = set_later f g zeros s.top 1 0 place.0 s.order sorted.once there (omega arith) low in
          let same : weighed f g (set zeros s.top (get_or zeros s.top 0 + 1)) 0 s.order
          ≡ weighed f g (set zeros s.top 1) 0 s.order =
          ap (λ x. weighed f g (set zeros s.top x) 0 s.order) none in
          let all : g s.top ≡ over_all w cells top = at_cell (over_all w cells) cells s.top top is in
          omega (arith, grown, same, all, weighed_none f g n 0 s.order);
    }

-- once all cells passed on their placements, the times are those of all placements
pub under_way_ends : (s : Settled) (i : ℕ) (times : List ℕ) → length s.order ≤ i → IsUnderWay s i times
    → AreTimes s times
under_way_ends s i times le way = record {
  top = way.top;
  is_top = way.is_top;
  long = way.long;
  whole = λ w.
      sym (weighed_all (at_place w s.cells) (chains_at w s.cells) times i s.order le) ∙ way.whole w;
}
