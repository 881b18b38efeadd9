-- A ring of which stretches are replaced, one after another.
use Rattle.std.proofs.Common.{◌≡◌, ◌↔◌, ◌+◌, ◌-◌, ◌*◌, ◌≤◌, ◌<◌, ℕ, List, [], ◌∷◌, ◌++◌, take, drop}
use Rattle.std.proofs.Common.{length, get_or, slice_get}
use Rattle.std.proofs.Common.{map, Some, All, inl, inr, refl, sym, ap, subst, ◌∙◌, arith, add-one, drop-cons}
use Rattle.std.proofs.Common.{suc, take-add}
use Rattle.std.proofs.lemmas.Bool.{cases_lt}
use Rattle.std.proofs.lemmas.Int.{ints}
use Rattle.std.proofs.lemmas.List.{append_assoc, append-nil, drop_all, drop-drop, get_or-drop, get_or-take}
use Rattle.std.proofs.lemmas.List.{length-drop, length-take-le, take-append-drop, take_all, take_more}
use Rattle.std.proofs.lemmas.List.Elements.{All-append, All-head, All-nil, All-weaker}
use Rattle.std.proofs.lemmas.Option.{get_or_from_slice_get, slice_get_within}
use Rattle.lvl_grid.specs.declared.map.Map.{Map}
use Rattle.lvl_grid.specs.declared.point.Point.{Point}
use Rattle.lvl_grid.specs.declared.point.Window.{Window}
use Rattle.lvl_grid.specs.declared.point.Square.{Square}
use Rattle.lvl_grid.specs.Clip.{IsInWindow}
use Rattle.lvl_grid.specs.Placed.{placed_point, IsPlaceOfCovered}
use Rattle.lvl_grid.specs.Winding.{last_or, winding, Covers, IsRing}
use Rattle.lvl_grid.proofs.Paths.{last_or-get_or}
use Rattle.lvl_grid.proofs.Placed.{covers_placed}
use Rattle.lvl_cells.specs.Stretches.{stretch_at}
use Rattle.lvl_flat.specs.declared.bounds.Bounds.{Bounds}
use Rattle.lvl_flat.specs.Boxes.{HoldsPoint}
use Rattle.lvl_flat.specs.inside.Bounds.{Widens}
use Rattle.lvl_flat.specs.inside.Near.{run_at, AddsRun, AreEnds, IsPlacedBeside, MayBe, WindAlike}
use Rattle.lvl_flat.proofs.Beside.{above_counts, below_counts, ends_alike, last_has, left_counts, right_counts}
use Rattle.lvl_flat.proofs.Beside.{IsAbove, IsBelow, IsLeft, IsRight}

-- a list from an index on
drop_first : (ring : List Point) (i : ℕ) (d : Point) → i < length ring
    → drop i ring ≡ get_or ring i d ∷ drop (i + 1) ring
drop_first ring i d h = rw (add-one, drop-cons ring i d) refl

-- points may be in their own place
pub may_be_same : (m : Map) (e : Point) (w : Window) (ps : List Point) → MayBe m e w ps ps
may_be_same m e w ps = record { alike = λ before after s i. refl }

-- a ring from a stretch on is some of its stretches and the rest
run_first : (ring : List Point) (k end : ℕ) → k ≤ end → drop (128 * k) ring ≡ run_at ring k end ++ drop (128 * end) ring
run_first ring k end le =
    let n : ℕ = 128 * (end - k) in
    let on : 128 * k + n ≡ 128 * end = omega (arith, le) in
    sym (take-append-drop n (drop (128 * k) ring))
    ∙ ap (λ ps. run_at ring k end ++ ps) (drop-drop n (128 * k) ring ∙ ap (λ i. drop i ring) on)

-- some stretches more
pub near_more : (m : Map) (e : Point) (w : Window) (ring from to : List Point) (k end : ℕ) → k < end
    → WindAlike m e w ring (from ++ drop (128 * k) ring) → AddsRun m e w (run_at ring k end) from to
    → WindAlike m e w ring (to ++ drop (128 * end) ring)
near_more m e w ring from to k end lt h step =
    let rest : List Point = drop (128 * end) ring in
    let run : List Point = run_at ring k end in
    let before : WindAlike m e w ring (from ++ (run ++ rest)) =
    subst (λ ps. WindAlike m e w ring (from ++ ps)) (run_first ring k end (omega (arith, lt))) h in
    let after : to ++ rest ≡ from ++ (step.part ++ rest) =
    ap (λ ps. ps ++ rest) step.added ∙ append_assoc from step.part rest in
    subst (WindAlike m e w ring) (sym after)
    (λ s i. before s i ∙ step.may_be.alike from rest s i)

-- all of them
pub near_all : (m : Map) (e : Point) (w : Window) (ring points : List Point) (n : ℕ) → length ring ≤ n
    → WindAlike m e w ring (points ++ drop n ring) → WindAlike m e w ring points
near_all m e w ring points n past h =
    subst (WindAlike m e w ring) (ap (λ ps. points ++ ps) (drop_all n ring past) ∙ append-nil points) h

-- stretches that are whole have ends
pub has_ends : (ring : List Point) (k end : ℕ) (p q : Point) → k < end → 128 * end ≤ length ring
    → slice_get ring (128 * k) ≡ Some p → slice_get ring (128 * end - 1) ≡ Some q
    → AreEnds (run_at ring k end) (p ∷ record { x = p.x; y = q.y } ∷ q ∷ [])
has_ends ring k end p q lt whole at at' =
    let i : ℕ = 128 * k in
    let n : ℕ = 128 * (end - k) - 1 in
    let there : i < length ring = slice_get_within ring i p at in
    let rest : List Point = take n (drop (i + 1) ring) in
    let first : drop i ring ≡ p ∷ drop (i + 1) ring =
    drop_first ring i p there ∙ ap (λ v. v ∷ drop (i + 1) ring) (get_or_from_slice_get ring i p p at) in
    let count : 128 * (end - k) ≡ suc n = omega (arith, lt) in
    let is : run_at ring k end ≡ p ∷ rest =
    ap (take (128 * (end - k))) first ∙ ap (λ c. take c (p ∷ drop (i + 1) ring)) count in
    let size : length rest ≡ n =
    length-take-le n (drop (i + 1) ring) (omega (arith, whole, lt, length-drop (i + 1) ring)) in
    let index : i + n ≡ 128 * end - 1 = omega (arith, lt) in
    let last : get_or (p ∷ rest) (length rest) q ≡ q =
    ap (λ c. get_or (p ∷ rest) c q) size
    ∙ (ap (λ ps. get_or ps n q) (sym is)
    ∙ (get_or-take (128 * (end - k)) (drop i ring) n q (omega (arith, lt))
    ∙ (get_or-drop i ring n q
    ∙ (ap (λ c. get_or ring c q) index ∙ get_or_from_slice_get ring (128 * end - 1) q q at')))) in
    let ends : last_or p rest ≡ q = last_or-get_or p rest q ∙ last in
    record {
      first = p;
      rest = rest;
      is = is;
      ends_are = ap (λ (v : Point). p ∷ record { x = p.x; y = v.y } ∷ v ∷ []) (sym ends);
    }

-- one stretch is a run
pub run_of_one : (ring : List Point) (k : ℕ) → run_at ring k (k + 1) ≡ stretch_at ring k
run_of_one ring k =
    let one : 128 * (k + 1 - k) ≡ 128 = omega arith in
    ap (λ c. take c (drop (128 * k) ring)) one

-- no stretch
no_run : (ring : List Point) (k : ℕ) → run_at ring k k ≡ []
no_run ring k =
    let none : 128 * (k - k) ≡ 0 = omega arith in
    ap (λ c. take c (drop (128 * k) ring)) none

pub none_held : (b : Bounds) (ring : List Point) (k : ℕ) → All (HoldsPoint b) (run_at ring k k)
none_held b ring k = subst (All (HoldsPoint b)) (sym (no_run ring k)) (All-nil (HoldsPoint b))

-- stretches and those after them
run_on : (ring : List Point) (k end to : ℕ) → k ≤ end → end ≤ to
    → run_at ring k to ≡ run_at ring k end ++ run_at ring end to
run_on ring k end to le le' =
    let n : ℕ = 128 * (end - k) in
    let m : ℕ = 128 * (to - end) in
    let count : 128 * (to - k) ≡ n + m = omega (arith, le, le') in
    let index : 128 * k + n ≡ 128 * end = omega (arith, le) in
    ap (λ c. take c (drop (128 * k) ring)) count
    ∙ (take-add n m (drop (128 * k) ring)
    ∙ ap (λ ps. run_at ring k end ++ take m ps) (drop-drop n (128 * k) ring ∙ ap (λ i. drop i ring) index))

-- more stretches in a box that has all points of the box of those before
pub run_more : (ring : List Point) (k end to : ℕ) (b wider : Bounds) → k ≤ end → end ≤ to
    → All (HoldsPoint b) (run_at ring k end) → Widens b wider → All (HoldsPoint wider) (run_at ring end to)
    → All (HoldsPoint wider) (run_at ring k to)
run_more ring k end to b wider le le' all widens rest =
    subst (All (HoldsPoint wider)) (sym (run_on ring k end to le le'))
    (All-append (HoldsPoint wider) (run_at ring k end) (run_at ring end to)
    (All-weaker (HoldsPoint b) (HoldsPoint wider) widens.holds (run_at ring k end) all) rest)

-- and one stretch more
pub stretch_more : (ring : List Point) (k end : ℕ) (b next wider : Bounds) → k ≤ end
    → All (HoldsPoint b) (run_at ring k end) → All (HoldsPoint next) (stretch_at ring end) → Widens b wider
    → Widens next wider → All (HoldsPoint wider) (run_at ring k (end + 1))
stretch_more ring k end b next wider le all one widens widens' =
    run_more ring k end (end + 1) b wider le (omega arith) all widens
    (subst (All (HoldsPoint wider)) (sym (run_of_one ring end))
    (All-weaker (HoldsPoint next) (HoldsPoint wider) widens'.holds (stretch_at ring end) one))

-- points in a box that is placed on one side of a window may be replaced by their ends and a corner between them
pub beside_ends : (m : Map) (e : Point) (w : Window) (b : Bounds) (run ends : List Point) → IsPlacedBeside m e w b
    → All (HoldsPoint b) run → AreEnds run ends → MayBe m e w run ends
beside_ends m e w b run ends placed all are =
    let Q : Point → Type 0 = HoldsPoint b in
    let p : Point = are.first in
    let ps : List Point = are.rest in
    let q : Point = last_or p ps in
    let held = placed.held in
    let all' : All Q (p ∷ ps) = subst (All Q) are.is all in
    let first : Q p = All-head Q p ps all' in
    let last : Q q = last_has Q p ps all' in
    let corner : Point = record { x = p.x; y = q.y } in
    let there : Q corner = record { left = first.left; right = first.right; below = last.below; above = last.above } in
    let image : Point → Point = placed_point m e in
    let done : MayBe m e w (p ∷ ps) (p ∷ corner ∷ last_or p ps ∷ []) =
    elim placed.beside [
      | inl left ↦
          ends_alike m e w (IsLeft w) Q (left_counts w)
          (λ v h. let g = (held v h).right in omega (arith, ints, g, left)) p corner ps all' there
      | inr other ↦
          elim other [
            | inl right ↦
                ends_alike m e w (IsRight w) Q (right_counts w)
                (λ v h. let g = (held v h).left in omega (arith, ints, g, right)) p corner ps all' there
            | inr rest ↦
                elim rest [
                  | inl below ↦
                      ends_alike m e w (IsBelow w) Q (below_counts w)
                      (λ v h. let g = (held v h).above in omega (arith, ints, g, below)) p corner ps all' there
                  | inr above ↦
                      ends_alike m e w (IsAbove w) Q (above_counts w)
                      (λ v h. let g = (held v h).below in omega (arith, ints, g, above)) p corner ps all' there
                ]
          ]
    ] in
    subst (MayBe m e w run) (sym are.ends_are)
    (subst (λ s. MayBe m e w s (p ∷ corner ∷ q ∷ [])) (sym are.is) done)

-- one point more
pub point_more : (ring old points : List Point) (begin i : ℕ) (p : Point) → begin ≤ i → slice_get ring i ≡ Some p
    → points ≡ old ++ take (i - begin) (drop begin ring)
    → points ++ p ∷ [] ≡ old ++ take (i + 1 - begin) (drop begin ring)
point_more ring old points begin i p on at is =
    let rest : List Point = drop begin ring in
    let there : i < length ring = slice_get_within ring i p at in
    let low : i - begin < length rest = omega (arith, on, there, length-drop begin ring) in
    let index : begin + (i - begin) ≡ i = omega (arith, on) in
    let next : i - begin + 1 ≡ i + 1 - begin = omega (arith, on) in
    let point : get_or rest (i - begin) p ≡ p =
    get_or-drop begin ring (i - begin) p
    ∙ (ap (λ n. get_or ring n p) index ∙ get_or_from_slice_get ring i p p at) in
    let more : take (i - begin) rest ++ p ∷ [] ≡ take (i + 1 - begin) rest =
    ap (λ q. take (i - begin) rest ++ q ∷ []) (sym point)
    ∙ (sym (take_more rest (i - begin) p low) ∙ ap (λ n. take n rest) next) in
    ap (λ ps. ps ++ p ∷ []) is ∙ (append_assoc old (take (i - begin) rest) (p ∷ []) ∙ ap (λ ps. old ++ ps) more)

-- the points of a stretch, which may be the last one
pub stretch_is : (ring : List Point) (k begin end : ℕ) → begin ≡ 128 * k → end ≤ begin + 128
    → (end < begin + 128 → end ≡ length ring) → take (end - begin) (drop begin ring) ≡ stretch_at ring k
stretch_is ring k begin end is most short =
    let rest : List Point = drop begin ring in
    let whole : take 128 rest ≡ stretch_at ring k = ap (λ n. take 128 (drop n ring)) is in
    elim (cases_lt end (begin + 128)) [
      | inl less ↦
          let all : end ≡ length ring = short less in
          let few : length rest ≤ end - begin = omega (arith, all, length-drop begin ring) in
          let few' : length rest ≤ 128 = omega (arith, few, most) in
          take_all (end - begin) rest few ∙ (sym (take_all 128 rest few') ∙ whole)
      | inr full ↦
          let size : end - begin ≡ 128 = omega (arith, most, full) in
          ap (λ n. take n rest) size ∙ whole
    ]

-- what winds as a placed ring does within a window covers what the ring covers there
pub near_covers : (m : Map) (e : Point) (w : Window) (ring points placed : List Point) → IsRing ring
    → WindAlike m e w ring points → placed ≡ map (placed_point m e) points → (q : Square) → IsInWindow w q
    → Covers placed q ↔ IsPlaceOfCovered m e ring q
near_covers m e w ring points placed h alike is q i =
    let both = covers_placed m e ring h.straight q in
    let same : winding (map (placed_point m e) ring) q ≡ winding placed q =
    alike q i ∙ ap (λ (ps : List Point). winding ps q) (sym is) in
    (λ c. both.0 (λ none. c (sym same ∙ none)), λ p none. both.1 p (same ∙ none))
