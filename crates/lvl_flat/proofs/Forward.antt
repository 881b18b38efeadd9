-- A visit of the top goes on with the next candidate.
use Rattle.std.proofs.Common.{◌≡◌, ◌≤◌, ◌++◌, ◌+◌, ◌-◌, ◌↔◌, inl, inr, ℕ, zero, suc, List, [], ◌∷◌, drop}
use Rattle.std.proofs.Common.{length, get_or, map, sum_by, slice_get, Some, Option, Any, Contains, refl, sym, ap, subst}
use Rattle.std.proofs.Common.{◌∙◌, arith}
use Rattle.std.specs.Prelude.{IfSome, IsSomeAnd}
use Rattle.std.specs.Option.{option_map_or}
use Rattle.std.proofs.lemmas.List.{get_or_default}
use Rattle.std.proofs.lemmas.List.Sums.{sum_by-append, sum_by_push}
use Rattle.std.proofs.lemmas.Option.{slice_get_read, slice_get_within, get_or_from_slice_get}
use Rattle.lvl_grid.specs.declared.point.Point.{Point}
use Rattle.lvl_grid.specs.declared.point.Square.{Square}
use Rattle.lvl_grid.specs.declared.point.Window.{Window}
use Rattle.lvl_grid.specs.declared.map.Map.{Map}
use Rattle.lvl_names.specs.declared.layer.Layer.{Layer}
use Rattle.lvl_cells.specs.Cells.{PlainCell, PlainReference, Rings}
use Rattle.lvl_cells.specs.Chains.{unmoved}
use Rattle.lvl_cells.specs.Checks.{Settled}
use Rattle.lvl_cells.proofs.Sequences.{slice_get-drop}
use Rattle.lvl_flat.specs.Candidates.{HasAll}
use Rattle.lvl_flat.specs.Flattened.{AllInRange, IsTopInRange}
use Rattle.lvl_flat.specs.Sheet.{PlainSheet}
use Rattle.lvl_flat.specs.declared.candidates.Part.TheVariants.{Reference}
use Rattle.lvl_flat.specs.declared.scope.Scope.TheVariants.{Within}
use Rattle.lvl_flat.specs.declared.visit.Visit.{Visit}
use Rattle.lvl_grid.specs.Clip.{IsInWindow}
use Rattle.lvl_flat.specs.inside.Listed.{IsNext}
use Rattle.lvl_flat.specs.inside.Passing.{IsForwarded}
use Rattle.lvl_flat.specs.inside.Visits.{Pick, picks, picks_from, pending, pick_weight, visit_weight, PickCovers}
use Rattle.lvl_flat.specs.inside.Visits.{VisitCovers}
use Rattle.lvl_flat.specs.inside.Walking.{IsWalking, references_left, toil, work}
use Rattle.lvl_flat.proofs.Advancing.{under_unmoved}
use Rattle.lvl_flat.proofs.Covering.{Under}
use Rattle.lvl_flat.proofs.Picks.{picks_any, picks_from_start}
use Rattle.lvl_flat.proofs.Stepping.{pending_at}
use Rattle.lvl_flat.proofs.UnderWay.{replaced_by}

-- an item from index j on for which P holds
record IsFrom {X : Type 0} (P : X → Type 0) (xs : List X) (j : ℕ) : Type 0 where
  i : ℕ
  x : X
  on : j ≤ i
  there : slice_get xs i ≡ Some x
  holds : P x

from_drop : {X : Type 0} (P : X → Type 0) (j : ℕ) (xs : List X) → Any P (drop j xs) → IsFrom P xs j
from_drop P j xs a =
    let at : slice_get (drop j xs) a.0 ≡ Some a.1 =
    slice_get_read (drop j xs) (length (drop j xs)) a.0 a.1 refl a.2 (sym a.3) in
    record {
      i = j + a.0;
      x = a.1;
      on = omega arith;
      there = sym (slice_get-drop xs j a.0) ∙ at;
      holds = a.4;
    }

to_drop : {X : Type 0} (P : X → Type 0) (j : ℕ) (xs : List X) → IsFrom P xs j → Any P (drop j xs)
to_drop P j xs f =
    let whole : j + (f.i - j) ≡ f.i = omega (arith, f.on) in
    let at : slice_get (drop j xs) (f.i - j) ≡ Some f.x =
    slice_get-drop xs j (f.i - j) ∙ (ap (slice_get xs) whole ∙ f.there) in (
      f.i - j,
      f.x,
      slice_get_within (drop j xs) (f.i - j) f.x at,
      get_or_from_slice_get (drop j xs) (f.i - j) f.x f.x at,
      f.holds,
    )

-- what the reference places covers the square
abbrev ReferenceCovers : List (PlainCell Rings) → Layer → Square → PlainReference → Type 0
ReferenceCovers cells layer q r = Any (λ e. PickCovers cells layer q (r, e)) r.shifts

-- the picks of a visit that begins a reference
begins_picks : (cells : List (PlainCell Rings)) (v : Visit) (c : PlainCell Rings) → slice_get cells v.cell ≡ Some c
    → v.place ≡ 0 → pending cells v ≡ picks (drop v.reference c.references)
begins_picks cells v c at begins =
    let rs : List PlainReference = drop v.reference c.references in
    pending_at cells v c at ∙ (ap (picks_from rs) begins ∙ picks_from_start rs)

-- a visit of a cell that isn't moved, and that begins a reference, covers what the references from that one on do
visit_from : (cells : List (PlainCell Rings)) (layer : Layer) (q : Square) (v : Visit) (c : PlainCell Rings)
    → slice_get cells v.cell ≡ Some c → v.map ≡ unmoved → v.place ≡ 0
    → VisitCovers cells layer q v ↔ Any (ReferenceCovers cells layer q) (drop v.reference c.references)
visit_from cells layer q v c at still begins =
    let rs : List PlainReference = drop v.reference c.references in
    let ps : List Pick = pending cells v in
    let is : ps ≡ picks rs = begins_picks cells v c at begins in
    let all = picks_any (λ r e. PickCovers cells layer q (r, e)) rs in
    let here = under_unmoved q (λ t. Any (PickCovers cells layer t) ps) in
    let U : Map → Type 0 = λ m. Under m q (λ t. Any (PickCovers cells layer t) ps) in (
      λ u. all.1 (subst (Any (PickCovers cells layer q)) is (here.0 (subst U still u))),
      λ a. subst U (sym still) (here.1 (subst (Any (PickCovers cells layer q)) (sym is) (all.0 a))),
    )

-- a reference that covers a square of the window isn't one of those that are passed
further_on : (s : Settled) (window : Window) (top : PlainCell Rings) (list : List ℕ) (v u : Visit) (layer : Layer)
    (q : Square) → slice_get s.cells s.top ≡ Some top → HasAll s window Reference list
    → IsNext list v.reference u.reference → IsInWindow window q
    → IsFrom (ReferenceCovers s.cells layer q) top.references v.reference
    → IsFrom (ReferenceCovers s.cells layer q) top.references u.reference
further_on s window top list v u layer q at has next seen f =
    let R : PlainReference → Type 0 = ReferenceCovers s.cells layer q in
    let listed : Contains list f.i =
    has top at f.i layer q seen (subst (λ o. IsSomeAnd o R) (sym f.there) f.holds) in
    let is : get_or list listed.0 0 ≡ f.i = get_or_default list listed.0 0 f.i listed.1 ∙ listed.2 in
    let on : v.reference ≤ get_or list listed.0 0 = omega (arith, is, f.on) in
    record {
      i = f.i;
      x = f.x;
      on = omega (arith, is, next.none listed.0 listed.1 on);
      there = f.there;
      holds = f.holds;
    }

pub walk_forward : (s : Settled) (layers : List Layer) (window : Window) (sheets : List PlainSheet)
    (front : List Visit) (v u : Visit) (list : List ℕ) → HasAll s window Reference list → IsTopInRange s
    → IsWalking s layers (Within window) sheets (front ++ v ∷ []) → IsForwarded s.top list v u
    → IsWalking s layers (Within window) sheets (front ++ u ∷ [])
walk_forward s layers window sheets front v u list has range w (inl same) =
    subst (λ x. IsWalking s layers (Within window) sheets (front ++ x ∷ [])) (sym same) w
walk_forward s layers window sheets front v u list has range w (inr f) =
    let refs : List PlainReference = w.top.references in
    let map_is : u.map ≡ v.map = ap (λ (x : Visit). x.map) f.further_is in
    let cell_is : u.cell ≡ v.cell = ap (λ (x : Visit). x.cell) f.further_is in
    let begins : u.place ≡ 0 = ap (λ (x : Visit). x.place) f.further_is ∙ f.begins in
    let at : slice_get s.cells v.cell ≡ Some w.top = ap (slice_get s.cells) f.cell_is ∙ w.is_top in
    let at_u : slice_get s.cells u.cell ≡ Some w.top = ap (slice_get s.cells) cell_is ∙ at in
    let in_range : AllInRange s.cells w.top = subst (λ o. IfSome o (AllInRange s.cells)) w.is_top range in
    replaced_by s layers (Within window) sheets front v u w map_is cell_is
    (λ layer q part.
    let R : PlainReference → Type 0 = ReferenceCovers s.cells layer q in
    let old = visit_from s.cells layer q v w.top at f.map_is f.begins in
    let new = visit_from s.cells layer q u w.top at_u (map_is ∙ f.map_is) begins in (
      λ a.
          new.1 (to_drop R u.reference refs
          (further_on s window w.top list v u layer q w.is_top has f.next part.1
          (from_drop R v.reference refs (old.0 a)))),
      λ a.
          let g = from_drop R u.reference refs (new.0 a) in
          old.1 (to_drop R v.reference refs (record {
            i = g.i;
            x = g.x;
            on = omega (arith, g.on, f.next.on);
            there = g.there;
            holds = g.holds;
          })),
    )) (λ whole each. in_range) (λ all weight. cc)

-- fewer references have no more picks
picks_less : (f : Pick → ℕ) (n : ℕ) (rs : List PlainReference) → sum_by f (picks (drop n rs)) ≤ sum_by f (picks rs)
picks_less f zero rs = omega arith
picks_less f (suc n) [] = omega arith
picks_less f (suc n) (r ∷ rs) =
    omega (arith, picks_less f n rs, sum_by-append f (map (λ (e : Point). let p : Pick = (r, e) in p) r.shifts) (picks rs))

drop_none : {X : Type 0} (n : ℕ) → drop {A = X} n [] ≡ []
drop_none zero = refl
drop_none (suc n) = refl

drop_twice : {X : Type 0} (a n : ℕ) (xs : List X) → drop n (drop a xs) ≡ drop (a + n) xs
drop_twice zero n xs = let none : n ≡ 0 + n = omega arith in ap (λ k. drop k xs) none
drop_twice (suc a) n [] = drop_none n ∙ sym (drop_none (suc a + n))
drop_twice (suc a) n (x ∷ xs) =
    let one : suc (a + n) ≡ suc a + n = omega arith in
    drop_twice a n xs ∙ ap (λ k. drop k (x ∷ xs)) one

pub less_forward : (s : Settled) (front : List Visit) (v u : Visit) (list : List ℕ) (c : PlainCell Rings)
    → slice_get s.cells s.top ≡ Some c → IsForwarded s.top list v u
    → work s.cells (front ++ u ∷ []) ≤ work s.cells (front ++ v ∷ [])
less_forward s front v u list c at (inl same) =
    subst (λ x. work s.cells (front ++ x ∷ []) ≤ work s.cells (front ++ v ∷ [])) (sym same) (omega arith)
less_forward s front v u list c at (inr f) =
    let cells : List (PlainCell Rings) = s.cells in
    let weight : Visit → ℕ = visit_weight toil cells in
    let left : Visit → ℕ = λ x. 1 + references_left cells x in
    let each : Pick → ℕ = pick_weight toil cells in
    let refs : List PlainReference = c.references in
    let more : ℕ = u.reference - v.reference in
    let cell_is : u.cell ≡ v.cell = ap (λ (x : Visit). x.cell) f.further_is in
    let begins : u.place ≡ 0 = ap (λ (x : Visit). x.place) f.further_is ∙ f.begins in
    let at_v : slice_get cells v.cell ≡ Some c = ap (slice_get cells) f.cell_is ∙ at in
    let at_u : slice_get cells u.cell ≡ Some c = ap (slice_get cells) cell_is ∙ at_v in
    let whole : v.reference + more ≡ u.reference = omega (arith, f.next.on) in
    let of : Option (PlainCell Rings) → ℕ → ℕ =
    λ o j. option_map_or (λ (b : PlainCell Rings). length b.references - j) o 0 in
    let v_left : references_left cells v ≡ length refs - v.reference = ap (λ o. of o v.reference) at_v in
    let u_left : references_left cells u ≡ length refs - u.reference = ap (λ o. of o u.reference) at_u in
    let v_weight : weight v ≡ sum_by each (picks (drop v.reference refs)) =
    ap (sum_by each) (begins_picks cells v c at_v f.begins) in
    let u_weight : weight u ≡ sum_by each (picks (drop more (drop v.reference refs))) =
    ap (sum_by each) (begins_picks cells u c at_u begins
    ∙ sym (ap picks (drop_twice v.reference more refs ∙ ap (λ k. drop k refs) whole))) in
    omega (
      arith,
      f.next.on,
      v_left,
      u_left,
      v_weight,
      u_weight,
      picks_less each more (drop v.reference refs),
      sum_by_push weight front v,
      sum_by_push weight front u,
      sum_by_push left front v,
      sum_by_push left front u,
    )
