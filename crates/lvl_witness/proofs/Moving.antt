-- What a frame does next.
use Rattle.std.proofs.Common.{◌≡◌, ◌<◌, ◌≤◌, ℕ, suc, List, slice_get, Option, Some, None, IfSome, sym, ap, subst, ◌∙◌}
use Rattle.std.proofs.Common.{IsSomeAnd}
use Rattle.lvl_grid.specs.declared.point.Point.{Point}
use Rattle.lvl_grid.specs.declared.point.Square.{Square}
use Rattle.lvl_grid.specs.declared.map.Map.{Map}
use Rattle.lvl_grid.specs.Turn.{image, image_square, FitsPoint}
use Rattle.lvl_grid.proofs.Composing.{composed, image-composed}
use Rattle.lvl_grid.specs.Winding.{SomeCovers}
use Rattle.lvl_names.specs.declared.layer.Layer.{Layer}
use Rattle.lvl_cells.specs.Cells.{PlainCell, PlainReference, Rings, map_at, cell_named}
use Rattle.lvl_cells.specs.Checks.{IsTargetOf}
use Rattle.lvl_cells.specs.Coverage.{CellCovers, PullsBack}
use Rattle.lvl_cells.proofs.Sequences.{one_answer}
use Rattle.lvl_cells.specs.Chains.{Chain, IsComposed}
use Rattle.lvl_cells.specs.Checks.{Settled}
use Rattle.lvl_flat.specs.Flattened.{CoversAt, AllInRange, IsTopInRange}
use Rattle.lvl_flat.specs.inside.Visits.{PickCovers}
use Rattle.lvl_flat.proofs.Covering.{some_is}
use Rattle.lvl_flat.proofs.Ranging.{composed_at}
use Rattle.lvl_witness.proofs.Leading.{chain_on}
use Rattle.lvl_witness.specs.declared.frame.Frame.{Frame}
use Rattle.lvl_witness.specs.inside.Moves.{IsReached}
use Rattle.lvl_witness.specs.declared.areas.Area.{Area}
use Rattle.lvl_witness.specs.inside.Areas.{IsInArea, IsInAny, AreApart}

-- the area has each shift of the reference at which cell `target` covers the square t
abbrev pub HasEachPlace : List (PlainCell Rings) → ℕ → PlainReference → Square → Option Area → Type 0
HasEachPlace cells target r t area = IfSome area
    (λ a. (layer : Layer) (s : Square) (e : Point) → CoversAt cells target layer s → image_square (map_at r e) s ≡ t
    → IsInArea a e)

in_any : (cells : List (PlainCell Rings)) (target : ℕ) (r : PlainReference) (t : Square) (area : Option Area)
    → HasEachPlace cells target r t area → (layer : Layer) (s : Square) (e : Point) → CoversAt cells target layer s
    → image_square (map_at r e) s ≡ t → IsInAny area e
in_any cells target r t None each layer s e covers same = tt
in_any cells target r t (Some a) each layer s e covers same = each layer s e covers same

-- at a place that isn't in the area the reference covers nothing of the square
pub apart_uncovered : (cells : List (PlainCell Rings)) (target : ℕ) (r : PlainReference) (d : PlainCell Rings)
    (t : Square) (from to : ℕ) (area : Option Area) → cell_named cells r.cell ≡ Some d
    → slice_get cells target ≡ Some d → HasEachPlace cells target r t area → AreApart r.shifts from to area
    → (layer : Layer) (k : ℕ) (e : Point) → from ≤ k → k < to → slice_get r.shifts k ≡ Some e
    → PickCovers cells layer t (r, e) → ⊥
apart_uncovered cells target r d t from to area named there each apart layer k e on below at covers =
    let found = some_is (λ x. PullsBack (CellCovers SomeCovers cells layer x) r t e) (cell_named cells r.cell) covers in
    let one : found.0 ≡ d = one_answer found.1 named in
    let back = found.2 in
    let covered : CellCovers SomeCovers cells layer d back.0 =
    subst (λ x. CellCovers SomeCovers cells layer x back.0) one back.2 in
    let of_cell : CoversAt cells target layer back.0 =
    subst (λ o. IsSomeAnd o (λ x. CellCovers SomeCovers cells layer x back.0)) (sym there) covered in
    apart k e on below at (in_any cells target r t area each layer back.0 e of_cell back.1)

-- the shift of each chain that goes on from a frame fits in 64 signed bits
pub reached_fits : (s : Settled) (f : Frame) (h : IsReached s f) (c d : PlainCell Rings) (r : PlainReference)
    (e : Point) (k : ℕ) → IsTopInRange s → slice_get s.cells f.cell ≡ Some c
    → slice_get c.references f.reference ≡ Some r → slice_get r.shifts k ≡ Some e
    → cell_named s.cells r.cell ≡ Some d → FitsPoint (image f.map (map_at r e).at)
reached_fits s f h c d r e k fits at there shift named =
    let all : AllInRange s.cells h.top = subst (λ o. IfSome o (AllInRange s.cells)) h.is_top fits in
    let one : h.cell ≡ c = one_answer h.there at in
    let m : Map = composed f.map (map_at r e) in
    let whole : IsComposed f.map (map_at r e) m = λ p. image-composed f.map (map_at r e) p in
    let before : Chain s.cells h.top h.steps f.map c = subst (Chain s.cells h.top h.steps f.map) one h.chain in
    let chain : Chain s.cells h.top (suc h.steps) m d =
    chain_on s.cells h.top h.steps f.reference k f.map m c d r e before there shift named whole in
    subst FitsPoint (composed_at f.map (map_at r e) m whole) (all (suc h.steps) m d chain).shift

-- the cell at index `target`, to which a reference is
pub record HasTarget (cells : List (PlainCell Rings)) (r : PlainReference) (target : ℕ) : Type 0 where
  pub next : PlainCell Rings
  pub named : cell_named cells r.cell ≡ Some next
  pub there : slice_get cells target ≡ Some next

pub target_at : (cells same : List (PlainCell Rings)) (i j target : ℕ) (c : PlainCell Rings) (r : PlainReference)
    → same ≡ cells → slice_get cells i ≡ Some c → slice_get c.references j ≡ Some r → IsTargetOf same i j target
    → HasTarget cells r target
target_at cells same i j target c r equal at there is =
    let t : IsTargetOf cells i j target = subst (λ cs. IsTargetOf cs i j target) equal is in
    let cell : t.cell ≡ c = one_answer t.cell_is at in
    let reference : t.reference ≡ r =
    one_answer t.reference_is (ap (λ (b : PlainCell Rings). slice_get b.references j) cell ∙ there) in
    record {
      next = t.target;
      named = subst (λ (x : PlainReference). cell_named cells x.cell ≡ Some t.target) reference t.named;
      there = t.target_is;
    }
