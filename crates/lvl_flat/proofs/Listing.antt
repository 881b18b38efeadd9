-- The Layers of a library, and their sheets: sorted, and without duplicates.
use Rattle.std.proofs.Common.{◌≡◌, ◌<◌, ℕ, zero, suc, List, Any, inl, inr}
use Rattle.std.proofs.Common.{length, get_or, map, slice_get, Some, All, AllPairs, Contains, sym, subst, arith}
use Rattle.std.proofs.lemmas.List.{get_or-map}
use Rattle.std.proofs.Math.ListN.{length-map}
use Rattle.std.proofs.lemmas.List.Elements.{All-contains, All-weaker}
use Rattle.std.proofs.lemmas.Option.{slice_get_within, get_or_from_slice_get}
use Rattle.lvl_names.specs.declared.layer.Layer.{Layer}
use Rattle.lvl_names.specs.Layers.{ComesBefore}
use Rattle.lvl_grid.specs.declared.point.Square.{Square}
use Rattle.lvl_grid.specs.Winding.{SomeCovers}
use Rattle.lvl_cells.specs.Cells.{PlainCell, PlainReference, PlainShape, Rings, cell_named}
use Rattle.lvl_cells.specs.Checks.{Settled}
use Rattle.lvl_cells.specs.Coverage.{CellCovers, CoversWithin, PullsBack, ShapeCovers}
use Rattle.lvl_cells.proofs.Counting.{found}
use Rattle.lvl_cells.proofs.Listing.{among}
use Rattle.lvl_flat.proofs.Covering.{some_is}
use Rattle.lvl_flat.specs.Flattened.{TopCovers}
use Rattle.lvl_flat.specs.Sheet.{PlainSheet}
use Rattle.lvl_flat.specs.Sheets.{AreSorted, ContainsAll}
use Rattle.lvl_flat.specs.inside.Walking.{AllListed}

sheets_sorted : (ss : List PlainSheet) → AllPairs ComesBefore (map (λ s. s.layer) ss) → AreSorted ss
sheets_sorted ss pairs i j d lt in' =
    let at : (k : ℕ) → k < length ss → get_or (map (λ s. s.layer) ss) k d.layer ≡ (get_or ss k d).layer =
    λ k inside. get_or-map (λ (s : PlainSheet). s.layer) ss k d d.layer inside in
    let both = pairs i j d.layer lt (rw length-map in') in
    subst (λ (l : Layer). ComesBefore l (get_or ss j d).layer) (at i (omega arith))
    (subst (λ (l : Layer). ComesBefore (get_or (map (λ s. s.layer) ss) i d.layer) l) (at j in') both)

-- the sheets of Layers in order are sorted
pub sheets_rise : (layers : List Layer) (ss : List PlainSheet) → AllPairs ComesBefore layers
    → map (λ s. s.layer) ss ≡ layers → AreSorted ss
sheets_rise layers ss h e = sheets_sorted ss (subst (AllPairs ComesBefore) (sym e) h)

-- each of the Layers has its sheet
pub sheets_there : (layers ordered : List Layer) (ss : List PlainSheet) → All (Contains ordered) layers
    → map (λ s. s.layer) ss ≡ ordered → ContainsAll (map (λ s. s.layer) ss) layers
sheets_there layers ordered ss all e = subst (λ ls. ContainsAll ls layers) (sym e) all

-- the Layers of the cell's shapes are in the list
abbrev pub AreListed : List Layer → PlainCell Rings → Type 0
AreListed layers c = All (λ h. Contains layers h.layer) c.shapes

pub still_listed : (fewer more : List Layer) (cells : List (PlainCell Rings)) → All (Contains more) fewer
    → All (AreListed fewer) cells → All (AreListed more) cells
still_listed fewer more cells wider h =
    All-weaker {X = PlainCell Rings} (AreListed fewer) (AreListed more) (λ c. among fewer more c.shapes wider) cells h

-- the shapes of a listed cell
pub cell_listed : (layers : List Layer) (cells : List (PlainCell Rings)) (k : ℕ) (c : PlainCell Rings)
    → AllListed layers cells → slice_get cells k ≡ Some c → AreListed layers c
cell_listed layers cells k c all at =
    subst (AreListed layers) (get_or_from_slice_get cells k c c at) (all k c (slice_get_within cells k c at))

-- the Layer of a shape that covers a square
pub own_listed : (layers : List Layer) (layer : Layer) (c : PlainCell Rings) (q : Square) → AreListed layers c
    → Any (ShapeCovers SomeCovers layer q) c.shapes → Contains layers layer
own_listed layers layer c q listed a =
    subst (Contains layers) a.4.0
    (All-contains (λ (h : PlainShape Rings). Contains layers h.layer) c.shapes a.1 listed (a.0, a.2, a.3))

-- a cell covers squares on listed Layers only
listed_within : (cells : List (PlainCell Rings)) (layers : List Layer) → AllListed layers cells → (layer : Layer)
    (n : ℕ) (c : PlainCell Rings) (q : Square) → AreListed layers c
    → CoversWithin SomeCovers cells layer n c q → Contains layers layer
listed_within cells layers all layer zero c q own a = own_listed layers layer c q own a
listed_within cells layers all layer (suc n) c q own (inl a) = own_listed layers layer c q own a
listed_within cells layers all layer (suc n) c q own (inr a) =
    let r : PlainReference = a.1 in
    let next =
    some_is (λ d. Any (PullsBack (CoversWithin SomeCovers cells layer n d) r q) r.shifts) (cell_named cells r.cell)
    a.4 in
    let back = next.2.4 in
    listed_within cells layers all layer n next.0 back.0
    (found (AreListed layers) cells r.cell next.0 all next.1).1 back.2

-- so all that a cell of the library covers is on them
pub cells_listed : (cells : List (PlainCell Rings)) (layers : List Layer) → AllListed layers cells → (layer : Layer)
    (k : ℕ) (c : PlainCell Rings) (q : Square) → slice_get cells k ≡ Some c → CellCovers SomeCovers cells layer c q
    → Contains layers layer
cells_listed cells layers all layer k c q at covered =
    listed_within cells layers all layer covered.0 c q (cell_listed layers cells k c all at) covered.1

-- and all that the top covers
pub top_listed : (s : Settled) (layers : List Layer) → AllListed layers s.cells → (layer : Layer) (q : Square)
    → TopCovers s layer q → Contains layers layer
top_listed s layers all layer q covered =
    let top = some_is (λ c. CellCovers SomeCovers s.cells layer c q) (slice_get s.cells s.top) covered in
    cells_listed s.cells layers all layer s.top top.0 q top.1 top.2
