use Rattle.std.proofs.Common.{◌≡◌, IfSome, ℕ, List, Option, Some, sym, subst, ap}
use Rattle.lvl_cells.specs.Cells.{PlainCell, Rings}
use Rattle.lvl_cells.specs.Checks.{Settled}
use Rattle.lvl_flat.specs.Boxes.{AreBoxes}
use Rattle.lvl_flat.specs.declared.bounds.Bounds.{Bounds}
use Rattle.lvl_flat.proofs.fitted.Fitted.rooted.Goals as goal

abbrev rooted_at : ℕ → Settled → Settled
rooted_at k s = record { cells = s.cells; top = k; order = s.order }

-- the boxes of the cells are those of the same cells with another top
same_boxes : (k : ℕ) (s rooted : Settled) (found : Option Settled) (boxes shared : List (Option Bounds))
    → found ≡ Some rooted → IfSome found (λ it. it ≡ rooted_at k s) → shared ≡ boxes → AreBoxes s.cells boxes
    → AreBoxes rooted.cells shared
same_boxes k s rooted found boxes shared is at same held =
    let cells_are : rooted.cells ≡ s.cells =
    ap (λ (t : Settled). t.cells) (subst (λ (o : Option Settled). IfSome o (λ it. it ≡ rooted_at k s)) is at) in
    subst (λ (cells : List (PlainCell Rings)). AreBoxes cells shared) (sym cells_are)
    (subst (λ (known : List (Option Bounds)). AreBoxes s.cells known) (sym same) held)

pub hold_top-requires : goal.hold_top-requires
hold_top-requires c =
    same_boxes c.args.cell c.self.inside.checked c.in-Some.checked c.in_ok-checked.field-0 c.self.inside.boxes
    c.in_ok-boxes.boxes c.in-Some.is c.in_ok-checked.ensures c.in_ok-boxes.ensures c.self.invariant.boxes_are

pub invariant_of-result : goal.invariant_of-result
invariant_of-result c = record {
  boxes_are =
      same_boxes c.args.cell c.self.inside.checked c.in-Some.checked c.in_ok-checked.field-0 c.self.inside.boxes
      c.in_ok-boxes.boxes c.in-Some.is c.in_ok-checked.ensures c.in_ok-boxes.ensures c.self.invariant.boxes_are;
  in_range = c.hold_top.ensures c.if-not-hold_top.false;
}
