use Rattle.std.proofs.Common.{List, inl, inr, subst}
use Rattle.lvl_grid.proofs.Anyone.{Any-nil}
use Rattle.lvl_cells.specs.Cells.{PlainCell, Rings}
use Rattle.lvl_changed.specs.declared.arrays.Array.{Array}
use Rattle.lvl_changed.specs.declared.placements.Placement.{Placement}
use Rattle.lvl_changed.specs.inside.Arrays.{every_place}
use Rattle.lvl_changed.specs.inside.Placements.{PlacedCover, PlacementCovers}
use Rattle.lvl_changed.proofs.references.Partners.none.Goals as goal

pub returns : goal.returns
returns c = λ pair l s x.
    let ours : List (PlainCell Rings) = pair.first.now.cells in
    let theirs : List (PlainCell Rings) = pair.second.now.cells in
    elim x [
      | inl m ↦
          Any-nil (PlacementCovers theirs m.source s)
          (subst (λ (ps : List Placement). PlacedCover theirs ps m.source s) c.none.ensures m.covers)
      | inr y ↦
          Any-nil (PlacementCovers ours l s)
          (subst (λ (as' : List Array). PlacedCover ours (every_place as') l s) c.new.ensures.items y)
    ]
