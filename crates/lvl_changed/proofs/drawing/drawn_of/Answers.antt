use Rattle.std.proofs.Common.{◌≡◌, ◌<◌, ◌≤◌, List, Some, length, slice_get, inl, inr, refl, sym, ap, ◌∙◌}
use Rattle.std.proofs.Common.{subst, arith}
use Rattle.std.proofs.lemmas.List.{take_all}
use Rattle.std.proofs.lemmas.Option.{slice_get_read}
use Rattle.lvl_grid.proofs.Anyone.{Any-nil}
use Rattle.lvl_cells.specs.Cells.{PlainCell, PlainReference, PlainShape, Rings}
use Rattle.lvl_flat.specs.inside.Visits.{PickCovers}
use Rattle.lvl_changed.specs.inside.Layers.{IsOn}
use Rattle.lvl_changed.specs.inside.Placements.{ReferencesCover}
use Rattle.lvl_changed.specs.inside.Shapes.{ShapesCover}
use Rattle.lvl_changed.proofs.Drawn.{reference_drawn}
use Rattle.lvl_changed.proofs.Moving.{covers_both}
use Rattle.lvl_changed.proofs.drawing.drawn_of.Goals as goal

pub loop-j-init : goal.loop-j-init
loop-j-init c =
    let cells : List (PlainCell Rings) = c.args.checked.now.cells in
    let cell : PlainCell Rings = c.index-cells-cell.result in
    let read : slice_get c.cells.result.now c.args.cell ≡ Some cell =
    slice_get_read c.cells.result.now (length c.cells.result.now) c.args.cell cell refl
    (omega (arith, c.requires, ap length c.cells.ensures.value)) c.index-cells-cell.is in
    let there : slice_get cells c.args.cell ≡ Some cell =
    subst (λ (cs : List (PlainCell Rings)). slice_get cs c.args.cell ≡ Some cell) c.cells.ensures.value read in
    record {
      own = λ b l s at covers.
          let both : Some cell ≡ Some b = sym there ∙ at in
          let one : cell ≡ b = cc in
          let kept : c.parent.inside.shapes ≡ b.shapes =
          ap (λ (d : PlainCell Rings). d.shapes) (c.parent.view_is ∙ one) in
          c.in_ok-add_shapes.ensures.added l s
          (subst (λ (hs : List (PlainShape Rings)). ShapesCover hs l s) (sym kept) covers);
      placed = λ known b l s at covers. absurd (Any-nil (PickCovers cells l s) covers);
    }

pub target_of-requires : goal.target_of-requires
target_of-requires c =
    let cells : List (PlainCell Rings) = c.args.checked.now.cells in
    let cell : PlainCell Rings = c.index-cells-cell.result in
    let read : slice_get c.cells.result.now c.args.cell ≡ Some cell =
    slice_get_read c.cells.result.now (length c.cells.result.now) c.args.cell cell refl
    (omega (arith, c.requires, ap length c.cells.ensures.value)) c.index-cells-cell.is in
    let there : slice_get cells c.args.cell ≡ Some cell =
    subst (λ (cs : List (PlainCell Rings)). slice_get cs c.args.cell ≡ Some cell) c.cells.ensures.value read in
    let kept : c.parent.inside.references ≡ cell.references =
    ap (λ (b : PlainCell Rings). b.references) c.parent.view_is in
    (cell, there, omega (arith, c.loop-j-test.true, c.len-j-end.ensures, ap length kept))

pub loop-j-preserved : goal.loop-j-preserved
loop-j-preserved c =
    let cells : List (PlainCell Rings) = c.args.checked.now.cells in
    let cell : PlainCell Rings = c.index-cells-cell.result in
    let read : slice_get c.cells.result.now c.args.cell ≡ Some cell =
    slice_get_read c.cells.result.now (length c.cells.result.now) c.args.cell cell refl
    (omega (arith, c.requires, ap length c.cells.ensures.value)) c.index-cells-cell.is in
    let there : slice_get cells c.args.cell ≡ Some cell =
    subst (λ (cs : List (PlainCell Rings)). slice_get cs c.args.cell ≡ Some cell) c.cells.ensures.value read in
    record {
      own = λ b l s at covers. c.in_ok-add_drawn.ensures.kept l (c.loop-j.invariant.own b l s at covers);
      placed = λ known b l s at covers.
          let both : Some cell ≡ Some b = sym there ∙ at in
          let one : cell ≡ b = cc in
          let kept : c.parent.inside.references ≡ b.references =
          ap (λ (d : PlainCell Rings). d.references) (c.parent.view_is ∙ one) in
          let low : c.loop-j.j < length b.references =
          omega (arith, c.loop-j-test.true, c.len-j-end.ensures, ap length kept) in
          elim (reference_drawn cells c.args.cell c.loop-j.j c.target_of.result b c.target_of.ensures l s at low covers) [
            | inl early ↦ c.in_ok-add_drawn.ensures.kept l (c.loop-j.invariant.placed known b l s at early)
            | inr this ↦
                subst (IsOn c.add_drawn.new.layers) (rw c.whole-whole.ensures.no_pairs refl)
                (c.in_ok-add_drawn.ensures.added cells known l this.0 this.1)
          ];
    }

pub returns : goal.returns
returns c = λ known l s covers.
    let cells : List (PlainCell Rings) = c.args.checked.now.cells in
    let cell : PlainCell Rings = c.index-cells-cell.result in
    let read : slice_get c.cells.result.now c.args.cell ≡ Some cell =
    slice_get_read c.cells.result.now (length c.cells.result.now) c.args.cell cell refl
    (omega (arith, c.requires, ap length c.cells.ensures.value)) c.index-cells-cell.is in
    let there : slice_get cells c.args.cell ≡ Some cell =
    subst (λ (cs : List (PlainCell Rings)). slice_get cs c.args.cell ≡ Some cell) c.cells.ensures.value read in
    let kept : c.parent.inside.references ≡ cell.references =
    ap (λ (d : PlainCell Rings). d.references) c.parent.view_is in
    let long : length cell.references ≤ c.loop-j.j =
    omega (arith, c.loop-j-test.false, c.len-j-end.ensures, ap length kept) in
    elim ((covers_both cells c.args.cell cell there l s).0 covers) [
      | inl own ↦ c.loop-j.invariant.own cell l s there own
      | inr placed ↦
          c.loop-j.invariant.placed known cell l s there
          (subst (λ (rs : List PlainReference). ReferencesCover cells rs l s)
          (sym (take_all c.loop-j.j cell.references long)) placed)
    ]
