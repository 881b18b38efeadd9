use Rattle.std.proofs.Common.{◌≡◌, ◌<◌, ◌≤◌, ◌+◌, [], ℕ, List, Some, take, length, slice_get, true, false}
use Rattle.std.proofs.Common.{refl, sym, ap, ◌∙◌, subst, arith, inl, inr}
use Rattle.std.proofs.lemmas.List.{take_all}
use Rattle.std.proofs.lemmas.Option.{slice_get_read}
use Rattle.lvl_cells.specs.Cells.{PlainCell, PlainReference, Rings}
use Rattle.lvl_compare.specs.Tops.{Draws}
use Rattle.lvl_changed.specs.declared.arrays.Array.{Array}
use Rattle.lvl_changed.specs.inside.Arrays.{each_place, every_place}
use Rattle.lvl_changed.specs.inside.Opening.{Adds, IsUnder}
use Rattle.lvl_changed.specs.inside.Placements.{PlacedCover, ReferencesCover}
use Rattle.lvl_changed.proofs.Under.{adds_more, adds_nothing, array_pushed, no_references, references_under}
use Rattle.lvl_changed.proofs.Under.{references_within, under_more}
use Rattle.lvl_changed.proofs.opening.open_references.Goals as goal

-- what the references up to an index cover, under the array
abbrev Upto : List (PlainCell Rings) → Array → List PlainReference → Draws
Upto cells a rs l = IsUnder a (ReferencesCover cells rs l)

pub loop-j-init : goal.loop-j-init
loop-j-init c = λ b at.
    adds_nothing (PlacedCover c.args.checked.now.cells (every_place c.args.opened.now.items))
    (Upto c.args.checked.now.cells c.args.array.now []) (no_references c.args.checked.now.cells c.args.array.now)

pub reference_at-requires-clause-reference : goal.reference_at-requires-clause-reference
reference_at-requires-clause-reference c =
    let cells : List (PlainCell Rings) = c.args.checked.now.cells in
    let i : ℕ = c.args.array.now.cell in
    let cell : PlainCell Rings = c.index-cells-array.result in
    let read : slice_get c.cells.result.now i ≡ Some cell =
    slice_get_read c.cells.result.now (length c.cells.result.now) i cell refl
    (omega (arith, c.requires, ap length c.cells.ensures.value)) c.index-cells-array.is in
    let there : slice_get cells i ≡ Some cell =
    subst (λ (cs : List (PlainCell Rings)). slice_get cs i ≡ Some cell) c.cells.ensures.value read in
    let kept : c.parent.inside.references ≡ cell.references =
    ap (λ (b : PlainCell Rings). b.references) c.parent.view_is in
    (cell, there, omega (arith, c.loop-j-test.true, c.len-j-end.ensures, ap length kept))

pub loop-j-preserved : goal.loop-j-preserved
loop-j-preserved c = λ b at.
    let cells : List (PlainCell Rings) = c.args.checked.now.cells in
    let a : Array = c.args.array.now in
    let j : ℕ = c.loop-j.j in
    let x : Array = c.in_order.result in
    let cell : PlainCell Rings = c.index-cells-array.result in
    let read : slice_get c.cells.result.now a.cell ≡ Some cell =
    slice_get_read c.cells.result.now (length c.cells.result.now) a.cell cell refl
    (omega (arith, c.requires, ap length c.cells.ensures.value)) c.index-cells-array.is in
    let there : slice_get cells a.cell ≡ Some cell =
    subst (λ (cs : List (PlainCell Rings)). slice_get cs a.cell ≡ Some cell) c.cells.ensures.value read in
    let both : Some cell ≡ Some b = sym there ∙ at in
    let one : cell ≡ b = cc in
    let kept : c.parent.inside.references ≡ b.references =
    ap (λ (d : PlainCell Rings). d.references) (c.parent.view_is ∙ one) in
    let low : j < length b.references = omega (arith, c.loop-j-test.true, c.len-j-end.ensures, ap length kept) in
    adds_more (PlacedCover cells (every_place c.args.opened.now.items))
    (PlacedCover cells (every_place c.loop-j.opened.items)) (PlacedCover cells (every_place c.push.new.self.items))
    (Upto cells a (take j b.references)) (PlacedCover cells (each_place x)) (Upto cells a (take (j + 1) b.references)) true
    (c.loop-j.invariant b at)
    (array_pushed cells c.loop-j.opened.items c.push.new.self.items x c.in_ok-push.ensures.items)
    (references_under cells a c.in_ok-inner.inner c.in-Some.outer x j b at low c.in_ok-inner.ensures
    (rw c.in-Some.is at c.in_ok-outer.ensures) c.in_order.ensures)

pub returns-in_default : goal.returns-in_default
returns-in_default c =
    let cells : List (PlainCell Rings) = c.args.checked.now.cells in
    let a : Array = c.args.array.now in
    λ b at.
    let before = c.loop-j.invariant b at in
    record {
      grown = before.grown;
      inside = λ l s h. elim (before.inside l s h) [
        | inl o ↦ inl o
        | inr u ↦
            inr (under_more a (ReferencesCover cells (take c.loop-j.j b.references) l) (ReferencesCover cells b.references l)
            s (references_within cells b.references c.loop-j.j l) u)
      ];
      held = λ never. absurd (let no : false ≡ true = never in cc);
    }

pub returns : goal.returns
returns c =
    let cells : List (PlainCell Rings) = c.args.checked.now.cells in
    let a : Array = c.args.array.now in
    let cell : PlainCell Rings = c.index-cells-array.result in
    let read : slice_get c.cells.result.now a.cell ≡ Some cell =
    slice_get_read c.cells.result.now (length c.cells.result.now) a.cell cell refl
    (omega (arith, c.requires, ap length c.cells.ensures.value)) c.index-cells-array.is in
    let there : slice_get cells a.cell ≡ Some cell =
    subst (λ (cs : List (PlainCell Rings)). slice_get cs a.cell ≡ Some cell) c.cells.ensures.value read in
    λ b at.
    let both : Some cell ≡ Some b = sym there ∙ at in
    let one : cell ≡ b = cc in
    let kept : c.parent.inside.references ≡ b.references =
    ap (λ (d : PlainCell Rings). d.references) (c.parent.view_is ∙ one) in
    let long : length b.references ≤ c.loop-j.j =
    omega (arith, c.loop-j-test.false, c.len-j-end.ensures, ap length kept) in
    subst
    (λ (rs : List PlainReference). Adds (PlacedCover cells (every_place c.args.opened.now.items))
    (PlacedCover cells (every_place c.loop-j.opened.items)) (Upto cells a rs) true)
    (take_all c.loop-j.j b.references long) (c.loop-j.invariant b at)
