use Rattle.std.proofs.Common.{◌≡◌, ℕ, length, slice_get, Option, Some, sym, ap, subst, ◌∙◌, refl, arith}
use Rattle.lvl_grid.specs.declared.map.Map.{Map}
use Rattle.lvl_grid.specs.Turn.{image, FitsPoint}
use Rattle.lvl_cells.specs.Cells.{PlainCell, PlainReference, Rings}
use Rattle.lvl_cells.specs.Checks.{Settled}
use Rattle.lvl_flat.specs.Placing.{IsPlacing}
use Rattle.lvl_flat.specs.inside.Visits.{PickCovers}
use Rattle.lvl_witness.specs.declared.areas.Area.{Area}
use Rattle.lvl_witness.specs.declared.frame.Frame.{Frame}
use Rattle.lvl_witness.specs.inside.Areas.{AreApart}
use Rattle.lvl_witness.specs.inside.Moves.{IsSkipped}
use Rattle.lvl_witness.specs.inside.Wide.{as_square}
use Rattle.lvl_witness.proofs.Moving.{apart_uncovered, reached_fits, target_at}
use Rattle.lvl_witness.proofs.Skipping.{none_left, goes_past, places_skipped, past_end}
use Rattle.lvl_witness.proofs.frame.next_move.Goals as goal

pub returns-then-frame-len : goal.returns-then-frame-len
returns-then-frame-len c =
    let s : Settled = c.args.fitted.now in
    let f : Frame = c.args.frame.now in
    let cell : PlainCell Rings = c.cell.result.now in
    let at : slice_get s.cells f.cell ≡ Some cell =
    subst (λ (x : Settled). slice_get x.cells f.cell ≡ Some cell) c.checked-checked.ensures.library c.cell.ensures in
    let references : c.behind-checked.inside.references ≡ cell.references =
    ap (λ (b : PlainCell Rings). b.references) c.behind-checked.view_is in
    none_left s.cells f cell at (omega (arith, c.if-frame-len.true, c.len.ensures, ap length references))

pub target_of-cell-requires : goal.target_of-cell-requires
target_of-cell-requires c =
    let references : c.behind-checked.inside.references ≡ c.cell.result.now.references =
    ap (λ (b : PlainCell Rings). b.references) c.behind-checked.view_is in
    (c.cell.result.now, c.cell.ensures, omega (arith, c.if-frame-len.false, c.len.ensures, ap length references))

pub returns-in_default : goal.returns-in_default
returns-in_default c =
    let s : Settled = c.args.fitted.now in
    let f : Frame = c.args.frame.now in
    let cell : PlainCell Rings = c.cell.result.now in
    let at : slice_get s.cells f.cell ≡ Some cell =
    subst (λ (x : Settled). slice_get x.cells f.cell ≡ Some cell) c.checked-checked.ensures.library c.cell.ensures in
    let references : c.behind-checked.inside.references ≡ cell.references =
    ap (λ (b : PlainCell Rings). b.references) c.behind-checked.view_is in
    let r : PlainReference = c.reference-reference.result in
    let found : slice_get c.behind-checked.inside.references f.reference ≡ Some r = c.reference-reference.ensures in
    let there : slice_get cell.references f.reference ≡ Some r =
    subst (λ rs. slice_get rs f.reference ≡ Some r) references found in
    let target = target_at s.cells c.checked-checked.result.now.cells f.cell f.reference c.target_of-cell.result cell r
    (ap (λ (x : Settled). x.cells) c.checked-checked.ensures.library) at there c.target_of-cell.ensures in
    let to : ℕ = c.next_place_of-place.result in
    let area : Option Area = c.area_of_reference-area.result in
    let apart : AreApart r.shifts f.place to area =
    c.next_place_of-place.ensures.apart in
    let skipped : IsSkipped s.cells c.args.square f to =
    places_skipped s.cells c.args.square f cell r to at there c.next_place_of-place.ensures.on
    (λ layer t k e placed from below shift covers.
    apart_uncovered s.cells c.target_of-cell.result r target.next (as_square c.pulled.result) f.place to area
    target.named target.there c.area_of_reference-area.ensures.has apart layer k e from below shift
    (subst (λ u. PickCovers s.cells layer u (r, e)) ((c.pulled.ensures.square t).0 placed) covers)) in
    goes_past s.cells c.args.square f cell r to at there (past_end r.shifts to c.in_default.ensures.none) skipped

pub unreachable-requires : goal.unreachable-requires
unreachable-requires c =
    let s : Settled = c.args.fitted.now in
    let f : Frame = c.args.frame.now in
    let cell : PlainCell Rings = c.cell.result.now in
    let at : slice_get s.cells f.cell ≡ Some cell =
    subst (λ (x : Settled). slice_get x.cells f.cell ≡ Some cell) c.checked-checked.ensures.library c.cell.ensures in
    let references : c.behind-checked.inside.references ≡ cell.references =
    ap (λ (b : PlainCell Rings). b.references) c.behind-checked.view_is in
    let r : PlainReference = c.reference-reference.result in
    let found : slice_get c.behind-checked.inside.references f.reference ≡ Some r = c.reference-reference.ensures in
    let there : slice_get cell.references f.reference ≡ Some r =
    subst (λ rs. slice_get rs f.reference ≡ Some r) references found in
    let target = target_at s.cells c.checked-checked.result.now.cells f.cell f.reference c.target_of-cell.result cell r
    (ap (λ (x : Settled). x.cells) c.checked-checked.ensures.library) at there c.target_of-cell.ensures in
    let place : IsPlacing r c.next_place_of-place.result c.in-Some.by = c.in-Some.ensures.some in
    let fits : FitsPoint (image f.map c.in-Some.by.at) =
    subst (λ (m : Map). FitsPoint (image f.map m.at)) (sym place.map_is)
    (reached_fits s f c.requires cell target.next r place.shift c.next_place_of-place.result
    c.checked-checked.ensures.in_range at there place.there target.named) in
    let no = c.in_default-then.ensures.fits.1 fits in
    cc

pub returns : goal.returns
returns c =
    let s : Settled = c.args.fitted.now in
    let f : Frame = c.args.frame.now in
    let cell : PlainCell Rings = c.cell.result.now in
    let at : slice_get s.cells f.cell ≡ Some cell =
    subst (λ (x : Settled). slice_get x.cells f.cell ≡ Some cell) c.checked-checked.ensures.library c.cell.ensures in
    let references : c.behind-checked.inside.references ≡ cell.references =
    ap (λ (b : PlainCell Rings). b.references) c.behind-checked.view_is in
    let r : PlainReference = c.reference-reference.result in
    let found : slice_get c.behind-checked.inside.references f.reference ≡ Some r = c.reference-reference.ensures in
    let there : slice_get cell.references f.reference ≡ Some r =
    subst (λ rs. slice_get rs f.reference ≡ Some r) references found in
    let target = target_at s.cells c.checked-checked.result.now.cells f.cell f.reference c.target_of-cell.result cell r
    (ap (λ (x : Settled). x.cells) c.checked-checked.ensures.library) at there c.target_of-cell.ensures in
    let to : ℕ = c.next_place_of-place.result in
    let area : Option Area = c.area_of_reference-area.result in
    let apart : AreApart r.shifts f.place to area =
    c.next_place_of-place.ensures.apart in
    let skipped : IsSkipped s.cells c.args.square f to =
    places_skipped s.cells c.args.square f cell r to at there c.next_place_of-place.ensures.on
    (λ layer t k e placed from below shift covers.
    apart_uncovered s.cells c.target_of-cell.result r target.next (as_square c.pulled.result) f.place to area
    target.named target.there c.area_of_reference-area.ensures.has apart layer k e from below shift
    (subst (λ u. PickCovers s.cells layer u (r, e)) ((c.pulled.ensures.square t).0 placed) covers)) in
    let place : IsPlacing r to c.in-Some.by = c.in-Some.ensures.some in
    record {
      cell = cell;
      there = at;
      next = target.next;
      leads =
          record {
            reference = r;
            reference_is = there;
            references_are = c.len-2.ensures ∙ ap length references;
            shift = place.shift;
            shift_is = place.there;
            places_are = c.shift_count-places.ensures;
            named = target.named;
            cell_is = target.there;
            map_is = place.map_is;
            composed = c.in-Some-then.ensures.composed;
          };
      reference_is = refl;
      skipped = skipped;
      rest_is = refl;
    }
