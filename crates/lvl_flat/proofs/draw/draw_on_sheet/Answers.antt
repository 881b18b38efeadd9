use Rattle.std.proofs.Common.{◌≡◌, ◌≢◌, ◌↔◌, ◌⊎◌, ◌*◌, ◌+◌, List, All, Contains, map, length, sym, ap, subst, ◌∙◌}
use Rattle.std.proofs.Common.{arith, cond, slice_get, set, Some, ℕ, refl}
use Rattle.std.proofs.lemmas.Option.{slice_get_within, get_or_from_slice_get}
use Rattle.lvl_grid.specs.declared.map.Map.{Map}
use Rattle.lvl_grid.specs.Winding.{SomeCovers}
use Rattle.lvl_names.specs.declared.layer.Layer.{Layer}
use Rattle.lvl_names.specs.Layers.{same_layer}
use Rattle.lvl_cells.specs.Cells.{PlainShape, Rings, shape_at}
use Rattle.lvl_flat.specs.declared.scope.Scope.{Scope}
use Rattle.lvl_flat.specs.Sheet.{PlainSheet}
use Rattle.lvl_flat.specs.Sheets.{AreSorted, rings_on}
use Rattle.lvl_flat.specs.inside.Drawn.{ShapePlacesCover}
use Rattle.lvl_flat.specs.inside.Scopes.{IsInScope}
use Rattle.lvl_flat.proofs.Cutting.{each_shift, part_adds, part_skips, sheet_adds, sheet_counts}
use Rattle.lvl_flat.proofs.Drawing.{layer_of, not_theirs, theirs, layers-set}
use Rattle.lvl_flat.proofs.draw.draw_on_sheet.Goals as goal

pub place_of-requires : goal.place_of-requires
place_of-requires c = subst AreSorted (sym c.deref.ensures.value) c.requires.sorted

pub index_mut-sheet-requires : goal.index_mut-sheet-requires
index_mut-sheet-requires c =
    let inside =
    slice_get_within c.deref.result.now c.in-Some.place c.in-Some.ensures.found.sheet
    c.in-Some.ensures.found.there in
    omega (arith, inside, c.deref.ensures.len)

pub returns-clause-drawn : goal.returns-clause-drawn
returns-clause-drawn c =
    let items : List PlainSheet = c.args.sheets.now.items in
    let m : Map = c.args.map.now in
    let scope : Scope = c.args.scope.now in
    let ls : List Layer = map layer_of items in
    let h : PlainShape Rings = shape_at c.args.shapes.now c.args.i in
    let found = c.in-Some.ensures.found in
    let s : PlainSheet = found.sheet in
    let there : slice_get items c.in-Some.place ≡ Some s =
    subst (λ ss. slice_get ss c.in-Some.place ≡ Some s) c.deref.ensures.value found.there in
    let lent : c.index_mut-sheet.result.now ≡ s =
    c.index_mut-sheet.ensures.value
    ∙ get_or_from_slice_get items c.in-Some.place s c.index_mut-sheet.result.now there in
    let layer : c.sheet.inside.layer ≡ s.layer = ap layer_of (c.sheet.view_is ∙ lent) in
    let rings : c.sheet.inside.rings ≡ s.rings = ap (λ (u : PlainSheet). u.rings) (c.sheet.view_is ∙ lent) in
    let of : Layer → Rings → PlainSheet = λ x r. record { layer = x; rings = r } in
    let drawn : Rings = c.draw_shape.new.rings in
    let new : of c.sheet.inside.layer drawn ≡ of s.layer drawn = ap (λ x. of x drawn) layer in
    let same : s.layer ≡ h.layer = found.layer_is ∙ c.layer.ensures in
    let sorted : AreSorted items = c.requires.sorted in
    let has : Contains ls h.layer = subst (Contains ls) same (theirs items c.in-Some.place s there) in
    record {
      covers = λ l q.
          let P : Type 0 = ShapePlacesCover m q h in
          let now : Type 0 = SomeCovers (rings_on l items) q in
          let next : List PlainSheet = set items c.in-Some.place (of c.sheet.inside.layer drawn) in
          let after : Type 0 = SomeCovers (rings_on l next) q in
          let adds : SomeCovers drawn q ↔ (SomeCovers s.rings q ⊎ (IsInScope scope q × P)) =
          subst (λ rs. SomeCovers drawn q ↔ (SomeCovers rs q ⊎ (IsInScope scope q × P))) rings
          (c.in_ok-draw_shape.ensures.drawn.covers q) in
          let step =
          sheet_adds items c.in-Some.place s (of c.sheet.inside.layer drawn) drawn (IsInScope scope q) P q
          sorted there new adds l in
          part_adds ls scope h.layer l q now after P has
          (subst (λ (x : Layer). after ↔ (now ⊎ (IsInScope scope q × ((x ≡ l) × P)))) same step);
      fits = λ listed. each_shift m h c.in_ok-draw_shape.ensures.drawn.fits;
      count = λ all have l.
          let n : ℕ = length h.figure * length h.shifts in
          let adds : length drawn ≡ length s.rings + n =
          c.in_ok-draw_shape.ensures.drawn.count all ∙ ap (λ (rs : Rings). length rs + n) rings in
          sheet_counts items c.in-Some.place s (of c.sheet.inside.layer drawn) drawn n sorted there new adds l
          ∙ ap (λ (x : Layer). length (rings_on l items) + cond (same_layer x l) n 0) same;
      layers = layers-set items c.in-Some.place s (of c.sheet.inside.layer drawn) there layer;
    }

pub returns-in_default-clause-drawn : goal.returns-in_default-clause-drawn
returns-in_default-clause-drawn c =
    let items : List PlainSheet = c.args.sheets.now.items in
    let m : Map = c.args.map.now in
    let scope : Scope = c.args.scope.now in
    let ls : List Layer = map layer_of items in
    let h : PlainShape Rings = shape_at c.args.shapes.now c.args.i in
    let absent : All (λ s. s.layer ≢ h.layer) items =
    subst (λ (x : Layer). All (λ s. s.layer ≢ x) items) c.layer.ensures
    (subst (λ ss. All (λ s. s.layer ≢ c.layer.result) ss) c.deref.ensures.value c.in_default.ensures.absent) in
    let none : Contains ls h.layer → ⊥ = λ has. not_theirs items h.layer absent has in
    record {
      covers = λ l q.
          part_skips ls scope h.layer l q (SomeCovers (rings_on l items) q) (ShapePlacesCover m q h) none;
      fits = λ listed. absurd (none listed);
      count = λ all have l. absurd (none have);
      layers = refl;
    }
