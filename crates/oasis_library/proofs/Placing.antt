-- The placements of a cell stay the same after more targets are kept, and one more.
use Rattle.std.proofs.Common.{◌≡◌, ◌<◌, get_or, List, [], ◌∷◌, ◌++◌, map, length, All, refl, sym, ap}
use Rattle.std.proofs.Common.{◌∙◌}
use Rattle.std.proofs.lemmas.List.{get_or-take, map-append}
use Rattle.std.proofs.lemmas.List.Elements.{All-head, All-tail}
use Rattle.lvl_grid.specs.declared.map.Map.{Map}
use Rattle.lvl_grid.specs.declared.point.Point.{Point}
use Rattle.lvl_cells.specs.Cells.{PlainPlacement}
use Rattle.lvl_cells.specs.inside.Spans.{IsPrefixOf}
use Rattle.oasis_records.specs.declared.cell.CellRef.{CellRef}
use Rattle.oasis_figures.specs.Figures.{Placed}
use Rattle.oasis_library.specs.declared.placement.Target.{Target}
use Rattle.oasis_library.specs.declared.placement.Target.TheVariants.{Number as ByNumber}
use Rattle.oasis_library.specs.inside.Kept.{target_ref, placed, placed_from, IsKeyOf}

abbrev pub HaveTargets : List Target → List PlainPlacement → Type 0
HaveTargets targets placements = All (λ p. p.key < length targets) placements

-- placements stay the same after more targets are kept
pub placed_same : (old new : List Target) (placements : List PlainPlacement)
    → IsPrefixOf old new → HaveTargets old placements
    → map (placed_from new) placements ≡ map (placed_from old) placements
placed_same old new [] on h = refl
placed_same old new (p ∷ ps) on h =
    let low : p.key < length old = All-head (λ (q : PlainPlacement). q.key < length old) p ps h in
    let same : get_or new p.key (ByNumber 0) ≡ get_or old p.key (ByNumber 0) =
    sym (get_or-take (length old) new p.key (ByNumber 0) low) ∙ ap (λ ts. get_or ts p.key (ByNumber 0)) on in
    let rest : map (placed_from new) ps ≡ map (placed_from old) ps =
    placed_same old new ps on (All-tail (λ (q : PlainPlacement). q.key < length old) p ps h) in
    rw (same, rest) refl

-- one more placement, appended
pub one_more : (old new : List Target) (placements : List PlainPlacement) (p : PlainPlacement) (cell : CellRef)
    (by : Map) (shifts : List Point) (before : List Placed)
    → IsPrefixOf old new → HaveTargets old placements → map (placed_from old) placements ≡ before
    → IsKeyOf new p.key cell
    → p ≡ record { key = p.key; flip = by.flip; turn = by.turn; at = by.at; shifts = shifts }
    → map (placed_from new) (placements ++ p ∷ []) ≡ before ++ placed cell by shifts ∷ []
one_more old new placements p cell by shifts before on h e key is =
    let last : placed_from new p ≡ placed cell by shifts =
    ap (λ (q : PlainPlacement). record {
      cell = target_ref (get_or new p.key (ByNumber 0));
      flip = q.flip;
      turn = q.turn;
      at = q.at;
      shifts = q.shifts;
    }) is
    ∙ ap (λ k. placed k by shifts) key.is in
    map-append (placed_from new) placements (p ∷ [])
    ∙ (ap (λ rs. rs ++ placed_from new p ∷ []) (placed_same old new placements on h ∙ e)
    ∙ ap (λ r. before ++ r ∷ []) last)
