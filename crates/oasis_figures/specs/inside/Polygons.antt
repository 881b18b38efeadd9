-- What is known of a polygon when its values are.
use Rattle.std.specs.Prelude.{◌≡◌, ◌∷◌, List, Some, All}
use Rattle.lvl_grid.specs.Turn.{FitsPoint}
use Rattle.lvl_grid.specs.Winding.{IsRing}
use Rattle.lvl_grid.specs.declared.point.Point.{Point}
use Rattle.oasis_records.specs.declared.polygon.Polygon.{Polygon}
use Rattle.oasis_records.specs.declared.record.Record.{Record}
use Rattle.oasis_records.specs.declared.record.Record.TheVariants.{Polygon as APolygon}
use Rattle.oasis_figures.specs.Figures.{layer_by}
use Rattle.oasis_figures.specs.Modal.{modal, layer_set, datatype_set, geometry}
use Rattle.oasis_figures.specs.declared.polygon.Resolved.{Resolved}
use Rattle.oasis_figures.specs.declared.rule.FigureRule.{FigureRule}
use Rattle.oasis_figures.specs.declared.rule.FigureRule.TheVariants.{Undefined, Layer as WideLayer, OutOfRange}
use Rattle.oasis_figures.specs.declared.rule.FigureRule.TheVariants.{Magnification, Angle}
use Rattle.oasis_figures.specs.declared.rule.FigureRule.TheVariants.{Extension, Oblique, Path as PathRule}
use Rattle.oasis_figures.specs.inside.Known.{IsKnown}

abbrev pub a_polygon : Polygon → Record
a_polygon p = APolygon p

-- the values are those that the records give, and no rule is breached that is tested before the vertices
pub record IsResolved (earlier : List Record) (p : Polygon) (v : Resolved) : Type 0 where
  pub layer : modal layer_set (APolygon p ∷ earlier) ≡ Some v.layer
  pub datatype : modal datatype_set (APolygon p ∷ earlier) ≡ Some v.datatype
  pub on : v.on ≡ layer_by v.layer v.datatype
  pub at : geometry (APolygon p ∷ earlier) ≡ v.at
  pub fits : FitsPoint v.at
  pub known : IsKnown earlier (APolygon p)

-- the rule that these vertices breach in a polygon
abbrev pub RingBreaks : List Point → FigureRule → Type 0
RingBreaks ps OutOfRange = ¬ All FitsPoint ps
RingBreaks ps Oblique = All FitsPoint ps × ¬ IsRing ps
RingBreaks ps (Undefined v) = ⊥
RingBreaks ps WideLayer = ⊥
RingBreaks ps Magnification = ⊥
RingBreaks ps Angle = ⊥
RingBreaks ps Extension = ⊥
RingBreaks ps (PathRule f) = ⊥
