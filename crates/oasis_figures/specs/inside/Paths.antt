-- What is known of a path when its values are.
use Rattle.std.specs.Prelude.{Bool, ◌≡◌, ◌∷◌, ℕ, pos, List, Some, option_map}
use Rattle.std.specs.Option.{option_or}
use Rattle.lvl_grid.specs.Turn.{FitsPoint}
use Rattle.lvl_grid.specs.declared.point.Point.{Point}
use Rattle.lvl_path.specs.Repeats.{asked}
use Rattle.lvl_path.specs.Runs.{IsLowestFault}
use Rattle.oasis_records.specs.declared.path.Path.{Path}
use Rattle.oasis_records.specs.declared.record.Record.{Record}
use Rattle.oasis_records.specs.declared.record.Record.TheVariants.{Path as APath}
use Rattle.oasis_figures.specs.Figures.{layer_by}
use Rattle.oasis_figures.specs.Modal.{modal, extended, layer_set, datatype_set, half_width_set, start_set, end_set}
use Rattle.oasis_figures.specs.Modal.{geometry}
use Rattle.oasis_figures.specs.declared.modal.Modal.{Modal}
use Rattle.oasis_figures.specs.declared.path.Resolved.{Resolved}
use Rattle.oasis_figures.specs.declared.path.Stroke.{Stroke}
use Rattle.oasis_figures.specs.declared.rule.FigureRule.{FigureRule}
use Rattle.oasis_figures.specs.declared.rule.FigureRule.TheVariants.{Undefined, Layer as WideLayer, OutOfRange}
use Rattle.oasis_figures.specs.declared.rule.FigureRule.TheVariants.{Magnification, Angle}
use Rattle.oasis_figures.specs.declared.rule.FigureRule.TheVariants.{Extension, Oblique, Path as PathRule}
use Rattle.oasis_figures.specs.inside.Extents.{extent, ends_of}
use Rattle.oasis_figures.specs.inside.Known.{IsKnown}

abbrev pub a_path : Path → Record
a_path p = APath p

-- the values are those of the record, or else the modal ones
pub record IsStroke (m : Modal) (p : Path) (t : Stroke) : Type 0 where
  pub layer : option_or p.on.layer m.layer ≡ Some t.layer
  pub datatype : option_or p.on.datatype m.datatype ≡ Some t.datatype
  pub half : option_or p.half_width m.half_width ≡ Some t.half
  pub start : option_map extent (option_or (extended (Some t.half) (ends_of p.ends).start) (option_map pos m.start))
      ≡ Some t.start
  pub end : option_map extent (option_or (extended (Some t.half) (ends_of p.ends).end) (option_map pos m.end))
      ≡ Some t.end

-- the values are those that the records give, and no rule is breached that is tested before the vertices
pub record IsResolved (earlier : List Record) (p : Path) (v : Resolved) : Type 0 where
  pub layer : modal layer_set (APath p ∷ earlier) ≡ Some v.stroke.layer
  pub datatype : modal datatype_set (APath p ∷ earlier) ≡ Some v.stroke.datatype
  pub half : modal half_width_set (APath p ∷ earlier) ≡ Some v.stroke.half
  pub start : option_map extent (modal start_set (APath p ∷ earlier)) ≡ Some v.stroke.start
  pub end : option_map extent (modal end_set (APath p ∷ earlier)) ≡ Some v.stroke.end
  pub on : v.on ≡ layer_by v.stroke.layer v.stroke.datatype
  pub at : geometry (APath p ∷ earlier) ≡ v.at
  pub fits : FitsPoint v.at
  pub known : IsKnown earlier (APath p)

-- the rule that these points, half-width and reaches breach in a path
abbrev pub BandsBreak : Bool → List Point → ℕ → ℕ → ℕ → FigureRule → Type 0
BandsBreak ignored ps half start end (PathRule f) = IsLowestFault (asked ignored ps)
    (record { half = half; start = start; end = end }) f
BandsBreak ignored ps half start end (Undefined v) = ⊥
BandsBreak ignored ps half start end WideLayer = ⊥
BandsBreak ignored ps half start end OutOfRange = ⊥
BandsBreak ignored ps half start end Magnification = ⊥
BandsBreak ignored ps half start end Angle = ⊥
BandsBreak ignored ps half start end Extension = ⊥
BandsBreak ignored ps half start end Oblique = ⊥
