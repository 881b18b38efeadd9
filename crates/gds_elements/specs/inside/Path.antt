-- The state of a path that is being read.
use Rattle.std.specs.Prelude.{◌≡◌, ℕ, ◌<◌, ◌≤◌, Bool, pos, if◌then◌else◌, List, length, Option, Some, None}
use Rattle.std.specs.Ordering.{int_eq}
use Rattle.lvl_grid.specs.declared.point.Point.{Point}
use Rattle.lvl_path.specs.Repeats.{asked}
use Rattle.lvl_path.specs.Runs.{IsLowestFault}
use Rattle.gds_elements.specs.Types.{path, pathtype, width}
use Rattle.gds_elements.specs.Order.{an_element, a_path}
use Rattle.lvl_grammar.specs.Order.{Order}
use Rattle.gds_elements.specs.Rec.{Rec, kinds, opener, field, last_of}
use Rattle.gds_elements.specs.Values.{short}
use Rattle.gds_elements.specs.Meaning.{layer_of, half}
use Rattle.lvl_grammar.specs.inside.After.{LeadsTo}
use Rattle.gds_elements.specs.declared.fault.ElementRule.{ElementRule}
use Rattle.gds_elements.specs.declared.fault.ElementRule.TheVariants.{Points as PointsFault, Width as WidthFault}
use Rattle.gds_elements.specs.declared.fault.ElementRule.TheVariants.{Path as PathFault}
use Rattle.gds_elements.specs.inside.Left.{rest}
use Rattle.gds_elements.specs.declared.path.PathStage.{PathStage}
use Rattle.gds_elements.specs.declared.path.PathStage.TheVariants.{Layer, Datatype, PathType, Width, Points}
use Rattle.gds_elements.specs.declared.path.Path.{Path}

-- what may still come, by the next record
abbrev pub left : PathStage → Order
left Layer = rest 1 a_path
left Datatype = rest 2 a_path
left PathType = rest 3 a_path
left Width = rest 4 a_path
left Points = rest 5 a_path

-- half the width in a WIDTH, if there is one
abbrev pub half_in : Option Rec → Option ℕ
half_in None = None
half_in (Some r) = Some (half r.payload)

-- the state is that after the records `piece`, in their order and with their values
pub record IsPathRead (p : Path) (piece : List Rec) : Type 0 where
  pub opened : opener piece ≡ Some path
  pub leads : LeadsTo an_element (kinds piece) (left p.stage)
  pub layer : p.layer ≡ layer_of piece
  pub square : p.square ≡ int_eq (short (field pathtype piece)) (pos 2)
  pub half : p.half ≡ half_in (last_of width piece)

-- how far a path reaches beyond its ends
abbrev pub reach_at : Bool → ℕ → ℕ
reach_at square h = if square then h else 0

-- the rule that these points breach in a path, with half a width and with square ends or not, if repeats are ignored or
-- not
abbrev pub IsBandsFault : Bool → List Point → Option ℕ → Bool → ElementRule → Type 0
IsBandsFault ignored ps half square PointsFault = length ps < 2
IsBandsFault ignored ps half square WidthFault = (2 ≤ length ps) × (half ≡ None)
IsBandsFault ignored ps half square (PathFault f) =
    (2 ≤ length ps) × (h : ℕ) × (half ≡ Some h)
    × IsLowestFault (asked ignored ps) (record { half = h; start = reach_at square h; end = reach_at square h }) f
IsBandsFault ignored ps half square f = ⊥
