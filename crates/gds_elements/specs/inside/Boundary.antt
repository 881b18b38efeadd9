-- The state of a boundary that is being read.
use Rattle.std.specs.Prelude.{◌≡◌, ◌<◌, ◌≤◌, List, length, All, Some}
use Rattle.lvl_grid.specs.declared.point.Point.{Point}
use Rattle.lvl_grid.specs.Winding.{IsStraight}
use Rattle.gds_elements.specs.Types.{boundary}
use Rattle.gds_elements.specs.Order.{an_element, a_boundary}
use Rattle.lvl_grammar.specs.Order.{Order}
use Rattle.gds_elements.specs.Rec.{Rec, kinds, opener}
use Rattle.gds_elements.specs.Meaning.{layer_of}
use Rattle.gds_elements.specs.Rules.{IsClosed, steps}
use Rattle.gds_elements.specs.declared.fault.ElementRule.{ElementRule}
use Rattle.gds_elements.specs.declared.fault.ElementRule.TheVariants.{Points as PointsFault, NotClosed, Oblique}
use Rattle.lvl_grammar.specs.inside.After.{LeadsTo}
use Rattle.gds_elements.specs.inside.Left.{rest}
use Rattle.gds_elements.specs.declared.boundary.BoundaryStage.{BoundaryStage}
use Rattle.gds_elements.specs.declared.boundary.BoundaryStage.TheVariants.{Layer, Datatype, Points}
use Rattle.gds_elements.specs.declared.boundary.Boundary.{Boundary}

-- what may still come, by the next record
abbrev pub left : BoundaryStage → Order
left Layer = rest 1 a_boundary
left Datatype = rest 2 a_boundary
left Points = rest 3 a_boundary

-- the state is that after the records `piece`, in their order and with their values
pub record IsBoundary (b : Boundary) (piece : List Rec) : Type 0 where
  pub opened : opener piece ≡ Some boundary
  pub leads : LeadsTo an_element (kinds piece) (left b.stage)
  pub layer : b.layer ≡ layer_of piece

-- the rule that these points breach in a boundary
abbrev pub IsRingFault : List Point → ElementRule → Type 0
IsRingFault ps PointsFault = length ps < 4
IsRingFault ps NotClosed = (4 ≤ length ps) × ¬ IsClosed ps
IsRingFault ps Oblique = (4 ≤ length ps) × IsClosed ps × ¬ All IsStraight (steps ps)
IsRingFault ps f = ⊥
