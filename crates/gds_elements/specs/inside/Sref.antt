-- The state of a reference that is being read.
use Rattle.std.specs.Prelude.{◌≡◌, List, Some}
use Rattle.gds_elements.specs.Types.{sref}
use Rattle.lvl_grammar.specs.Order.{Order}
use Rattle.gds_elements.specs.Order.{an_element, a_reference, a_transform}
use Rattle.gds_elements.specs.Rec.{Rec, kinds, opener}
use Rattle.lvl_grammar.specs.inside.After.{LeadsTo, seq}
use Rattle.gds_elements.specs.inside.Placing.{IsPlaced}
use Rattle.gds_elements.specs.inside.Left.{rest}
use Rattle.gds_elements.specs.declared.sref.SrefStage.{SrefStage}
use Rattle.gds_elements.specs.declared.sref.SrefStage.TheVariants.{Name, Strans, Magnification, Angle, Points}
use Rattle.gds_elements.specs.declared.sref.Sref.{Sref}

-- what may still come, by the next record
abbrev pub left : SrefStage → Order
left Name = rest 1 a_reference
left Strans = rest 2 a_reference
left Magnification = seq (rest 1 a_transform) (rest 3 a_reference)
left Angle = seq (rest 2 a_transform) (rest 3 a_reference)
left Points = rest 3 a_reference

-- the state is that after the records `piece`, in their order and with their values
pub record IsSrefRead (s : Sref) (piece : List Rec) : Type 0 where
  pub opened : opener piece ≡ Some sref
  pub leads : LeadsTo an_element (kinds piece) (left s.stage)
  pub placed : IsPlaced s.placing piece
