-- The state of an array that is being read.
use Rattle.std.specs.Prelude.{◌≡◌, ◌≢◌, ℕ, List, length, Some}
use Rattle.lvl_grid.specs.declared.point.Point.{Point}
use Rattle.gds_elements.specs.Types.{aref, colrow}
use Rattle.lvl_grammar.specs.Order.{Order}
use Rattle.gds_elements.specs.Order.{an_element, an_array, a_transform}
use Rattle.gds_elements.specs.Rec.{Rec, kinds, opener, last_of}
use Rattle.gds_elements.specs.Meaning.{columns_in, rows_in}
use Rattle.gds_elements.specs.Rules.{HasSteps}
use Rattle.lvl_grammar.specs.inside.After.{LeadsTo, seq}
use Rattle.gds_elements.specs.inside.Placing.{IsPlaced}
use Rattle.gds_elements.specs.declared.fault.ElementRule.{ElementRule}
use Rattle.gds_elements.specs.declared.fault.ElementRule.TheVariants.{Points as PointsFault, ArrayStep}
use Rattle.gds_elements.specs.inside.Left.{rest}
use Rattle.gds_elements.specs.declared.aref.ArefStage.{ArefStage}
use Rattle.gds_elements.specs.declared.aref.ArefStage.TheVariants.{Name, Strans, Magnification, Angle, Columns, Points}
use Rattle.gds_elements.specs.declared.aref.Aref.{Aref}

-- what may still come, by the next record
abbrev pub left : ArefStage → Order
left Name = rest 1 an_array
left Strans = rest 2 an_array
left Magnification = seq (rest 1 a_transform) (rest 3 an_array)
left Angle = seq (rest 2 a_transform) (rest 3 an_array)
left Columns = rest 3 an_array
left Points = rest 4 an_array

-- the state is that after the records `piece`, in their order and with their values
pub record IsArefRead (a : Aref) (piece : List Rec) : Type 0 where
  pub opened : opener piece ≡ Some aref
  pub leads : LeadsTo an_element (kinds piece) (left a.stage)
  pub placed : IsPlaced a.placing piece
  pub columns : a.counts.columns ≡ columns_in (last_of colrow piece)
  pub rows : a.counts.rows ≡ rows_in (last_of colrow piece)

-- the rule that these points breach in an array of m columns and n rows
abbrev pub IsArrayFault : List Point → ℕ → ℕ → ElementRule → Type 0
IsArrayFault ps m n PointsFault = length ps ≢ 3
IsArrayFault ps m n ArrayStep = (length ps ≡ 3) × ¬ HasSteps ps m n
IsArrayFault ps m n f = ⊥
