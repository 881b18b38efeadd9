-- The state of a text that is being read.
use Rattle.std.specs.Prelude.{◌≡◌, List, Some}
use Rattle.gds_elements.specs.Types.{text}
use Rattle.lvl_grammar.specs.Order.{Order}
use Rattle.gds_elements.specs.Order.{an_element, a_text, a_transform}
use Rattle.gds_elements.specs.Rec.{Rec, kinds, opener}
use Rattle.lvl_grammar.specs.inside.After.{LeadsTo, seq}
use Rattle.gds_elements.specs.inside.Left.{rest}
use Rattle.gds_elements.specs.declared.text.TextStage.{TextStage}
use Rattle.gds_elements.specs.declared.text.TextStage.TheVariants.{Layer, TextType, Presentation, PathType, Width}
use Rattle.gds_elements.specs.declared.text.TextStage.TheVariants.{Strans}
use Rattle.gds_elements.specs.declared.text.TextStage.TheVariants.{Magnification, Angle, Points, Letters}
use Rattle.gds_elements.specs.declared.text.Text.{Text}

-- what may still come, by the next record
abbrev pub left : TextStage → Order
left Layer = rest 1 a_text
left TextType = rest 2 a_text
left Presentation = rest 3 a_text
left PathType = rest 4 a_text
left Width = rest 5 a_text
left Strans = rest 6 a_text
left Magnification = seq (rest 1 a_transform) (rest 7 a_text)
left Angle = seq (rest 2 a_transform) (rest 7 a_text)
left Points = rest 7 a_text
left Letters = rest 8 a_text

-- the state is that after the records `piece`, in their order
pub record IsTextRead (t : Text) (piece : List Rec) : Type 0 where
  pub opened : opener piece ≡ Some text
  pub leads : LeadsTo an_element (kinds piece) (left t.stage)
