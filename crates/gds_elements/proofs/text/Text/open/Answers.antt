use Rattle.std.proofs.Common.{refl}
use Rattle.gds_elements.specs.declared.text.TextStage.TheVariants.{Layer}
use Rattle.gds_elements.proofs.Texts.{text_opens}
use Rattle.gds_elements.proofs.text.Text.open.Goals as goal

pub returns : goal.returns
returns c = λ r e. text_opens (record { stage = Layer }) r refl e
