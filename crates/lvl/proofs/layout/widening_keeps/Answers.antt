use Rattle.lvl.proofs.Growing.{accepted_grows, layout_grows}
use Rattle.lvl.proofs.layout.widening_keeps.Goals as goal

pub returns : goal.returns
returns c = record { layout = layout_grows; accepted = accepted_grows }
