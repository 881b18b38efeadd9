use Rattle.lvl_flat.proofs.Summing.{adds_up}
use Rattle.lvl_flat.proofs.walk.chains_add_up.Goals as goal

pub returns : goal.returns
returns c cells n d = adds_up cells n d
