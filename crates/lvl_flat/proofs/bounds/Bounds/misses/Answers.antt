use Rattle.lvl_flat.proofs.Outside.{beside_outside}
use Rattle.lvl_flat.proofs.bounds.Bounds.misses.Goals as goal

pub returns : goal.returns
returns c = λ is. beside_outside c.args.self c.args.window.now (c.is_beside.ensures is)
