use Rattle.std.proofs.Common.{refl}
use Rattle.lvl_sweep.proofs.Starts.{top_some, top_none}
use Rattle.lvl_sweep.proofs.strips.Strips.top.Goals as goal

pub returns-clause-top : goal.returns-clause-top
returns-clause-top c = top_some c.args.self.now _ c.requires refl

pub returns-clause-over : goal.returns-clause-over
returns-clause-over c = top_none c.args.self.now _ c.requires refl
