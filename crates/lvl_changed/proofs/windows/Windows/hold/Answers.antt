use Rattle.lvl_changed.proofs.Widening.{widens_further}
use Rattle.lvl_changed.proofs.windows.Windows.hold.Goals as goal

pub returns-clause-held : goal.returns-clause-held
returns-clause-held c = λ s h. c.reduce.ensures.has s (c.in_ok-add.ensures.held s h)

pub returns-clause-kept : goal.returns-clause-kept
returns-clause-kept c =
    widens_further c.args.self.now c.add.new.self c.reduce.new.self c.in_ok-add.ensures.kept c.reduce.ensures
