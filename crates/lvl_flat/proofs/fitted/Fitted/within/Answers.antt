use Rattle.lvl_flat.proofs.fitted.Fitted.within.Goals as goal

pub within_of-requires-clause-candidates : goal.within_of-requires-clause-candidates
within_of-requires-clause-candidates c = c.candidates.ensures c.args.window.now
