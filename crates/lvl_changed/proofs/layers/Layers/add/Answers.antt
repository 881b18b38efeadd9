use Rattle.lvl_changed.proofs.layers.Layers.add.Goals as goal

pub returns-then-len-ge-MOST_LAYERS-clause-added : goal.returns-then-len-ge-MOST_LAYERS-clause-added
returns-then-len-ge-MOST_LAYERS-clause-added c = c.add_every.ensures c.args.layer

pub returns-then-len-ge-MOST_LAYERS-clause-kept : goal.returns-then-len-ge-MOST_LAYERS-clause-kept
returns-then-len-ge-MOST_LAYERS-clause-kept c = λ l on. c.add_every.ensures l
