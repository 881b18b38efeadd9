use Rattle.lvl_sweep.proofs.merge.start.Goals as goal

pub returns-else-end-next-clause-merging : goal.returns-else-end-next-clause-merging
returns-else-end-next-clause-merging c = λ y h. c.start_by_sort.ensures.merging y c.args.next h
