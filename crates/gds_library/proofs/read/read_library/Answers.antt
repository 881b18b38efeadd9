use Rattle.gds_library.proofs.read.read_library.Goals as goal

pub returns-clause-spelled : goal.returns-clause-spelled
returns-clause-spelled g c = λ xs k.
    rw (c.finish.ensures.cells, c.finish.ensures.head) (c.in_ok-read_whole.ensures.spelled xs k)
