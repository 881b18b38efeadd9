use Rattle.lvl_flat.proofs.within.draw_place.Goals as goal

pub returns-clause-covers : goal.returns-clause-covers
returns-clause-covers c = λ q.
    let drawn = c.in_ok-draw_ring_at.ensures.covers q in
    let same = c.in_ok-take.ensures.covers q in
    (λ a. drawn.0 (same.0 a), λ b. same.1 (drawn.1 b))
