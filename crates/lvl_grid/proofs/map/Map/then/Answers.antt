use Rattle.lvl_grid.proofs.Composing.{image-composed}
use Rattle.lvl_grid.proofs.map.Map.then.Goals as goal

pub returns-clause-composed : goal.returns-clause-composed
returns-clause-composed c =
    let placed = rw c.in_ok-at.was at c.place.ensures in
    rw (placed.1, c.after.ensures, c.mirrored.ensures) (λ p. image-composed c.args.self.now c.args.inner.now p)
