use Rattle.std.proofs.Common.{refl}
use Rattle.lvl_changed.proofs.arrays.inner_of.Goals as goal

pub returns : goal.returns
returns c =
    let sums = rw c.in-Some-found.is at c.in_ok-found.ensures in
    record { cell = refl; by = c.in-Some.ensures.composed; shifts = sums }
