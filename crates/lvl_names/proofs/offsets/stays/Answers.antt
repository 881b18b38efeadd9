use Rattle.std.specs.Int.{w64}
use Rattle.std.proofs.lemmas.Int.{to_z-of_z}
use Rattle.lvl_names.proofs.Lattices.{stays_where}
use Rattle.lvl_names.proofs.offsets.stays.Goals as goal

pub returns : goal.returns
returns c =
    let across = rw (to_z-of_z w64 c.args.a c.ranges.a) at c.in-Some.ensures in
    let up = rw (to_z-of_z w64 c.args.b c.ranges.b) at c.in-Some-times.ensures in
    rw c.is_some.ensures (stays_where c.args.a c.args.i c.args.b c.args.j c.in-Some.across c.in-Some-times.up
    c.checked_add.result across.0 up.0 across.1 up.1 c.checked_add.ensures)
