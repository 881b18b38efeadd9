use Rattle.std.proofs.Common.{sym}
use Rattle.lvl_job.proofs.Looking.{told_of_one, told_of_two}
use Rattle.lvl_job.proofs.looked.look_at_all.Goals as goal

pub returns-in-One : goal.returns-in-One
returns-in-One g c =
    rw (c.in-One.is, sym c.as_str.ensures.value) (told_of_one g.F.Files.looks c.args.files.now _ _ _ c.look_at.ensures)

pub returns-in-Two : goal.returns-in-Two
returns-in-Two g c =
    rw (c.in-Two.is, sym c.as_str-in-Two.ensures.value, sym c.as_str-in-Two-2.ensures.value)
    (told_of_two g.F.Files.looks c.args.files.now _ _ _ _ _ c.look_at-in-Two.ensures c.look_at-in-Two-2.ensures)
