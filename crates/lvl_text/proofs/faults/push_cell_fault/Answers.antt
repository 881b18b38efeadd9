use Rattle.std.proofs.Common.{append_assoc}
use Rattle.std.proofs.lemmas.Result.{IfOk-equal}
use Rattle.lvl_text.proofs.faults.push_cell_fault.Goals as goal

pub returns-in_ok-push_name-in-MissingCell : goal.returns-in_ok-push_name-in-MissingCell
returns-in_ok-push_name-in-MissingCell c =
    IfOk-equal _ _ _ _ c.push_name-in-MissingCell-2.ensures
    (rw (c.in-MissingCell.is, c.in_ok-push_name-in-MissingCell.ensures, c.in_ok-write-in-MissingCell.ensures.bytes)
    (simp (append_assoc, c.deref-in-MissingCell.ensures.value, c.deref-in-MissingCell-2.ensures.value)))
