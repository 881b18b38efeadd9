use Rattle.std.proofs.Common.{subst}
use Rattle.lvl_refusal.specs.Refused.{Says}
use Rattle.lvl.specs.Answers.{IsEarlyFile, IsHopeless, IsUnreadAt}
use Rattle.lvl.specs.Sides.{IsFileFault}
use Rattle.lvl.proofs.Refused.{no_memory, read, read_before, unread}
use Rattle.lvl.proofs.side.read_side.Goals as goal

pub returns-in-Ok-clause-refused : goal.returns-in-Ok-clause-refused
returns-in-Ok-clause-refused g c top = read c.args.side _ c.in-Ok.ensures.reads

pub returns-in-Err-Breach-clause-refused : goal.returns-in-Err-Breach-clause-refused
returns-in-Err-Breach-clause-refused g c top =
    let e = c.in-Err-Breach in
    unread c.args.side _ e.fault
    (λ xs known. subst (λ r. Says r (IsFileFault c.args.profile xs)) e.field-0-is (e.ensures.refused xs known))
    (λ xs known. subst (λ r. Says r (λ f. IsEarlyFile f → IsHopeless c.args.profile xs
    (g.R.Read.remaining c.read_layout_with.new.reader))) e.field-0-is (e.ensures.early xs known))
    (λ xs known. subst (λ r. Says r (IsUnreadAt c.args.profile xs (g.R.Read.remaining c.read_layout_with.new.reader)))
    e.field-0-is (e.ensures.unread xs known))
    (rw e.field-0-is at e.ensures.reads)

pub returns-in-Err-OutOfMemory-clause-refused : goal.returns-in-Err-OutOfMemory-clause-refused
returns-in-Err-OutOfMemory-clause-refused g c top =
    read_before c.args.side _ _ tt (rw c.in-Err-OutOfMemory.field-0-is at c.in-Err-OutOfMemory.ensures.reads)
    (λ xs known. no_memory c.args.side _)
