use Rattle.std.proofs.Common.{sym, ◌∙◌}
use Rattle.lvl_count.proofs.Referring.{name_added, name_known}
use Rattle.lvl_count.proofs.listed.add_name.Goals as goal

pub returns-then-contains : goal.returns-then-contains
returns-then-contains c = λ q.
    name_known c.args.referred.now c.args.name.now q (sym c.contains.ensures ∙ c.if-contains.true)

pub returns : goal.returns
returns c = λ q.
    rw c.in_ok-from_slice.ensures.items at
    (name_added c.args.referred.now c.insert.new.self c.in_ok-from_slice.field-0.items q c.in_ok-insert.ensures.updates)
