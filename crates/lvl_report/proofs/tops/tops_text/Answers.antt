use Rattle.lvl_report.proofs.Naming.{tops_of}
use Rattle.lvl_report.proofs.tops.tops_text.Goals as goal

pub returns : goal.returns
returns c =
    tops_of c.args.side c.args.names.now _ _ _ _ _ _ c.new-text.ensures.items c.in_ok-write.ensures.bytes
    c.in_ok-push_file.ensures c.in_ok-write-2.ensures.bytes c.in_ok-push_some.ensures
    (rw c.top_option.ensures at c.in_ok-writeln.ensures.bytes)
