use Rattle.lvl_report.proofs.Lining.{whole_line}
use Rattle.lvl_report.proofs.steps.line_of.Goals as goal

pub returns : goal.returns
returns c =
    whole_line c.args.first c.args.second _ _ _ _ _ _ c.new-text.ensures.items c.in_ok-write.ensures.bytes
    c.in_ok-push_length.ensures c.in_ok-write-2.ensures.bytes c.in_ok-push_length-2.ensures c.in_ok-writeln.ensures.bytes
