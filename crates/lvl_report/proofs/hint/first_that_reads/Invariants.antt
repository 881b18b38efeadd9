use Rattle.std.proofs.Common.{◌≡◌, drop}
use Rattle.lvl_report.specs.Hints.{first_that_reads}
use Rattle.lvl_report.proofs.hint.first_that_reads.Given as goal

-- the first set of all is the first of those that are left
abbrev pub invariant-loop-more : goal.invariant-loop-more
invariant-loop-more l =
    first_that_reads l.given l.fault l.sets ≡ first_that_reads l.given l.fault (drop l.more-index l.sets)
