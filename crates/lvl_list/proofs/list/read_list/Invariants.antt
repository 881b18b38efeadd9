use Rattle.std.proofs.Common.{◌≡◌, ◌++◌, true, length}
use Rattle.lvl_list.specs.List.{have_digests, lines_of}
use Rattle.lvl_list.proofs.list.read_list.Given as goal

-- what was read is the lines of the entries
abbrev pub invariant-loop-rest : goal.invariant-loop-rest
invariant-loop-rest l = record {
  parts : l.text ≡ lines_of l.entries.items ++ l.rest;
  digests : have_digests l.entries.items ≡ true;
}

abbrev pub decreases-loop-rest : goal.decreases-loop-rest
decreases-loop-rest l = length l.rest
