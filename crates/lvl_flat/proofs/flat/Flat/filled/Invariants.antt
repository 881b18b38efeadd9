use Rattle.std.proofs.Common.{◌≡◌, ◌++◌, filter}
use Rattle.lvl_flat.specs.Sheets.{is_filled}
use Rattle.lvl_flat.proofs.flat.Flat.filled.Given as goal

-- the sheets so far that have rings
abbrev pub invariant-loop-sheet : goal.invariant-loop-sheet
invariant-loop-sheet l = record {
  filled : l.filled.items ≡ filter is_filled l.yielded;
  all : l.yielded ++ l.sheet-iterator.rest.items ≡ l.fn.sheets.items;
}
