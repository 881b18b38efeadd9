-- How much a file may have, and how much its top may place (own rules).
use Rattle.std.specs.Prelude.{◌≤◌}
use Rattle.lvl_profile.specs.declared.limits.Limits.{Limits}

-- the limits that hold unless others are asked for
abbrev pub standard : Limits
standard = record { file = 4294967295; cells = 1048576; placed = 16777216; array = 1048576 }

-- the limits for whole chips
abbrev pub large : Limits
large = record {
  file = 1152921504606846976;
  cells = 16777216;
  placed = 1152921504606846976;
  array = 1073676289;
}

-- each limit of the first is at most that of the second
pub record AreWithin (less more : Limits) : Type 0 where
  pub file : less.file ≤ more.file
  pub cells : less.cells ≤ more.cells
  pub placed : less.placed ≤ more.placed
  pub array : less.array ≤ more.array
