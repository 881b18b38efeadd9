-- How often windows may be cut.
use Rattle.std.specs.Prelude.{ℕ, ◌+◌, ◌*◌, ◌-◌}
use Rattle.lvl_compare.specs.declared.pace.Pace.{Pace}

-- the number of cuts that may still be made: those with the present budget, and 256 for each of the 64 times that it may
-- still be doubled
abbrev pub cuts_left : Pace → ℕ
cuts_left p = p.cuts + 256 * (64 - p.doublings)
