-- The state of a reader of ids: what it keeps of the records so far.
use Rattle.std.specs.Prelude.{◌≡◌, ℕ, ◌+◌, nat_lt, min, Bool, true, false, ◌||◌, if◌then◌else◌, is_some, is_none, List}
use Rattle.std.specs.Prelude.{[], ◌∷◌, length}
use Rattle.oasis_records.specs.declared.record.Record.{Record}
use Rattle.oasis_records.specs.declared.record.Record.TheVariants.{Start, CellName, Cell, Entry}
use Rattle.oasis_stream.specs.Order.{in_cell, at_end, names_in, cells_in, any_numbered, any_unnumbered}
use Rattle.oasis_stream.specs.declared.order.Order.{Order}

-- the greatest number of cells that are counted
abbrev pub most_counted : ℕ
most_counted = 18446744073709551615

-- whether there are no records
abbrev pub are_none : List Record → Bool
are_none [] = true
are_none (r ∷ rs) = false

-- the state is that after these records
pub record HasReached (o : Order) (rs : List Record) : Type 0 where
  pub fresh : o.is_fresh ≡ are_none rs
  pub in_cell : o.in_cell ≡ in_cell rs
  pub cells : o.cells ≡ min (length (cells_in rs)) most_counted
  pub numbered : o.has_numbered ≡ any_numbered (names_in rs)
  pub unnumbered : o.has_unnumbered ≡ any_unnumbered (names_in rs)
  pub at_end : o.has_offsets_at_end ≡ at_end rs

-- a state after at least one record
abbrev pub order : Bool → ℕ → Bool → Bool → Bool → Order
order in_cell cells numbered unnumbered at_end = record {
  is_fresh = false;
  in_cell = in_cell;
  cells = cells;
  has_numbered = numbered;
  has_unnumbered = unnumbered;
  has_offsets_at_end = at_end;
}

-- the state after one more record
abbrev pub passed : Order → Record → Order
passed o (Start s) = order o.in_cell o.cells o.has_numbered o.has_unnumbered s.has_offsets_at_end
passed o (CellName c) =
    order false o.cells (o.has_numbered || is_some c.number) (o.has_unnumbered || is_none c.number) o.has_offsets_at_end
passed o (Cell c) =
    order true (if nat_lt o.cells most_counted then o.cells + 1 else o.cells) o.has_numbered o.has_unnumbered
    o.has_offsets_at_end
passed o Entry = order false o.cells o.has_numbered o.has_unnumbered o.has_offsets_at_end
passed o r = order o.in_cell o.cells o.has_numbered o.has_unnumbered o.has_offsets_at_end
