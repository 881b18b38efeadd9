-- What was read of the records so far.
use Rattle.std.specs.Prelude.{◌≡◌, ℕ, Bool, true, false, List, ◌∷◌, length, map, flat_map}
use Rattle.std.specs.BTreeMap.{get, btree_map_len}
use Rattle.std.specs.BTreeSet.{contains}
use Rattle.std.specs.Cmp.Lexicographic.{slice_cmp}
use Rattle.std.specs.Global.{Vec}
use Rattle.std.specs.List.{list_any}
use Rattle.std.specs.Ordering.{nat_cmp}
use Rattle.std.specs.Str.{bytes_eq}
use Rattle.oasis_values.specs.declared.number.Real.TheVariants.{Whole}
use Rattle.oasis_records.specs.declared.cell.CellName.{CellName}
use Rattle.oasis_records.specs.declared.end.Validation.TheVariants.{Absent}
use Rattle.oasis_records.specs.declared.record.Record.{Record}
use Rattle.oasis_records.specs.declared.record.Record.TheVariants.{End}
use Rattle.oasis_figures.specs.Keeping.{StandsFor}
use Rattle.lvl_profile.specs.declared.profile.Profile.{Profile}
use Rattle.oasis_stream.specs.Items.{Item, magic, records, IsEnded}
use Rattle.oasis_stream.specs.Blocks.{room_after}
use Rattle.oasis_stream.specs.Names.{name_of}
use Rattle.oasis_stream.specs.Order.{last_or, names_in}
use Rattle.oasis_stream.specs.Rules.{since_cell}
use Rattle.oasis_stream.specs.inside.Reached.{HasReached}
use Rattle.oasis_library.specs.Cells.{drawings, with_rings}
use Rattle.oasis_library.specs.Head.{unit_in, validation_in}
use Rattle.oasis_library.specs.declared.names.Names.{Names}
use Rattle.oasis_library.specs.declared.reading.Reading.{Reading}

-- the names are those in the records, by their numbers
pub record HoldsNames (n : Names) (cs : List CellName) : Type 0 where
  pub numbered : (k : ℕ) → get nat_cmp n.by_number k ≡ name_of cs k
  pub counted : btree_map_len n.by_number ≡ length cs
  pub seen : (q : Vec ℕ) → contains (λ x y. slice_cmp nat_cmp x.items y.items) n.seen q ≡ list_any (bytes_eq q.items)
      (map (λ c. c.name) cs)

-- exactly these records were read
pub record Holds (x : Reading) (rs : List Record) : Type 0 where
  pub order : HasReached x.order rs
  pub names : HoldsNames x.names (names_in rs)
  pub modal : StandsFor x.modal (since_cell rs)
  pub cells : x.cells ≡ map with_rings (drawings rs)
  pub unit : x.head.unit ≡ last_or (Whole 0) (flat_map unit_in rs)
  pub validation : x.head.validation ≡ last_or Absent (flat_map validation_in rs)

-- exactly these items were read
pub record HasRead (profile : Profile) (x : Reading) (is : List Item) : Type 0 where
  pub holds : Holds x (records is)
  pub room : x.room ≡ room_after profile is

-- the magic string was read, and items without END
abbrev pub HasBegun : Profile → Reading → List Item → Type 0
HasBegun profile x is = HasRead profile x is × (¬ IsEnded is) × (rest : List Item) × (is ≡ magic ∷ rest)

-- items up to END were read
abbrev pub HasWhole : Profile → Reading → List Item → Type 0
HasWhole profile x is = HasRead profile x is × IsEnded is

abbrev pub is_end : Record → Bool
is_end (End v) = true
is_end r = false
