-- The items of a file: the magic string, which counts as a record, the records, and the blocks with the records inside
-- (SEMI P39 OASIS 1.0, "Magic-bytes", "END record", "CBLOCK record").
use Rattle.std.specs.Prelude.{◌≡◌, ℕ, ◌+◌, List, [], ◌∷◌, ◌++◌}
use Rattle.oasis_blocks.specs.Packed.{Packed}
use Rattle.oasis_records.specs.declared.end.Validation.{Validation}
use Rattle.oasis_records.specs.declared.record.Record.{Record}
use Rattle.oasis_records.specs.declared.record.Record.TheVariants.{End, Block}

-- the magic string, a record that isn't a CBLOCK, or a CBLOCK with the records inside of it
pub data Item : Type 0 where
  magic : Item
  item : Record → Item
  block : Packed → List Record → Item

-- the records among them; those of a block are in its place
abbrev pub records : List Item → List Record
records [] = []
records (magic ∷ rest) = records rest
records (item r ∷ rest) = r ∷ records rest
records (block p rs ∷ rest) = rs ++ records rest

-- how many bytes their blocks have, unpacked
abbrev pub unpacked : List Item → ℕ
unpacked [] = 0
unpacked (magic ∷ rest) = unpacked rest
unpacked (item r ∷ rest) = unpacked rest
unpacked (block p rs ∷ rest) = p.count + unpacked rest

-- the item as it is in the file: a block is a CBLOCK, whatever is inside
abbrev pub as_packed : Item → Item
as_packed magic = magic
as_packed (item r) = item r
as_packed (block p rs) = item (Block p)

-- the last item is END
abbrev pub IsEnded : List Item → Type 0
IsEnded is = (before : List Item) × (v : Validation) × (is ≡ before ++ item (End v) ∷ [])
