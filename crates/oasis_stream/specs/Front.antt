-- OASIS as a format of streams of records (SEMI P39 OASIS 1.0, "Magic-bytes", "Records", "CBLOCK record").
use Rattle.std.specs.Prelude.{◌≡◌, ◌⊎◌, Bool, true, false, List, Ok}
use Rattle.lvl_grammar.specs.Grammar.{Grammar}
use Rattle.lvl_profile.specs.declared.profile.Profile.{Profile}
use Rattle.oasis_records.specs.declared.record.Record.{Record}
use Rattle.oasis_records.specs.declared.record.Record.TheVariants.{Block}
use Rattle.oasis_stream.specs.Blocks.{HasInside, BlockBreaches}
use Rattle.oasis_stream.specs.Items.{Item, magic, item, block, records, as_packed, IsEnded}
use Rattle.oasis_stream.specs.Next.{IsItem}
use Rattle.oasis_stream.specs.Rules.{RecordBreaches, KeepsRules}
use Rattle.oasis_stream.specs.declared.fault.OasisKind.{OasisKind}

-- whether the record is a CBLOCK
abbrev pub is_block : Record → Bool
is_block (Block p) = true
is_block r = false

-- the record is a CBLOCK that breaches the rule after the items
abbrev pub PackedBreaches : Profile → List Item → Record → OasisKind → Type 0
PackedBreaches profile before (Block p) k = BlockBreaches profile before p k
PackedBreaches profile before r k = ⊥

-- the item, as it is packed, breaches the rule after the others
abbrev pub Breaches : Profile → List Item → Item → OasisKind → Type 0
Breaches profile before (item r) k = RecordBreaches profile (records before) r k ⊎ PackedBreaches profile before r k
Breaches profile before i k = ⊥

-- the item breaches no rule after the others, and a block has the records inside
abbrev pub Keeps : Profile → List Item → Item → Type 0
Keeps profile before magic = Unit {0}
Keeps profile before (item r) = KeepsRules profile (records before) r × (is_block r ≡ false)
Keeps profile before (block p rs) = HasInside profile before p rs

-- the item may follow the others: there is no END among them, and it breaches no rule
abbrev pub MayFollow : Profile → List Item → Item → Type 0
MayFollow profile before i = (¬ IsEnded before) × Keeps profile before i

-- OASIS as a format, under a profile; a file is whole at its END
abbrev pub oasis : Profile → Grammar Item
oasis profile = record {
  spells = λ before bytes i. IsItem before profile bytes (Ok (Ok (as_packed i)));
  follows = MayFollow profile;
  ends = IsEnded;
  limit = profile.limits.file;
}
