-- The records inside a block (SEMI P39 OASIS 1.0, "CBLOCK record"), and what is wrong with a block that is refused (own
-- rule: which fault is reported).
use Rattle.std.specs.Prelude.{◌≡◌, ℕ, ◌-◌, ◌<◌, ◌≤◌, ◌⊎◌, true, List, ◌++◌, length, take, drop, Ok, Err}
use Rattle.lvl_io.specs.Spelling.{FirstBytesSay, IsBegun}
use Rattle.lvl_grammar.specs.Grammar.{Grammar}
use Rattle.lvl_grammar.specs.Front.{IsFront, SpellsWhole}
use Rattle.lvl_grammar.specs.Refused.{Faults}
use Rattle.lvl_profile.specs.declared.profile.Profile.{Profile}
use Rattle.oasis_values.specs.Faults.{is_rule}
use Rattle.oasis_blocks.specs.Packed.{Packed}
use Rattle.oasis_blocks.specs.Unpacking.{Unpacks}
use Rattle.oasis_blocks.specs.declared.fault.BlockRule.TheVariants.{TooLong, Deflate, BlockLength}
use Rattle.oasis_records.specs.declared.record.Record.{Record}
use Rattle.oasis_stream.specs.Items.{Item, item, records, unpacked}
use Rattle.oasis_stream.specs.Next.{IsNext}
use Rattle.oasis_stream.specs.Rules.{RecordBreaches, KeepsRules}
use Rattle.oasis_stream.specs.declared.fault.OasisKind.{OasisKind}
use Rattle.oasis_stream.specs.declared.fault.OasisKind.TheVariants.{Value, Block, AfterEnd}

-- the bytes of a block as a format: records after those before the block, in so many bytes, with no other end
abbrev pub inside : Profile → List Record → ℕ → Grammar Record
inside profile outer count = record {
  spells = λ before bytes r. IsNext true (outer ++ before) profile bytes (Ok (Ok (item r)));
  follows = λ before r. KeepsRules profile (outer ++ before) r;
  ends = λ before. Unit {0};
  limit = count;
}

-- how many bytes may still be unpacked after the items; own rule: all blocks of a file have no more bytes than a file
-- may have
abbrev pub room_after : Profile → List Item → ℕ
room_after profile before = profile.limits.file - unpacked before

-- the block has these records inside: it unpacks to bytes, within the limit, and all of these spell the records
pub record HasInside (profile : Profile) (before : List Item) (p : Packed) (rs : List Record) : Type 0 where
  pub bytes : List ℕ
  pub unpacks : Unpacks p bytes
  pub within : p.count ≤ room_after profile before
  pub whole : SpellsWhole (inside profile (records before) (length bytes)) bytes rs

-- bytes at the front breach the rule by themselves, or are a record that breaches it after the records rs
abbrev pub BreaksRuleInside : Profile → List Record → List ℕ → OasisKind → Type 0
BreaksRuleInside profile rs ys k =
    (n : ℕ) × (FirstBytesSay (IsNext true rs profile) ys n (Ok (Err k))
    ⊎ ((r : Record) × FirstBytesSay (IsNext true rs profile) ys n (Ok (Ok (item r))) × RecordBreaches profile rs r k))

-- what is wrong at the front of the bytes inside a block, after the records rs, if `room` bytes of it are left: a block
-- that ends within a record has too few bytes
abbrev pub IsWrongInside : Profile → List Record → ℕ → List ℕ → OasisKind → Type 0
IsWrongInside profile rs room ys (Value f) =
    (is_rule f ≡ true) × (n : ℕ) × FirstBytesSay (IsNext true rs profile) ys n (Err f)
IsWrongInside profile rs room ys (Block BlockLength) =
    (0 < length ys) × (room ≤ length ys) × IsBegun (IsNext true rs profile) ys
IsWrongInside profile rs room ys (Block k) = ⊥
IsWrongInside profile rs room ys AfterEnd = ⊥
IsWrongInside profile rs room ys k = BreaksRuleInside profile rs ys k

-- what a refusal can say of the bytes inside a block
abbrev pub inside_faults : (profile : Profile) (outer : List Record) (count : ℕ)
    → Faults (inside profile outer count) OasisKind
inside_faults profile outer count = record {
  begun = λ before ys. IsBegun (IsNext true (outer ++ before) profile) ys;
  wrong = λ before room ys k. IsWrongInside profile (outer ++ before) room ys k;
}

-- some of the bytes are the front of a block, after the records `outer`, and those after them breach the rule
pub record StopsInside (profile : Profile) (outer : List Record) (ys : List ℕ) (k : OasisKind) : Type 0 where
  pub at : ℕ
  pub within : at ≤ length ys
  pub inner : List Record
  pub front : IsFront (inside profile outer (length ys)) (take at ys) inner
  pub wrong : IsWrongInside profile (outer ++ inner) (length ys - at) (drop at ys) k

-- the block unpacks to bytes that breach the rule
abbrev pub BreaksInside : Profile → List Item → Packed → OasisKind → Type 0
BreaksInside profile before p k = (ys : List ℕ) × Unpacks p ys × StopsInside profile (records before) ys k

-- the block breaches the rule after the items: it unpacks to too many bytes, or to none that it says, or what is inside
-- breaches it. Own rule: `Deflate` and `BlockLength` are one rule, as `cause` says
abbrev pub BlockBreaches : Profile → List Item → Packed → OasisKind → Type 0
BlockBreaches profile before p (Block TooLong) = room_after profile before < p.count
BlockBreaches profile before p (Block Deflate) = ⊥
BlockBreaches profile before p (Block BlockLength) =
    (p.count ≤ room_after profile before)
    × (((ys : List ℕ) → Unpacks p ys → ⊥) ⊎ BreaksInside profile before p (Block BlockLength))
BlockBreaches profile before p k = (p.count ≤ room_after profile before) × BreaksInside profile before p k

-- the rule for which a fault stands: where packed bytes unpack to none that the block says, either of two can be
-- reported, by what is seen first
abbrev pub cause : OasisKind → OasisKind
cause (Block Deflate) = Block BlockLength
cause k = k
