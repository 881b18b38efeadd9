-- Records, and lists of records (GDSII Stream Format Manual, Release 6, "Record Description").
use Rattle.std.specs.Prelude.{ℕ, ◌==◌, Bool, List, [], ◌∷◌, map, reverse, find, Option, Some, None}
use Rattle.gds_elements.specs.Order.{opens}
use Rattle.gds_elements.specs.Types.{endel}

-- a record: its type, its data type and its payload
pub record Rec : Type 0 where
  pub kind : ℕ
  pub data_type : ℕ
  pub payload : List ℕ

-- the types of the records
abbrev pub kinds : List Rec → List ℕ
kinds rs = map (λ r. r.kind) rs

-- whether the record is of type k
abbrev pub is_type : ℕ → Rec → Bool
is_type k r = r.kind == k

-- the record opens an element
abbrev pub is_opener : Rec → Bool
is_opener r = opens r.kind

-- the ENDEL record
abbrev pub an_end : Rec
an_end = record { kind = endel; data_type = 0; payload = [] }

-- the type of the first record
abbrev pub opener : List Rec → Option ℕ
opener [] = None
opener (r ∷ rs) = Some r.kind

-- the payload of a record, or nothing
abbrev pub payload_of : Option Rec → List ℕ
payload_of None = []
payload_of (Some r) = r.payload

-- the last record of a type, if there is one
abbrev pub last_of : ℕ → List Rec → Option Rec
last_of k rs = find (is_type k) (reverse rs)

-- the payload of the last record of a type; empty if there is none
abbrev pub field : ℕ → List Rec → List ℕ
field k rs = payload_of (last_of k rs)
