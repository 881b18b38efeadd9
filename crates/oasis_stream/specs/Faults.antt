-- What is wrong with OASIS streams that are refused (own rule: which fault is reported, and where).
use Rattle.std.specs.Prelude.{◌≡◌, ℕ, ◌<◌, ◌≤◌, ◌⊎◌, true, List, [], length, take, Result, Ok, Err}
use Rattle.lvl_io.specs.Spelling.{FirstBytesSay, IsBegun}
use Rattle.lvl_profile.specs.declared.profile.Profile.{Profile}
use Rattle.lvl_grammar.specs.Refused.{Faults}
use Rattle.oasis_values.specs.Faults.{is_rule}
use Rattle.oasis_values.specs.declared.fault.ValueFault.{ValueFault}
use Rattle.oasis_values.specs.declared.fault.ValueFault.TheVariants.{TooLong}
use Rattle.oasis_stream.specs.Items.{Item, IsEnded}
use Rattle.oasis_stream.specs.Next.{IsItem}
use Rattle.oasis_stream.specs.Front.{Breaches, oasis}
use Rattle.oasis_stream.specs.declared.fault.OasisKind.{OasisKind}
use Rattle.oasis_stream.specs.declared.fault.OasisKind.TheVariants.{Value, AfterEnd}

-- the bytes are an unfinished beginning of the next item; after END there is none, and the list is empty
abbrev pub IsBegunAfter : Profile → List Item → List ℕ → Type 0
IsBegunAfter profile before ys = (IsEnded before → ys ≡ []) × IsBegun (IsItem before profile) ys

-- the bytes within the limit are an unfinished beginning, and others follow
abbrev pub IsTooLong : Profile → List Item → ℕ → List ℕ → Type 0
IsTooLong profile before room ys = (room < length ys) × IsBegunAfter profile before (take room ys)

-- bytes at the front, within the limit, breach the rule
pub record Breaks {A : Type 0} (S : List ℕ → Result A ValueFault → Type 0) (room : ℕ) (xs : List ℕ)
    (f : ValueFault) : Type 0 where
  pub count : ℕ
  pub within : count ≤ room
  pub front : FirstBytesSay S xs count (Err f)

-- a rule of values is breached in the next item
abbrev pub BreaksValue : Profile → List Item → ℕ → List ℕ → ValueFault → Type 0
BreaksValue profile before room ys f = (¬ IsEnded before) × (is_rule f ≡ true) × Breaks (IsItem before profile) room ys f

-- bytes at the front, within the limit, breach the rule by themselves, or are an item that breaches it after the others
abbrev pub BreaksRule : Profile → List Item → ℕ → List ℕ → OasisKind → Type 0
BreaksRule profile before room ys k =
    (¬ IsEnded before) × (n : ℕ) × (n ≤ room)
    × (FirstBytesSay (IsItem before profile) ys n (Ok (Err k))
    ⊎ ((i : Item) × FirstBytesSay (IsItem before profile) ys n (Ok (Ok i)) × Breaches profile before i k))

-- what is wrong at the front of the bytes, with room for some before the limit; a rule of values is breached by the
-- bytes themselves, or inside a block
abbrev pub IsWrong : Profile → List Item → ℕ → List ℕ → OasisKind → Type 0
IsWrong profile before room ys (Value f) =
    ((f ≡ TooLong) × IsTooLong profile before room ys)
    ⊎ (BreaksValue profile before room ys f ⊎ BreaksRule profile before room ys (Value f))
IsWrong profile before room ys AfterEnd = IsEnded before × (0 < room) × (0 < length ys)
IsWrong profile before room ys k = BreaksRule profile before room ys k

-- what a refusal of OASIS can say: that the input ends within an item, or which rule is breached
abbrev pub oasis_faults : (profile : Profile) → Faults (oasis profile) OasisKind
oasis_faults profile = record {
  begun = IsBegunAfter profile;
  wrong = IsWrong profile;
}
