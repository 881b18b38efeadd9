-- What is wrong with GDSII streams that are refused (own rule: which fault is reported, and where).
use Rattle.std.specs.Prelude.{◌≡◌, ◌≢◌, ℕ, ◌<◌, ◌≤◌, ◌⊎◌, List, ◌∷◌, ◌++◌, length, Err}
use Rattle.lvl_profile.specs.declared.profile.Profile.{Profile}
use Rattle.lvl_grammar.specs.Refused.{Faults}
use Rattle.gds_records.specs.Spelled.{IsRecord, IsSpelling, IsBegun}
use Rattle.gds_records.specs.Step.{step}
use Rattle.gds_records.specs.declared.fault.RecordFault.TheVariants.{Truncated, Read}
use Rattle.gds_elements.specs.Rec.{Rec}
use Rattle.gds_library.specs.Ignoring.{IsWholeBy, BreachesBy}
use Rattle.gds_library.specs.Front.{gds}
use Rattle.gds_library.specs.declared.fault.GdsKind.{GdsKind}
use Rattle.gds_library.specs.declared.fault.GdsKind.TheVariants.{Record, AfterEnd}

-- the bytes begin with the record, and there is room for it
abbrev pub StartsWith : Profile → ℕ → List ℕ → Rec → Type 0
StartsWith profile room ys r =
    (text rest : List ℕ) × IsRecord profile.ignore r.kind r.data_type r.payload × IsSpelling text r.kind r.data_type r.payload
    × (length text ≤ room) × (ys ≡ text ++ rest)

-- what is wrong at the front of the bytes, with room for some before the limit: a fault that the tests of a record find
-- in their order (after the whole library only that the limit is passed); a byte after the whole library that isn't
-- zero; or the next record, which breaches the rule
abbrev pub IsWrong : Profile → List Rec → ℕ → List ℕ → GdsKind → Type 0
IsWrong profile before room ys (Record f) =
    (f ≢ Truncated) × (f ≢ Read) × (step profile.ignore room ys ≡ Err f) × (IsWholeBy profile before → room ≡ 0)
IsWrong profile before room ys AfterEnd =
    IsWholeBy profile before × (0 < room) × (b : ℕ) × (rest : List ℕ) × (b ≢ 0) × (ys ≡ b ∷ rest)
IsWrong profile before room ys k =
    (¬ IsWholeBy profile before) × (r : Rec) × StartsWith profile room ys r × BreachesBy profile before r k

-- what a refusal of GDSII can say: that the input ends within a record, or which rule is breached
abbrev pub gds_faults : (profile : Profile) → Faults (gds profile) GdsKind
gds_faults profile = record {
  begun = λ before ys. (length ys < 4) ⊎ IsBegun profile.ignore ys;
  wrong = IsWrong profile;
}
