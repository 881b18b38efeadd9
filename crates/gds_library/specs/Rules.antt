-- The rules that a record may breach, if no record is ignored (GDSII Stream Format Manual, Release 6, "Stream syntax";
-- own rules: the name in a STRNAME, and how many cells a library may have).
use Rattle.std.specs.Prelude.{◌≡◌, ◌<◌, ◌≤◌, List, [], ◌∷◌, ◌++◌, length}
use Rattle.lvl_grammar.specs.Order.{IsWord, Begins}
use Rattle.gds_elements.specs.Types.{bgnstr, strname}
use Rattle.gds_elements.specs.Rec.{Rec, kinds, is_type, is_opener}
use Rattle.gds_elements.specs.Values.{name}
use Rattle.gds_elements.specs.Rules.{IsMisplacedAs, ValueBreaches}
use Rattle.gds_elements.specs.declared.fault.ElementRule.{ElementRule}
use Rattle.lvl_names.specs.Names.{IsName}
use Rattle.gds_library.specs.Order.{a_library}
use Rattle.gds_library.specs.Rec.{pieces, last_piece}
use Rattle.gds_library.specs.declared.fault.GdsKind.{GdsKind}
use Rattle.gds_library.specs.declared.fault.GdsKind.TheVariants.{Record, Misplaced, Element, Name, AfterEnd}
use Rattle.gds_library.specs.declared.fault.GdsKind.TheVariants.{TooManyCells}
use Rattle.lvl_profile.specs.declared.profile.Profile.{Profile}

-- the records are a whole library
abbrev pub IsWhole : List Rec → Type 0
IsWhole rs = IsWord a_library (kinds rs)

-- the record may come next
abbrev pub InOrder : List Rec → Rec → Type 0
InOrder before r = Begins a_library (kinds (before ++ r ∷ []))

-- the record breaches the rule: it may not come next; or its payload breaches the rule, after the records of its
-- element (Element), by itself (Name), or after the structures before it (TooManyCells)
abbrev pub Breaches : Profile → List Rec → Rec → GdsKind → Type 0
Breaches profile before r (Record f) = ⊥
Breaches profile before r (Misplaced m) = IsMisplacedAs (InOrder before r) r m
Breaches profile before r (Element k) = InOrder before r × ValueBreaches profile (last_piece is_opener before) r k
Breaches profile before r Name = InOrder before r × (r.kind ≡ strname) × ¬ IsName (name r.payload)
Breaches profile before r AfterEnd = ⊥
Breaches profile before r TooManyCells =
    InOrder before r × (r.kind ≡ bgnstr) × (profile.limits.cells ≤ length (pieces (is_type bgnstr) before))

-- it breaches no other rule
abbrev pub BreachesOnly : Profile → List Rec → Rec → GdsKind → Type 0
BreachesOnly profile before r k = (j : GdsKind) → Breaches profile before r j → j ≡ k

-- the record breaches no rule by its payload: after the records of its element, by its name, or after the structures
-- before it
pub record KeepsRules (profile : Profile) (before : List Rec) (r : Rec) : Type 0 where
  pub element : (k : ElementRule) → ValueBreaches profile (last_piece is_opener before) r k → ⊥
  pub name : r.kind ≡ strname → IsName (name r.payload)
  pub cells : r.kind ≡ bgnstr → length (pieces (is_type bgnstr) before) < profile.limits.cells

-- the record may follow the others: it may come next, and breaches no rule
abbrev pub MayFollow : Profile → List Rec → Rec → Type 0
MayFollow profile before r = InOrder before r × KeepsRules profile before r
