-- The state of an element after the records that were read.
use Rattle.std.specs.Prelude.{◌≡◌, ℕ, List, [], ◌∷◌, ◌++◌, map, Option, Some, None, Result, Ok, Err}
use Rattle.lvl_cells.specs.Cells.{PlainShape, PlainReference, Rings as PlainRings}
use Rattle.gds_elements.specs.Types.{endel}
use Rattle.lvl_grammar.specs.Order.{one, IsWord}
use Rattle.gds_elements.specs.Order.{an_element}
use Rattle.gds_elements.specs.Rec.{Rec, kinds, opener}
use Rattle.gds_elements.specs.Meaning.{shapes_of, references_of, in_rings}
use Rattle.lvl_names.specs.Shifts.{one_place}
use Rattle.gds_elements.specs.Rules.{ElementBreaches, BreachesNone}
use Rattle.lvl_refusal.specs.Refused.{Says}
use Rattle.lvl_grammar.specs.inside.After.{LeadsTo}
use Rattle.gds_elements.specs.inside.Boundary.{IsBoundary}
use Rattle.gds_elements.specs.inside.Path.{IsPathRead}
use Rattle.gds_elements.specs.inside.Sref.{IsSrefRead}
use Rattle.gds_elements.specs.inside.Aref.{IsArefRead}
use Rattle.gds_elements.specs.inside.Text.{IsTextRead}
use Rattle.lvl_refusal.specs.declared.Cause.{Cause}
use Rattle.gds_elements.specs.declared.fault.ElementFault.{ElementFault}
use Rattle.gds_elements.specs.declared.element.Drawn.{Drawn}
use Rattle.gds_elements.specs.declared.element.Drawn.TheVariants.{Ring, Rings, Reference, Nothing}
use Rattle.gds_elements.specs.declared.element.State.{State}
use Rattle.gds_elements.specs.declared.element.State.TheVariants.{Boundary, Path, Sref, Aref, Text}
use Rattle.gds_elements.specs.declared.element.Element.{Element}
use Rattle.gds_elements.specs.declared.element.Step.{Step}
use Rattle.gds_elements.specs.declared.element.Step.TheVariants.{Open, Whole}
use Rattle.lvl_profile.specs.declared.profile.Profile.{Profile}

abbrev pub record_of : ℕ → ℕ → List ℕ → Rec
record_of k d p = record { kind = k; data_type = d; payload = p }

-- the shapes and the references of what an element draws
abbrev pub shapes_in : Drawn → List (PlainShape PlainRings)
shapes_in (Ring layer ring) = record { layer = layer; figure = ring ∷ []; shifts = one_place } ∷ []
shapes_in (Rings layer rings) = record { layer = layer; figure = rings.items; shifts = one_place } ∷ []
shapes_in (Reference r) = []
shapes_in Nothing = []

abbrev pub references_in : Drawn → List PlainReference
references_in (Ring layer ring) = []
references_in (Rings layer rings) = []
references_in (Reference r) = r ∷ []
references_in Nothing = []

-- what is drawn is what the records mean, with each figure as rings
pub record IsDrawn (d : Drawn) (piece : List Rec) : Type 0 where
  pub shapes : shapes_in d ≡ map in_rings (shapes_of piece)
  pub references : references_in d ≡ references_of piece

-- only ENDEL is missing
pub record IsAtEnd (d : Drawn) (piece : List Rec) : Type 0 where
  pub opened : (k : ℕ) × (opener piece ≡ Some k)
  pub leads : LeadsTo an_element (kinds piece) (one endel)
  pub drawn : IsDrawn d piece

-- the state is that after the records `piece`
abbrev pub HasRead : State → List Rec → Type 0
HasRead (Boundary b) piece = IsBoundary b piece
HasRead (Path p) piece = IsPathRead p piece
HasRead (Sref s) piece = IsSrefRead s piece
HasRead (Aref a) piece = IsArefRead a piece
HasRead (Text t) piece = IsTextRead t piece

-- only ENDEL is missing after the records, which draw this; or more is missing, and the state is that after them
abbrev pub IsAfter : {S : Type 0} → (S → List Rec → Type 0) → S → Option Drawn → List Rec → Type 0
IsAfter IsRead s None piece = IsRead s piece
IsAfter IsRead s (Some d) piece = IsAtEnd d piece

-- the element is that after these records, and no others
abbrev pub IsReading : Element → List Rec → Type 0
IsReading e piece = IsAfter HasRead e.state e.drawn piece

-- the records are a whole element, and this is what they mean
abbrev pub Draws : Option Drawn → List Rec → Type 0
Draws None piece = ⊥
Draws (Some d) piece = IsWord an_element (kinds piece) × IsDrawn d piece

-- the element has read these records, which are all, and draws what they mean
abbrev pub IsWhole : Element → List Rec → Type 0
IsWhole e piece = Draws e.drawn piece

-- an open element has read the records; a whole one draws what they mean
abbrev pub IsStep : Element → Step → List Rec → Type 0
IsStep e Open piece = IsReading e piece
IsStep e Whole piece = IsWhole e piece

-- the record was read after the others and breaches no rule, or it is refused by a rule that it breaches
abbrev pub Takes : {S T : Type 0} → (S → List Rec → Type 0) → S → Option Drawn → Profile → List Rec → Rec
    → Result T (Cause ElementFault) → Type 0
Takes IsRead s o profile piece r (Ok _) = IsAfter IsRead s o (piece ++ r ∷ []) × BreachesNone profile piece r
Takes IsRead s o profile piece r (Err e) = Says e (ElementBreaches profile piece r)

abbrev pub Steps : Element → Profile → List Rec → Rec → Result Step (Cause ElementFault) → Type 0
Steps x profile piece r (Ok s) = IsStep x s (piece ++ r ∷ []) × BreachesNone profile piece r
Steps x profile piece r (Err e) = Says e (ElementBreaches profile piece r)
