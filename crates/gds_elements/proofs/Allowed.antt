-- A record that keeps the rules of its element breaches none.
use Rattle.std.proofs.Common.{◌≡◌, ◌≢◌, ℕ, ◌<◌, ◌≤◌, ◌≤ℤ◌, ◌⊎◌, inl, inr, pos, List, length, All, Some, None, sym, ◌∙◌}
use Rattle.std.proofs.Common.{subst, arith}
use Rattle.std.proofs.lemmas.Int.{ints}
use Rattle.lvl_grid.specs.Winding.{IsStraight}
use Rattle.lvl_path.specs.Repeats.{asked}
use Rattle.lvl_path.specs.Runs.{IsPath}
use Rattle.gds_elements.specs.Types.{boundary, path, sref, aref, text, width, xy, endel, colrow, pathtype}
use Rattle.lvl_grammar.specs.Order.{Begins}
use Rattle.gds_elements.specs.Order.{an_element}
use Rattle.gds_elements.specs.Rec.{Rec, kinds, opener, last_of}
use Rattle.gds_elements.specs.Values.{short, long, points, turn}
use Rattle.gds_elements.specs.Meaning.{half_of, end_of, columns_in, rows_in}
use Rattle.gds_elements.specs.Rules.{IsKnown, IsClosed, steps, IsWidth, HasSteps, DrawsShape, RefersToCell}
use Rattle.gds_elements.specs.Rules.{IsMiscounted, InOrder, ValueBreaches, BreachesNone}
use Rattle.gds_elements.specs.inside.Formed.{IsLayerNumber}
use Rattle.gds_elements.specs.inside.Placing.{IsPlacingAllowed, IsPlacingFault}
use Rattle.gds_elements.specs.inside.Counts.{IsCounted, IsCountFault}
use Rattle.gds_elements.specs.inside.Boundary.{IsRingFault}
use Rattle.gds_elements.specs.declared.fault.Misplaced.TheVariants.{Unexpected, Unsupported}
use Rattle.gds_elements.specs.declared.fault.ElementFault.TheVariants.{Misplaced as MisplacedRecord, Rule}
use Rattle.gds_elements.specs.declared.fault.ElementRule.{ElementRule}
use Rattle.gds_elements.specs.declared.fault.ElementRule.TheVariants.{Layer, Points, NotClosed, Strans, Magnification}
use Rattle.gds_elements.specs.declared.fault.ElementRule.TheVariants.{Angle, ColRow, ArrayStep, Name, Path, Width}
use Rattle.gds_elements.specs.declared.fault.ElementRule.TheVariants.{PathType, Oblique, Repetition}
use Rattle.gds_elements.proofs.Fields.{kinds-snoc}
use Rattle.gds_elements.proofs.Words.{begun_known}
use Rattle.lvl_profile.specs.declared.profile.Profile.{Profile}

-- a list of records has one first type
pub one_opener : (piece : List Rec) (k j : ℕ) → opener piece ≡ Some k → opener piece ≡ Some j → k ≡ j
one_opener piece k j e f = (let g : Some k ≡ Some j = sym e ∙ f in cc)

draws : (piece : List Rec) (k : ℕ) → opener piece ≡ Some k → DrawsShape piece → (k ≡ boundary) ⊎ (k ≡ path)
draws piece k e h = elim h [ inl x ↦ inl (one_opener piece k boundary e x) | inr y ↦ inr (one_opener piece k path e y) ]

refers : (piece : List Rec) (k : ℕ) → opener piece ≡ Some k → RefersToCell piece → (k ≡ sref) ⊎ (k ≡ aref)
refers piece k e h = elim h [ inl x ↦ inl (one_opener piece k sref e x) | inr y ↦ inr (one_opener piece k aref e y) ]

shape_refers : (piece : List Rec) (k : ℕ) → opener piece ≡ Some k → k ≢ sref → k ≢ aref → RefersToCell piece → ⊥
shape_refers piece k e s a h = elim (refers piece k e h) [ inl x ↦ s x | inr y ↦ a y ]

reference_draws : (piece : List Rec) (k : ℕ) → opener piece ≡ Some k → k ≢ boundary → k ≢ path → DrawsShape piece → ⊥
reference_draws piece k e b p h = elim (draws piece k e h) [ inl x ↦ b x | inr y ↦ p y ]

-- a wrong number of points, by the type of the element
miscounted : (piece : List Rec) (k n : ℕ) → opener piece ≡ Some k → IsMiscounted piece n
    → ((k ≡ boundary) × (n < 4)) ⊎ ((k ≡ path) × (n < 2)) ⊎ ((k ≡ aref) × (n ≢ 3))
    ⊎ (((k ≡ sref) ⊎ (k ≡ text)) × (n ≢ 1))
miscounted piece k n e h = elim h [
  | inl b ↦ inl (one_opener piece k boundary e b.0, b.1)
  | inr h1 ↦ elim h1 [
    | inl p ↦ inr (inl (one_opener piece k path e p.0, p.1))
    | inr h2 ↦ elim h2 [
      | inl a ↦ inr (inr (inl (one_opener piece k aref e a.0, a.1)))
      | inr s ↦
          inr (inr (inr (
            elim s.0 [ inl x ↦ inl (one_opener piece k sref e x) | inr y ↦ inr (one_opener piece k text e y) ],
            s.1,
          )))
    ]
  ]
]

-- the number of points is right
abbrev CountOk : ℕ → ℕ → Type 0
CountOk k n = (k ≡ boundary → 4 ≤ n) × (k ≡ path → 2 ≤ n) × (k ≡ aref → n ≡ 3) × (k ≡ sref → n ≡ 1) × (k ≡ text → n ≡ 1)

counted : (piece : List Rec) (k n : ℕ) → opener piece ≡ Some k → CountOk k n → IsMiscounted piece n → ⊥
counted piece k n e ok h = elim (miscounted piece k n e h) [
  | inl b ↦ omega (arith, ok.0 b.0, b.1)
  | inr h1 ↦ elim h1 [
    | inl p ↦ omega (arith, ok.1 p.0, p.1)
    | inr h2 ↦ elim h2 [
      | inl a ↦ a.1 (ok.2 a.0)
      | inr s ↦ elim s.0 [ inl x ↦ s.1 (ok.3 x) | inr y ↦ s.1 (ok.4 y) ]
    ]
  ]
]

pub boundary_counted : (piece : List Rec) (n : ℕ) → opener piece ≡ Some boundary → 4 ≤ n → IsMiscounted piece n → ⊥
boundary_counted piece n o h = counted piece boundary n o (grind (arith, h))

pub path_counted : (piece : List Rec) (n : ℕ) → opener piece ≡ Some path → 2 ≤ n → IsMiscounted piece n → ⊥
path_counted piece n o h = counted piece path n o (grind (arith, h))

pub aref_counted : (piece : List Rec) (n : ℕ) → opener piece ≡ Some aref → n ≡ 3 → IsMiscounted piece n → ⊥
aref_counted piece n o h = counted piece aref n o (grind (arith, h))

sref_counted : (piece : List Rec) (n : ℕ) → opener piece ≡ Some sref → n ≡ 1 → IsMiscounted piece n → ⊥
sref_counted piece n o h = counted piece sref n o (grind (arith, h))

text_counted : (piece : List Rec) (n : ℕ) → opener piece ≡ Some text → n ≡ 1 → IsMiscounted piece n → ⊥
text_counted piece n o h = counted piece text n o (grind (arith, h))

-- a record in order whose values breach no rule breaches none
pub allowed : (profile : Profile) (piece : List Rec) (r : Rec) → InOrder piece r → ((k : ElementRule)
    → ValueBreaches profile piece r k → ⊥)
    → BreachesNone profile piece r
allowed profile piece r g n (MisplacedRecord (Unexpected j)) x = x.2 g
allowed profile piece r g n (MisplacedRecord (Unsupported j)) x =
    x.2 (subst IsKnown x.0 (begun_known (kinds piece) r.kind (subst (Begins an_element) (kinds-snoc piece r) g)))
allowed profile piece r g n (Rule k) x = n k x.1

pub law_boundary : (profile : Profile) (piece : List Rec) (r : Rec) → opener piece ≡ Some boundary
    → (IsLayerNumber r.kind → pos 0 ≤ℤ short r.payload)
    → (r.kind ≡ xy → (4 ≤ length (points r.payload)) × IsClosed (points r.payload)
    × All IsStraight (steps (points r.payload)))
    → (k : ElementRule) → ValueBreaches profile piece r k → ⊥
law_boundary profile piece r o l p Layer x = (let z = l x.0 in omega (arith, ints, z, x.2))
law_boundary profile piece r o l p Points x = boundary_counted piece _ o (p x.0).0 x.1
law_boundary profile piece r o l p NotClosed x = x.3 (p x.0).1
law_boundary profile piece r o l p Strans x = shape_refers piece boundary o (λ e. omega arith) (λ e. omega arith) x.1
law_boundary profile piece r o l p Magnification x = shape_refers piece boundary o (λ e. omega arith)
    (λ e. omega arith) x.1
law_boundary profile piece r o l p Angle x = shape_refers piece boundary o (λ e. omega arith) (λ e. omega arith) x.1
law_boundary profile piece r o l p ColRow x = (let z = one_opener piece boundary aref o x.1 in omega (arith, z))
law_boundary profile piece r o l p ArrayStep x = (let z = one_opener piece boundary aref o x.1 in omega (arith, z))
law_boundary profile piece r o l p Name x = shape_refers piece boundary o (λ e. omega arith) (λ e. omega arith) x.1
law_boundary profile piece r o l p (Path f) x = (let z = one_opener piece boundary path o x.1 in omega (arith, z))
law_boundary profile piece r o l p Width x = (let z = one_opener piece boundary path o x.0 in omega (arith, z))
law_boundary profile piece r o l p PathType x = (let z = one_opener piece boundary path o x.1 in omega (arith, z))
law_boundary profile piece r o l p Oblique x = x.4 (p x.0).2
law_boundary profile piece r o l p Repetition x = (let z = one_opener piece boundary aref o x.1 in omega (arith, z))

pub law_path : (profile : Profile) (piece : List Rec) (r : Rec) → opener piece ≡ Some path
    → (IsLayerNumber r.kind → pos 0 ≤ℤ short r.payload)
    → (r.kind ≡ pathtype → short r.payload ≢ pos 0 → short r.payload ≡ pos 2)
    → (r.kind ≡ width → IsWidth (long r.payload))
    → (r.kind ≡ xy → (2 ≤ length (points r.payload)) × (last_of width piece ≢ None)
    × IsPath (asked profile.ignore.points (points r.payload))
    (record { half = half_of piece; start = end_of piece; end = end_of piece }))
    → (k : ElementRule) → ValueBreaches profile piece r k → ⊥
law_path profile piece r o l t w p Layer x = (let z = l x.0 in omega (arith, ints, z, x.2))
law_path profile piece r o l t w p Points x = path_counted piece _ o (p x.0).0 x.1
law_path profile piece r o l t w p NotClosed x = (let z = one_opener piece path boundary o x.1 in omega (arith, z))
law_path profile piece r o l t w p Strans x = shape_refers piece path o (λ e. omega arith) (λ e. omega arith) x.1
law_path profile piece r o l t w p Magnification x = shape_refers piece path o (λ e. omega arith) (λ e. omega arith) x.1
law_path profile piece r o l t w p Angle x = shape_refers piece path o (λ e. omega arith) (λ e. omega arith) x.1
law_path profile piece r o l t w p ColRow x = (let z = one_opener piece path aref o x.1 in omega (arith, z))
law_path profile piece r o l t w p ArrayStep x = (let z = one_opener piece path aref o x.1 in omega (arith, z))
law_path profile piece r o l t w p Name x = shape_refers piece path o (λ e. omega arith) (λ e. omega arith) x.1
law_path profile piece r o l t w p (Path f) x = (p x.0).2 f x.4.breached
law_path profile piece r o l t w p Width x = elim x.1 [ inl y ↦ y.1 (w y.0) | inr y ↦ (p y.0).1 y.2 ]
law_path profile piece r o l t w p PathType x = x.3 (t x.0 x.2)
law_path profile piece r o l t w p Oblique x = (let z = one_opener piece path boundary o x.1 in omega (arith, z))
law_path profile piece r o l t w p Repetition x = (let z = one_opener piece path aref o x.1 in omega (arith, z))

pub law_sref : (profile : Profile) (piece : List Rec) (r : Rec) → opener piece ≡ Some sref
    → IsPlacingAllowed r.kind r.payload → (r.kind ≡ xy → length (points r.payload) ≡ 1) → (k : ElementRule)
    → ValueBreaches profile piece r k → ⊥
law_sref profile piece r o a p Layer x = reference_draws piece sref o (λ e. omega arith) (λ e. omega arith) x.1
law_sref profile piece r o a p Points x = sref_counted piece _ o (p x.0) x.1
law_sref profile piece r o a p NotClosed x = (let z = one_opener piece sref boundary o x.1 in omega (arith, z))
law_sref profile piece r o a p Strans x = x.3 (a.strans x.0 x.2)
law_sref profile piece r o a p Magnification x = x.2 (a.mag x.0)
law_sref profile piece r o a p Angle x = x.2 (turn r.payload) (a.angle x.0)
law_sref profile piece r o a p ColRow x = (let z = one_opener piece sref aref o x.1 in omega (arith, z))
law_sref profile piece r o a p ArrayStep x = (let z = one_opener piece sref aref o x.1 in omega (arith, z))
law_sref profile piece r o a p Name x = x.2 (a.name x.0)
law_sref profile piece r o a p (Path f) x = (let z = one_opener piece sref path o x.1 in omega (arith, z))
law_sref profile piece r o a p Width x = (let z = one_opener piece sref path o x.0 in omega (arith, z))
law_sref profile piece r o a p PathType x = (let z = one_opener piece sref path o x.1 in omega (arith, z))
law_sref profile piece r o a p Oblique x = (let z = one_opener piece sref boundary o x.1 in omega (arith, z))
law_sref profile piece r o a p Repetition x = (let z = one_opener piece sref aref o x.1 in omega (arith, z))

pub law_aref : (profile : Profile) (piece : List Rec) (r : Rec) → opener piece ≡ Some aref
    → IsPlacingAllowed r.kind r.payload → (r.kind ≡ colrow → IsCounted profile.limits r.payload)
    → (r.kind ≡ xy → (length (points r.payload) ≡ 3) × HasSteps (points r.payload) (columns_in (last_of colrow piece))
    (rows_in (last_of colrow piece)))
    → (k : ElementRule) → ValueBreaches profile piece r k → ⊥
law_aref profile piece r o a c p Layer x = reference_draws piece aref o (λ e. omega arith) (λ e. omega arith) x.1
law_aref profile piece r o a c p Points x = aref_counted piece _ o (p x.0).0 x.1
law_aref profile piece r o a c p NotClosed x = (let z = one_opener piece aref boundary o x.1 in omega (arith, z))
law_aref profile piece r o a c p Strans x = x.3 (a.strans x.0 x.2)
law_aref profile piece r o a c p Magnification x = x.2 (a.mag x.0)
law_aref profile piece r o a c p Angle x = x.2 (turn r.payload) (a.angle x.0)
law_aref profile piece r o a c p ColRow x =
    (let z = c x.0 in elim x.2 [
      | inl y ↦ omega (arith, ints, y, z.some_columns)
      | inr y ↦ omega (arith, ints, y, z.some_rows)
    ])
law_aref profile piece r o a c p ArrayStep x = x.3 (p x.0).1
law_aref profile piece r o a c p Name x = x.2 (a.name x.0)
law_aref profile piece r o a c p (Path f) x = (let z = one_opener piece aref path o x.1 in omega (arith, z))
law_aref profile piece r o a c p Width x = (let z = one_opener piece aref path o x.0 in omega (arith, z))
law_aref profile piece r o a c p PathType x = (let z = one_opener piece aref path o x.1 in omega (arith, z))
law_aref profile piece r o a c p Oblique x = (let z = one_opener piece aref boundary o x.1 in omega (arith, z))
law_aref profile piece r o a c p Repetition x = (let z = c x.0 in omega (arith, z.few, x.4))

pub law_text : (profile : Profile) (piece : List Rec) (r : Rec) → opener piece ≡ Some text
    → (r.kind ≡ xy → length (points r.payload) ≡ 1) → (k : ElementRule) → ValueBreaches profile piece r k → ⊥
law_text profile piece r o p Layer x = reference_draws piece text o (λ e. omega arith) (λ e. omega arith) x.1
law_text profile piece r o p Points x = text_counted piece _ o (p x.0) x.1
law_text profile piece r o p NotClosed x = (let z = one_opener piece text boundary o x.1 in omega (arith, z))
law_text profile piece r o p Strans x = shape_refers piece text o (λ e. omega arith) (λ e. omega arith) x.1
law_text profile piece r o p Magnification x = shape_refers piece text o (λ e. omega arith) (λ e. omega arith) x.1
law_text profile piece r o p Angle x = shape_refers piece text o (λ e. omega arith) (λ e. omega arith) x.1
law_text profile piece r o p ColRow x = (let z = one_opener piece text aref o x.1 in omega (arith, z))
law_text profile piece r o p ArrayStep x = (let z = one_opener piece text aref o x.1 in omega (arith, z))
law_text profile piece r o p Name x = shape_refers piece text o (λ e. omega arith) (λ e. omega arith) x.1
law_text profile piece r o p (Path f) x = (let z = one_opener piece text path o x.1 in omega (arith, z))
law_text profile piece r o p Width x = (let z = one_opener piece text path o x.0 in omega (arith, z))
law_text profile piece r o p PathType x = (let z = one_opener piece text path o x.1 in omega (arith, z))
law_text profile piece r o p Oblique x = (let z = one_opener piece text boundary o x.1 in omega (arith, z))
law_text profile piece r o p Repetition x = (let z = one_opener piece text aref o x.1 in omega (arith, z))

-- an XY breaches no rule of placing
pub placing_at_points : (k : ℕ) (p : List ℕ) → k ≡ xy → IsPlacingAllowed k p
placing_at_points k p x = record {
  strans = λ e. absurd (omega (arith, e, x));
  mag = λ e. absurd (omega (arith, e, x));
  angle = λ e. absurd (omega (arith, e, x));
  name = λ e. absurd (omega (arith, e, x));
}

-- ENDEL breaches no rule
pub law_endel : (profile : Profile) (piece : List Rec) (r : Rec) → r.kind ≡ endel → (k : ElementRule)
    → ValueBreaches profile piece r k → ⊥
law_endel profile piece r e Layer x = elim x.0 [ inl y ↦ omega (arith, y, e) | inr y ↦ omega (arith, y, e) ]
law_endel profile piece r e Width x = elim x.1 [ inl y ↦ omega (arith, y.0, e) | inr y ↦ omega (arith, y.0, e) ]
law_endel profile piece r e other x = omega (arith, x.0, e)

-- a fault of the points of a boundary is a breach
pub ring_fault : (profile : Profile) (piece : List Rec) (r : Rec) → opener piece ≡ Some boundary → r.kind ≡ xy
    → (k : ElementRule)
    → IsRingFault (points r.payload) k → ValueBreaches profile piece r k
ring_fault profile piece r o x Points b = (x, inl (o, b))
ring_fault profile piece r o x NotClosed b = (x, o, b.0, b.1)
ring_fault profile piece r o x Oblique b = (x, o, b.0, b.1, b.2)
ring_fault profile piece r o x other b = absurd b

-- so is a fault of the placing
pub placing_fault : (profile : Profile) (piece : List Rec) (r : Rec) → RefersToCell piece → (k : ElementRule)
    → IsPlacingFault r.kind r.payload k → ValueBreaches profile piece r k
placing_fault profile piece r o Strans b = (b.0, o, b.1, b.2)
placing_fault profile piece r o Magnification b = (b.0, o, b.1)
placing_fault profile piece r o Angle b = (b.0, o, b.1)
placing_fault profile piece r o Name b = (b.0, o, b.1)
placing_fault profile piece r o other b = absurd b

-- and one of the columns and rows
pub count_fault : (profile : Profile) (piece : List Rec) (r : Rec) → opener piece ≡ Some aref → (k : ElementRule)
    → (r.kind ≡ colrow) × IsCountFault profile.limits r.payload k → ValueBreaches profile piece r k
count_fault profile piece r o ColRow b = (b.0, o, b.1)
count_fault profile piece r o Repetition b = (b.0, o, b.1.0, b.1.1, b.1.2)
count_fault profile piece r o other b = absurd b.1
