-- A complete record breaches at most one rule.
use Rattle.std.proofs.Common.{◌≡◌, ◌<◌, ◌⊎◌, List, ◌∷◌, Some, None, refl, sym, ap, ◌∙◌, subst, arith, inl, inr}
use Rattle.lvl_path.specs.Repeats.{asked}
use Rattle.lvl_path.specs.declared.fault.PathFault.{PathFault}
use Rattle.lvl_profile.specs.declared.ignore.Ignore.{Ignore}
use Rattle.lvl_profile.specs.declared.profile.Profile.{Profile}
use Rattle.oasis_records.specs.declared.cell.CellName.{CellName as AName}
use Rattle.oasis_records.specs.declared.record.Record.{Record as ARecord}
use Rattle.oasis_records.specs.declared.record.Record.TheVariants.{CellName, Path, Block}
use Rattle.oasis_blocks.specs.Packed.{Packed}
use Rattle.oasis_figures.specs.Figures.{path_points}
use Rattle.oasis_figures.specs.Rules.{Breaks, HasPathFault, order, Breaches as FigureBreaches}
use Rattle.oasis_figures.specs.declared.rule.FigureRule.{FigureRule}
use Rattle.oasis_figures.specs.declared.rule.FigureRule.TheVariants.{Undefined, Layer, OutOfRange, Magnification, Angle}
use Rattle.oasis_figures.specs.declared.rule.FigureRule.TheVariants.{Extension, Oblique, Path as PathRule}
use Rattle.oasis_stream.specs.Names.{RepeatsNumber}
use Rattle.oasis_stream.specs.Order.{names_in}
use Rattle.oasis_stream.specs.Rules.{since_cell, NameBreaches, NamingBreaches, RecordBreaches, KeepsRules}
use Rattle.oasis_stream.specs.declared.fault.NameRule.{NameRule}
use Rattle.oasis_stream.specs.declared.fault.NameRule.TheVariants.{Mixed, NumberTwice, NameTwice}
use Rattle.oasis_stream.specs.declared.fault.OasisKind.{OasisKind}
use Rattle.oasis_stream.specs.declared.fault.OasisKind.TheVariants.{Name, Figure}
use Rattle.lvl_path.proofs.Lowest.{one_lowest}

path_once : (ignore : Ignore) (earlier : List ARecord) (r : ARecord) (f g : PathFault) → HasPathFault ignore earlier r f
    → HasPathFault ignore earlier r g → f ≡ g
path_once ignore earlier (Path p) f g x y =
    let rs = Path p ∷ earlier in
    one_lowest (asked ignore.points (path_points rs)) _ f g x y
path_once ignore earlier _ f g x y = absurd x

-- rules with the same position in the order of tests are the same rule
same_rule : (ignore : Ignore) (earlier : List ARecord) (r : ARecord) (f g : FigureRule) → order f ≡ order g
    → Breaks ignore earlier r f
    → Breaks ignore earlier r g → f ≡ g
same_rule ignore earlier r (Undefined v) (Undefined w) e x y = (let z : Some v ≡ Some w = sym x ∙ y in cc)
same_rule ignore earlier r Layer Layer e x y = refl
same_rule ignore earlier r OutOfRange OutOfRange e x y = refl
same_rule ignore earlier r Magnification Magnification e x y = refl
same_rule ignore earlier r Angle Angle e x y = refl
same_rule ignore earlier r Extension Extension e x y = refl
same_rule ignore earlier r Oblique Oblique e x y = refl
same_rule ignore earlier r (PathRule f) (PathRule g) e x y = ap (λ (i : PathFault). PathRule i)
    (path_once ignore earlier r f g x y)
same_rule ignore earlier r f g e x y = absurd (omega (arith, e))

figure_once : (ignore : Ignore) (earlier : List ARecord) (r : ARecord) (f g : FigureRule)
    → FigureBreaches ignore earlier r f
    → FigureBreaches ignore earlier r g → f ≡ g
figure_once ignore earlier r f g x y =
    let below : order f < order g → ⊥ = λ l. y.first f l x.broken in
    let above : order g < order f → ⊥ = λ l. x.first g l y.broken in
    same_rule ignore earlier r f g (omega (arith, below, above)) x.broken y.broken

-- a name draws nothing
name_draws : (ignore : Ignore) (earlier : List ARecord) (c : AName) (f : FigureRule)
    → Breaks ignore earlier (CellName c) f → ⊥
name_draws ignore earlier c (Undefined v) x = cc
name_draws ignore earlier c _ x = x

-- which rule a name breaches
name_rule : (names : List AName) (c : AName) (k : NameRule) → NameBreaches names c k
    → ((k ≡ NumberTwice) × RepeatsNumber names c) ⊎ ((k ≡ NameTwice) × ¬ RepeatsNumber names c)
name_rule names c NumberTwice b = inl (refl, b)
name_rule names c NameTwice b = inr (refl, b.0)
name_rule names c Mixed b = absurd b

name_once : (names : List AName) (c : AName) (j k : NameRule) → NameBreaches names c j → NameBreaches names c k → j ≡ k
name_once names c j k p q = elim (name_rule names c j p) [
  | inl a ↦ elim (name_rule names c k q) [
    | inl b ↦ a.0 ∙ sym b.0
    | inr b ↦ absurd (b.1 a.1)
  ]
  | inr a ↦ elim (name_rule names c k q) [
    | inl b ↦ absurd (a.1 b.1)
    | inr b ↦ a.0 ∙ sym b.0
  ]
]

-- a rule of names is breached by a name
record IsNaming (names : List AName) (r : ARecord) (k : NameRule) : Type 0 where
  cell_name : AName
  is : r ≡ CellName cell_name
  breached : NameBreaches names cell_name k

naming : (names : List AName) (r : ARecord) (k : NameRule) → NamingBreaches names r k → IsNaming names r k
naming names (CellName c) k b = record { cell_name = c; is = refl; breached = b }
naming names _ k b = absurd b

same_name : (a b : AName) → CellName a ≡ CellName b → a ≡ b
same_name a b e = cc

naming_once : (names : List AName) (r : ARecord) (j k : NameRule) → NamingBreaches names r j → NamingBreaches names r k
    → j ≡ k
naming_once names r j k p q =
    let a = naming names r j p in
    let b = naming names r k q in
    let e = same_name b.cell_name a.cell_name (sym b.is ∙ a.is) in
    name_once names a.cell_name j k a.breached (subst (λ (c : AName). NameBreaches names c k) e b.breached)

naming_alone : (ignore : Ignore) (names : List AName) (earlier : List ARecord) (r : ARecord) (k : NameRule)
    (f : FigureRule)
    → NamingBreaches names r k → FigureBreaches ignore earlier r f → ⊥
naming_alone ignore names earlier r k f p q =
    let a = naming names r k p in
    name_draws ignore earlier a.cell_name f (subst (λ (i : ARecord). Breaks ignore earlier i f) a.is q.broken)

-- a rule of names or of figures is breached
abbrev IsEither : Profile → List ARecord → ARecord → OasisKind → Type 0
IsEither profile rs r k =
    ((j : NameRule) × (k ≡ Name j) × NamingBreaches (names_in rs) r j)
    ⊎ ((f : FigureRule) × (k ≡ Figure f) × FigureBreaches profile.ignore (since_cell rs) r f)

either_rule : (profile : Profile) (rs : List ARecord) (r : ARecord) (k : OasisKind) → RecordBreaches profile rs r k
    → IsEither profile rs r k
either_rule profile rs r (Name j) b = inl (j, refl, b)
either_rule profile rs r (Figure f) b = inr (f, refl, b)
either_rule profile rs r _ b = absurd b

pub record_once : (profile : Profile) (rs : List ARecord) (r : ARecord) (j k : OasisKind)
    → RecordBreaches profile rs r j → RecordBreaches profile rs r k
    → j ≡ k
record_once profile rs r j k p q = elim (either_rule profile rs r j p) [
  | inl a ↦ elim (either_rule profile rs r k q) [
    | inl b ↦ a.1 ∙ ap Name (naming_once (names_in rs) r a.0 b.0 a.2 b.2) ∙ sym b.1
    | inr b ↦ absurd (naming_alone profile.ignore (names_in rs) (since_cell rs) r a.0 b.0 a.2 b.2)
  ]
  | inr a ↦ elim (either_rule profile rs r k q) [
    | inl b ↦ absurd (naming_alone profile.ignore (names_in rs) (since_cell rs) r b.0 a.0 b.2 a.2)
    | inr b ↦ a.1 ∙ ap Figure (figure_once profile.ignore (since_cell rs) r a.0 b.0 a.2 b.2) ∙ sym b.1
  ]
]

-- a record that breaches no rule breaches none
pub record_keeps : (profile : Profile) (rs : List ARecord) (r : ARecord) (k : OasisKind) → KeepsRules profile rs r
    → RecordBreaches profile rs r k → ⊥
record_keeps profile rs r (Name j) g b = g.0 j b
record_keeps profile rs r (Figure j) g b = g.1 j b.broken
record_keeps profile rs r _ g b = b

-- a block by itself draws nothing
block_draws : (ignore : Ignore) (earlier : List ARecord) (p : Packed) (f : FigureRule)
    → Breaks ignore earlier (Block p) f → ⊥
block_draws ignore earlier p (Undefined v) x = (let z : None ≡ Some v = x in cc)
block_draws ignore earlier p (PathRule f) x = x
block_draws ignore earlier p _ x = x

-- and breaches no rule of records
pub block_keeps : (profile : Profile) (rs : List ARecord) (p : Packed) (k : OasisKind)
    → RecordBreaches profile rs (Block p) k → ⊥
block_keeps profile rs p (Name j) b = b
block_keeps profile rs p (Figure f) b = block_draws profile.ignore (since_cell rs) p f b.broken
block_keeps profile rs p _ b = b
