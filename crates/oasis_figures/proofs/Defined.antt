-- Which variable that a record needs is the first undefined one.
use Rattle.std.proofs.Common.{◌≡◌, ◌∙◌, ◌<◌, ℕ, Bool, true, false, List, [], ◌∷◌, Option, Some, None, refl, sym, ap}
use Rattle.std.proofs.Common.{subst, arith}
use Rattle.std.specs.Prelude.{is_some, if◌then◌else◌}
use Rattle.std.specs.Option.{option_or}
use Rattle.lvl_grid.specs.declared.point.Point.{Point}
use Rattle.lvl_profile.specs.declared.ignore.Ignore.{Ignore}
use Rattle.oasis_values.specs.declared.repetition.Repetition.{Repetition}
use Rattle.oasis_values.specs.declared.repetition.Repetition.TheVariants.{Modal as Same, New}
use Rattle.oasis_records.specs.declared.record.Record.{Record}
use Rattle.oasis_figures.specs.Figures.{number}
use Rattle.oasis_figures.specs.Keeping.{StandsFor}
use Rattle.oasis_figures.specs.Modal.{listed, moved, repetition_of, geometry, geometry_x, geometry_y}
use Rattle.oasis_figures.specs.Rules.{first_undefined, is_defined, taken, of_repetition, Breaks, Breaches, AreNarrow}
use Rattle.oasis_figures.specs.Rules.{order, HasWideLayer, LeavesRange, BreachesNone}
use Rattle.oasis_figures.specs.declared.modal.Modal.{Modal}
use Rattle.oasis_figures.specs.declared.rule.FigureRule.{FigureRule}
use Rattle.oasis_figures.specs.declared.rule.FigureRule.TheVariants.{Undefined, Layer as WideLayer, OutOfRange}
use Rattle.oasis_figures.specs.declared.rule.FigureRule.TheVariants.{Magnification, Angle, Extension, Oblique, Path}
use Rattle.oasis_figures.specs.declared.variable.Variable.{Variable}
use Rattle.oasis_figures.specs.declared.variable.Variable.TheVariants.{Repetition as TheRepetition}
use Rattle.oasis_figures.specs.inside.Known.{AreDefined, IsKnown}
use Rattle.oasis_figures.specs.inside.Repeating.{is_known}

-- a variable that the record sets, or else an earlier one
pub later : {A : Type 0} (given : Option A) {x y z : Option A} → x ≡ y → option_or given x ≡ z → option_or given y ≡ z
later given e q = ap (option_or given) (sym e) ∙ q

pub next : (d : Variable → Bool) (v : Variable) (vs : List Variable) {o : Option Variable} → d v ≡ true
    → first_undefined d vs ≡ o → first_undefined d (v ∷ vs) ≡ o
next d v vs e q = ap (λ (b : Bool). if b then first_undefined d vs else Some v) e ∙ q

untrue : true ≡ false → ⊥
untrue h = cc

none_some : {A : Type 0} {x : A} → None ≡ Some x → ⊥
none_some h = cc

pub known : (d : Variable → Bool) (rep : Option Repetition) (shifts : Option (List Point))
    → d TheRepetition ≡ is_some (option_or (listed rep) shifts)
    → is_known rep shifts ≡ true → first_undefined d (of_repetition rep) ≡ None
known d None shifts e k = refl
known d (Some Same) shifts e k = next d TheRepetition [] (e ∙ k) refl
known d (Some (New s)) shifts e k = next d TheRepetition [] e refl

-- the rules that are tested after OutOfRange
abbrev pub BreaksNoLater : Ignore → List Record → Record → Type 0
BreaksNoLater ignore earlier r = (rule : FigureRule) → 2 < order rule → ¬ Breaks ignore earlier r rule

pub no_rule : (ignore : Ignore) (earlier : List Record) (r : Record) → AreDefined earlier r → ¬ HasWideLayer earlier r
    → ¬ LeavesRange earlier r → BreaksNoLater ignore earlier r → BreachesNone ignore earlier r
no_rule ignore earlier r d n m k (Undefined v) b = none_some (sym d ∙ b)
no_rule ignore earlier r d n m k WideLayer b = n b
no_rule ignore earlier r d n m k OutOfRange b = m b
no_rule ignore earlier r d n m k Magnification b = k Magnification (omega arith) b
no_rule ignore earlier r d n m k Angle b = k Angle (omega arith) b
no_rule ignore earlier r d n m k Extension b = k Extension (omega arith) b
no_rule ignore earlier r d n m k Oblique b = k Oblique (omega arith) b
no_rule ignore earlier r d n m k (Path f) b = k (Path f) (omega arith) b

-- a record whose values are known breaches no rule before OutOfRange
pub known_first : (ignore : Ignore) (earlier : List Record) (r : Record) → IsKnown earlier r → (other : FigureRule)
    → order other < 2
    → ¬ Breaks ignore earlier r other
known_first ignore earlier r k (Undefined v) lt b = none_some (sym k.defined ∙ b)
known_first ignore earlier r k WideLayer lt b = k.narrow b
known_first ignore earlier r k _ lt b = omega (arith, lt)

-- the modal repetition is needed, and undefined
pub unknown : (d : Variable → Bool) (rep : Option Repetition) (shifts : Option (List Point))
    → d TheRepetition ≡ is_some (option_or (listed rep) shifts)
    → is_known rep shifts ≡ false → first_undefined d (of_repetition rep) ≡ Some TheRepetition
unknown d None shifts e k = absurd (untrue k)
unknown d (Some Same) shifts e k = ap (λ (b : Bool). if b then None else Some TheRepetition) (e ∙ k)
unknown d (Some (New s)) shifts e k = absurd (untrue k)

pub undefined_breached : (ignore : Ignore) (earlier : List Record) (r : Record) (v : Variable)
    → first_undefined (is_defined (r ∷ earlier)) (taken r) ≡ Some v → Breaches ignore earlier r (Undefined v)
undefined_breached ignore earlier r v e = record { broken = e; first = λ other lt. absurd (omega (arith, lt)) }

-- what the repetition of a record does to the variable
pub repeated : (m : Modal) (earlier : List Record) (r : Record) → StandsFor m earlier
    → is_defined (r ∷ earlier) TheRepetition ≡ is_some (option_or (listed (repetition_of r)) m.repetition)
repeated m earlier r s =
    ap (λ (o : Option (List Point)). is_some (option_or (listed (repetition_of r)) o)) (sym s.repetition)

-- the position of a figure
pub position_after : (m : Modal) (earlier : List Record) (r : Record) → StandsFor m earlier
    → geometry (r ∷ earlier) ≡ moved m.geometry (geometry_x r) (geometry_y r) m.is_relative
position_after m earlier r s =
    let before = ap (λ (p : Point). moved p (geometry_x r) (geometry_y r) m.is_relative) s.drawn in
    let mode = ap (λ (b : Bool). moved (geometry earlier) (geometry_x r) (geometry_y r) b) s.relative in
    sym (before ∙ mode)

-- if all variables are defined, no rule before WideLayer is breached
wide_first : (ignore : Ignore) (earlier : List Record) (r : Record) → AreDefined earlier r → (other : FigureRule)
    → order other < 1
    → ¬ Breaks ignore earlier r other
wide_first ignore earlier r d (Undefined v) lt b = none_some (sym d ∙ b)
wide_first ignore earlier r d _ lt b = omega (arith, lt)

pub wide_breached : (ignore : Ignore) (earlier : List Record) (r : Record) → AreDefined earlier r
    → HasWideLayer earlier r
    → Breaches ignore earlier r WideLayer
wide_breached ignore earlier r d w = record { broken = w; first = wide_first ignore earlier r d }

pub range_breached : (ignore : Ignore) (earlier : List Record) (r : Record) → IsKnown earlier r → LeavesRange earlier r
    → Breaches ignore earlier r OutOfRange
range_breached ignore earlier r k w = record { broken = w; first = known_first ignore earlier r k }

-- the layer and the datatype that records give, if they are these
pub narrow_at : (a b : Option ℕ) (l d : ℕ) → a ≡ Some l → b ≡ Some d → AreNarrow l d → AreNarrow (number a) (number b)
narrow_at a b l d ea eb h =
    subst (λ (o : Option ℕ). AreNarrow (number o) (number b)) (sym ea)
    (subst (λ (o : Option ℕ). AreNarrow l (number o)) (sym eb) h)

pub narrow_from : (a b : Option ℕ) (l d : ℕ) → a ≡ Some l → b ≡ Some d → AreNarrow (number a) (number b)
    → AreNarrow l d
narrow_from a b l d ea eb h =
    subst (λ (o : Option ℕ). AreNarrow l (number o)) eb
    (subst (λ (o : Option ℕ). AreNarrow (number o) (number b)) ea h)
