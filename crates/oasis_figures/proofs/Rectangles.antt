-- Rectangles: their values, the rules that they breach, and what they draw.
use Rattle.std.proofs.Common.{◌≡◌, ◌∙◌, ℕ, zero, suc, Bool, true, List, ◌∷◌, Option, Some, sym, ap, subst, arith, pos}
use Rattle.std.specs.Prelude.{is_some, if◌then◌else◌, All}
use Rattle.std.specs.Option.{option_or}
use Rattle.lvl_grid.specs.Turn.{FitsPoint, shifted}
use Rattle.lvl_grid.specs.Winding.{rectangle_between}
use Rattle.lvl_grid.specs.declared.point.Point.{Point}
use Rattle.lvl_profile.specs.declared.ignore.Ignore.{Ignore}
use Rattle.oasis_values.specs.Deltas.{to}
use Rattle.oasis_records.specs.declared.record.Record.{Record}
use Rattle.oasis_records.specs.declared.rectangle.Rectangle.{Rectangle}
use Rattle.oasis_figures.specs.Figures.{number, layer_by, rectangle_ring}
use Rattle.oasis_figures.specs.Keeping.{StandsFor}
use Rattle.oasis_figures.specs.Modal.{modal, moved, layer_set, datatype_set, width_set, height_set, geometry}
use Rattle.oasis_figures.specs.Rules.{AreNarrow, IsWide, is_defined, taken, of_repetition, first_undefined}
use Rattle.oasis_figures.specs.declared.modal.Modal.{Modal}
use Rattle.oasis_figures.specs.declared.rectangle.Resolved.{Resolved}
use Rattle.oasis_figures.specs.declared.rule.FigureRule.TheVariants.{Undefined, Layer as WideLayer, OutOfRange}
use Rattle.oasis_figures.specs.declared.variable.Variable.{Variable}
use Rattle.oasis_figures.specs.declared.variable.Variable.TheVariants.{Layer as TheLayer, Datatype, GeometryW}
use Rattle.oasis_figures.specs.declared.variable.Variable.TheVariants.{GeometryH}
use Rattle.oasis_figures.specs.inside.Rectangles.{a_rectangle, IsResolved}
use Rattle.oasis_figures.specs.inside.Repeating.{is_known}
use Rattle.oasis_figures.proofs.Defined.{later, next, known, BreaksNoLater, no_rule, narrow_at, repeated}
use Rattle.oasis_figures.proofs.Defined.{position_after}
use Rattle.oasis_figures.specs.inside.Known.{AreDefined}

-- the variables that are needed after the layer, the datatype, the width and the height
abbrev tail_4 : Rectangle → List Variable
tail_4 r = of_repetition r.position.repetition

-- the records with the rectangle
abbrev all : List Record → Rectangle → List Record
all earlier r = a_rectangle r ∷ earlier

abbrev defined : List Record → Rectangle → Variable → Bool
defined earlier r = is_defined (all earlier r)

-- the layer and the datatype are known
on_known : (m : Modal) (earlier : List Record) (r : Rectangle) (l d : ℕ) (vs : List Variable) {o : Option Variable}
    → StandsFor m earlier
    → option_or r.on.layer m.layer ≡ Some l → option_or r.on.datatype m.datatype ≡ Some d
    → first_undefined (defined earlier r) vs ≡ o
    → first_undefined (defined earlier r) (TheLayer ∷ Datatype ∷ vs) ≡ o
on_known m earlier r l d vs s a b q =
    next (defined earlier r) TheLayer (Datatype ∷ vs) (ap is_some (later r.on.layer s.layer a))
    (next (defined earlier r) Datatype vs (ap is_some (later r.on.datatype s.datatype b)) q)

-- the height that a rectangle of that width has
pub height_after : (m : Modal) (earlier : List Record) (r : Rectangle) (w : ℕ) (z : Option ℕ) → StandsFor m earlier
    → option_or r.width m.width ≡ Some w
    → option_or (if r.is_square then Some w else r.height) m.height ≡ z → modal height_set (all earlier r) ≡ z
height_after m earlier r w z s e q =
    ap (λ (o : Option ℕ). option_or (if r.is_square then o else r.height) (modal height_set earlier))
    (later r.width s.width e)
    ∙ later (if r.is_square then Some w else r.height) s.height q

-- the width that a rectangle has
width_known : (m : Modal) (earlier : List Record) (r : Rectangle) (l d w : ℕ) (vs : List Variable)
    {o : Option Variable} → StandsFor m earlier
    → option_or r.on.layer m.layer ≡ Some l → option_or r.on.datatype m.datatype ≡ Some d
    → option_or r.width m.width ≡ Some w
    → first_undefined (defined earlier r) vs ≡ o
    → first_undefined (defined earlier r) (TheLayer ∷ Datatype ∷ GeometryW ∷ vs) ≡ o
width_known m earlier r l d w vs s a b e q =
    on_known m earlier r l d (GeometryW ∷ vs) s a b
    (next (defined earlier r) GeometryW vs (ap is_some (later r.width s.width e)) q)

-- the values that are known before the repetition
pub record AreValues (m : Modal) (r : Rectangle) (l d w h : ℕ) : Type 0 where
  pub layer : option_or r.on.layer m.layer ≡ Some l
  pub datatype : option_or r.on.datatype m.datatype ≡ Some d
  pub width : option_or r.width m.width ≡ Some w
  pub height : option_or (if r.is_square then Some w else r.height) m.height ≡ Some h

size_known : (m : Modal) (earlier : List Record) (r : Rectangle) (l d w h : ℕ) {o : Option Variable}
    → StandsFor m earlier → AreValues m r l d w h
    → first_undefined (defined earlier r) (of_repetition r.position.repetition) ≡ o
    → first_undefined (defined earlier r) (taken (a_rectangle r)) ≡ o
size_known m earlier r l d w h s v q =
    width_known m earlier r l d w (GeometryH ∷ of_repetition r.position.repetition) s v.layer v.datatype v.width
    (next (defined earlier r) GeometryH (tail_4 r)
    (ap is_some (height_after m earlier r w (Some h) s v.width v.height)) q)

pub all_defined : (m : Modal) (earlier : List Record) (r : Rectangle) (l d w h : ℕ) → StandsFor m earlier
    → AreValues m r l d w h
    → is_known r.position.repetition m.repetition ≡ true → AreDefined earlier (a_rectangle r)
all_defined m earlier r l d w h s v k =
    size_known m earlier r l d w h s v
    (known (defined earlier r) r.position.repetition m.repetition (repeated m earlier (a_rectangle r) s) k)

layer_at : (m : Modal) (earlier : List Record) (r : Rectangle) (l : ℕ) → StandsFor m earlier
    → option_or r.on.layer m.layer ≡ Some l → modal layer_set (all earlier r) ≡ Some l
layer_at m earlier r l s e = later r.on.layer s.layer e

datatype_at : (m : Modal) (earlier : List Record) (r : Rectangle) (d : ℕ) → StandsFor m earlier
    → option_or r.on.datatype m.datatype ≡ Some d → modal datatype_set (all earlier r) ≡ Some d
datatype_at m earlier r d s e = later r.on.datatype s.datatype e

width_at : (m : Modal) (earlier : List Record) (r : Rectangle) (w : ℕ) → StandsFor m earlier
    → option_or r.width m.width ≡ Some w → modal width_set (all earlier r) ≡ Some w
width_at m earlier r w s e = later r.width s.width e

not_wide : (m : Modal) (earlier : List Record) (r : Rectangle) (l d w h : ℕ) → StandsFor m earlier
    → AreValues m r l d w h → AreNarrow l d → ¬ IsWide (all earlier r)
not_wide m earlier r l d w h s v n =
    λ out. out (narrow_at (modal layer_set (all earlier r)) (modal datatype_set (all earlier r)) l d
    (layer_at m earlier r l s v.layer) (datatype_at m earlier r d s v.datatype) n)

all_fit : (low high : Point) → FitsPoint low → FitsPoint high → All FitsPoint (rectangle_between low high)
all_fit low high a b zero d lt = a
all_fit low high a b (suc zero) d lt = record { x_fits = b.x_fits; y_fits = a.y_fits }
all_fit low high a b (suc (suc zero)) d lt = b
all_fit low high a b (suc (suc (suc zero))) d lt = record { x_fits = a.x_fits; y_fits = b.y_fits }
all_fit low high a b (suc (suc (suc (suc k)))) d lt = absurd (omega (arith, lt))

abbrev pub corner : Point → ℕ → ℕ → Point
corner low w h = shifted (to (pos w) (pos h)) low

abbrev ring : Point → Option ℕ → Option ℕ → List Point
ring low a b = rectangle_between low (corner low (number a) (number b))

pub ring_at : (low p : Point) (a b : Option ℕ) (w h : ℕ) → p ≡ low → a ≡ Some w → b ≡ Some h
    → ring p a b ≡ rectangle_between low (corner low w h)
ring_at low p a b w h e ea eb =
    ap (λ (q : Point). ring q a b) e ∙ ap (λ (o : Option ℕ). ring low o b) ea
    ∙ ap (λ (o : Option ℕ). ring low (Some w) o) eb

pub ring_of : (m : Modal) (earlier : List Record) (r : Rectangle) (l d w h : ℕ) (low : Point) → StandsFor m earlier
    → AreValues m r l d w h
    → low ≡ moved m.geometry r.position.x r.position.y m.is_relative
    → rectangle_ring (all earlier r) ≡ rectangle_between low (corner low w h)
ring_of m earlier r l d w h low s v e =
    ring_at low (geometry (all earlier r)) (modal width_set (all earlier r)) (modal height_set (all earlier r)) w h
    (position_after m earlier (a_rectangle r) s ∙ sym e) (width_at m earlier r w s v.width)
    (height_after m earlier r w (Some h) s v.width v.height)

no_later : (ignore : Ignore) (earlier : List Record) (r : Rectangle) → BreaksNoLater ignore earlier (a_rectangle r)
no_later ignore earlier r (Undefined v) lt b = omega (arith, lt)
no_later ignore earlier r WideLayer lt b = omega (arith, lt)
no_later ignore earlier r OutOfRange lt b = omega (arith, lt)
no_later ignore earlier r _ lt b = b

pub resolved : (m : Modal) (earlier : List Record) (r : Rectangle) (v : Resolved) → StandsFor m earlier
    → AreValues m r v.layer v.datatype v.width v.height
    → is_known r.position.repetition m.repetition ≡ true → AreNarrow v.layer v.datatype
    → v.on ≡ layer_by v.layer v.datatype
    → FitsPoint v.low → v.low ≡ moved m.geometry r.position.x r.position.y m.is_relative
    → FitsPoint v.high → v.high ≡ corner v.low v.width v.height → IsResolved earlier r v
resolved m earlier r v s a k n on low_fit low high_fit high = record {
  layer = layer_at m earlier r v.layer s a.layer;
  datatype = datatype_at m earlier r v.datatype s a.datatype;
  width = width_at m earlier r v.width s a.width;
  height = height_after m earlier r v.width (Some v.height) s a.width a.height;
  on = on;
  low = position_after m earlier (a_rectangle r) s ∙ sym low;
  high = high;
  none = λ ignore. no_rule ignore earlier (a_rectangle r)
      (all_defined m earlier r v.layer v.datatype v.width v.height s a k)
      (not_wide m earlier r v.layer v.datatype v.width v.height s a n)
      (λ out. out (subst (λ (ps : List Point). All FitsPoint ps)
      (sym (ring_of m earlier r v.layer v.datatype v.width v.height v.low s a low))
      (all_fit v.low (corner v.low v.width v.height) low_fit (subst FitsPoint high high_fit))))
      (no_later ignore earlier r);
}
