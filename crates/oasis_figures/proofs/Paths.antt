-- Paths: their values.
use Rattle.std.proofs.Common.{◌≡◌, ◌∙◌, ℕ, Bool, true, false, List, ◌∷◌, Option, Some, None, refl, sym, ap, subst, ℤ}
use Rattle.std.specs.Prelude.{is_some, if◌then◌else◌, option_map}
use Rattle.std.specs.Option.{option_or, option_and_then}
use Rattle.lvl_grid.specs.Turn.{FitsPoint}
use Rattle.lvl_grid.specs.declared.point.Point.{Point}
use Rattle.lvl_profile.specs.declared.ignore.Ignore.{Ignore}
use Rattle.oasis_records.specs.declared.path.Ends.{Ends}
use Rattle.oasis_records.specs.declared.path.Path.{Path}
use Rattle.oasis_records.specs.declared.record.Record.{Record}
use Rattle.oasis_figures.specs.Figures.{layer_by}
use Rattle.oasis_figures.specs.Keeping.{StandsFor}
use Rattle.oasis_figures.specs.Modal.{modal, moved, extended, layer_set, datatype_set, half_width_set}
use Rattle.oasis_figures.specs.Modal.{start_set, end_set}
use Rattle.oasis_figures.specs.Rules.{AreNarrow, Breaches, is_defined, taken, of_repetition, first_undefined}
use Rattle.oasis_figures.specs.declared.extension.Extent.{Extent}
use Rattle.oasis_figures.specs.declared.modal.Modal.{Modal}
use Rattle.oasis_figures.specs.declared.path.Resolved.{Resolved}
use Rattle.oasis_figures.specs.declared.path.Stroke.{Stroke}
use Rattle.oasis_figures.specs.declared.rule.FigureRule.TheVariants.{Undefined, Layer as WideLayer, OutOfRange}
use Rattle.oasis_figures.specs.declared.variable.Variable.{Variable}
use Rattle.oasis_figures.specs.declared.variable.Variable.TheVariants.{Layer as TheLayer, Datatype, PathHalfWidth}
use Rattle.oasis_figures.specs.declared.variable.Variable.TheVariants.{PathPointList}
use Rattle.oasis_figures.specs.declared.variable.Variable.TheVariants.{PathStartExtension, PathEndExtension}
use Rattle.oasis_figures.specs.declared.variable.Variable.TheVariants.{Repetition as TheRepetition}
use Rattle.oasis_figures.specs.inside.Extents.{extent, ends_of}
use Rattle.oasis_figures.specs.inside.Known.{AreDefined, IsKnown}
use Rattle.oasis_figures.specs.inside.Paths.{a_path, IsStroke, IsResolved}
use Rattle.oasis_figures.specs.inside.Repeating.{is_known}
use Rattle.oasis_figures.proofs.Defined.{later, next, known, unknown, undefined_breached, wide_breached}
use Rattle.oasis_figures.proofs.Defined.{range_breached, narrow_at, narrow_from, repeated, position_after}

abbrev all : List Record → Path → List Record
all earlier p = a_path p ∷ earlier

-- whether the record has a point list, or the modal one is defined
abbrev pub has_list : Modal → Path → Bool
has_list m p = is_some (option_or p.points (option_map (λ v. v.items) m.path))

abbrev defined : List Record → Path → Variable → Bool
defined earlier p = is_defined (all earlier p)

-- the ends of a record give the extensions of its ends as they are read
start_of_ends : (half : Option ℕ) (h : ℕ) (ends : Option Ends) → half ≡ Some h
    → option_and_then (λ e. extended half e.start) ends ≡ extended (Some h) (ends_of ends).start
start_of_ends half h None e = refl
start_of_ends half h (Some ends) e = ap (λ (o : Option ℕ). extended o ends.start) e

end_of_ends : (half : Option ℕ) (h : ℕ) (ends : Option Ends) → half ≡ Some h
    → option_and_then (λ e. extended half e.end) ends ≡ extended (Some h) (ends_of ends).end
end_of_ends half h None e = refl
end_of_ends half h (Some ends) e = ap (λ (o : Option ℕ). extended o ends.end) e

some_mapped : (o : Option ℤ) (x : Extent) → option_map extent o ≡ Some x → is_some o ≡ true
some_mapped None x e = cc
some_mapped (Some z) x e = refl

-- what the records give, by the values of the variables
layer_at : (m : Modal) (earlier : List Record) (p : Path) (t : Stroke) → StandsFor m earlier → IsStroke m p t
    → modal layer_set (all earlier p) ≡ Some t.layer
layer_at m earlier p t s a = later p.on.layer s.layer a.layer

datatype_at : (m : Modal) (earlier : List Record) (p : Path) (t : Stroke) → StandsFor m earlier → IsStroke m p t
    → modal datatype_set (all earlier p) ≡ Some t.datatype
datatype_at m earlier p t s a = later p.on.datatype s.datatype a.datatype

half_at : (m : Modal) (earlier : List Record) (p : Path) (t : Stroke) → StandsFor m earlier → IsStroke m p t
    → modal half_width_set (all earlier p) ≡ Some t.half
half_at m earlier p t s a = later p.half_width s.half_width a.half

start_at : (m : Modal) (earlier : List Record) (p : Path) (t : Stroke) → StandsFor m earlier → IsStroke m p t
    → option_map extent (modal start_set (all earlier p)) ≡ Some t.start
start_at m earlier p t s a =
    let given = start_of_ends (modal half_width_set (all earlier p)) t.half p.ends (half_at m earlier p t s a) in
    let here = ap (λ (o : Option ℤ). option_or o (modal start_set earlier)) given in
    let before = ap (option_or (extended (Some t.half) (ends_of p.ends).start)) (sym s.start) in
    ap (option_map extent) (here ∙ before) ∙ a.start

end_at : (m : Modal) (earlier : List Record) (p : Path) (t : Stroke) → StandsFor m earlier → IsStroke m p t
    → option_map extent (modal end_set (all earlier p)) ≡ Some t.end
end_at m earlier p t s a =
    let given = end_of_ends (modal half_width_set (all earlier p)) t.half p.ends (half_at m earlier p t s a) in
    let here = ap (λ (o : Option ℤ). option_or o (modal end_set earlier)) given in
    let before = ap (option_or (extended (Some t.half) (ends_of p.ends).end)) (sym s.end) in
    ap (option_map extent) (here ∙ before) ∙ a.end

-- the variables before the point list are defined
stroke_known : (m : Modal) (earlier : List Record) (p : Path) (t : Stroke) (vs : List Variable) {o : Option Variable}
    → StandsFor m earlier
    → IsStroke m p t → first_undefined (defined earlier p) vs ≡ o
    → first_undefined (defined earlier p) (TheLayer ∷ Datatype ∷ PathHalfWidth ∷ PathStartExtension ∷ PathEndExtension
    ∷ vs) ≡ o
stroke_known m earlier p t vs s a q =
    let f = defined earlier p in
    let ends = next f PathEndExtension vs
    (some_mapped (modal end_set (all earlier p)) t.end (end_at m earlier p t s a)) q in
    let starts = next f PathStartExtension (PathEndExtension ∷ vs)
    (some_mapped (modal start_set (all earlier p)) t.start (start_at m earlier p t s a)) ends in
    let half = next f PathHalfWidth (PathStartExtension ∷ PathEndExtension ∷ vs)
    (ap is_some (half_at m earlier p t s a)) starts in
    let datatype = next f Datatype (PathHalfWidth ∷ PathStartExtension ∷ PathEndExtension ∷ vs)
    (ap is_some (datatype_at m earlier p t s a)) half in
    next f TheLayer (Datatype ∷ PathHalfWidth ∷ PathStartExtension ∷ PathEndExtension ∷ vs)
    (ap is_some (layer_at m earlier p t s a)) datatype

pub list_unknown : (ignore : Ignore) (m : Modal) (earlier : List Record) (p : Path) (t : Stroke) → StandsFor m earlier
    → IsStroke m p t
    → has_list m p ≡ false → Breaches ignore earlier (a_path p) (Undefined PathPointList)
list_unknown ignore m earlier p t s a k =
    let f = defined earlier p in
    let vs = of_repetition p.position.repetition in
    let here = ap (λ (o : Option (List Point)). is_some (option_or p.points o)) (sym s.path) ∙ k in
    undefined_breached ignore earlier (a_path p) PathPointList
    (stroke_known m earlier p t (PathPointList ∷ vs) s a
    (ap (λ (b : Bool). if b then first_undefined f vs else Some PathPointList) here))

-- so does the point list
list_known : (m : Modal) (earlier : List Record) (p : Path) (t : Stroke) {o : Option Variable} → StandsFor m earlier
    → IsStroke m p t
    → has_list m p ≡ true → first_undefined (defined earlier p) (of_repetition p.position.repetition) ≡ o
    → first_undefined (defined earlier p) (taken (a_path p)) ≡ o
list_known m earlier p t s a k q =
    let vs = of_repetition p.position.repetition in
    let here = ap (λ (o : Option (List Point)). is_some (option_or p.points o)) (sym s.path) ∙ k in
    stroke_known m earlier p t (PathPointList ∷ vs) s a (next (defined earlier p) PathPointList vs here q)

pub repetition_unknown : (ignore : Ignore) (m : Modal) (earlier : List Record) (p : Path) (t : Stroke)
    → StandsFor m earlier
    → IsStroke m p t
    → has_list m p ≡ true → is_known p.position.repetition m.repetition ≡ false
    → Breaches ignore earlier (a_path p) (Undefined TheRepetition)
repetition_unknown ignore m earlier p t s a k n =
    let none = unknown (defined earlier p) p.position.repetition m.repetition (repeated m earlier (a_path p) s) n in
    undefined_breached ignore earlier (a_path p) TheRepetition (list_known m earlier p t s a k none)

pub all_defined : (m : Modal) (earlier : List Record) (p : Path) (t : Stroke) → StandsFor m earlier → IsStroke m p t
    → has_list m p ≡ true → is_known p.position.repetition m.repetition ≡ true → AreDefined earlier (a_path p)
all_defined m earlier p t s a k n =
    list_known m earlier p t s a k
    (known (defined earlier p) p.position.repetition m.repetition (repeated m earlier (a_path p) s) n)

pub layer_wide : (ignore : Ignore) (m : Modal) (earlier : List Record) (p : Path) (t : Stroke) → StandsFor m earlier
    → IsStroke m p t
    → AreDefined earlier (a_path p) → ¬ AreNarrow t.layer t.datatype → Breaches ignore earlier (a_path p) WideLayer
layer_wide ignore m earlier p t s a d n =
    let layer = modal layer_set (all earlier p) in
    let datatype = modal datatype_set (all earlier p) in
    wide_breached ignore earlier (a_path p) d
    (λ w. n (narrow_from layer datatype t.layer t.datatype (layer_at m earlier p t s a) (datatype_at m earlier p t s a)
    w))

pub all_known : (m : Modal) (earlier : List Record) (p : Path) (t : Stroke) → StandsFor m earlier → IsStroke m p t
    → AreDefined earlier (a_path p) → AreNarrow t.layer t.datatype → IsKnown earlier (a_path p)
all_known m earlier p t s a d n =
    let layer = modal layer_set (all earlier p) in
    let datatype = modal datatype_set (all earlier p) in
    let narrow = narrow_at layer datatype t.layer t.datatype (layer_at m earlier p t s a)
    (datatype_at m earlier p t s a) n in
    record {
      defined = d;
      narrow = λ out. out narrow;
    }

pub position_out : (ignore : Ignore) (m : Modal) (earlier : List Record) (p : Path) → StandsFor m earlier
    → IsKnown earlier (a_path p)
    → ¬ FitsPoint (moved m.geometry p.position.x p.position.y m.is_relative)
    → Breaches ignore earlier (a_path p) OutOfRange
position_out ignore m earlier p s k n =
    range_breached ignore earlier (a_path p) k (λ h. n (subst FitsPoint (position_after m earlier (a_path p) s) h.0))

pub resolved : (m : Modal) (earlier : List Record) (p : Path) (v : Resolved) → StandsFor m earlier
    → IsStroke m p v.stroke
    → IsKnown earlier (a_path p) → v.on ≡ layer_by v.stroke.layer v.stroke.datatype → FitsPoint v.at
    → v.at ≡ moved m.geometry p.position.x p.position.y m.is_relative → IsResolved earlier p v
resolved m earlier p v s a k on fits at = record {
  layer = layer_at m earlier p v.stroke s a;
  datatype = datatype_at m earlier p v.stroke s a;
  half = half_at m earlier p v.stroke s a;
  start = start_at m earlier p v.stroke s a;
  end = end_at m earlier p v.stroke s a;
  on = on;
  at = position_after m earlier (a_path p) s ∙ sym at;
  fits = fits;
  known = k;
}
