-- What records draw and set, by the values that are known.
use Rattle.std.proofs.Common.{◌≡◌, ◌∙◌, ℕ, List, [], ◌∷◌, Option, Some, None, refl, sym, ap, map}
use Rattle.std.specs.Prelude.{option_map, unwrap_or}
use Rattle.std.specs.Option.{option_or}
use Rattle.std.specs.declared.alloc.Global.{Global}
use Rattle.std.specs.declared.vec.Vec.{Vec}
use Rattle.lvl_cells.specs.Cells.{PlainShape, Rings}
use Rattle.lvl_names.specs.declared.layer.Layer.{Layer}
use Rattle.lvl_grid.specs.Turn.{shifted}
use Rattle.lvl_grid.specs.declared.point.Point.{Point}
use Rattle.oasis_values.specs.declared.repetition.Repetition.{Repetition}
use Rattle.oasis_records.specs.declared.record.Record.{Record}
use Rattle.oasis_figures.specs.Figures.{number, layer_by, layer_of}
use Rattle.oasis_figures.specs.Modal.{modal, listed, layer_set, datatype_set}

abbrev points_of : Option (Vec Point Global) → Option (List Point)
points_of list = option_map (λ l. l.items) list

-- the points of a record, or the modal ones, moved to the position of the record
pub vertices_at : (place at : Point) (given : Option (List Point)) (list before : Option (Vec Point Global))
    (set : Option (List Point))
    (points : List Point) → place ≡ at → points_of list ≡ given → points_of before ≡ set
    → points ≡ unwrap_or (option_or (points_of list) (points_of before)) []
    → map (shifted at) points ≡ map (shifted place) (unwrap_or (option_or given set) [])
vertices_at place at given list before set points e f g h =
    let by_list = ap (λ (o : Option (List Point)). unwrap_or (option_or o (points_of before)) []) f in
    let by_set = ap (λ (o : Option (List Point)). unwrap_or (option_or given o) []) g in
    ap (λ (p : Point). map (shifted p) points) (sym e) ∙ ap (map (shifted place)) (h ∙ by_list ∙ by_set)

-- the layer and the datatype that records give make the Layer of what they draw
pub layer_is : (records : List Record) (l d : ℕ) (on : Layer) → modal layer_set records ≡ Some l
    → modal datatype_set records ≡ Some d
    → on ≡ layer_by l d → on ≡ layer_of records
layer_is records l d on a b e =
    let by_layer = ap (λ (o : Option ℕ). layer_by (number o) (number (modal datatype_set records))) a in
    let by_datatype = ap (λ (o : Option ℕ). layer_by l (number o)) b in
    e ∙ sym (by_layer ∙ by_datatype)

abbrev shape_by : Layer → List (List Point) → List Point → PlainShape Rings
shape_by on rings shifts = record { layer = on; figure = rings; shifts = shifts }

pub shape_is : (on on' : Layer) (rings rings' : List (List Point)) (shifts : List Point) → on ≡ on' → rings ≡ rings'
    → shape_by on rings shifts ∷ [] ≡ shape_by on' rings' shifts ∷ []
shape_is on on' rings rings' shifts e f =
    ap (λ (l : Layer). shape_by l rings shifts ∷ []) e ∙ ap (λ (rs : List (List Point)). shape_by on' rs shifts ∷ []) f

points_or : (a b : Option (Vec Point Global)) → points_of (option_or a b) ≡ option_or (points_of a) (points_of b)
points_or None b = refl
points_or (Some v) b = refl

-- the list that a record has, or else the one before, is kept
pub list_kept : (given set : Option (List Point)) (list before taken after : Option (Vec Point Global))
    → points_of list ≡ given
    → taken ≡ before → after ≡ option_or list taken → points_of before ≡ set → points_of after ≡ option_or given set
list_kept given set list before taken after e f g h =
    let by_list = ap (λ (o : Option (List Point)). option_or o (points_of before)) e in
    ap points_of (g ∙ ap (option_or list) f) ∙ points_or list before ∙ by_list ∙ ap (option_or given) h

pub repetition_kept : (given : Option Repetition) (set before taken after : Option (List Point)) → taken ≡ before
    → after ≡ option_or (listed given) taken → before ≡ set → after ≡ option_or (listed given) set
repetition_kept given set before taken after f g h = g ∙ ap (option_or (listed given)) (f ∙ h)
