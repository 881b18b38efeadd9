-- Shapes drawn one after another, each on the sheet of its Layer.
use Rattle.std.proofs.Common.{◌≡◌, ◌≢◌, ◌<◌, ◌+◌, ◌*◌, ℕ, zero, suc, cond, List, [], ◌∷◌, length, sum_by}
use Rattle.std.proofs.Common.{get_or, set, take, map, slice_get, Some, All, Contains, refl, sym, ap, subst, ◌∙◌, arith}
use Rattle.std.proofs.lemmas.List.{get_or-map, length-map}
use Rattle.std.proofs.lemmas.List.Elements.{All-map, All-contains}
use Rattle.std.proofs.lemmas.List.Sums.{sum_by_more}
use Rattle.lvl_names.specs.declared.layer.Layer.{Layer}
use Rattle.lvl_names.specs.Layers.{ComesBefore, same_layer}
use Rattle.lvl_cells.specs.Cells.{PlainShape, Rings}
use Rattle.lvl_flat.specs.inside.Drawn.{rings_of}
use Rattle.lvl_flat.specs.Sheet.{PlainSheet}
use Rattle.lvl_flat.specs.Sheets.{AreSorted}

abbrev pub layer_of : PlainSheet → Layer
layer_of s = s.layer

-- if one sheet is replaced by another for its Layer, the sheets stay for the same Layers
pub layers-set : (sheets : List PlainSheet) (i : ℕ) (s new : PlainSheet) → slice_get sheets i ≡ Some s
    → new.layer ≡ s.layer → map layer_of (set sheets i new) ≡ map layer_of sheets
layers-set [] i s new at same = refl
layers-set (t ∷ sheets) zero s new at same =
    let one : s ≡ t = cc in ap (λ (x : Layer). x ∷ map layer_of sheets) (same ∙ ap layer_of one)
layers-set (t ∷ sheets) (suc i) s new at same = ap (λ xs. t.layer ∷ xs) (layers-set sheets i s new at same)

-- sheets for the same Layers are sorted if the others are
pub sorted_alike : (xs ys : List PlainSheet) → map layer_of xs ≡ map layer_of ys → AreSorted ys → AreSorted xs
sorted_alike xs ys same sorted = λ i j d lt in'.
    let long : length xs ≡ length ys = sym (length-map xs layer_of) ∙ (ap length same ∙ length-map ys layer_of) in
    let inside : j < length ys = omega (arith, long, in') in
    let at : (k : ℕ) → k < length xs → (get_or xs k d).layer ≡ (get_or ys k d).layer = λ k below.
    let below' : k < length ys = omega (arith, long, below) in
    sym (get_or-map layer_of xs k d d.layer below)
    ∙ (ap (λ ls. get_or ls k d.layer) same ∙ get_or-map layer_of ys k d d.layer below') in
    subst (λ (a : Layer). ComesBefore a (get_or xs j d).layer) (sym (at i (omega (arith, lt, in'))))
    (subst (λ (b : Layer). ComesBefore (get_or ys i d).layer b) (sym (at j in')) (sorted i j d lt inside))

-- a Layer without a sheet isn't among the Layers of the sheets
pub not_theirs : (sheets : List PlainSheet) (layer : Layer) → All (λ s. s.layer ≢ layer) sheets
    → Contains (map layer_of sheets) layer → ⊥
not_theirs sheets layer none has =
    All-contains (λ (x : Layer). x ≢ layer) (map layer_of sheets) layer
    (All-map (λ (x : Layer). x ≢ layer) layer_of sheets none) has refl

-- the Layer of a sheet is among the Layers of the sheets
pub theirs : (sheets : List PlainSheet) (i : ℕ) (s : PlainSheet) → slice_get sheets i ≡ Some s
    → Contains (map layer_of sheets) s.layer
theirs [] i s at = cc
theirs (t ∷ sheets) zero s at = let one : s ≡ t = cc in (0, omega arith, ap layer_of (sym one))
theirs (t ∷ sheets) (suc i) s at =
    let later = theirs sheets i s at in (suc later.0, omega (arith, later.1), later.2)

-- one more shape
pub rings_more : (layer : Layer) (shapes : List (PlainShape Rings)) (i : ℕ) (h : PlainShape Rings) → i < length shapes
    → h ≡ get_or shapes i h
    → rings_of layer (take (i + 1) shapes)
    ≡ rings_of layer (take i shapes) + cond (same_layer h.layer layer) (length h.figure * length h.shifts) 0
rings_more layer shapes i h lt is =
    let f : PlainShape Rings → ℕ = λ g. cond (same_layer g.layer layer) (length g.figure * length g.shifts) 0 in
    sum_by_more f shapes i h lt ∙ ap (λ g. sum_by f (take i shapes) + f g) (sym is)
