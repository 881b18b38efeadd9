-- A library of rings has its shapes on the Layers on which that of figures has them.
use Rattle.std.proofs.Common.{◌≡◌, ◌||◌, Bool, cond, not, List, [], ◌∷◌, map, Some, refl, ap, ◌∙◌}
use Rattle.std.specs.List.{find, list_any}
use Rattle.lvl_names.specs.Layers.{same_layer}
use Rattle.lvl_names.specs.declared.layer.Layer.{Layer}
use Rattle.lvl_cells.specs.Cells.{PlainCell, PlainShape, Rings, kept}
use Rattle.lvl_count.specs.Drawn.{first_undrawn, has_shape_on, is_drawn}

-- two tests that agree find the same
find_by_same : {X : Type 0} (p q : X → Bool) → ((x : X) → p x ≡ q x) → (xs : List X) → find p xs ≡ find q xs
find_by_same p q same [] = refl
find_by_same p q same (x ∷ xs) =
    ap (λ b. cond b (Some x) (find p xs)) (same x) ∙ ap (cond (q x) (Some x)) (find_by_same p q same xs)

shape_kept : {F : Type 0} (rings : F → Rings) (layer : Layer) (shapes : List (PlainShape F))
    → list_any (λ (h : PlainShape Rings). same_layer h.layer layer)
    (map (λ (h : PlainShape F). record { layer = h.layer; figure = rings h.figure; shifts = h.shifts }) shapes)
    ≡ list_any (λ (h : PlainShape F). same_layer h.layer layer) shapes
shape_kept rings layer [] = refl
shape_kept rings layer (h ∷ shapes) = ap (λ b. same_layer h.layer layer || b) (shape_kept rings layer shapes)

drawn_kept : {F : Type 0} (rings : F → Rings) (layer : Layer) (cells : List (PlainCell F))
    → is_drawn (kept rings cells) layer ≡ is_drawn cells layer
drawn_kept rings layer [] = refl
drawn_kept rings layer (c ∷ cells) =
    ap (λ b. b || is_drawn (kept rings cells) layer) (shape_kept rings layer c.shapes)
    ∙ ap (λ b. has_shape_on layer c || b) (drawn_kept rings layer cells)

pub undrawn_kept : {F : Type 0} (rings : F → Rings) (cells : List (PlainCell F)) (layers : List Layer)
    → first_undrawn (kept rings cells) layers ≡ first_undrawn cells layers
undrawn_kept rings cells layers =
    find_by_same _ _ (λ layer. ap not (drawn_kept rings layer cells)) layers
