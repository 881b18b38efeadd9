-- The layer and datatype of a shape with one more record, and shapes by their parts.
use Rattle.std.proofs.Common.{◌≡◌, ◌==◌, ℕ, true, false, if◌then◌else◌, List, [], ◌∷◌, ◌++◌, refl, sym, ap, ◌∙◌, subst}
use Rattle.lvl_grid.specs.declared.point.Point.{Point}
use Rattle.lvl_names.specs.declared.layer.Layer.{Layer as LayerOf}
use Rattle.lvl_cells.specs.Cells.{PlainShape, Rings}
use Rattle.gds_elements.specs.Types.{layer, datatype, xy}
use Rattle.gds_elements.specs.Rec.{Rec}
use Rattle.gds_elements.specs.Values.{short, magnitude}
use Rattle.gds_elements.specs.Meaning.{layer_of}
use Rattle.lvl_grammar.proofs.Orders.{same_type}
use Rattle.gds_elements.proofs.Fields.{field_read, field_there}

layer_from : (a b : ℕ) (l : LayerOf) → l.layer ≡ a → l.datatype ≡ b → l ≡ record { layer = a; datatype = b }
layer_from a b l e f =
    ap (λ (i : ℕ). let x : LayerOf = record { layer = i; datatype = l.datatype } in x) e
    ∙ ap (λ (i : ℕ). let x : LayerOf = record { layer = a; datatype = i } in x) f

-- the layer and datatype after one more record
pub layer_more : (piece : List Rec) (r : Rec) (old new : LayerOf) → old ≡ layer_of piece
    → new.layer ≡ (if r.kind == layer then magnitude (short r.payload) else old.layer)
    → new.datatype ≡ (if r.kind == datatype then magnitude (short r.payload) else old.datatype)
    → new ≡ layer_of (piece ++ r ∷ [])
layer_more piece r old new h e f =
    layer_from _ _ new
    (field_read (λ p. magnitude (short p)) layer piece r old.layer new.layer (ap (λ (l : LayerOf). l.layer) h) e)
    (field_read (λ p. magnitude (short p)) datatype piece r old.datatype new.datatype
    (ap (λ (l : LayerOf). l.datatype) h) f)

-- an XY doesn't change the layer and datatype
pub layer_kept : (piece : List Rec) (r : Rec) → r.kind ≡ xy → layer_of (piece ++ r ∷ []) ≡ layer_of piece
layer_kept piece r x =
    layer_from _ _ (layer_of (piece ++ r ∷ []))
    (ap (λ p. magnitude (short p)) (field_there layer piece r (subst (λ k. k == layer ≡ false) (sym x) refl)))
    (ap (λ p. magnitude (short p)) (field_there datatype piece r (subst (λ k. k == datatype ≡ false) (sym x) refl)))

abbrev shape_from : LayerOf → Rings → List Point → List (PlainShape Rings)
shape_from l f s = record { layer = l; figure = f; shifts = s } ∷ []

-- the parts of a shape
pub shape_same : (l m : LayerOf) (f g : Rings) (s t : List Point) → l ≡ m → f ≡ g → s ≡ t
    → shape_from l f s ≡ shape_from m g t
shape_same l m f g s t a b c =
    ap (λ (i : LayerOf). shape_from i f s) a ∙ ap (λ (i : Rings). shape_from m i s) b
    ∙ ap (λ (i : List Point). shape_from m g i) c

pub kind_test : (r : Rec) (k : ℕ) → r.kind ≡ k → r.kind == k ≡ true
kind_test r k e = same_type r.kind k e
