-- A boundary with one more record.
use Rattle.std.proofs.Common.{◌≡◌, ◌==◌, if◌then◌else◌, List, [], ◌∷◌, ◌++◌, map, Some, refl, sym, ap, ◌∙◌}
use Rattle.lvl_grid.specs.declared.point.Point.{Point}
use Rattle.gds_elements.specs.Types.{boundary, layer, datatype, xy, endel}
use Rattle.lvl_grammar.specs.Order.{one}
use Rattle.gds_elements.specs.Rec.{Rec, opener, field}
use Rattle.gds_elements.specs.Values.{short, magnitude, points, but_last}
use Rattle.gds_elements.specs.Meaning.{layer_of, shapes_by, references_by, in_rings}
use Rattle.lvl_names.specs.Shifts.{one_place}
use Rattle.gds_elements.specs.inside.Boundary.{left, IsBoundary}
use Rattle.gds_elements.specs.inside.Reading.{IsAtEnd}
use Rattle.gds_elements.specs.declared.boundary.Boundary.{Boundary}
use Rattle.gds_elements.specs.declared.element.Drawn.TheVariants.{Ring}
use Rattle.lvl_grammar.specs.inside.After.{after_first}
use Rattle.gds_elements.proofs.Fields.{field_here, opener-snoc}
use Rattle.gds_elements.proofs.Leads.{leads_more}
use Rattle.gds_elements.proofs.Shapes.{layer_more, layer_kept, shape_same, kind_test}

pub boundary_goes : (b b' : Boundary) (piece : List Rec) (r : Rec) → IsBoundary b piece
    → after_first (left b.stage) r.kind ≡ left b'.stage ∷ []
    → b'.layer.layer ≡ (if r.kind == layer then magnitude (short r.payload) else b.layer.layer)
    → b'.layer.datatype ≡ (if r.kind == datatype then magnitude (short r.payload) else b.layer.datatype)
    → IsBoundary b' (piece ++ r ∷ [])
boundary_goes b b' piece r h a l d = record {
  opened = opener-snoc piece r boundary h.opened;
  leads = leads_more piece r (left b.stage) (left b'.stage) h.leads a;
  layer = layer_more piece r b.layer b'.layer h.layer l d;
}

pub boundary_ends : (b : Boundary) (piece : List Rec) (r : Rec) (ring : List Point)
    → IsBoundary b piece → after_first (left b.stage) r.kind ≡ one endel ∷ [] → r.kind ≡ xy
    → ring ≡ but_last (points r.payload) → IsAtEnd (Ring b.layer ring) (piece ++ r ∷ [])
boundary_ends b piece r ring h a x e =
    let new = piece ++ r ∷ [] in
    let o : opener new ≡ Some boundary = opener-snoc piece r boundary h.opened in
    record {
      opened = (boundary, o);
      leads = leads_more piece r (left b.stage) (one endel) h.leads a;
      drawn = record {
        shapes =
            shape_same b.layer (layer_of new) (ring ∷ []) (but_last (points (field xy new)) ∷ []) one_place one_place
            (h.layer ∙ sym (layer_kept piece r x))
            (ap (λ (ps : List Point). ps ∷ []) e
            ∙ sym (ap (λ p. but_last (points p) ∷ []) (field_here xy piece r (kind_test r xy x))))
            refl
            ∙ sym (ap (λ q. map in_rings (shapes_by q new)) o);
        references = sym (ap (λ q. references_by q new) o);
      };
    }
