-- A reference with one more record.
use Rattle.std.proofs.Common.{◌≡◌, ◌==◌, if◌then◌else◌, List, [], ◌∷◌, ◌++◌, map, Some, refl, sym, ap, ◌∙◌}
use Rattle.lvl_cells.specs.Cells.{PlainReference}
use Rattle.gds_elements.specs.Types.{sref, sname, strans, angle, xy, endel}
use Rattle.lvl_grammar.specs.Order.{one}
use Rattle.gds_elements.specs.Rec.{Rec, opener}
use Rattle.gds_elements.specs.Values.{name, flips, turn, points, nth}
use Rattle.gds_elements.specs.Meaning.{shapes_by, references_by, in_rings}
use Rattle.lvl_names.specs.Shifts.{one_place}
use Rattle.gds_elements.specs.inside.Sref.{left, IsSrefRead}
use Rattle.gds_elements.specs.inside.Reading.{IsAtEnd}
use Rattle.gds_elements.specs.declared.sref.Sref.{Sref}
use Rattle.gds_elements.specs.declared.element.Drawn.TheVariants.{Reference}
use Rattle.lvl_grammar.specs.inside.After.{after_first}
use Rattle.gds_elements.proofs.Fields.{opener-snoc}
use Rattle.gds_elements.proofs.Leads.{leads_more}
use Rattle.gds_elements.proofs.Placings.{placed_more, reference_is}

pub sref_goes : (s s' : Sref) (piece : List Rec) (r : Rec) → IsSrefRead s piece
    → after_first (left s.stage) r.kind ≡ left s'.stage ∷ []
    → s'.placing.name.items ≡ (if r.kind == sname then name r.payload else s.placing.name.items)
    → s'.placing.flip ≡ (if r.kind == strans then flips r.payload else s.placing.flip)
    → s'.placing.turn ≡ (if r.kind == angle then turn r.payload else s.placing.turn)
    → IsSrefRead s' (piece ++ r ∷ [])
sref_goes s s' piece r h a n f t = record {
  opened = opener-snoc piece r sref h.opened;
  leads = leads_more piece r (left s.stage) (left s'.stage) h.leads a;
  placed = placed_more s.placing s'.placing piece r h.placed n f t;
}

pub sref_ends : (s : Sref) (piece : List Rec) (r : Rec) (p : PlainReference) → IsSrefRead s piece
    → after_first (left s.stage) r.kind ≡ one endel ∷ [] → r.kind ≡ xy
    → p ≡ record {
      cell = s.placing.name.items;
      flip = s.placing.flip;
      turn = s.placing.turn;
      at = nth (points r.payload) 0;
      shifts = one_place;
    }
    → IsAtEnd (Reference p) (piece ++ r ∷ [])
sref_ends s piece r p h a x e =
    let new = piece ++ r ∷ [] in
    let o : opener new ≡ Some sref = opener-snoc piece r sref h.opened in
    record {
      opened = (sref, o);
      leads = leads_more piece r (left s.stage) (one endel) h.leads a;
      drawn = record {
        shapes = sym (ap (λ q. map in_rings (shapes_by q new)) o);
        references = ap (λ (i : PlainReference). i ∷ []) (e ∙ reference_is s.placing piece r one_place one_place
            h.placed x refl) ∙ sym (ap (λ q. references_by q new) o);
      };
    }
