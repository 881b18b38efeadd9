-- An array with one more record.
use Rattle.std.proofs.Common.{◌≡◌, ◌==◌, false, if◌then◌else◌, List, length, [], ◌∷◌, ◌++◌, map, Some, inl, inr}
use Rattle.std.proofs.Common.{refl, sym, ap, ◌∙◌, subst}
use Rattle.lvl_grid.specs.declared.point.Point.{Point}
use Rattle.lvl_cells.specs.Cells.{PlainReference}
use Rattle.gds_elements.specs.Types.{aref, sname, strans, angle, colrow, xy, endel}
use Rattle.lvl_grammar.specs.Order.{one}
use Rattle.gds_elements.specs.Rec.{Rec, opener, field, last_of}
use Rattle.gds_elements.specs.Values.{magnitude, columns, rows, name, flips, turn, points, nth}
use Rattle.gds_elements.specs.Meaning.{shapes_by, references_by, in_rings, columns_in, rows_in, array_shifts, shifts_of}
use Rattle.gds_elements.specs.inside.Aref.{left, IsArefRead, IsArrayFault}
use Rattle.gds_elements.specs.Rules.{HasSteps, ValueBreaches}
use Rattle.gds_elements.specs.declared.fault.ElementRule.{ElementRule}
use Rattle.gds_elements.specs.declared.fault.ElementRule.TheVariants.{Points as PointsFault, ArrayStep}
use Rattle.gds_elements.specs.inside.Reading.{IsAtEnd}
use Rattle.gds_elements.specs.declared.aref.Aref.{Aref}
use Rattle.gds_elements.specs.declared.element.Drawn.TheVariants.{Reference}
use Rattle.lvl_grammar.specs.inside.After.{after_first}
use Rattle.gds_elements.proofs.Fields.{opener-snoc, last_read, last_there, field_here}
use Rattle.gds_elements.proofs.Leads.{leads_more}
use Rattle.gds_elements.proofs.Shapes.{kind_test}
use Rattle.gds_elements.proofs.Placings.{placed_more, reference_is}
use Rattle.lvl_profile.specs.declared.profile.Profile.{Profile}

pub aref_goes : (s s' : Aref) (piece : List Rec) (r : Rec) → IsArefRead s piece
    → after_first (left s.stage) r.kind ≡ left s'.stage ∷ []
    → s'.placing.name.items ≡ (if r.kind == sname then name r.payload else s.placing.name.items)
    → s'.placing.flip ≡ (if r.kind == strans then flips r.payload else s.placing.flip)
    → s'.placing.turn ≡ (if r.kind == angle then turn r.payload else s.placing.turn)
    → s'.counts.columns ≡ (if r.kind == colrow then magnitude (columns r.payload) else s.counts.columns)
    → s'.counts.rows ≡ (if r.kind == colrow then magnitude (rows r.payload) else s.counts.rows)
    → IsArefRead s' (piece ++ r ∷ [])
aref_goes s s' piece r h a n f t m w = record {
  opened = opener-snoc piece r aref h.opened;
  leads = leads_more piece r (left s.stage) (left s'.stage) h.leads a;
  placed = placed_more s.placing s'.placing piece r h.placed n f t;
  columns = last_read columns_in colrow piece r s.counts.columns s'.counts.columns h.columns m;
  rows = last_read rows_in colrow piece r s.counts.rows s'.counts.rows h.rows w;
}

-- the shifts after the XY are those of the records
shifts_is : (s : Aref) (piece : List Rec) (r : Rec) → IsArefRead s piece → r.kind ≡ xy
    → array_shifts (points r.payload) s.counts.columns s.counts.rows ≡ shifts_of (piece ++ r ∷ [])
shifts_is s piece r h x =
    let new = piece ++ r ∷ [] in
    let there : last_of colrow new ≡ last_of colrow piece =
    last_there colrow piece r (subst (λ k. k == colrow ≡ false) (sym x) refl) in
    ap (λ q. array_shifts (points q) s.counts.columns s.counts.rows) (sym (field_here xy piece r (kind_test r xy x)))
    ∙ ap (λ m. array_shifts (points (field xy new)) m s.counts.rows) (h.columns ∙ sym (ap columns_in there))
    ∙ ap (λ n. array_shifts (points (field xy new)) (columns_in (last_of colrow new)) n)
    (h.rows ∙ sym (ap rows_in there))

pub aref_ends : (s : Aref) (piece : List Rec) (r : Rec) (p : PlainReference) → IsArefRead s piece
    → after_first (left s.stage) r.kind ≡ one endel ∷ [] → r.kind ≡ xy
    → p ≡ record {
      cell = s.placing.name.items;
      flip = s.placing.flip;
      turn = s.placing.turn;
      at = nth (points r.payload) 0;
      shifts = array_shifts (points r.payload) s.counts.columns s.counts.rows;
    }
    → IsAtEnd (Reference p) (piece ++ r ∷ [])
aref_ends s piece r p h a x e =
    let new = piece ++ r ∷ [] in
    let o : opener new ≡ Some aref = opener-snoc piece r aref h.opened in
    record {
      opened = (aref, o);
      leads = leads_more piece r (left s.stage) (one endel) h.leads a;
      drawn = record {
        shapes = sym (ap (λ q. map in_rings (shapes_by q new)) o);
        references =
            ap (λ (i : PlainReference). i ∷ [])
            (e ∙ reference_is s.placing piece r (array_shifts (points r.payload) s.counts.columns s.counts.rows)
            (shifts_of new) h.placed x (shifts_is s piece r h x))
            ∙ sym (ap (λ q. references_by q new) o);
      };
    }

-- the steps that were tested are those of the records
pub steps_of : (s : Aref) (piece : List Rec) (ps : List Point) → IsArefRead s piece
    → (length ps ≡ 3) × HasSteps ps s.counts.columns s.counts.rows
    → (length ps ≡ 3) × HasSteps ps (columns_in (last_of colrow piece)) (rows_in (last_of colrow piece))
steps_of s piece ps h k = (
  k.0,
  subst (λ n. HasSteps ps (columns_in (last_of colrow piece)) n) h.rows
      (subst (λ m. HasSteps ps m s.counts.rows) h.columns k.1),
)

-- a fault of the points of an array is a breach
pub array_fault : (profile : Profile) (s : Aref) (piece : List Rec) (r : Rec) → IsArefRead s piece → r.kind ≡ xy
    → (k : ElementRule)
    → IsArrayFault (points r.payload) s.counts.columns s.counts.rows k → ValueBreaches profile piece r k
array_fault profile s piece r h x PointsFault b = (x, inr (inr (inl (h.opened, b))))
array_fault profile s piece r h x ArrayStep b = (
  x,
  h.opened,
  b.0,
  λ z. b.1 (subst (λ m. HasSteps (points r.payload) m s.counts.rows) (sym h.columns)
      (subst (λ n. HasSteps (points r.payload) (columns_in (last_of colrow piece)) n) (sym h.rows) z)),
)
array_fault profile s piece r h x other b = absurd b
