-- The placing of a reference with one more record, and references by their parts.
use Rattle.std.proofs.Common.{◌≡◌, ◌==◌, ℕ, Bool, false, if◌then◌else◌, List, [], ◌∷◌, ◌++◌, refl, sym, ap, ◌∙◌, subst}
use Rattle.lvl_grid.specs.declared.point.Point.{Point}
use Rattle.lvl_grid.specs.declared.map.Turn.{Turn}
use Rattle.lvl_cells.specs.Cells.{PlainReference}
use Rattle.gds_elements.specs.Types.{sname, strans, angle, xy}
use Rattle.gds_elements.specs.Rec.{Rec, field}
use Rattle.gds_elements.specs.Values.{name, flips, turn, points, nth}
use Rattle.gds_elements.specs.Meaning.{reference}
use Rattle.gds_elements.specs.inside.Placing.{IsPlaced}
use Rattle.gds_elements.specs.declared.placing.Placing.{Placing}
use Rattle.gds_elements.proofs.Fields.{field_read, field_here, field_there}
use Rattle.gds_elements.proofs.Shapes.{kind_test}

pub placed_more : (p p' : Placing) (piece : List Rec) (r : Rec) → IsPlaced p piece
    → p'.name.items ≡ (if r.kind == sname then name r.payload else p.name.items)
    → p'.flip ≡ (if r.kind == strans then flips r.payload else p.flip)
    → p'.turn ≡ (if r.kind == angle then turn r.payload else p.turn)
    → IsPlaced p' (piece ++ r ∷ [])
placed_more p p' piece r h n f t = record {
  name = field_read name sname piece r p.name.items p'.name.items h.name n;
  flip = field_read flips strans piece r p.flip p'.flip h.flip f;
  turn = field_read turn angle piece r p.turn p'.turn h.turn t;
}

-- an XY doesn't change the placing
placed_kept : (p : Placing) (piece : List Rec) (r : Rec) → IsPlaced p piece → r.kind ≡ xy → IsPlaced p (piece ++ r ∷ [])
placed_kept p piece r h x = record {
  name = h.name ∙ sym (ap name (field_there sname piece r (subst (λ k. k == sname ≡ false) (sym x) refl)));
  flip = h.flip ∙ sym (ap flips (field_there strans piece r (subst (λ k. k == strans ≡ false) (sym x) refl)));
  turn = h.turn ∙ sym (ap turn (field_there angle piece r (subst (λ k. k == angle ≡ false) (sym x) refl)));
}

reference_from : List ℕ → Bool → Turn → Point → List Point → PlainReference
reference_from n f t a s = record { cell = n; flip = f; turn = t; at = a; shifts = s }

-- the reference after the XY is that of the records
pub reference_is : (p : Placing) (piece : List Rec) (r : Rec) (shifts shifts' : List Point) → IsPlaced p piece
    → r.kind ≡ xy → shifts ≡ shifts'
    → record {
      cell = p.name.items;
      flip = p.flip;
      turn = p.turn;
      at = nth (points r.payload) 0;
      shifts = shifts;
    } ≡ reference (piece ++ r ∷ []) shifts'
unfolding reference_from
reference_is p piece r shifts shifts' h x e =
    let new = piece ++ r ∷ [] in
    let k = placed_kept p piece r h x in
    let at : nth (points r.payload) 0 ≡ nth (points (field xy new)) 0 =
    ap (λ q. nth (points q) 0) (sym (field_here xy piece r (kind_test r xy x))) in
    ap (λ i. reference_from i p.flip p.turn (nth (points r.payload) 0) shifts) k.name
    ∙ ap (λ i. reference_from (name (field sname new)) i p.turn (nth (points r.payload) 0) shifts) k.flip
    ∙ ap (λ i. reference_from (name (field sname new)) (flips (field strans new)) i (nth (points r.payload) 0) shifts)
    k.turn
    ∙ ap (λ i. reference_from (name (field sname new)) (flips (field strans new)) (turn (field angle new)) i shifts) at
    ∙ ap (λ i. reference_from (name (field sname new)) (flips (field strans new)) (turn (field angle new))
    (nth (points (field xy new)) 0) i) e
