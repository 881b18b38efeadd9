-- A path with one more record.
use Rattle.std.proofs.Common.{◌≡◌, ◌≢◌, ◌==◌, ℕ, pos, false, if◌then◌else◌, List, [], ◌∷◌, ◌++◌, map, Some, None, refl}
use Rattle.std.proofs.Common.{sym, ap, ◌∙◌, subst, inl, inr}
use Rattle.std.specs.Prelude.{Option}
use Rattle.std.specs.Ordering.{int_eq}
use Rattle.std.specs.declared.alloc.Global.{Global}
use Rattle.std.specs.declared.vec.Vec.{Vec}
use Rattle.lvl_grid.specs.declared.point.Point.{Point}
use Rattle.lvl_path.specs.Repeats.{asked, without_repeats}
use Rattle.lvl_path.specs.Runs.{path_rings, IsLowestFault}
use Rattle.lvl_cells.specs.Cells.{Rings}
use Rattle.gds_elements.specs.Types.{path, layer, datatype, pathtype, width, xy, endel}
use Rattle.lvl_grammar.specs.Order.{one}
use Rattle.gds_elements.specs.Rec.{Rec, opener, field, last_of, payload_of}
use Rattle.gds_elements.specs.Values.{short, magnitude, points}
use Rattle.gds_elements.specs.Meaning.{layer_of, half, half_of, end_of, end_reach, shapes_by, references_by, in_rings}
use Rattle.lvl_names.specs.Shifts.{one_place}
use Rattle.gds_elements.specs.inside.Path.{left, half_in, IsPathRead, reach_at, IsBandsFault}
use Rattle.gds_elements.specs.Rules.{ValueBreaches}
use Rattle.gds_elements.specs.declared.fault.ElementRule.{ElementRule}
use Rattle.gds_elements.specs.declared.fault.ElementRule.TheVariants.{Points as PointsFault, Path as PathFault}
use Rattle.gds_elements.specs.declared.fault.ElementRule.TheVariants.{Width as WidthFault}
use Rattle.gds_elements.specs.inside.Reading.{IsAtEnd}
use Rattle.gds_elements.specs.declared.path.Path.{Path}
use Rattle.gds_elements.specs.declared.element.Drawn.TheVariants.{Rings as PathRings}
use Rattle.lvl_grammar.specs.inside.After.{after_first}
use Rattle.gds_elements.proofs.Fields.{field_read, field_here, field_there, last_read, opener-snoc}
use Rattle.gds_elements.proofs.Leads.{leads_more}
use Rattle.gds_elements.proofs.Shapes.{layer_more, layer_kept, shape_same, kind_test}
use Rattle.lvl_profile.specs.declared.profile.Profile.{Profile}

pub path_goes : (p p' : Path) (piece : List Rec) (r : Rec) → IsPathRead p piece
    → after_first (left p.stage) r.kind ≡ left p'.stage ∷ []
    → p'.layer.layer ≡ (if r.kind == layer then magnitude (short r.payload) else p.layer.layer)
    → p'.layer.datatype ≡ (if r.kind == datatype then magnitude (short r.payload) else p.layer.datatype)
    → p'.square ≡ (if r.kind == pathtype then int_eq (short r.payload) (pos 2) else p.square)
    → p'.half ≡ (if r.kind == width then Some (half r.payload) else p.half)
    → IsPathRead p' (piece ++ r ∷ [])
path_goes p p' piece r h a l d s w = record {
  opened = opener-snoc piece r path h.opened;
  leads = leads_more piece r (left p.stage) (left p'.stage) h.leads a;
  layer = layer_more piece r p.layer p'.layer h.layer l d;
  square = field_read (λ q. int_eq (short q) (pos 2)) pathtype piece r p.square p'.square h.square s;
  half = last_read half_in width piece r p.half p'.half h.half w;
}

half_known : (o : Option Rec) (h : ℕ) → half_in o ≡ Some h → half (payload_of o) ≡ h
half_known None h e = cc
half_known (Some r) h e = cc

-- half the width that was read is that of the records
pub half_is : (p : Path) (piece : List Rec) (h : ℕ) → IsPathRead p piece → p.half ≡ Some h → h ≡ half_of piece
half_is p piece h r e = sym (half_known (last_of width piece) h (sym r.half ∙ e))

pub reach_is : (p : Path) (piece : List Rec) (h : ℕ) → IsPathRead p piece → p.half ≡ Some h
    → reach_at p.square h ≡ end_of piece
reach_is p piece h r e =
    ap (λ b. reach_at b h) r.square ∙ ap (λ n. reach_at (int_eq (short (field pathtype piece)) (pos 2)) n)
    (half_is p piece h r e)

half_none : (o : Option Rec) → o ≡ None → half_in o ≡ None
half_none None e = refl
half_none (Some r) e = cc

pub none_half : (o : Option Rec) → half_in o ≡ None → o ≡ None
none_half None e = refl
none_half (Some r) e = cc

-- without a WIDTH there is no half of one
pub width_read : (p : Path) (piece : List Rec) → IsPathRead p piece → p.half ≢ None → last_of width piece ≢ None
width_read p piece r n e = n (r.half ∙ half_none (last_of width piece) e)

pub some_of : {A : Type 0} (o : Option A) → o ≢ None → (x : A) × (o ≡ Some x)
some_of None n = absurd (n refl)
some_of (Some x) n = (x, refl)

-- an XY changes neither the width nor the ends of a path
half_kept : (piece : List Rec) (r : Rec) → r.kind ≡ xy → half_of (piece ++ r ∷ []) ≡ half_of piece
half_kept piece r x = ap half (field_there width piece r (subst (λ k. k == width ≡ false) (sym x) refl))

end_kept : (piece : List Rec) (r : Rec) → r.kind ≡ xy → end_of (piece ++ r ∷ []) ≡ end_of piece
end_kept piece r x =
    ap (λ p. end_reach p (half_of (piece ++ r ∷ [])))
    (field_there pathtype piece r (subst (λ k. k == pathtype ≡ false) (sym x) refl))
    ∙ ap (end_reach (field pathtype piece)) (half_kept piece r x)

abbrev rings_at : List Point → ℕ → ℕ → Rings
rings_at ps h e = path_rings (without_repeats ps) (record { half = h; start = e; end = e })

pub path_ends : (p : Path) (piece : List Rec) (r : Rec) (h : ℕ) (rings : Vec (List Point) Global)
    → IsPathRead p piece → after_first (left p.stage) r.kind ≡ one endel ∷ [] → r.kind ≡ xy → p.half ≡ Some h
    → rings.items ≡ rings_at (points r.payload) h (reach_at p.square h)
    → IsAtEnd (PathRings p.layer rings) (piece ++ r ∷ [])
path_ends p piece r h rings i a x w e =
    let new = piece ++ r ∷ [] in
    let o : opener new ≡ Some path = opener-snoc piece r path i.opened in
    record {
      opened = (path, o);
      leads = leads_more piece r (left p.stage) (one endel) i.leads a;
      drawn = record {
        shapes =
            shape_same p.layer (layer_of new) rings.items (rings_at (points (field xy new)) (half_of new) (end_of new))
            one_place one_place
            (i.layer ∙ sym (layer_kept piece r x))
            (e ∙ ap (λ q. rings_at (points q) h (reach_at p.square h)) (sym (field_here xy piece r (kind_test r xy x)))
            ∙ ap (λ n. rings_at (points (field xy new)) n (reach_at p.square h))
            (half_is p piece h i w ∙ sym (half_kept piece r x))
            ∙ ap (λ n. rings_at (points (field xy new)) (half_of new) n)
            (reach_is p piece h i w ∙ sym (end_kept piece r x)))
            refl
            ∙ sym (ap (λ q. map in_rings (shapes_by q new)) o);
        references = sym (ap (λ q. references_by q new) o);
      };
    }

-- a fault of the points of a path is a breach
pub bands_fault : (profile : Profile) (p : Path) (piece : List Rec) (r : Rec) → IsPathRead p piece → r.kind ≡ xy
    → (k : ElementRule)
    → IsBandsFault profile.ignore.points (points r.payload) p.half p.square k → ValueBreaches profile piece r k
bands_fault profile p piece r h x PointsFault b = (x, inr (inl (h.opened, b)))
bands_fault profile p piece r h x WidthFault b =
    (h.opened, inr (x, b.0, none_half (last_of width piece) (sym h.half ∙ b.1)))
bands_fault profile p piece r h x (PathFault f) (n, half, e, low) =
    let ps = asked profile.ignore.points (points r.payload) in
    let low' = subst (λ (i : ℕ). IsLowestFault ps (record { half = half; start = i; end = i }) f)
    (reach_is p piece half h e) low in
    let low'' = subst (λ (i : ℕ). IsLowestFault ps (record { half = i; start = end_of piece; end = end_of piece }) f)
    (half_is p piece half h e) low' in
    (x, h.opened, n, width_read p piece h (λ z. (let y : Some half ≡ None = sym e ∙ z in cc)), low'')
bands_fault profile p piece r h x other b = absurd b
