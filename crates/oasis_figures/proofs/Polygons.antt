-- Polygons: their rings, and the rules that they breach.
use Rattle.std.proofs.Common.{◌≡◌, ◌∙◌, List, [], ◌∷◌, Option, Some, refl, sym, ap, subst, arith, map}
use Rattle.std.specs.Prelude.{◌<◌, All, option_map, unwrap_or}
use Rattle.std.specs.Option.{option_or}
use Rattle.std.specs.declared.alloc.Global.{Global}
use Rattle.std.specs.declared.vec.Vec.{Vec}
use Rattle.lvl_grid.specs.Turn.{FitsPoint, shifted}
use Rattle.lvl_grid.specs.Winding.{IsRing}
use Rattle.lvl_grid.specs.declared.point.Point.{Point}
use Rattle.lvl_refusal.specs.Refused.{Says}
use Rattle.lvl_refusal.specs.declared.Cause.{Cause}
use Rattle.lvl_refusal.specs.declared.Cause.TheVariants.{Breach, OutOfMemory}
use Rattle.lvl_profile.specs.declared.ignore.Ignore.{Ignore}
use Rattle.oasis_records.specs.declared.polygon.Polygon.{Polygon}
use Rattle.oasis_records.specs.declared.record.Record.{Record}
use Rattle.oasis_figures.specs.Figures.{polygon_ring, layer_of, shifts_of, IsDrawn}
use Rattle.oasis_figures.specs.Keeping.{StandsFor}
use Rattle.oasis_figures.specs.Modal.{modal, polygon_set, geometry}
use Rattle.oasis_figures.specs.Rules.{Breaks, Breaches, BreachesNone, order}
use Rattle.oasis_figures.specs.declared.drawn.DrawnRecord.TheVariants.{Ring}
use Rattle.oasis_figures.specs.declared.modal.Modal.{Modal}
use Rattle.oasis_figures.specs.declared.polygon.Resolved.{Resolved}
use Rattle.oasis_figures.specs.declared.rule.FigureRule.{FigureRule}
use Rattle.oasis_figures.specs.declared.rule.FigureRule.TheVariants.{Undefined, Layer as WideLayer, OutOfRange}
use Rattle.oasis_figures.specs.declared.rule.FigureRule.TheVariants.{Magnification, Angle, Extension, Oblique, Path}
use Rattle.oasis_figures.specs.inside.Polygons.{a_polygon, IsResolved, RingBreaks}
use Rattle.oasis_figures.proofs.Defined.{BreaksNoLater, no_rule, known_first}
use Rattle.oasis_figures.proofs.Figures.{vertices_at, layer_is, shape_is}
use Rattle.oasis_figures.proofs.Taking.{BreachesAfter}

-- the values of a polygon are known, and the vertices are its points, moved to its position
pub record IsRead (earlier : List Record) (p : Polygon) (v : Resolved) (vertices : List Point) : Type 0 where
  pub values : IsResolved earlier p v
  pub points : vertices ≡ polygon_ring (a_polygon p ∷ earlier)

-- the values are known after all records with which the variables agree
abbrev pub IsReadAfter : Modal → Polygon → Resolved → List Point → Type 0
IsReadAfter m p v vertices = (earlier : List Record) → StandsFor m earlier → IsRead earlier p v vertices

pub read_after : (m : Modal) (p : Polygon) (v : Resolved) (list : Option (Vec Point Global))
    (points vertices : List Point)
    → ((earlier : List Record) → StandsFor m earlier → IsResolved earlier p v)
    → option_map (λ l. l.items) list ≡ p.points
    → points ≡ unwrap_or (option_or (option_map (λ l. l.items) list) (option_map (λ l. l.items) m.polygon)) []
    → vertices ≡ map (shifted v.at) points → IsReadAfter m p v vertices
read_after m p v list points vertices known f g w = λ earlier s.
    let place = geometry (a_polygon p ∷ earlier) in
    record {
      values = known earlier s;
      points = w ∙ vertices_at place v.at p.points list m.polygon (modal polygon_set earlier) points
          (known earlier s).at f s.polygon g;
    }

-- if the vertices fit, no rule before Oblique is breached
before_oblique : (ignore : Ignore) (earlier : List Record) (p : Polygon) (v : Resolved) (qs : List Point)
    → IsRead earlier p v qs
    → All FitsPoint qs
    → (other : FigureRule) → order other < 6 → ¬ Breaks ignore earlier (a_polygon p) other
before_oblique ignore earlier p v qs a h (Undefined x) lt b =
    known_first ignore earlier (a_polygon p) a.values.known (Undefined x) (omega arith) b
before_oblique ignore earlier p v qs a h WideLayer lt b =
    known_first ignore earlier (a_polygon p) a.values.known WideLayer (omega arith) b
before_oblique ignore earlier p v qs a h OutOfRange lt b =
    b (subst FitsPoint (sym a.values.at) a.values.fits, subst (λ (ps : List Point). All FitsPoint ps) a.points h)
before_oblique ignore earlier p v qs a h Magnification lt b = b
before_oblique ignore earlier p v qs a h Angle lt b = b
before_oblique ignore earlier p v qs a h Extension lt b = b
before_oblique ignore earlier p v qs a h Oblique lt b = omega (arith, lt)
before_oblique ignore earlier p v qs a h (Path f) lt b = b

ring_breached : (ignore : Ignore) (earlier : List Record) (p : Polygon) (v : Resolved) (qs : List Point)
    (rule : FigureRule)
    → IsRead earlier p v qs
    → RingBreaks qs rule → Breaches ignore earlier (a_polygon p) rule
ring_breached ignore earlier p v qs OutOfRange a b = record {
  broken = λ h. b (subst (λ (ps : List Point). All FitsPoint ps) (sym a.points) h.1);
  first = known_first ignore earlier (a_polygon p) a.values.known;
}
ring_breached ignore earlier p v qs Oblique a b = record {
  broken = λ h. b.1 (subst IsRing (sym a.points) h);
  first = before_oblique ignore earlier p v qs a b.0;
}
ring_breached ignore earlier p v qs _ a b = absurd b

pub ring_refused : (ignore : Ignore) (m : Modal) (p : Polygon) (v : Resolved) (qs : List Point) (x : Cause FigureRule)
    → IsReadAfter m p v qs
    → Says x (RingBreaks qs) → Says x (BreachesAfter ignore m (a_polygon p))
ring_refused ignore m p v qs (Breach rule) read b = λ earlier s. ring_breached ignore earlier p v qs rule
    (read earlier s) b
ring_refused ignore m p v qs OutOfMemory read b = tt

no_later : (ignore : Ignore) (earlier : List Record) (p : Polygon) → IsRing (polygon_ring (a_polygon p ∷ earlier))
    → BreaksNoLater ignore earlier (a_polygon p)
no_later ignore earlier p h (Undefined v) lt b = omega (arith, lt)
no_later ignore earlier p h WideLayer lt b = omega (arith, lt)
no_later ignore earlier p h OutOfRange lt b = omega (arith, lt)
no_later ignore earlier p h Oblique lt b = b h
no_later ignore earlier p h _ lt b = b

pub polygon_none : (ignore : Ignore) (earlier : List Record) (p : Polygon) (v : Resolved) (qs : List Point)
    → IsRead earlier p v qs
    → All FitsPoint qs
    → IsRing qs → BreachesNone ignore earlier (a_polygon p)
polygon_none ignore earlier p v qs a h ring =
    let fits = subst (λ (ps : List Point). All FitsPoint ps) a.points h in
    no_rule ignore earlier (a_polygon p) a.values.known.defined a.values.known.narrow
    (λ out. out (subst FitsPoint (sym a.values.at) a.values.fits, fits))
    (no_later ignore earlier p (subst IsRing a.points ring))

pub polygon_drawn : (earlier : List Record) (p : Polygon) (v : Resolved) (qs ring : List Point) → IsRead earlier p v qs
    → ring ≡ qs
    → IsDrawn earlier (a_polygon p) (Some (Ring v.on ring))
polygon_drawn earlier p v qs ring a e =
    let all = a_polygon p ∷ earlier in
    let layer = layer_is all v.layer v.datatype v.on a.values.layer a.values.datatype a.values.on in
    let rings = ap (λ (ps : List Point). ps ∷ []) (e ∙ a.points) in
    record {
      shapes = shape_is v.on (layer_of all) (ring ∷ []) (polygon_ring all ∷ []) (shifts_of earlier (a_polygon p)) layer
          rings;
      placements = refl;
    }
