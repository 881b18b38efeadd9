-- Paths: their bands, and the rules that they breach.
use Rattle.std.proofs.Common.{◌≡◌, ◌∙◌, ℕ, Bool, true, false, List, [], ◌∷◌, Option, Some, None, refl, sym, ap, subst}
use Rattle.std.proofs.Common.{arith, map, ℤ, pos, negsuc}
use Rattle.std.proofs.lemmas.Bool.{or_right}
use Rattle.std.specs.Prelude.{◌<◌, ◌||◌, All, option_map, unwrap_or}
use Rattle.std.specs.Option.{option_or}
use Rattle.std.specs.declared.alloc.Global.{Global}
use Rattle.std.specs.declared.vec.Vec.{Vec}
use Rattle.lvl_grid.specs.Turn.{FitsPoint, shifted}
use Rattle.lvl_grid.specs.declared.point.Point.{Point}
use Rattle.lvl_path.specs.Repeats.{asked, without_repeats}
use Rattle.lvl_path.specs.Runs.{IsPath, IsLowestFault, path_rings}
use Rattle.lvl_path.specs.declared.fault.PathFault.{PathFault}
use Rattle.lvl_refusal.specs.Refused.{Says}
use Rattle.lvl_refusal.specs.declared.Cause.{Cause}
use Rattle.lvl_refusal.specs.declared.Cause.TheVariants.{Breach, OutOfMemory}
use Rattle.lvl_profile.specs.declared.ignore.Ignore.{Ignore}
use Rattle.oasis_records.specs.declared.path.Path.{Path}
use Rattle.oasis_records.specs.declared.record.Record.{Record}
use Rattle.oasis_figures.specs.Figures.{number, reach, path_points, half_of, start_of, end_of, layer_of, shifts_of}
use Rattle.oasis_figures.specs.Figures.{IsDrawn}
use Rattle.oasis_figures.specs.Keeping.{StandsFor}
use Rattle.oasis_figures.specs.Modal.{modal, path_set, start_set, end_set, geometry}
use Rattle.oasis_figures.specs.Rules.{Breaks, Breaches, BreachesNone, is_negative, order}
use Rattle.oasis_figures.specs.declared.drawn.DrawnRecord.TheVariants.{Rings}
use Rattle.oasis_figures.specs.declared.extension.Extent.{Extent}
use Rattle.oasis_figures.specs.declared.extension.Extent.TheVariants.{Beyond, Negative}
use Rattle.oasis_figures.specs.declared.modal.Modal.{Modal}
use Rattle.oasis_figures.specs.declared.path.Resolved.{Resolved}
use Rattle.oasis_figures.specs.declared.rule.FigureRule.{FigureRule}
use Rattle.oasis_figures.specs.declared.rule.FigureRule.TheVariants.{Undefined, Layer as WideLayer, OutOfRange}
use Rattle.oasis_figures.specs.declared.rule.FigureRule.TheVariants.{Magnification, Angle}
use Rattle.oasis_figures.specs.declared.rule.FigureRule.TheVariants.{Extension, Oblique, Path as PathRule}
use Rattle.oasis_figures.specs.inside.Extents.{extent, reaches}
use Rattle.oasis_figures.specs.inside.Paths.{a_path, IsResolved, BandsBreak}
use Rattle.oasis_figures.proofs.Defined.{BreaksNoLater, no_rule, known_first, range_breached}
use Rattle.oasis_figures.proofs.Figures.{vertices_at, layer_is, shape_is}
use Rattle.oasis_figures.proofs.Taking.{BreachesAfter}

-- the values of a path are known, and the vertices are its points, moved to its position
pub record IsRead (earlier : List Record) (p : Path) (v : Resolved) (vertices : List Point) : Type 0 where
  pub values : IsResolved earlier p v
  pub points : vertices ≡ path_points (a_path p ∷ earlier)

-- the values are known after all records with which the variables agree
abbrev pub IsReadAfter : Modal → Path → Resolved → List Point → Type 0
IsReadAfter m p v vertices = (earlier : List Record) → StandsFor m earlier → IsRead earlier p v vertices

pub read_after : (m : Modal) (p : Path) (v : Resolved) (list : Option (Vec Point Global))
    (points vertices : List Point)
    → ((earlier : List Record) → StandsFor m earlier → IsResolved earlier p v)
    → option_map (λ l. l.items) list ≡ p.points
    → points ≡ unwrap_or (option_or (option_map (λ l. l.items) list) (option_map (λ l. l.items) m.path)) []
    → vertices ≡ map (shifted v.at) points → IsReadAfter m p v vertices
read_after m p v list points vertices known f g w = λ earlier s. record {
  values = known earlier s;
  points = w ∙ vertices_at (geometry (a_path p ∷ earlier)) v.at p.points list m.path (modal path_set earlier) points
      (known earlier s).at f s.path g;
}

-- an extension that is not negative is the reach
beyond : (z : Option ℤ) (n : ℕ) → option_map extent z ≡ Some (Beyond n) → z ≡ Some (pos n)
beyond None n e = cc
beyond (Some (pos k)) n e = cc
beyond (Some (negsuc k)) n e = cc

negative : (z : Option ℤ) → option_map extent z ≡ Some Negative → is_negative z ≡ true
negative None e = cc
negative (Some (pos k)) e = cc
negative (Some (negsuc k)) e = refl

some_negative : (a b : Option ℤ) (x y : Extent) → option_map extent a ≡ Some x → option_map extent b ≡ Some y
    → reaches x y ≡ None
    → (is_negative a || is_negative b) ≡ true
some_negative a b (Beyond s) (Beyond e) f g h = cc
some_negative a b (Beyond s) Negative f g h = or_right (is_negative a) (is_negative b) (negative b g)
some_negative a b Negative y f g h = ap (λ (c : Bool). c || is_negative b) (negative a f)

none_negative : (a b : Option ℤ) (s e : ℕ) → a ≡ Some (pos s) → b ≡ Some (pos e)
    → (is_negative a || is_negative b) ≡ true → ⊥
none_negative a b s e f g h =
    let k : false ≡ true = sym (ap (λ (z : Option ℤ). is_negative z || is_negative b) f
    ∙ ap (λ (z : Option ℤ). is_negative z) g) ∙ h in
    cc

-- neither extension of a path is negative, and they are these numbers
pub record HasReaches (earlier : List Record) (p : Path) (s e : ℕ) : Type 0 where
  pub start : modal start_set (a_path p ∷ earlier) ≡ Some (pos s)
  pub end : modal end_set (a_path p ∷ earlier) ≡ Some (pos e)

both_beyond : (a b : Option ℤ) (x y : Extent) (s e : ℕ) → option_map extent a ≡ Some x → option_map extent b ≡ Some y
    → reaches x y ≡ Some (s, e) → (a ≡ Some (pos s)) × (b ≡ Some (pos e))
both_beyond a b (Beyond i) (Beyond j) s e f g h = (
  beyond a s (f ∙ ap (option_map (λ (q : ℕ × ℕ). Beyond q.0)) h),
  beyond b e
      (g ∙ ap (option_map (λ (q : ℕ × ℕ). Beyond q.1)) h),
)
both_beyond a b (Beyond i) Negative s e f g h = cc
both_beyond a b Negative y s e f g h = cc

pub has_reaches : (earlier : List Record) (p : Path) (v : Resolved) (s e : ℕ) → IsResolved earlier p v
    → reaches v.stroke.start v.stroke.end ≡ Some (s, e) → HasReaches earlier p s e
has_reaches earlier p v s e a r =
    let starts = modal start_set (a_path p ∷ earlier) in
    let ends = modal end_set (a_path p ∷ earlier) in
    let both = both_beyond starts ends v.stroke.start v.stroke.end s e a.start a.end r in
    record {
      start = both.0;
      end = both.1;
    }

-- if the vertices fit, no rule before Extension is breached
before_extension : (ignore : Ignore) (earlier : List Record) (p : Path) (v : Resolved) (qs : List Point)
    → IsRead earlier p v qs
    → All FitsPoint qs
    → (other : FigureRule) → order other < 5 → ¬ Breaks ignore earlier (a_path p) other
before_extension ignore earlier p v qs a h (Undefined x) lt b =
    known_first ignore earlier (a_path p) a.values.known (Undefined x) (omega arith) b
before_extension ignore earlier p v qs a h WideLayer lt b =
    known_first ignore earlier (a_path p) a.values.known WideLayer (omega arith) b
before_extension ignore earlier p v qs a h OutOfRange lt b =
    b (subst FitsPoint (sym a.values.at) a.values.fits, subst (λ (ps : List Point). All FitsPoint ps) a.points h)
before_extension ignore earlier p v qs a h Magnification lt b = b
before_extension ignore earlier p v qs a h Angle lt b = b
before_extension ignore earlier p v qs a h Extension lt b = omega (arith, lt)
before_extension ignore earlier p v qs a h Oblique lt b = b
before_extension ignore earlier p v qs a h (PathRule f) lt b = omega (arith, lt)

-- if in addition no extension is negative, no rule before Path is breached
before_path : (ignore : Ignore) (earlier : List Record) (p : Path) (v : Resolved) (qs : List Point) (s e : ℕ)
    → IsRead earlier p v qs
    → All FitsPoint qs
    → HasReaches earlier p s e → (other : FigureRule) → order other < 7 → ¬ Breaks ignore earlier (a_path p) other
before_path ignore earlier p v qs s e a h r (Undefined x) lt b =
    before_extension ignore earlier p v qs a h (Undefined x) (omega arith) b
before_path ignore earlier p v qs s e a h r WideLayer lt b = before_extension ignore earlier p v qs a h WideLayer
    (omega arith) b
before_path ignore earlier p v qs s e a h r OutOfRange lt b = before_extension ignore earlier p v qs a h OutOfRange
    (omega arith) b
before_path ignore earlier p v qs s e a h r Magnification lt b = b
before_path ignore earlier p v qs s e a h r Angle lt b = b
before_path ignore earlier p v qs s e a h r Extension lt b =
    none_negative (modal start_set (a_path p ∷ earlier)) (modal end_set (a_path p ∷ earlier)) s e r.start r.end b
before_path ignore earlier p v qs s e a h r Oblique lt b = b
before_path ignore earlier p v qs s e a h r (PathRule f) lt b = omega (arith, lt)

pub vertices_refused : (ignore : Ignore) (m : Modal) (p : Path) (v : Resolved) (qs : List Point) (x : Cause FigureRule)
    → IsReadAfter m p v qs
    → Says x (λ rule. (rule ≡ OutOfRange) × ¬ All FitsPoint qs) → Says x (BreachesAfter ignore m (a_path p))
vertices_refused ignore m p v qs (Breach rule) read b = λ earlier s.
    let a = read earlier s in
    let out = range_breached ignore earlier (a_path p) a.values.known
    (λ h. b.1 (subst (λ (ps : List Point). All FitsPoint ps) (sym a.points) h.1)) in
    subst (Breaches ignore earlier (a_path p)) (sym b.0) out
vertices_refused ignore m p v qs OutOfMemory read b = tt

pub extension_refused : (ignore : Ignore) (m : Modal) (p : Path) (v : Resolved) (qs : List Point) → IsReadAfter m p v qs
    → All FitsPoint qs
    → reaches v.stroke.start v.stroke.end ≡ None → BreachesAfter ignore m (a_path p) Extension
extension_refused ignore m p v qs read h r = λ earlier s.
    let a = read earlier s in
    let starts = modal start_set (a_path p ∷ earlier) in
    let ends = modal end_set (a_path p ∷ earlier) in
    record {
      broken = some_negative starts ends v.stroke.start v.stroke.end a.values.start a.values.end r;
      first = before_extension ignore earlier p v qs a h;
    }

-- a property of points and numbers holds of equal ones
carried : (P : List Point → ℕ → ℕ → ℕ → Type 0) (ps qs : List Point) (h i s t e f : ℕ) → ps ≡ qs → h ≡ i → s ≡ t
    → e ≡ f
    → P ps h s e → P qs i t f
carried P ps qs h i s t e f a b c d x =
    let ends = subst (λ (n : ℕ). P ps h s n) d x in
    let starts = subst (λ (n : ℕ). P ps h n f) c ends in
    subst (λ (l : List Point). P l i t f) a (subst (λ (n : ℕ). P ps n t f) b starts)

-- a property of the path as it is read holds of the path that the records give
as_given : (P : List Point → ℕ → ℕ → ℕ → Type 0) (earlier : List Record) (p : Path) (v : Resolved) (qs : List Point)
    (s e : ℕ)
    → IsRead earlier p v qs → HasReaches earlier p s e → P qs v.stroke.half s e
    → P (path_points (a_path p ∷ earlier)) (half_of (a_path p ∷ earlier)) (start_of (a_path p ∷ earlier))
    (end_of (a_path p ∷ earlier))
as_given P earlier p v qs s e a r x =
    let all = a_path p ∷ earlier in
    carried P qs (path_points all) v.stroke.half (half_of all) s (start_of all) e (end_of all) a.points
    (sym (ap number a.values.half))
    (sym (ap reach r.start)) (sym (ap reach r.end)) x

bands_breached : (ignore : Ignore) (earlier : List Record) (p : Path) (v : Resolved) (qs : List Point) (s e : ℕ)
    (rule : FigureRule)
    → IsRead earlier p v qs
    → All FitsPoint qs → HasReaches earlier p s e → BandsBreak ignore.points qs v.stroke.half s e rule
    → Breaches ignore earlier (a_path p) rule
bands_breached ignore earlier p v qs s e (PathRule f) a h r b = record {
  broken = as_given (λ (l : List Point) (i j k : ℕ). IsLowestFault (asked ignore.points l)
      (record { half = i; start = j; end = k }) f)
      earlier p v qs s e a r b;
  first = before_path ignore earlier p v qs s e a h r;
}
bands_breached ignore earlier p v qs s e _ a h r b = absurd b

pub bands_refused : (ignore : Ignore) (m : Modal) (p : Path) (v : Resolved) (qs : List Point) (s e : ℕ)
    (x : Cause FigureRule)
    → IsReadAfter m p v qs
    → All FitsPoint qs → reaches v.stroke.start v.stroke.end ≡ Some (s, e)
    → Says x (BandsBreak ignore.points qs v.stroke.half s e)
    → Says x (BreachesAfter ignore m (a_path p))
bands_refused ignore m p v qs s e (Breach rule) read h r b = λ earlier st.
    let a = read earlier st in
    bands_breached ignore earlier p v qs s e rule a h (has_reaches earlier p v s e a.values r) b
bands_refused ignore m p v qs s e OutOfMemory read h r b = tt

no_later : (ignore : Ignore) (earlier : List Record) (p : Path) (s e : ℕ) → HasReaches earlier p s e
    → ((f : PathFault) → ¬ Breaks ignore earlier (a_path p) (PathRule f)) → BreaksNoLater ignore earlier (a_path p)
no_later ignore earlier p s e r k (Undefined x) lt b = omega (arith, lt)
no_later ignore earlier p s e r k WideLayer lt b = omega (arith, lt)
no_later ignore earlier p s e r k OutOfRange lt b = omega (arith, lt)
no_later ignore earlier p s e r k Magnification lt b = b
no_later ignore earlier p s e r k Angle lt b = b
no_later ignore earlier p s e r k Extension lt b =
    none_negative (modal start_set (a_path p ∷ earlier)) (modal end_set (a_path p ∷ earlier)) s e r.start r.end b
no_later ignore earlier p s e r k Oblique lt b = b
no_later ignore earlier p s e r k (PathRule f) lt b = k f b

pub path_none : (ignore : Ignore) (earlier : List Record) (p : Path) (v : Resolved) (qs : List Point) (s e : ℕ)
    → IsRead earlier p v qs
    → All FitsPoint qs
    → HasReaches earlier p s e → IsPath (asked ignore.points qs) (record { half = v.stroke.half; start = s; end = e })
    → BreachesNone ignore earlier (a_path p)
path_none ignore earlier p v qs s e a h r x =
    let fits = subst (λ (ps : List Point). All FitsPoint ps) a.points h in
    let good = as_given (λ (l : List Point) (i j k : ℕ). IsPath (asked ignore.points l)
    (record { half = i; start = j; end = k })) earlier p
    v qs s e a r x in
    no_rule ignore earlier (a_path p) a.values.known.defined a.values.known.narrow
    (λ out. out (subst FitsPoint (sym a.values.at) a.values.fits, fits))
    (no_later ignore earlier p s e r (λ f b. good f b.breached))

pub path_drawn : (earlier : List Record) (p : Path) (v : Resolved) (qs : List Point) (rings : Vec (List Point) Global)
    (s e : ℕ)
    → IsRead earlier p v qs → HasReaches earlier p s e
    → rings.items ≡ path_rings (without_repeats qs) (record { half = v.stroke.half; start = s; end = e })
    → IsDrawn earlier (a_path p) (Some (Rings v.on rings))
path_drawn earlier p v qs rings s e a r x =
    let all = a_path p ∷ earlier in
    let layer = layer_is all v.stroke.layer v.stroke.datatype v.on a.values.layer a.values.datatype a.values.on in
    let bands = as_given (λ (l : List Point) (i j k : ℕ). rings.items
    ≡ path_rings (without_repeats l) (record { half = i; start = j; end = k })) earlier p v qs s e a r x in
    record {
      shapes = shape_is v.on (layer_of all) rings.items
          (path_rings (without_repeats (path_points all))
          (record { half = half_of all; start = start_of all; end = end_of all }))
          (shifts_of earlier (a_path p)) layer bands;
      placements = refl;
    }
