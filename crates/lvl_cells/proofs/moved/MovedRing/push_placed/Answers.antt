use Rattle.std.proofs.Common.{◌≡◌, ◌++◌, ◌∷◌, [], List, All, Any, map, ap, subst, ◌∙◌}
use Rattle.std.proofs.lemmas.Result.{on_ok_weaker}
use Rattle.lvl_grid.specs.declared.point.Point.{Point}
use Rattle.lvl_grid.specs.Turn.{FitsPoint, shifted}
use Rattle.lvl_grid.specs.Winding.{IsRing}
use Rattle.lvl_grid.specs.Placed.{placed_point}
use Rattle.lvl_grid.proofs.Placed.{covers_placed}
use Rattle.lvl_cells.specs.inside.Outlines.{ring_of}
use Rattle.lvl_cells.proofs.Moving.{IsRing-moved, placed_twice, fits_twice, leaves_twice}
use Rattle.lvl_cells.proofs.moved.MovedRing.push_placed.Goals as goal

pub returns-in-Some-clause-ok : goal.returns-in-Some-clause-ok
returns-in-Some-clause-ok c =
    let points : List Point = c.as_slice.result.now in
    let same : points ≡ ring_of c.self.inside.outline = c.as_slice.ensures ∙ c.kept.ensures in
    let view : map (shifted c.self.inside.by) points ≡ c.args.self.now =
    ap (map (shifted c.self.inside.by)) same ∙ c.self.view_is in
    on_ok_weaker c.push_placed.result
    (λ e.
    e
    ∙ ap (λ ring. c.args.rings.now ++ ring ∷ [])
    (ap (λ d. map (placed_point c.args.by.now d) points) c.in-Some.ensures.1
    ∙ (placed_twice c.args.by.now c.self.inside.by c.args.shift points
    ∙ ap (map (placed_point c.args.by.now c.args.shift)) view)))
    c.push_placed.ensures.ok

pub returns-in-Some-clause-covers : goal.returns-in-Some-clause-covers
returns-in-Some-clause-covers c =
    let ring : IsRing c.args.self.now =
    subst IsRing c.self.view_is (IsRing-moved c.self.inside.by (ring_of c.self.inside.outline)
    c.self.invariant.0.ring) in
    on_ok_weaker c.push_placed.result
    (λ e t. covers_placed c.args.by.now c.args.shift c.args.self.now ring.straight t) c.push_placed.ensures.ok

pub returns-in-Some-clause-in_range : goal.returns-in-Some-clause-in_range
returns-in-Some-clause-in_range c =
    let points : List Point = c.as_slice.result.now in
    let same : points ≡ ring_of c.self.inside.outline = c.as_slice.ensures ∙ c.kept.ensures in
    let view : map (shifted c.self.inside.by) points ≡ c.args.self.now =
    ap (map (shifted c.self.inside.by)) same ∙ c.self.view_is in
    on_ok_weaker c.push_placed.result
    (λ h.
    subst (All (λ v. FitsPoint (placed_point c.args.by.now c.args.shift v))) view
    (fits_twice c.args.by.now c.self.inside.by c.args.shift points
    (subst (λ d. All (λ v. FitsPoint (placed_point c.args.by.now d v)) points) c.in-Some.ensures.1 h)))
    c.push_placed.ensures.in_range

pub returns-in-Some-clause-out_of_range : goal.returns-in-Some-clause-out_of_range
returns-in-Some-clause-out_of_range c = λ e.
    let points : List Point = c.as_slice.result.now in
    let same : points ≡ ring_of c.self.inside.outline = c.as_slice.ensures ∙ c.kept.ensures in
    let view : map (shifted c.self.inside.by) points ≡ c.args.self.now =
    ap (map (shifted c.self.inside.by)) same ∙ c.self.view_is in
    subst (Any (λ v. ¬ FitsPoint (placed_point c.args.by.now c.args.shift v))) view
    (leaves_twice c.args.by.now c.self.inside.by c.args.shift points
    (subst (λ d. Any (λ v. ¬ FitsPoint (placed_point c.args.by.now d v)) points) c.in-Some.ensures.1
    (c.push_placed.ensures.out_of_range e)))

pub push_placed-requires-2 : goal.push_placed-requires-2
push_placed-requires-2 c =
    let ring : IsRing c.args.self.now =
    subst IsRing c.self.view_is (IsRing-moved c.self.inside.by (ring_of c.self.inside.outline)
    c.self.invariant.0.ring) in
    rw (c.deref.ensures.value, c.in-Ok.ensures) ring

pub returns-clause-covers : goal.returns-clause-covers
returns-clause-covers c =
    let ring : IsRing c.args.self.now =
    subst IsRing c.self.view_is (IsRing-moved c.self.inside.by (ring_of c.self.inside.outline)
    c.self.invariant.0.ring) in
    on_ok_weaker c.push_placed-2.result
    (λ e t. covers_placed c.args.by.now c.args.shift c.args.self.now ring.straight t) c.push_placed-2.ensures.ok
