use Rattle.std.proofs.Common.{◌≢◌, ◌↔◌, pos, All, List, Vec, Global, Option, w64, rules, subst, sym}
use Rattle.std.specs.Option.{IfSome}
use Rattle.std.proofs.lemmas.Int.{to_z-of_z}
use Rattle.std.proofs.lemmas.Result.{IfOk-weaker}
use Rattle.lvl_grid.specs.declared.point.Point.{Point}
use Rattle.lvl_grid.specs.declared.point.Square.{Square}
use Rattle.lvl_grid.specs.Winding.{Covers}
use Rattle.lvl_simplify.specs.declared.redraw.Upright.{Upright}
use Rattle.lvl_simplify.specs.Redraw.{NotLeftOf, winding_by, edges_winding}
use Rattle.lvl_simplify.proofs.Redrawing.{same_covers, some_of_ok}
use Rattle.lvl_simplify.proofs.Capping.{winds_alike}
use Rattle.lvl_simplify.proofs.redraw.redrawn.Goals as goal

pub returns : goal.returns
returns c =
    let l = to_z-of_z w64 c.args.left c.ranges.left in
    let r = to_z-of_z w64 c.args.right c.ranges.right in
    let ring : List Point = c.args.ring.now in
    let points : List Point = c.in_ok-points.points.items in
    let from : All (NotLeftOf c.args.left) ring = rw l at (c.is_from.ensures (search rules)) in
    let from-2 : All (NotLeftOf c.args.left) points =
    rw (l, c.deref-2.ensures.value) at (c.is_from-2.ensures (search rules)) in
    let least : (s : Square) → (winding_by s c.in-Some.uprights.items ≢ pos 0)
    ↔ (edges_winding s c.args.right c.in_ok-of.field-0 ≢ pos 0) =
    subst (λ (o : Option (Vec Upright Global)). IfSome o (λ us. (s : Square)
    → (winding_by s us.items ≢ pos 0) ↔ (edges_winding s c.args.right c.in_ok-of.field-0 ≢ pos 0))) c.in-Some.is
    (rw r at c.in_ok-uprights.ensures) in
    some_of_ok (λ other. (s : Square) → Covers ring s ↔ Covers other s) c.new.result c.ok.result c.ok.ensures.value
    (IfOk-weaker c.new.result _ _
    (λ other is s.
    subst (λ ps. Covers ring s ↔ Covers ps s) (sym is.0)
    (same_covers c.args.left ring points s from from-2
    (λ le. winds_alike ((rw (l, c.deref.ensures.value) at (c.in_ok-points.ensures s)) le) (least s)
    ((rw (l, r) at (c.in_ok-of.ensures s)) le)))) c.new.ensures.ok)
