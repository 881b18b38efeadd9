use Rattle.std.proofs.Common.{All, subst, sym}
use Rattle.std.proofs.lemmas.List.Elements.{All-weaker}
use Rattle.lvl_grid.specs.declared.point.Point.{Point}
use Rattle.lvl_grid.specs.declared.point.Square.{Square}
use Rattle.lvl_names.specs.Shifts.{IsBetween}
use Rattle.lvl_flat.specs.declared.bounds.Bounds.{Bounds}
use Rattle.lvl_flat.specs.Boxes.{HoldsPoint}
use Rattle.lvl_flat.specs.inside.Bounds.{HasSquare}
use Rattle.lvl_flat.proofs.Outside.{ring_square}
use Rattle.lvl_witness.specs.inside.Areas.{moved_box}
use Rattle.lvl_witness.specs.Wide.{as_point}
use Rattle.lvl_witness.specs.inside.Wide.{as_square}
use Rattle.lvl_witness.proofs.Reaching.{moved_has}
use Rattle.lvl_witness.proofs.areas.area_of_ring.Goals as goal

pub returns-clause-has : goal.returns-clause-has
returns-clause-has c =
    let low : Point = c.in_ok-low.low in
    let high : Point = c.in_ok-low.high in
    let q : Square = as_square c.args.square in
    let b : Bounds = record { low = low; high = high } in
    let between : All (IsBetween low high) c.args.ring.now = c.in_ok-low.ensures in
    let held : All (HoldsPoint b) c.args.ring.now =
    All-weaker (IsBetween low high) (HoldsPoint b)
    (λ p w. record { left = w.left; right = w.right; below = w.below; above = w.above }) c.args.ring.now between in
    λ s e covers same.
    let has : HasSquare b s = ring_square b c.args.ring.now s held covers in
    let moved : HasSquare (moved_box low high e) q =
    subst (HasSquare (moved_box low high e)) same (moved_has low high e s has) in
    (c.around.ensures.has e).1
    (subst (λ (l : Point). HasSquare (moved_box l (as_point c.from_point-2.result) e) q)
    (sym c.from_point.ensures.same)
    (subst (λ (h : Point). HasSquare (moved_box low h e) q) (sym c.from_point-2.ensures.same) moved))
