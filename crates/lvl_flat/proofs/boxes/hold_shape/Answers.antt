use Rattle.std.proofs.Common.{◌<◌, ◌≤◌, ℕ, [], All, take, length, subst, arith}
use Rattle.std.proofs.lemmas.List.{take_all}
use Rattle.std.proofs.lemmas.List.Elements.{All-more, All-weaker}
use Rattle.lvl_cells.specs.Cells.{PlainShape, Rings, shape_at}
use Rattle.lvl_flat.specs.declared.bounds.Bounds.{Bounds}
use Rattle.lvl_flat.specs.inside.Bounds.{HoldsRing}
use Rattle.lvl_flat.proofs.Holding.{widens_itself, widens_further, ring_wider, figure_own}
use Rattle.lvl_flat.proofs.boxes.hold_shape.Goals as goal

pub loop-j-init : goal.loop-j-init
loop-j-init c = record { wider = widens_itself c.args.bounds; held = λ k d lt. absurd (omega (arith, lt)) }

pub loop-j-preserved : goal.loop-j-preserved
loop-j-preserved c =
    let figure : Rings = (shape_at c.args.shapes.now c.args.i).figure in
    let j : ℕ = c.loop-j.j in
    let b : Bounds = c.in_ok-held.held in
    let s : Bounds = c.bounds_of_shape_shifts-shifts.result in
    let there : j < length figure = omega (arith, c.loop-j-test.true, c.ring_count-j-end.ensures) in
    record {
      wider = widens_further c.args.bounds c.loop-j.held b c.loop-j.invariant.wider c.in_ok-held.ensures.wider;
      held = All-more (HoldsRing b s) figure j [] there
          (All-weaker (HoldsRing c.loop-j.held s) (HoldsRing b s)
          (λ ring h. ring_wider c.loop-j.held b s ring c.in_ok-held.ensures.wider h) (take j figure)
          c.loop-j.invariant.held)
          (subst (HoldsRing b s) c.ring.ensures.value c.in_ok-held.ensures.held);
    }

pub returns-clause-held : goal.returns-clause-held
returns-clause-held c =
    let h : PlainShape Rings = shape_at c.args.shapes.now c.args.i in
    let s : Bounds = c.bounds_of_shape_shifts-shifts.result in
    let long : length h.figure ≤ c.loop-j.j = omega (arith, c.loop-j-test.false, c.ring_count-j-end.ensures) in
    figure_own c.loop-j.held s h c.bounds_of_shape_shifts-shifts.ensures
    (subst (All (HoldsRing c.loop-j.held s)) (take_all c.loop-j.j h.figure long) c.loop-j.invariant.held)
