use Rattle.std.proofs.Common.{◌<◌, ◌≤◌, ℕ, List, All, take, length, subst, arith}
use Rattle.std.proofs.lemmas.List.{take_all}
use Rattle.std.proofs.lemmas.List.Elements.{All-more, All-weaker}
use Rattle.lvl_cells.specs.Cells.{PlainShape, Rings}
use Rattle.lvl_flat.specs.declared.bounds.Bounds.{Bounds}
use Rattle.lvl_flat.specs.inside.Bounds.{HoldsOwn}
use Rattle.lvl_flat.proofs.Holding.{widens_itself, widens_further, own_wider}
use Rattle.lvl_flat.proofs.boxes.hold_shapes.Goals as goal

pub loop-i-init : goal.loop-i-init
loop-i-init c = record { wider = widens_itself c.args.bounds; held = λ k d lt. absurd (omega (arith, lt)) }

pub loop-i-preserved : goal.loop-i-preserved
loop-i-preserved c =
    let shapes : List (PlainShape Rings) = c.args.shapes.now in
    let i : ℕ = c.loop-i.i in
    let b : Bounds = c.in_ok-held.held in
    let there : i < length shapes = omega (arith, c.loop-i-test.true, c.len-i-end.ensures) in
    record {
      wider = widens_further c.args.bounds c.loop-i.held b c.loop-i.invariant.wider c.in_ok-held.ensures.wider;
      held = All-more (HoldsOwn b) shapes i _ there
          (All-weaker (HoldsOwn c.loop-i.held) (HoldsOwn b)
          (λ h held. own_wider c.loop-i.held b h c.in_ok-held.ensures.wider held) (take i shapes)
          c.loop-i.invariant.held)
          c.in_ok-held.ensures.held;
    }

pub returns-clause-held : goal.returns-clause-held
returns-clause-held c =
    let shapes : List (PlainShape Rings) = c.args.shapes.now in
    let long : length shapes ≤ c.loop-i.i = omega (arith, c.loop-i-test.false, c.len-i-end.ensures) in
    subst (All (HoldsOwn c.loop-i.held)) (take_all c.loop-i.i shapes long) c.loop-i.invariant.held
