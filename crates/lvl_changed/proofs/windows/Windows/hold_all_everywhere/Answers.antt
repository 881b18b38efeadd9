use Rattle.std.proofs.Common.{pos}
use Rattle.lvl_grid.specs.declared.point.Window.{Window}
use Rattle.lvl_grid.specs.Turn.{image_square}
use Rattle.lvl_cells.specs.Cells.{map_at}
use Rattle.lvl_changed.specs.inside.Arrays.{as_reference}
use Rattle.lvl_changed.proofs.Widening.{all_placed, placed_more, widens_further}
use Rattle.lvl_changed.proofs.windows.Windows.hold_all_everywhere.Goals as goal

pub returns-then-held-clause-held : goal.returns-then-held-clause-held
returns-then-held-clause-held c = λ e there. record {
  has = λ s h. c.hold_anywhere.ensures (image_square (map_at (as_reference c.args.array.now) e) s);
}

pub returns-then-held-clause-kept : goal.returns-then-held-clause-kept
returns-then-held-clause-kept c = record { has = λ s h. c.hold_anywhere.ensures s }

pub loop-window-preserved : goal.loop-window-preserved
loop-window-preserved c =
    let none : Window = record { x0 = pos 0; y0 = pos 0; x1 = pos 0; y1 = pos 0 } in
    let wide = c.in_ok-hold_everywhere.ensures.kept in
    record {
      held = λ e there.
          placed_more (map_at (as_reference c.args.array.now) e) c.args.held.now.list.items
          c.deref-window-items.result.now c.loop-window.window-index none c.loop-window.self
          c.hold_everywhere.new.self c.deref-window-items.ensures.value c.loop-window-test.true
          (c.loop-window.invariant.held e there) (c.in_ok-hold_everywhere.ensures.held e there) wide;
      kept =
          widens_further c.args.self.now c.loop-window.self c.hold_everywhere.new.self c.loop-window.invariant.kept wide;
    }

pub returns-clause-held : goal.returns-clause-held
returns-clause-held c = λ e there.
    all_placed (map_at (as_reference c.args.array.now) e) c.args.held.now c.loop-window.self
    c.deref-window-items.result.now c.loop-window.window-index c.if-held.false c.deref-window-items.ensures.value
    c.loop-window-test.false (c.loop-window.invariant.held e there)
