use Rattle.std.proofs.Common.{◌≤◌, List, Contains, length, sym, subst, arith}
use Rattle.std.proofs.lemmas.List.{take_all}
use Rattle.lvl_grid.specs.declared.point.Point.{Point}
use Rattle.lvl_grid.specs.Turn.{image_square}
use Rattle.lvl_cells.specs.Cells.{map_at}
use Rattle.lvl_changed.specs.inside.Arrays.{as_reference}
use Rattle.lvl_changed.proofs.Widening.{places_more, widens_further}
use Rattle.lvl_changed.proofs.windows.Windows.hold_places.Goals as goal

pub returns-then-is_empty-clause-held : goal.returns-then-is_empty-clause-held
returns-then-is_empty-clause-held c = λ e there. record {
  has = λ s h. absurd (c.is_empty.ensures c.if-is_empty.true s h);
}

pub returns-in_default-clause-held : goal.returns-in_default-clause-held
returns-in_default-clause-held c = λ e there. record {
  has = λ s h. c.hold_anywhere.ensures (image_square (map_at (as_reference c.args.array.now) e) s);
}

pub returns-in_default-clause-kept : goal.returns-in_default-clause-kept
returns-in_default-clause-kept c = record { has = λ s h. c.hold_anywhere.ensures s }

pub loop-k-preserved : goal.loop-k-preserved
loop-k-preserved c =
    let wide = c.in_ok-hold_all_placed.ensures.kept in
    record {
      held =
          places_more (as_reference c.args.array.now) c.loop-k.k c.in-Some.map c.args.held.now c.loop-k.self
          c.hold_all_placed.new.self c.in-Some.ensures c.loop-k.invariant.held c.in_ok-hold_all_placed.ensures.held
          wide;
      kept = widens_further c.args.self.now c.loop-k.self c.hold_all_placed.new.self c.loop-k.invariant.kept wide;
    }

pub returns-clause-held : goal.returns-clause-held
returns-clause-held c = λ e there.
    let shifts : List Point = c.args.array.now.shifts in
    let long : length shifts ≤ c.loop-k.k =
    omega (arith, c.loop-k-test.false, c.len-k-end.ensures.count) in
    c.loop-k.invariant.held e (subst (λ es. Contains es e) (sym (take_all c.loop-k.k shifts long)) there)
