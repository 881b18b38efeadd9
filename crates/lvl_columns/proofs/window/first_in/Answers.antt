use Rattle.std.proofs.Common.{Bor, Option, Some, subst, sym}
use Rattle.lvl_grid.specs.declared.point.Window.{Window}
use Rattle.lvl_columns.specs.Columns.{IsFirstIn, Lists}
use Rattle.lvl_columns.specs.Windows.{IsShown, window_of}
use Rattle.lvl_columns.proofs.window.first_in.Goals as goal

pub returns : goal.returns
returns c =
    let whole : Lists = (c.args.first.now, c.args.second.now) in
    let here : IsFirstIn (IsShown (Some c.in-Some.window.now)) whole c.in_ok-first_of-2.field-0.found =
    record {
      part = (c.in_ok-ours.ours, c.in_ok-theirs.theirs);
      is_part = λ s. (c.in_ok-ours.ensures s, c.in_ok-theirs.ensures s);
      first = c.in_ok-first_of-2.ensures.found;
    } in
    subst (λ (w : Option (Bor Window)). IsFirstIn (IsShown (window_of w)) whole c.in_ok-first_of-2.field-0.found)
    (sym c.in-Some.is) here
