use Rattle.std.proofs.Common.{◌≡◌, ◌∙◌, ◌<◌, ℕ, List, IfSome, length, slice_get, sym, subst, ap, arith}
use Rattle.lvl_profile.specs.Limits.{large}
use Rattle.lvl_cells.specs.Cells.{PlainCell, Rings}
use Rattle.lvl_cells.specs.Checks.{Settled, PlacesFew}
use Rattle.lvl_cells.specs.Times.{AreTimes}
use Rattle.lvl_cells.specs.inside.Settling.{settled}
use Rattle.lvl_cells.proofs.Examining.{rooted_checked}
use Rattle.lvl_cells.proofs.checked.Checked.rooted.Goals as goal

abbrev at_top : ℕ → Settled → Settled
at_top k s = record { cells = s.cells; top = k; order = s.order }

pub invariant_of-result : goal.invariant_of-result
invariant_of-result c =
    let same = c.in_ok-resolved-in-Ok.ensures.cases in
    let kept : Settled = settled c.self.inside in
    let linked : c.linked_at.result ≡ at_top c.args.top kept =
    c.linked_at.ensures ∙ ap (at_top c.args.top) (sym c.self.view_is) in
    let same_cells : kept.cells ≡ c.args.self.now.cells = ap (λ (s : Settled). s.cells) c.self.view_is in
    let within : c.args.top < length kept.cells =
    subst (λ (cells : List (PlainCell Rings)). c.args.top < length cells) (c.cells.ensures.value ∙ sym same_cells)
    (omega (arith, c.if-top-cells.false)) in
    let few : IfSome (slice_get kept.cells c.args.top) (PlacesFew large kept.cells) =
    subst (λ (s : Settled). IfSome (slice_get s.cells s.top) (PlacesFew large s.cells)) linked c.in-Ok.ensures.few in
    let times : AreTimes (at_top c.args.top kept) c.in-Ok.times.items =
    subst (λ (s : Settled). AreTimes s c.in-Ok.times.items) linked c.in-Ok.ensures.times in
    record {
      checked = rw same (rooted_checked kept c.args.top c.self.invariant.checked within few);
      targets = rw same c.self.invariant.targets;
      times = rw same times;
    }
