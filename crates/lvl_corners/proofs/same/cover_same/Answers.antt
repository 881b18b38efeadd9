use Rattle.std.proofs.Common.{◌≡◌, ◌&&◌, true, int_eq, sym, ◌∙◌, arith, subst}
use Rattle.std.specs.Bool.{Decides}
use Rattle.std.proofs.lemmas.Int.{ints}
use Rattle.std.proofs.lemmas.Slice.Eq.{slice_eq-Decides}
use Rattle.lvl_grid.specs.Winding.{SomeCovers}
use Rattle.lvl_corners.specs.declared.corner.Corner.{Corner}
use Rattle.lvl_corners.proofs.Totals.{corner_is}
use Rattle.lvl_corners.proofs.Deciding.{one_list, same_squares}
use Rattle.lvl_corners.proofs.same.cover_same.Goals as goal

itself : (k : Corner) → (int_eq k.x k.x && (int_eq k.y k.y && int_eq k.change k.change)) ≡ true
itself k = grind (arith, ints)

corner_decides : (k l : Corner) → Decides (int_eq k.x l.x && (int_eq k.y l.y && int_eq k.change l.change)) (k ≡ l)
corner_decides k l = (
  λ h. corner_is k l (grind (arith, ints)) (grind (arith, ints)) (grind (arith, ints)),
  λ e. subst (λ (m : Corner). (int_eq k.x m.x && (int_eq k.y m.y && int_eq k.change m.change)) ≡ true) e (itself k),
)

pub returns : goal.returns
returns c =
    let first = SomeCovers c.args.first.now in
    let second = SomeCovers c.args.second.now in
    let ours = c.in_ok-ours.ensures.corners in
    let theirs = c.in_ok-theirs.ensures.corners in
    let same = slice_eq-Decides corner_decides c.as_slice.result.now c.as_slice-2.result.now c.eq.result c.eq.ensures in
    let one = one_list first second c.in_ok-ours.ours.items c.in_ok-theirs.theirs.items ours theirs in
    let squares = same_squares first second c.in_ok-ours.ours.items c.in_ok-theirs.theirs.items ours theirs in (
      λ h. squares (sym c.as_slice.ensures.value ∙ (same.0 h ∙ c.as_slice-2.ensures.value)),
      λ all. same.1 (c.as_slice.ensures.value ∙ (one all ∙ sym c.as_slice-2.ensures.value)),
    )
