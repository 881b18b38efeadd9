use Rattle.std.proofs.Common.{◌≡◌, refl, ◌∙◌, int_eq, rules, FitsSigned}
use Rattle.std.specs.Int.{w64}
use Rattle.std.proofs.lemmas.Int.{to_z-of_z}
use Rattle.lvl_corners.specs.inside.Marks.{row_step}
use Rattle.lvl_corners.proofs.Rows.{held_back}
use Rattle.lvl_corners.proofs.bands.push_band.Goals as goal

pub returns : goal.returns
returns c =
    let fits : FitsSigned w64 c.args.band.now.y1 = search rules in
    let items : c.extend_from_slice.new.self.items ≡ c.args.band.now.intervals.items =
    c.in_ok-extend_from_slice.ensures.items ∙ rw (c.clear.ensures.items, c.deref.ensures.value) refl in
    λ x y.
    rw (to_z-of_z w64 _ fits, items) (held_back (int_eq c.args.band.now.y1 y)
    (row_step x c.args.band.now.intervals.items) _ _ _ (c.in_ok-push_rows.ensures x y))
