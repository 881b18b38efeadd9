use Rattle.std.proofs.Common.{◌≡◌, ℤ, pos, ◌+ℤ◌, ◌-ℤ◌, cond, int_eq, sym, ap, subst, ◌∙◌, rules, FitsSigned}
use Rattle.std.specs.Int.{w64}
use mir.Val.{to_z}
use Rattle.std.proofs.lemmas.Int.{to_z-of_z}
use Rattle.lvl_corners.specs.inside.Marks.{net, row_step}
use Rattle.lvl_corners.proofs.Rows.{touching}
use Rattle.lvl_corners.proofs.bands.push_rows.Goals as goal

pub returns-then-row-band : goal.returns-then-row-band
returns-then-row-band c =
    let from_fits : FitsSigned w64 c.args.band.now.y0 = search rules in
    let to_fits : FitsSigned w64 c.args.row.now.y = search rules in
    let same : c.args.row.now.y ≡ c.args.band.now.y0 =
    sym (to_z-of_z w64 _ to_fits) ∙ (ap (to_z w64) c.if-row-band.true ∙ to_z-of_z w64 _ from_fits) in
    λ x y.
    let put = rw (c.deref.ensures.value, c.deref-then-row-band.ensures.value) at (simp to_z-of_z at
    (c.in_ok-push_between.ensures x y)) in
    let a : ℤ = row_step x c.args.band.now.intervals.items in
    let b : ℤ = row_step x c.args.row.now.intervals.items in
    let old : ℤ = net x y c.args.marks.now.items in
    let new : ℤ = net x y c.push_between.new.marks.items in
    let t = int_eq c.args.band.now.y0 y in
    subst (λ (z : ℤ). new ≡ (old +ℤ cond (int_eq z y) (pos 0 -ℤ b) (pos 0)) +ℤ cond t a (pos 0)) (sym same)
    (touching t old new b a put)

pub returns : goal.returns
returns c =
    let from_fits : FitsSigned w64 c.args.band.now.y0 = search rules in
    let to_fits : FitsSigned w64 c.args.row.now.y = search rules in
    λ x y.
    let first = rw c.deref-2.ensures.value at (simp to_z-of_z at (c.in_ok-push_row.ensures x y)) in
    let last = rw c.deref-3.ensures.value at (simp to_z-of_z at (c.in_ok-push_row-2.ensures x y)) in
    last ∙ ap (λ (n : ℤ). n +ℤ cond (int_eq c.args.band.now.y0 y) (row_step x c.args.band.now.intervals.items)
    (pos 0)) first
