use Rattle.std.proofs.Common.{◌≡◌, ◌*◌, ℤ, pos, ◌*ℤ◌, neg_ℤ, unsigned_abs, to_z, of_z, w64, ap, sym, ◌∙◌, arith}
use Rattle.std.proofs.lemmas.Int.{ints, to_z-of_z}
use Rattle.lvl_witness.proofs.Multiples.{times_down}
use Rattle.lvl_witness.proofs.stretch.multiples.Goals as goal

pub returns-then-step-lt0 : goal.returns-then-step-lt0
returns-then-step-lt0 c = λ k small low high.
    let step : ℤ = c.args.step in
    let same : to_z w64 (of_z w64 step) ≡ step = to_z-of_z w64 step c.ranges.step in
    let size : c.unsigned_abs.result ≡ unsigned_abs step = c.unsigned_abs.ensures.value ∙ ap unsigned_abs same in
    let down : pos k *ℤ step ≡ neg_ℤ (pos (k * c.unsigned_abs.result)) =
    times_down k step (grind (arith, ints, c.if-step-lt0.true)) ∙ ap (λ n. neg_ℤ (pos (k * n))) (sym size) in
    c.products.ensures k small (omega (arith, ints, down, high)) (omega (arith, ints, down, low))
