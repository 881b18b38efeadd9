use Rattle.std.proofs.Common.{◌<ℤ◌, ◌≤ℤ◌, ◌-ℤ◌, pos, IsTrue}
use Rattle.lvl_corners.proofs.Spans.{corners_of_halves}
use Rattle.lvl_corners.proofs.span.strips_append.Goals as goal

pub returns : goal.returns
returns c covered span at ks ls inner left right =
    corners_of_halves (λ s. IsTrue (covered s)) (λ s. (s.x <ℤ at) × IsTrue (covered s))
    (λ s. ((at -ℤ pos 1) ≤ℤ s.x) × IsTrue (covered s)) span at ks ls
    (record { left = λ s. (λ h. h, λ h. h); right = λ s. (λ h. h, λ h. h) }) inner left right
