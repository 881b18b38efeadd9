use Rattle.std.proofs.Common.{◌<ℤ◌, ◌≤ℤ◌, ◌-ℤ◌, pos, IsTrue}
use Rattle.lvl_corners.proofs.Gathered.{gathered_left, gathered_more}
use Rattle.lvl_corners.proofs.Parts.{corners_of_parts, corners_at_all}
use Rattle.lvl_corners.proofs.span.parts_append.Goals as goal

pub returns-clause-append : goal.returns-clause-append
returns-clause-append c covered x rows at ks ls inner low high =
    corners_of_parts (λ s. IsTrue (covered s)) (λ s. (s.y <ℤ at) × IsTrue (covered s))
    (λ s. ((at -ℤ pos 1) ≤ℤ s.y) × IsTrue (covered s)) x rows at ks ls
    (record { low = λ s. (λ h. h, λ h. h); high = λ s. (λ h. h, λ h. h) }) inner low high

pub returns-clause-all : goal.returns-clause-all
returns-clause-all c covered x ks h = corners_at_all (λ s. IsTrue (covered s)) x ks h

pub returns-clause-gathered : goal.returns-clause-gathered
returns-clause-gathered c covered x end stop rows at old new inner lower low high =
    gathered_more (λ s. IsTrue (covered s)) (λ s. (s.y <ℤ at) × IsTrue (covered s))
    (λ s. ((at -ℤ pos 1) ≤ℤ s.y) × IsTrue (covered s)) x end stop rows at old new
    (record { low = λ s. (λ h. h, λ h. h); high = λ s. (λ h. h, λ h. h) }) inner lower low high

pub returns-clause-left : goal.returns-clause-left
returns-clause-left c covered x end stop rows h lower g =
    gathered_left (λ s. IsTrue (covered s)) (λ s. (s.x <ℤ stop) × IsTrue (covered s)) x end stop rows h lower
    (λ s. (λ h. h, λ h. h)) g
