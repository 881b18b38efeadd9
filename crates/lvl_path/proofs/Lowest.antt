-- A path has one lowest fault.
use Rattle.std.proofs.Common.{◌≡◌, ◌<◌, List, refl, arith}
use Rattle.lvl_grid.specs.declared.point.Point.{Point}
use Rattle.lvl_path.specs.Runs.{number, IsLowestFault}
use Rattle.lvl_path.specs.declared.band.Reach.{Reach}
use Rattle.lvl_path.specs.declared.fault.PathFault.{PathFault}
use Rattle.lvl_path.specs.declared.fault.PathFault.TheVariants.{NoWidth, FewPoints, Oblique, RepeatedPoint, TurnsBack}
use Rattle.lvl_path.specs.declared.fault.PathFault.TheVariants.{ShortRun, OutOfRange}

same_fault : (f g : PathFault) → number f ≡ number g → f ≡ g
same_fault NoWidth NoWidth e = refl
same_fault FewPoints FewPoints e = refl
same_fault Oblique Oblique e = refl
same_fault RepeatedPoint RepeatedPoint e = refl
same_fault TurnsBack TurnsBack e = refl
same_fault ShortRun ShortRun e = refl
same_fault OutOfRange OutOfRange e = refl
same_fault f g e = absurd (omega (arith, e))

-- two different faults aren't both the lowest of a path
pub one_lowest : (ps : List Point) (w : Reach) (f g : PathFault) → IsLowestFault ps w f → IsLowestFault ps w g → f ≡ g
one_lowest ps w f g x y =
    let below : number f < number g → ⊥ = λ l. y.lowest f l x.breached in
    let above : number g < number f → ⊥ = λ l. x.lowest g l y.breached in
    same_fault f g (omega (arith, below, above))
