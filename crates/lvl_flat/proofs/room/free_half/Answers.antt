use Rattle.std.proofs.Common.{◌↔◌, List, subst}
use Rattle.lvl_grid.specs.declared.point.Point.{Point}
use Rattle.lvl_grid.specs.declared.point.Square.{Square}
use Rattle.lvl_grid.specs.Winding.{SomeCovers}
use Rattle.lvl_flat.proofs.room.free_half.Goals as goal

pub returns-then-freed-held-clause-covers : goal.returns-then-freed-held-clause-covers
returns-then-freed-held-clause-covers c =
    subst (λ (all : List (List Point)). (q : Square) → SomeCovers c.in-Ok.simpler q ↔ SomeCovers all q)
    c.replace-all.ensures.value c.in-Ok.ensures

pub returns-clause-covers : goal.returns-clause-covers
returns-clause-covers c =
    subst (λ (all : List (List Point)). (q : Square) → SomeCovers c.in-Ok.simpler q ↔ SomeCovers all q)
    c.replace-all.ensures.value c.in-Ok.ensures
