-- Placements that take little memory if there is none, or one.
use Rattle.std.specs.Prelude.{List, [], ◌∷◌}
use Rattle.oasis_figures.specs.Figures.{Placed}
use Rattle.oasis_library.specs.declared.placement.Stored.{Stored}
use Rattle.oasis_library.specs.declared.placement.Stored.TheVariants.{None as NoPlacement, One, Several}

-- the placements that are stored so
abbrev pub stored_placements : Stored → List Placed
stored_placements NoPlacement = []
stored_placements (One b) = b.value ∷ []
stored_placements (Several b) = b.value
