-- The number and the name of each fault that belongs to no format, and what it carries, as they are printed (own rule).
use Rattle.std.specs.Prelude.{ℕ, List, ◌∷◌, ◌++◌, flat_map, codes}
use Rattle.lvl_path.specs.declared.fault.PathFault.{PathFault}
use Rattle.lvl_path.specs.declared.fault.PathFault.TheVariants.{NoWidth, FewPoints, Oblique, RepeatedPoint, TurnsBack}
use Rattle.lvl_path.specs.declared.fault.PathFault.TheVariants.{ShortRun, OutOfRange as BandOutOfRange}
use Rattle.lvl_cells.specs.declared.fault.CellFault.{CellFault}
use Rattle.lvl_cells.specs.declared.fault.CellFault.TheVariants.{NoCell, DuplicateCell, MissingCell, Cycle, TopMissing}
use Rattle.lvl_cells.specs.declared.fault.CellFault.TheVariants.{ManyTops, TooManyPlacements, TooManyRings}
use Rattle.lvl_view.specs.declared.fault.ViewFault.{ViewFault}
use Rattle.lvl_view.specs.declared.fault.ViewFault.TheVariants.{MapText, WindowText, MapTwice, EmptyWindow}
use Rattle.lvl_profile.specs.declared.ignore.IgnoreFault.{IgnoreFault}
use Rattle.lvl_profile.specs.declared.ignore.IgnoreFault.TheVariants.{IgnoreText}
use Rattle.lvl_flat.specs.declared.fault.FlatFault.{FlatFault}
use Rattle.lvl_flat.specs.declared.fault.FlatFault.TheVariants.{OutOfRange}

-- a space and the text
abbrev pub spaced : List ℕ → List ℕ
spaced text = 32 ∷ text

-- a fault of a path
abbrev pub path_fault : PathFault → List ℕ
path_fault NoWidth = codes "1 NoWidth"
path_fault FewPoints = codes "2 FewPoints"
path_fault Oblique = codes "3 Oblique"
path_fault RepeatedPoint = codes "4 RepeatedPoint"
path_fault TurnsBack = codes "5 TurnsBack"
path_fault ShortRun = codes "6 ShortRun"
path_fault BandOutOfRange = codes "7 OutOfRange"

-- a fault of the texts of a view; the Layer that is a source twice isn't printed
abbrev pub view_fault : ViewFault → List ℕ
view_fault MapText = codes "1 MapText"
view_fault WindowText = codes "2 WindowText"
view_fault (MapTwice layer) = codes "3 MapTwice"
view_fault EmptyWindow = codes "4 EmptyWindow"

-- a fault of the text of what is ignored
abbrev pub ignore_fault : IgnoreFault → List ℕ
ignore_fault IgnoreText = codes "1 IgnoreText"

-- a fault of the cells of a library, with the names of the cells concerned
abbrev pub cell_fault : CellFault → List ℕ
cell_fault NoCell = codes "1 NoCell"
cell_fault (DuplicateCell name) = codes "2 DuplicateCell" ++ spaced name.items
cell_fault (MissingCell from name) = codes "3 MissingCell" ++ spaced from.items ++ spaced name.items
cell_fault (Cycle names) = codes "4 Cycle" ++ flat_map (λ name. spaced name.items) names.items
cell_fault TopMissing = codes "5 TopMissing"
cell_fault ManyTops = codes "6 ManyTops"
cell_fault TooManyPlacements = codes "7 TooManyPlacements"
cell_fault TooManyRings = codes "8 TooManyRings"

-- a fault of what the top places, with the name of the cell concerned
abbrev pub flat_fault : FlatFault → List ℕ
flat_fault (OutOfRange name) = codes "1 OutOfRange" ++ spaced name.items
