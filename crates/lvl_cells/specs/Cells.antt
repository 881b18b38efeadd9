-- Cells, shapes and references as plain data, and which cell a name means.
use Rattle.std.specs.Prelude.{ℕ, Bool, List, [], ◌∷◌, map, get_or, Option, Some, None, if◌then◌else◌}
use Rattle.std.specs.Str.{bytes_eq}
use Rattle.lvl_grid.specs.declared.point.Point.{Point}
use Rattle.lvl_grid.specs.declared.map.Turn.{Turn}
use Rattle.lvl_grid.specs.declared.map.Map.{Map}
use Rattle.lvl_grid.specs.Turn.{shifted}
use Rattle.lvl_names.specs.declared.layer.Layer.{Layer}

-- a shape: a figure on a Layer, drawn at each of the shifts
pub record PlainShape (F : Type 0) : Type 0 where
  pub layer : Layer
  pub figure : F
  pub shifts : List Point

-- a reference to the cell of this name: for each shift, the cell is reflected about the X axis if `flip` is set, then
-- turned, then moved by `at` and by the shift
pub record PlainReference : Type 0 where
  pub cell : List ℕ
  pub flip : Bool
  pub turn : Turn
  pub at : Point
  pub shifts : List Point

-- a placement of the item at index `key` of a list of names: as a reference places its cell
pub record PlainPlacement : Type 0 where
  pub key : ℕ
  pub flip : Bool
  pub turn : Turn
  pub at : Point
  pub shifts : List Point

-- the reference that places the cell of the name at the placement's index
abbrev pub reference_to : List (List ℕ) → PlainPlacement → PlainReference
reference_to names p =
    record { cell = get_or names p.key []; flip = p.flip; turn = p.turn; at = p.at; shifts = p.shifts }

-- a cell; a library is a list of cells in file order
pub record PlainCell (F : Type 0) : Type 0 where
  pub name : List ℕ
  pub shapes : List (PlainShape F)
  pub references : List PlainReference

-- a list of rings: what a library in memory has as the figure of a shape
abbrev pub Rings : Type 0
Rings = List (List Point)

-- the rings of such a figure: all of them
abbrev pub each_ring : Rings → Rings
each_ring rings = rings

-- the names of the cells, in order
abbrev pub names : {F : Type 0} → List (PlainCell F) → List (List ℕ)
names cells = map (λ c. c.name) cells

-- the map by which a reference places its cell at one of its shifts
abbrev pub map_at : PlainReference → Point → Map
map_at r e = record { flip = r.flip; turn = r.turn; at = shifted r.at e }

-- the first cell of that name, if there is one
abbrev pub cell_named : {F : Type 0} → List (PlainCell F) → List ℕ → Option (PlainCell F)
cell_named [] name = None
cell_named (c ∷ cs) name = if bytes_eq c.name name then Some c else cell_named cs name

-- the cell with each figure replaced by its rings
abbrev pub drawn : {F : Type 0} → (F → Rings) → PlainCell F → PlainCell Rings
drawn rings c = record {
  name = c.name;
  shapes = map (λ h. record { layer = h.layer; figure = rings h.figure; shifts = h.shifts }) c.shapes;
  references = c.references;
}

-- the library as it is kept in memory: each figure is replaced by its rings
abbrev pub kept : {F : Type 0} → (F → Rings) → List (PlainCell F) → List (PlainCell Rings)
kept rings cells = map (drawn rings) cells

-- the shape at index i, or one that draws nothing if there is none
abbrev pub shape_at : List (PlainShape Rings) → ℕ → PlainShape Rings
shape_at shapes i = get_or shapes i (record { layer = record { layer = 0; datatype = 0 }; figure = []; shifts = [] })
