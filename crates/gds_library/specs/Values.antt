-- The library that a list of records means (GDSII Stream Format Manual, Release 6, HEADER, UNITS, BGNSTR and STRNAME).
use Rattle.std.specs.Prelude.{ℕ, List, [], ◌∷◌, map, take, drop}
use Rattle.std.specs.List.{flat_map}
use Rattle.gds_elements.specs.Types.{header, units, bgnstr, strname}
use Rattle.gds_elements.specs.Rec.{Rec, is_type, is_opener, field}
use Rattle.gds_elements.specs.Values.{short, name}
use Rattle.gds_elements.specs.Meaning.{shapes_of, references_of}
use Rattle.gds_library.specs.Drawn.{Drawing}
use Rattle.gds_library.specs.Rec.{pieces}
use Rattle.gds_library.specs.declared.head.GdsHead.{GdsHead}

-- the cell of a structure's records: its name, and the shapes and references of its elements, in their order
abbrev pub drawing : List Rec → Drawing
drawing rs = record {
  name = name (field strname rs);
  shapes = flat_map shapes_of (pieces is_opener rs);
  references = flat_map references_of (pieces is_opener rs);
}

-- the library has a cell for each structure, in their order
abbrev pub drawings : List Rec → List Drawing
drawings rs = map drawing (pieces (is_type bgnstr) rs)

-- the two eight-byte reals of UNITS
abbrev pub two_reals : List ℕ → List (List ℕ)
two_reals p = take 8 p ∷ drop 8 p ∷ []

-- the version in HEADER, and the two reals of UNITS
abbrev pub head : List Rec → GdsHead
head rs = record { version = short (field header rs); units = two_reals (field units rs) }
