-- The order of the records of the five elements (GDSII Stream Format Manual, Release 6, "Stream syntax"; own rule:
-- ELFLAGS, PLEX and properties are left out).
use Rattle.std.specs.Prelude.{◌==◌, ◌||◌, Bool, ℕ}
use Rattle.lvl_grammar.specs.Order.{Order, ◌then◌, ◌or◌, one, maybe}
use Rattle.gds_elements.specs.Types.{boundary, path, sref, aref, text, layer, datatype, width, xy, endel, sname, colrow}
use Rattle.gds_elements.specs.Types.{texttype, presentation, string, strans, mag, angle, pathtype}

-- how a cell or a text is reflected, magnified and turned
abbrev pub a_transform : Order
a_transform = one strans then maybe (one mag) then maybe (one angle)

-- a boundary
abbrev pub a_boundary : Order
a_boundary = one boundary then one layer then one datatype then one xy then one endel

-- a path
abbrev pub a_path : Order
a_path =
    one path then one layer then one datatype then maybe (one pathtype) then maybe (one width) then one xy
    then one endel

-- a reference
abbrev pub a_reference : Order
a_reference = one sref then one sname then maybe a_transform then one xy then one endel

-- an array of references
abbrev pub an_array : Order
an_array = one aref then one sname then maybe a_transform then one colrow then one xy then one endel

-- a text
abbrev pub a_text : Order
a_text =
    one text then one layer then one texttype then maybe (one presentation) then maybe (one pathtype)
    then maybe (one width)
    then maybe a_transform then one xy then one string then one endel

-- an element is one of these five (own rule: no node and no box)
abbrev pub an_element : Order
an_element = a_boundary or a_path or a_reference or an_array or a_text

-- the types that open an element
abbrev pub opens : ℕ → Bool
opens k = (k == boundary) || (k == path) || (k == sref) || (k == aref) || (k == text)
