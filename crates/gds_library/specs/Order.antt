-- The order of records in a library (GDSII Stream Format Manual, Release 6, "Stream syntax"; own rules: the optional
-- records of a library are left out, and any number of zero bytes may come after it).
use Rattle.gds_elements.specs.Types.{header, bgnlib, libname, units, endlib, bgnstr, strname, endstr}
use Rattle.lvl_grammar.specs.Order.{Order, ◌then◌, one, many}
use Rattle.gds_elements.specs.Order.{an_element}
use Rattle.gds_library.specs.Types.{fill}

-- a structure: BGNSTR STRNAME, elements, ENDSTR
abbrev pub a_structure : Order
a_structure = one bgnstr then one strname then many an_element then one endstr

-- a library: HEADER BGNLIB LIBNAME UNITS, structures, ENDLIB; and then zero bytes
abbrev pub a_library : Order
a_library =
    one header then one bgnlib then one libname then one units then many a_structure then one endlib
    then many (one fill)
