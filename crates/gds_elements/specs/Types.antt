-- The numbers of the record types, by their names (GDSII Stream Format Manual, Release 6, HEADER to PATHTYPE).
use Rattle.std.specs.Prelude.{ℕ}

-- HEADER: the first record, with the version
abbrev pub header : ℕ
header = 0x00

-- BGNLIB: the beginning of a library, with its dates
abbrev pub bgnlib : ℕ
bgnlib = 0x01

-- LIBNAME: the name of the library
abbrev pub libname : ℕ
libname = 0x02

-- UNITS: a step in user units, and in meters
abbrev pub units : ℕ
units = 0x03

-- ENDLIB: the end of the library
abbrev pub endlib : ℕ
endlib = 0x04

-- BGNSTR: the beginning of a structure, with its dates
abbrev pub bgnstr : ℕ
bgnstr = 0x05

-- STRNAME: the name of the structure
abbrev pub strname : ℕ
strname = 0x06

-- ENDSTR: the end of the structure
abbrev pub endstr : ℕ
endstr = 0x07

-- BOUNDARY: opens a boundary
abbrev pub boundary : ℕ
boundary = 0x08

-- PATH: opens a path
abbrev pub path : ℕ
path = 0x09

-- SREF: opens a reference to one structure
abbrev pub sref : ℕ
sref = 0x0A

-- AREF: opens an array of references
abbrev pub aref : ℕ
aref = 0x0B

-- TEXT: opens a text
abbrev pub text : ℕ
text = 0x0C

-- LAYER: the layer of a boundary, a path or a text
abbrev pub layer : ℕ
layer = 0x0D

-- DATATYPE: the datatype of a boundary or a path
abbrev pub datatype : ℕ
datatype = 0x0E

-- WIDTH: the width of a path or of the lines of a text
abbrev pub width : ℕ
width = 0x0F

-- XY: the points of an element
abbrev pub xy : ℕ
xy = 0x10

-- ENDEL: the end of an element
abbrev pub endel : ℕ
endel = 0x11

-- SNAME: the name of the structure that is referred to
abbrev pub sname : ℕ
sname = 0x12

-- COLROW: the numbers of columns and of rows of an array
abbrev pub colrow : ℕ
colrow = 0x13

-- TEXTTYPE: the type of a text
abbrev pub texttype : ℕ
texttype = 0x16

-- PRESENTATION: the font and the position of a text
abbrev pub presentation : ℕ
presentation = 0x17

-- STRING: the characters of a text
abbrev pub string : ℕ
string = 0x19

-- STRANS: whether what is referred to, or a text, is reflected
abbrev pub strans : ℕ
strans = 0x1A

-- MAG: how much it is magnified
abbrev pub mag : ℕ
mag = 0x1B

-- ANGLE: how far it is turned, counterclockwise
abbrev pub angle : ℕ
angle = 0x1C

-- PATHTYPE: how the ends of a path are drawn
abbrev pub pathtype : ℕ
pathtype = 0x21
