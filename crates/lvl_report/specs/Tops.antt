-- The line that names the cells that could be the top of a file (own rule).
use Rattle.std.specs.Prelude.{ℕ, List, [], ◌∷◌, ◌++◌, length, take, flat_map, nat_lt, if◌then◌else◌, codes, decimal}
use Rattle.std.specs.Prelude.{Option, Some, None}
use Rattle.lvl_cells.specs.declared.fault.CellFault.{CellFault}
use Rattle.lvl_cells.specs.declared.fault.CellFault.TheVariants.{ManyTops}
use Rattle.lvl_region.specs.declared.region.Side.{Side}
use Rattle.lvl_region.specs.declared.region.Side.TheVariants.{First, Second}
use Rattle.lvl.specs.declared.verdict.Refusal.{Refusal}
use Rattle.lvl.specs.declared.verdict.Refusal.TheVariants.{Cells}
use Rattle.lvl_report.specs.Texts.{line, side_text}

-- which file: the only one, or that of a side
abbrev pub which_file : Option Side → List ℕ
which_file None = codes "file"
which_file (Some side) = side_text side ++ codes " file"

-- the option that names its top
abbrev pub top_option : Option Side → List ℕ
top_option None = codes "--top"
top_option (Some First) = codes "--top-a"
top_option (Some Second) = codes "--top-b"

-- names, with a comma between them
abbrev pub names_text : List (List ℕ) → List ℕ
names_text [] = []
names_text (name ∷ others) = name ++ flat_map (λ other. codes ", " ++ other) others

-- what comes after the first eight names, if there are more
abbrev pub others_text : List (List ℕ) → List ℕ
others_text names = if nat_lt 8 (length names) then codes ", .." else []

-- how many tops there are, the first eight of them, and the option to choose one by
abbrev pub tops_text : Option Side → List (List ℕ) → List ℕ
tops_text side names =
    line (codes "lvl: the " ++ which_file side ++ codes " has " ++ decimal (length names) ++ codes " tops: "
    ++ names_text (take 8 names) ++ others_text names ++ codes ": choose one by " ++ top_option side)

-- the line for a library that is refused, if that is since several cells could be its top
abbrev pub tops_line : Option Side → CellFault → List (List ℕ) → Option (List ℕ)
tops_line side ManyTops names = Some (tops_text side names)
tops_line side fault names = None

-- the line for a refusal of the only file
abbrev pub line_of_one : Refusal → Option (List ℕ)
line_of_one (Cells side r) = tops_line None r.fault r.tops.items
line_of_one refusal = None

-- the line for a refusal of one of two files
abbrev pub line_of_two : Refusal → Option (List ℕ)
line_of_two (Cells side r) = tops_line (Some side) r.fault r.tops.items
line_of_two refusal = None
