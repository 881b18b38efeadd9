-- Lists of lines.
use Rattle.std.specs.Prelude.{◌≡◌, ◌<◌, ℕ, ℤ, pos, List, length, get_or}

-- the line is the one at index i of the list
abbrev pub IsNext : List ℤ → ℕ → ℤ → Type 0
IsNext lines i line = (i < length lines) × (line ≡ get_or lines i (pos 0))
