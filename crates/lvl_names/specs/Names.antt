-- Names of cells (own rule for both formats).
use Rattle.std.specs.Prelude.{ℕ, ◌<◌, ◌≤◌, List, length, All}

-- the bytes are a name: 1 to 255 bytes, each a printable character of ASCII other than space
abbrev pub IsName : List ℕ → Type 0
IsName bytes = (0 < length bytes) × (length bytes ≤ 255) × All (λ b. (0x21 ≤ b) × (b ≤ 0x7E)) bytes
