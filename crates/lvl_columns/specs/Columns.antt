-- The least difference of two lists, and of the parts that they are cut into. These definitions serve only the proofs.
use Rattle.std.specs.Prelude.{◌≡◌, ℤ, List, Option, Some, None, ◌⊎◌, ◌↔◌}
use Rattle.lvl_grid.specs.declared.point.Point.{Point}
use Rattle.lvl_grid.specs.declared.point.Square.{Square}
use Rattle.lvl_grid.specs.Winding.{SomeCovers}
use Rattle.lvl_grid.specs.Squares.{IsBefore}
use Rattle.lvl_region.specs.declared.region.Side.{Side}
use Rattle.lvl_region.specs.Region.{IsAlone}
use Rattle.lvl_columns.specs.declared.columns.Column.{Column}

-- two lists of rings
abbrev pub Lists : Type 0
Lists = List (List Point) × List (List Point)

-- what a comparison found: a square that only one list covers, with its side, or nothing
abbrev pub Outcome : Type 0
Outcome = Option (Square × Side)

-- the lists of a column
abbrev pub lists_of : Column → Lists
lists_of c = (c.first, c.second)

-- both lists cover the square, or neither does
abbrev pub Agree : Lists → Square → Type 0
Agree l s = SomeCovers l.0 s ↔ SomeCovers l.1 s

-- only the list of that side covers the square
abbrev pub Differ : Lists → Square → Side → Type 0
Differ l s side = IsAlone (SomeCovers l.0) (SomeCovers l.1) s side

-- a square was found, and s isn't before it
abbrev pub NotBefore : Square → Outcome → Type 0
NotBefore s None = ⊥
NotBefore s (Some at) = ¬ IsBefore s at.0

-- what was found, if anything, is a square at which the lists differ
abbrev pub IsFoundIn : Lists → Outcome → Type 0
IsFoundIn l None = Unit {0}
IsFoundIn l (Some at) = Differ l at.0 at.1

-- what was found is the lesser of what was known and of the least square at which the lists differ
pub record IsLeastWith (l : Lists) (known found : Outcome) : Type 0 where
  pub one : (found ≡ known) ⊎ IsFoundIn l found
  pub bound : (s : Square) → NotBefore s known → NotBefore s found
  pub least : (s : Square) → Agree l s ⊎ NotBefore s found

-- what was found is the least square at which the lists differ, or nothing if there is no such square
abbrev pub IsFirst : Lists → Outcome → Type 0
IsFirst l found = IsLeastWith l None found

-- the lists of the part cover what the lists do at the squares for which P holds, and nothing else
abbrev pub IsPartOf : (Square → Type 0) → Lists → Lists → Type 0
IsPartOf P l part =
    (s : Square) → (SomeCovers part.0 s ↔ (P s × SomeCovers l.0 s)) × (SomeCovers part.1 s ↔ (P s × SomeCovers l.1 s))

-- what was found is the least difference of lists that cover what these do at the squares for which P holds
pub record IsFirstIn (P : Square → Type 0) (l : Lists) (found : Outcome) : Type 0 where
  pub part : Lists
  pub is_part : IsPartOf P l part
  pub first : IsFirst part found

-- the row of the square that was found, if one was: no lesser square is above it
abbrev pub last_row : Outcome → Option ℤ
last_row None = None
last_row (Some at) = Some at.0.y
