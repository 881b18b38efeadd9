-- The rules of columns and rows.
use Rattle.std.specs.Prelude.{◌<◌, ◌≤◌, ◌*◌, ◌⊎◌, ◌<ℤ◌, ◌≤ℤ◌, pos, ℕ, List}
use Rattle.gds_elements.specs.Values.{magnitude, columns, rows}
use Rattle.gds_elements.specs.declared.fault.ElementRule.{ElementRule}
use Rattle.gds_elements.specs.declared.fault.ElementRule.TheVariants.{ColRow, Repetition}
use Rattle.lvl_profile.specs.declared.limits.Limits.{Limits}

-- an array may have these columns and rows
pub record IsCounted (limits : Limits) (payload : List ℕ) : Type 0 where
  pub some_columns : pos 1 ≤ℤ columns payload
  pub some_rows : pos 1 ≤ℤ rows payload
  pub few : magnitude (columns payload) * magnitude (rows payload) ≤ limits.array

-- the rule that they breach
abbrev pub IsCountFault : Limits → List ℕ → ElementRule → Type 0
IsCountFault limits payload ColRow = (columns payload <ℤ pos 1) ⊎ (rows payload <ℤ pos 1)
IsCountFault limits payload Repetition =
    (pos 1 ≤ℤ columns payload) × (pos 1 ≤ℤ rows payload)
    × (limits.array < magnitude (columns payload) * magnitude (rows payload))
IsCountFault limits payload f = ⊥
