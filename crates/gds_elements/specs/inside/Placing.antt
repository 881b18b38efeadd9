-- The name of a cell, and how it is reflected and turned.
use Rattle.std.specs.Prelude.{◌≡◌, ◌≢◌, ℕ, List}
use Rattle.lvl_grid.specs.declared.map.Turn.{Turn}
use Rattle.gds_elements.specs.Types.{sname, strans, mag, angle}
use Rattle.gds_elements.specs.Rec.{Rec, field}
use Rattle.gds_elements.specs.Values.{bits, name, flips, turn, one_real, degrees}
use Rattle.lvl_names.specs.Names.{IsName}
use Rattle.gds_elements.specs.declared.fault.ElementRule.{ElementRule}
use Rattle.gds_elements.specs.declared.fault.ElementRule.TheVariants.{Strans, Magnification, Angle, Name}
use Rattle.gds_elements.specs.declared.placing.Placing.{Placing}

-- the values are those of the records `piece`
pub record IsPlaced (p : Placing) (piece : List Rec) : Type 0 where
  pub name : p.name.items ≡ name (field sname piece)
  pub flip : p.flip ≡ flips (field strans piece)
  pub turn : p.turn ≡ turn (field angle piece)

-- a record of type k breaches no rule of placing with this payload
pub record IsPlacingAllowed (k : ℕ) (payload : List ℕ) : Type 0 where
  pub strans : k ≡ strans → bits payload ≢ 0 → bits payload ≡ 0x8000
  pub mag : k ≡ mag → payload ≡ one_real
  pub angle : k ≡ angle → payload ≡ degrees (turn payload)
  pub name : k ≡ sname → IsName (name payload)

-- the rule of placing that a record of type k breaches with this payload
abbrev pub IsPlacingFault : ℕ → List ℕ → ElementRule → Type 0
IsPlacingFault k payload Strans = (k ≡ strans) × (bits payload ≢ 0) × (bits payload ≢ 0x8000)
IsPlacingFault k payload Magnification = (k ≡ mag) × (payload ≢ one_real)
IsPlacingFault k payload Angle = (k ≡ angle) × ((t : Turn) → payload ≢ degrees t)
IsPlacingFault k payload Name = (k ≡ sname) × ¬ IsName (name payload)
IsPlacingFault k payload f = ⊥
