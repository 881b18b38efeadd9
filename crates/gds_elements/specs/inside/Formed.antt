-- The lengths of payloads that are numbers or bits, by record type.
use Rattle.std.specs.Prelude.{◌≡◌, ℕ, ◌<◌, ◌⊎◌, List, length}
use Rattle.gds_elements.specs.Types.{layer, datatype, width, colrow, strans, mag, angle, pathtype}

-- the type is below 60, and the payload has the length that its type has
pub record IsFormed (k : ℕ) (payload : List ℕ) : Type 0 where
  pub known : k < 60
  pub layer : k ≡ layer → length payload ≡ 2
  pub datatype : k ≡ datatype → length payload ≡ 2
  pub width : k ≡ width → length payload ≡ 4
  pub colrow : k ≡ colrow → length payload ≡ 4
  pub strans : k ≡ strans → length payload ≡ 2
  pub mag : k ≡ mag → length payload ≡ 8
  pub angle : k ≡ angle → length payload ≡ 8
  pub pathtype : k ≡ pathtype → length payload ≡ 2

-- the type is LAYER or DATATYPE
abbrev pub IsLayerNumber : ℕ → Type 0
IsLayerNumber k = (k ≡ layer) ⊎ (k ≡ datatype)
