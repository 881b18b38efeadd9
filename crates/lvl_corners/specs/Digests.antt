-- The digest of a Layer (own rule).
use Rattle.std.specs.Prelude.{◌≡◌, ◌≢◌, ◌-◌, ◌^◌, min, List, [], ◌++◌, length, Option, None, Some}
use Rattle.sha2.specs.Hashers.{Holds256}
use Rattle.sha2.specs.Sha256.{sha256}
use Rattle.lvl_names.specs.declared.layer.Layer.{Layer}
use Rattle.lvl_corners.specs.declared.corner.Corner.{Corner}
use Rattle.lvl_corners.specs.declared.digest.LayerDigest.{LayerDigest}
use Rattle.lvl_corners.specs.declared.digest.LayerHash.{LayerHash}
use Rattle.lvl_corners.specs.Bytes.{layer_bytes}

-- the digest has the number of these corners, or 2^64 - 1 if there are more, and the SHA-256 of the bytes of the Layer
-- with them; if there are no corners, there is no digest
abbrev pub IsDigestFor : Layer → List Corner → Option LayerDigest → Type 0
IsDigestFor layer corners None = corners ≡ []
IsDigestFor layer corners (Some d) =
    (corners ≢ []) × (d.corners ≡ min (length corners) (2 ^ 64 - 1))
    × (d.sha256 ≡ sha256 (layer_bytes layer.layer layer.datatype corners))

-- the hash has taken exactly the bytes of its Layer with these corners, and their number, or 2^64 - 1 if there are more
pub record HasHashed (hash : LayerHash) (corners : List Corner) : Type 0 where
  pub bytes : Holds256 hash.hasher (layer_bytes hash.layer.layer hash.layer.datatype corners)
  pub count : hash.corners ≡ min (length corners) (2 ^ 64 - 1)

-- from its first state to its second, the hash has taken these further corners
abbrev pub HashesOn : LayerHash → LayerHash → List Corner → Type 0
HashesOn old new corners = (before : List Corner) → HasHashed old before → HasHashed new (before ++ corners)
