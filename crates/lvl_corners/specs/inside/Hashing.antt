-- Hashers that take corners. These definitions serve only the proofs.
use Rattle.std.specs.Prelude.{◌≡◌, ℕ, ◌+◌, ◌-◌, ◌^◌, min, List, ◌++◌, length, flat_map}
use Rattle.sha2.specs.declared.Sha256.{Sha256}
use Rattle.sha2.specs.Hashers.{Holds256}
use Rattle.lvl_corners.specs.declared.corner.Corner.{Corner}
use Rattle.lvl_corners.specs.declared.hashing.LayerHashing.{LayerHashing}
use Rattle.lvl_corners.specs.Bytes.{corner_bytes}

-- the message is what the hasher has taken, and then the pending bytes
abbrev pub HoldsWith : Sha256 → List ℕ → List ℕ → Type 0
HoldsWith hasher pending m = (n : List ℕ) × Holds256 hasher n × (m ≡ n ++ pending)

-- the message is that from before and then these bytes
abbrev pub HoldsMore : LayerHashing → LayerHashing → List ℕ → Type 0
HoldsMore h k bytes =
    (m : List ℕ) → HoldsWith h.hasher h.pending.items m → HoldsWith k.hasher k.pending.items (m ++ bytes)

-- the message and the number of corners are unchanged
pub record HoldsSame (h k : LayerHashing) : Type 0 where
  pub message : (m : List ℕ) → HoldsWith h.hasher h.pending.items m → HoldsWith k.hasher k.pending.items m
  pub count : k.corners ≡ h.corners

-- from its first state to its second, it has taken these corners
pub record HasTaken (h k : LayerHashing) (corners : List Corner) : Type 0 where
  pub bytes : HoldsMore h k (flat_map corner_bytes corners)
  pub count : min k.corners (2 ^ 64 - 1) ≡ min (h.corners + length corners) (2 ^ 64 - 1)
