-- The hashing of further corners of a Layer. This definition serves only the proofs.
use Rattle.std.specs.Prelude.{◌≡◌, ℕ, List}
use Rattle.sha2.specs.Hashers.{Holds256}
use Rattle.lvl_corners.specs.declared.digest.LayerHash.{LayerHash}
use Rattle.lvl_corners.specs.declared.hashing.LayerHashing.{LayerHashing}
use Rattle.lvl_corners.specs.inside.Hashing.{HoldsWith}

-- the hashing goes on from the hash
pub record IsBegun (hash : LayerHash) (h : LayerHashing) : Type 0 where
  pub message : (m : List ℕ) → Holds256 hash.hasher m → HoldsWith h.hasher h.pending.items m
  pub count : h.corners ≡ hash.corners
