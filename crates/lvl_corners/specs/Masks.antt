-- The digest of a mask (own rule).
use Rattle.std.specs.Prelude.{◌≡◌, ◌≢◌, ◌↔◌, ◌⊎◌, Bool, IsTrue, ℕ, ◌<◌, ◌^◌, List, [], ◌∷◌, ◌++◌, flat_map, codes, All}
use Rattle.std.specs.Prelude.{Any, Some}
use Rattle.std.specs.List.{AllPairs}
use Rattle.std.specs.Fmt.{decimal}
use Rattle.hex.specs.Hex.{encode_lower}
use Rattle.sha2.specs.Sha256.{sha256}
use Rattle.lvl_grid.specs.declared.point.Square.{Square}
use Rattle.lvl_names.specs.declared.layer.Layer.{Layer}
use Rattle.lvl_names.specs.Layers.{ComesBefore}
use Rattle.lvl_corners.specs.declared.corner.Corner.{Corner}
use Rattle.lvl_corners.specs.declared.mask.DigestedLayer.{DigestedLayer}
use Rattle.lvl_corners.specs.Corners.{AreCornersOf, FitsCorner}
use Rattle.lvl_corners.specs.Bytes.{layer_bytes}
use Rattle.lvl_corners.specs.Digests.{IsDigestFor}

-- what a mask covers: for each Layer, a set of squares
abbrev pub Covers : Type 1
Covers = Layer → Square → Type 0

-- the digest is that of the corners of what is covered on the Layer, which are some
abbrev pub IsDigested : Covers → DigestedLayer → Type 0
IsDigested covers l =
    (corners : List Corner) × AreCornersOf (covers l.layer) corners × All FitsCorner corners
    × IsDigestFor l.layer corners (Some l.digest)

-- the list has exactly the Layers on which a square is covered, in their order, each with its digest
pub record AreDigests (covers : Covers) (layers : List DigestedLayer) : Type 0 where
  pub rising : AllPairs (λ l m. ComesBefore l.layer m.layer) layers
  pub fits : All (λ l. (l.layer.layer < 2 ^ 32) × (l.layer.datatype < 2 ^ 32)) layers
  pub each : All (IsDigested covers) layers
  pub all : (layer : Layer) (s : Square) → covers layer s → Any (λ l. l.layer ≡ layer) layers

-- the line of a Layer: its numbers and the number of its corners in decimal, and its SHA-256 in hexadecimal digits
abbrev pub digest_line : DigestedLayer → List ℕ
digest_line l =
    codes "layer " ++ (decimal l.layer.layer ++ (codes " datatype " ++ (decimal l.layer.datatype
    ++ (codes " corners " ++ (decimal l.digest.corners ++ (codes " sha256 "
    ++ (encode_lower l.digest.sha256 ++ 10 ∷ [])))))))

-- the lines of the Layers of a mask
abbrev pub mask_lines : List DigestedLayer → List ℕ
mask_lines layers = flat_map digest_line layers

-- both masks cover the same squares on every Layer
abbrev pub CoverSame : Covers → Covers → Type 0
CoverSame first second = (layer : Layer) (s : Square) → first layer s ↔ second layer s

-- two different texts with one SHA-256
abbrev pub Collide : List ℕ → List ℕ → Type 0
Collide bs cs = (bs ≢ cs) × (sha256 bs ≡ sha256 cs)

-- the bytes of a Layer with its corners in each of the masks are such texts
pub record CornersCollide (first second : Covers) : Type 0 where
  pub layer : Layer
  pub ours : List Corner
  pub theirs : List Corner
  pub ours_are : AreCornersOf (first layer) ours
  pub theirs_are : AreCornersOf (second layer) theirs
  pub collide : Collide (layer_bytes layer.layer layer.datatype ours) (layer_bytes layer.layer layer.datatype theirs)

-- masks that cover the same have the same digested Layers; and if the lines of two masks have one SHA-256, the masks
-- cover the same, or two different texts with one SHA-256 are the lines, or those of the corners of a Layer
pub record AreDecided (first second : Covers) (ls ms : List DigestedLayer) : Type 0 where
  pub same : CoverSame first second → ls ≡ ms
  pub decides : sha256 (mask_lines ls) ≡ sha256 (mask_lines ms)
      → CoverSame first second ⊎ (Collide (mask_lines ls) (mask_lines ms) ⊎ CornersCollide first second)

-- the squares that a test gives for each Layer
abbrev pub tested : (Layer → Square → Bool) → Covers
tested covered layer s = IsTrue (covered layer s)

-- that holds for any two masks
abbrev pub MasksDecide : Type 0
MasksDecide =
    (first second : Layer → Square → Bool) (ls ms : List DigestedLayer) → AreDigests (tested first) ls
    → AreDigests (tested second) ms
    → AreDecided (tested first) (tested second) ls ms
