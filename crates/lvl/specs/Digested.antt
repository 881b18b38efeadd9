-- The digest of a layout (own rule).
use Rattle.std.specs.Prelude.{◌≡◌, ◌⊎◌, ℕ, List}
use Rattle.sha2.specs.Sha256.{sha256}
use Rattle.lvl_cells.specs.Checks.{Settled}
use Rattle.lvl_corners.specs.Masks.{AreDigests, Collide, CornersCollide, Covers, CoverSame, mask_lines}
use Rattle.lvl.specs.Accepted.{Draws, IsAccepted}
use Rattle.lvl.specs.Drawing.{Drawing}
use Rattle.lvl.specs.Kept.{IsInRangeAs, Kept, Places}
use Rattle.lvl.specs.Layouts.{File, Spells}
use Rattle.lvl.specs.declared.digested.Digested.{Digested}
use Rattle.lvl.specs.declared.digested.MaskDigest.{MaskDigest}

-- the digests of the Layers of a mask, and the SHA-256 of their lines
pub record IsMaskDigest (covers : Covers) (d : MaskDigest) : Type 0 where
  pub layers_are : AreDigests covers d.layers.items
  pub sha256_is : d.sha256 ≡ sha256 (mask_lines d.layers.items)

-- the digest has the name of the top, and is that of what it covers
pub record IsDigestedOf (name : List ℕ) (covers : Covers) (d : Digested) : Type 0 where
  pub top_is : d.top.items ≡ name
  pub digest_is : IsMaskDigest covers d.mask

-- the file is accepted, and this is the digest of what its top draws
pub record IsDigestedFile (file : File) (d : Digested) : Type 0 where
  pub cells : List Drawing
  pub top : Drawing
  pub accepted : IsAccepted file cells top
  pub head : Spells file.profile file.bytes cells d.head
  pub digested : IsDigestedOf top.name (Draws cells top) d

-- masks that cover the same have the same digest; and if the digests of two masks have one SHA-256, the masks cover the
-- same, or two different texts with one SHA-256 are their lines, or the bytes of a Layer with its corners in each
pub record AreToldApart (first second : Covers) (d e : MaskDigest) : Type 0 where
  pub layers_same : CoverSame first second → d.layers.items ≡ e.layers.items
  pub sha256_same : CoverSame first second → d.sha256 ≡ e.sha256
  pub decides : d.sha256 ≡ e.sha256 → CoverSame first second
      ⊎ (Collide (mask_lines d.layers.items) (mask_lines e.layers.items) ⊎ CornersCollide first second)

-- that holds for what the tops of two files draw
abbrev pub DigestsDecide : Type 0
DigestsDecide =
    (a b : File) (d e : Digested) (one : IsDigestedFile a d) (other : IsDigestedFile b e)
    → AreToldApart (Draws one.cells one.top) (Draws other.cells other.top) d.mask e.mask

-- the library of rings passes the check, what its top places is in range, and this is the digest of what it covers
pub record IsDigestedKept (k : Kept) (d : Digested) : Type 0 where
  pub settled : Settled
  pub in_range : IsInRangeAs k settled
  pub digested : IsDigestedOf in_range.top.name (Places settled in_range.top) d
