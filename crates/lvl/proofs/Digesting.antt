-- From the digest of a library of rings to what the bytes of the file spell, and what two digests say.
use Rattle.std.proofs.Common.{◌≡◌, ℕ, List, Result, Ok, Err, IfOk, IsSomeAnd, sym, ap, ◌∙◌, subst}
use Rattle.lvl_grid.specs.Winding.{SomeCovers}
use Rattle.lvl_cells.specs.Cells.{PlainCell, Rings}
use Rattle.lvl_cells.specs.Checks.{Settled}
use Rattle.lvl_cells.specs.Coverage.{CellCovers}
use Rattle.lvl_flat.specs.Flattened.{TopCovers}
use Rattle.sha2.specs.Sha256.{sha256}
use Rattle.lvl_corners.specs.declared.mask.DigestedLayer.{DigestedLayer}
use Rattle.lvl_corners.specs.Masks.{Covers, CoverSame, mask_lines}
use Rattle.lvl_corners.proofs.Masks.{digests_alike, digests_decide}
use Rattle.lvl.specs.Digested.{AreToldApart, IsDigestedFile, IsDigestedKept, IsMaskDigest}
use Rattle.lvl.specs.Kept.{IsInRangeAs, Kept, Places}
use Rattle.lvl.specs.Layouts.{File, IsLayoutOf, Spells}
use Rattle.lvl.specs.Sides.{kept_named}
use Rattle.lvl.specs.declared.digested.Digested.{Digested}
use Rattle.lvl.specs.declared.digested.MaskDigest.{MaskDigest}
use Rattle.lvl.specs.declared.layout.Head.{Head}
use Rattle.lvl.specs.declared.verdict.Refusal.{Refusal}
use Rattle.lvl.proofs.Lifting.{top_lifted}

-- the digest is that of any mask that covers the same
mask_alike : (C D : Covers) (d : MaskDigest) → CoverSame C D → IsMaskDigest C d → IsMaskDigest D d
mask_alike C D d same h = record {
  layers_are = digests_alike C D d.layers.items same h.layers_are;
  sha256_is = h.sha256_is;
}

-- what the top covers
top_places : (k : Kept) (s : Settled) (h : IsInRangeAs k s) → CoverSame (TopCovers s) (Places s h.top)
top_places k s h layer q =
    let P : PlainCell Rings → Type 0 = λ top. CellCovers SomeCovers s.cells layer top q in
    (λ t. subst (λ o. IsSomeAnd o P) h.is_top t, λ p. subst (λ o. IsSomeAnd o P) (sym h.is_top) p)

-- the digest of what the top covers
pub kept_digested : (k : Kept) (s : Settled) (h : IsInRangeAs k s) (d : Digested) → d.top.items ≡ h.top.name
    → IsMaskDigest (TopCovers s) d.mask → IsDigestedKept k d
kept_digested k s h d named is = record {
  settled = s;
  in_range = h;
  digested = record {
    top_is = named;
    digest_is = mask_alike (TopCovers s) (Places s h.top) d.mask (top_places k s h) is;
  };
}

digested_lifted : (file : File) (found : List (PlainCell Rings)) (head : Head)
    → IsLayoutOf file.profile file.bytes found head
    → (d : Digested) → d.head ≡ head → IsDigestedKept (kept_named file.profile.limits found file.top) d → IsDigestedFile file d
digested_lifted file found head read d head_is k =
    let l = top_lifted file found head read k.settled k.in_range in
    record {
      cells = read.cells;
      top = l.top;
      accepted = l.accepted;
      head = subst (Spells file.profile file.bytes read.cells) (sym head_is) read.spelled;
      digested = record {
        top_is = k.digested.top_is ∙ sym (ap (λ (c : PlainCell Rings). c.name) l.kept_as);
        digest_is = mask_alike _ _ d.mask (λ layer s. l.draws layer s) k.digested.digest_is;
      };
    }

pub file_digested : (file : File) (found : List (PlainCell Rings)) (head : Head)
    → IsLayoutOf file.profile file.bytes found head
    → (r : Result Digested Refusal) → IfOk r (λ d. d.head ≡ head)
    → IfOk r (IsDigestedKept (kept_named file.profile.limits found file.top)) → IfOk r (IsDigestedFile file)
file_digested file found head read (Ok d) head_is k = digested_lifted file found head read d head_is k
file_digested file found head read (Err r) head_is k = tt

-- what the digests of two masks say
pub told_apart : (C D : Covers) (d e : MaskDigest) → IsMaskDigest C d → IsMaskDigest D e → AreToldApart C D d e
told_apart C D d e one other =
    let decided = digests_decide C D d.layers.items e.layers.items one.layers_are other.layers_are in
    let hash : List DigestedLayer → List ℕ = λ ls. sha256 (mask_lines ls) in
    record {
      layers_same = decided.same;
      sha256_same = λ alike. one.sha256_is ∙ (ap hash (decided.same alike) ∙ sym other.sha256_is);
      decides = λ same. decided.decides (sym one.sha256_is ∙ (same ∙ other.sha256_is));
    }
