-- Why one side alone covers the square in which two files differ (own rule).
use Rattle.std.specs.Prelude.{◌≡◌, List, Option, Some, None, All}
use Rattle.lvl_cells.specs.Checks.{Settled}
use Rattle.lvl_grid.specs.declared.point.Square.{Square}
use Rattle.lvl_names.specs.declared.layer.Layer.{Layer}
use Rattle.lvl_region.specs.declared.region.Side.TheVariants.{First, Second}
use Rattle.lvl_view.specs.Views.{PlainView, target_of}
use Rattle.lvl_view.specs.declared.map.LayerPair.{LayerPair}
use Rattle.lvl_why.specs.Whys.{IsWhy}
use Rattle.lvl_why.specs.declared.why.Why.{Why}
use Rattle.lvl.specs.Answers.{kept_of}
use Rattle.lvl.specs.Drawing.{Drawing}
use Rattle.lvl.specs.Kept.{Kept, IsCheckedAs}
use Rattle.lvl.specs.Layouts.{File, Spells}
use Rattle.lvl.specs.declared.layout.Head.{Head}
use Rattle.lvl.specs.declared.verdict.Verdict.{Verdict}
use Rattle.lvl.specs.declared.verdict.Verdict.TheVariants.{Same, Differ}

-- there is a reason, which says why the top covers the square on some Layer that counts
pub record IsReason (s : Settled) (Counts : Layer → Type 0) (q : Square) (why : Option Why) : Type 0 where
  pub found : Why
  pub is : why ≡ Some found
  pub layers : List Layer
  pub counted : All Counts layers
  pub reason : IsWhy s layers q found

-- the reason for a verdict: of a difference, why the side that covers the square does so; on the second side a Layer
-- counts if its target is the Layer of the difference
abbrev pub IsReasonOf : List LayerPair → Settled → Settled → Verdict → Option Why → Type 0
IsReasonOf pairs a b Same why = why ≡ None
IsReasonOf pairs a b (Differ layer square First) why = IsReason a (λ l. l ≡ layer) square why
IsReasonOf pairs a b (Differ layer square Second) why = IsReason b (λ l. target_of pairs l ≡ layer) square why

-- the reason for a verdict on two libraries of rings
pub record IsKeptReason (view : PlainView) (a b : Kept) (v : Verdict) (why : Option Why) : Type 0 where
  pub ours : Settled
  pub theirs : Settled
  pub first : IsCheckedAs a ours
  pub second : IsCheckedAs b theirs
  pub reason : IsReasonOf view.pairs ours theirs v why

-- the reason for a verdict on two files
pub record IsReasonIn (view : PlainView) (a b : File) (v : Verdict) (why : Option Why) : Type 0 where
  pub ours : List Drawing
  pub our_head : Head
  pub theirs : List Drawing
  pub their_head : Head
  pub first : Spells a.profile a.bytes ours our_head
  pub second : Spells b.profile b.bytes theirs their_head
  pub reason : IsKeptReason view (kept_of a ours) (kept_of b theirs) v why
