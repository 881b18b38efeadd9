-- What a verdict means under a view: a map of Layers for the second file, and a window (own rule).
use Rattle.lvl_grid.specs.declared.point.Square.{Square}
use Rattle.lvl_names.specs.declared.layer.Layer.{Layer}
use Rattle.lvl_columns.specs.Windows.{IsShown}
use Rattle.lvl_compare.specs.Tops.{DrawSame, IsFirstDifference}
use Rattle.lvl_view.specs.Views.{PlainView}
use Rattle.lvl_view.specs.Moved.{IsMoved}
use Rattle.lvl.specs.Layouts.{File}
use Rattle.lvl.specs.Accepted.{AreAccepted, Draws}
use Rattle.lvl.specs.declared.verdict.Verdict.{Verdict}
use Rattle.lvl.specs.declared.verdict.Verdict.TheVariants.{Same, Differ}

-- the verdict is true of the squares in Seen
abbrev pub IsVerdictOf : (Square → Type 0) → (Layer → Square → Type 0) → (Layer → Square → Type 0) → Verdict → Type 0
IsVerdictOf Seen Ours Theirs Same = DrawSame Seen Ours Theirs
IsVerdictOf Seen Ours Theirs (Differ layer square side) = IsFirstDifference Seen Ours Theirs layer square side

-- both whole files are accepted, and the verdict is true of the squares in the window, for what the first draws and
-- what the second draws with its Layers mapped
pub record IsViewVerdict (view : PlainView) (a b : File) (v : Verdict) : Type 0 where
  pub both : AreAccepted a b
  pub verdict : IsVerdictOf (IsShown view.window) (Draws both.ours both.our_top)
      (IsMoved view.pairs (Draws both.theirs both.their_top)) v
