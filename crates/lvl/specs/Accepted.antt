-- Which files are accepted, which draw the same, and where two differ.
use Rattle.std.specs.Prelude.{◌≡◌, ◌↔◌, ℕ, List, Option, Some, slice_get}
use Rattle.lvl_grid.specs.declared.point.Square.{Square}
use Rattle.lvl_path.specs.Figure.{figure_rings, FigureCovers}
use Rattle.lvl_names.specs.declared.layer.Layer.{Layer}
use Rattle.lvl_cells.specs.Coverage.{CellCovers}
use Rattle.lvl_cells.specs.Soundness.{IsSound}
use Rattle.lvl_cells.specs.Chains.{FitsLimits}
use Rattle.lvl_names.specs.Layers.{ComesBefore}
use Rattle.lvl_region.specs.Region.{IsAlone}
use Rattle.lvl_region.specs.declared.region.Side.{Side}
use Rattle.lvl_grid.specs.Squares.{IsBefore}
use Rattle.lvl.specs.Drawing.{Drawing}
use Rattle.lvl.specs.declared.layout.Head.{Head}
use Rattle.lvl.specs.declared.verdict.Verdict.{Verdict}
use Rattle.lvl.specs.declared.verdict.Verdict.TheVariants.{Same, Differ}
use Rattle.lvl.specs.Layouts.{File, Spells, IsLayoutOf}
use Rattle.lvl_profile.specs.Profiles.{IsWider}
use Rattle.lvl_profile.specs.declared.profile.Profile.{Profile}
use Rattle.lvl_cells.specs.Cells.{PlainCell, Rings}

-- the file is accepted with these cells and this top: its bytes spell the cells, they are sound for the name of the top
-- that the file asks for, if any, and what the top places is within the limits
pub record IsAccepted (file : File) (cells : List Drawing) (top : Drawing) : Type 0 where
  pub head : Head
  pub spelled : Spells file.profile file.bytes cells head
  pub index : ℕ
  pub sound : IsSound cells file.top index
  pub top_is : slice_get cells index ≡ Some top
  pub fits : FitsLimits file.profile.limits figure_rings cells top

-- a file that is accepted under a profile is accepted under each wider one, with the same cells and the same top; and
-- bytes that spell a library spell the same one, with the same head
pub record WideningKeeps : Type 0 where
  pub layout : (less more : Profile) → IsWider less more → (bytes : List ℕ) (found : List (PlainCell Rings)) (head : Head)
      → IsLayoutOf less bytes found head → IsLayoutOf more bytes found head
  pub accepted : (less more : Profile) → IsWider less more → (bytes : List ℕ) (name : Option (List ℕ))
      (cells : List Drawing) (top : Drawing) → IsAccepted (record { profile = less; bytes = bytes; top = name }) cells top
      → IsAccepted (record { profile = more; bytes = bytes; top = name }) cells top

-- the file isn't accepted
abbrev pub IsUnaccepted : File → Type 0
IsUnaccepted file = (cells : List Drawing) (top : Drawing) → IsAccepted file cells top → ⊥

-- the top covers the square on the Layer, through all references
abbrev pub Draws : List Drawing → Drawing → Layer → Square → Type 0
Draws cells top layer s = CellCovers FigureCovers cells layer top s

-- both files are accepted
pub record AreAccepted (a b : File) : Type 0 where
  pub ours : List Drawing
  pub our_top : Drawing
  pub theirs : List Drawing
  pub their_top : Drawing
  pub first : IsAccepted a ours our_top
  pub second : IsAccepted b theirs their_top

-- both files are accepted, and on every Layer their tops cover the same squares
pub record AreSame (a b : File) : Type 0 where
  pub both : AreAccepted a b
  pub alike : (layer : Layer) (s : Square)
      → Draws both.ours both.our_top layer s ↔ Draws both.theirs both.their_top layer s

-- both files are accepted, and only the top of that side covers the square on the Layer. This is the first difference:
-- on lesser Layers, and at lesser squares (by y, then x) of this Layer, both cover the same squares
pub record AreDifferent (a b : File) (layer : Layer) (square : Square) (side : Side) : Type 0 where
  pub both : AreAccepted a b
  pub alone : IsAlone (Draws both.ours both.our_top layer) (Draws both.theirs both.their_top layer) square side
  pub least_layer : (l : Layer) → ComesBefore l layer → (s : Square)
      → Draws both.ours both.our_top l s ↔ Draws both.theirs both.their_top l s
  pub least_square : (s : Square) → IsBefore s square
      → Draws both.ours both.our_top layer s ↔ Draws both.theirs both.their_top layer s

-- the verdict is true of both files
abbrev pub IsVerdict : File → File → Verdict → Type 0
IsVerdict a b Same = AreSame a b
IsVerdict a b (Differ layer square side) = AreDifferent a b layer square side
