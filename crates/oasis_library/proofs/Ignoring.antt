-- A wider profile changes no answer that was given under a narrower one.
use Rattle.std.proofs.Common.{ℕ, List}
use Rattle.lvl_path.specs.Figure.{Figure}
use Rattle.lvl_cells.specs.Cells.{PlainCell}
use Rattle.lvl_profile.specs.Profiles.{IsWider}
use Rattle.lvl_profile.specs.declared.profile.Profile.{Profile}
use Rattle.oasis_stream.proofs.Growing.{whole_grows}
use Rattle.oasis_library.specs.Library.{SpellsLibrary}
use Rattle.oasis_library.specs.declared.head.OasisHead.{OasisHead}

-- a file that spells a library under a profile spells the same library, with the same head, under each wider one
pub library_grows : (less more : Profile) → IsWider less more → (bytes : List ℕ) (cells : List (PlainCell Figure))
    (h : OasisHead) → SpellsLibrary less bytes cells h → SpellsLibrary more bytes cells h
library_grows less more within bytes cells h p =
    record {
      items = p.items;
      whole = whole_grows less more within bytes p.items p.whole;
      cells_are = p.cells_are;
      head_is = p.head_is;
    }
