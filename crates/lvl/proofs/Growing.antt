-- A wider profile changes nothing that is accepted under a narrower one, in any format.
use Rattle.std.proofs.Common.{ℕ, List, arith}
use Rattle.std.specs.Prelude.{Option}
use Rattle.lvl_cells.specs.Cells.{PlainCell, Rings}
use Rattle.lvl_profile.specs.Profiles.{IsWider}
use Rattle.lvl_profile.specs.declared.profile.Profile.{Profile}
use Rattle.gds_library.proofs.Growing.{library_grows as gds_grows}
use Rattle.gds_library.proofs.Readable.{law_only as gds_only}
use Rattle.oasis_library.proofs.Ignoring.{library_grows as oasis_grows}
use Rattle.oasis_library.proofs.Readable.{law_only as oasis_only}
use Rattle.lvl.specs.Accepted.{IsAccepted}
use Rattle.lvl.specs.Drawing.{Drawing}
use Rattle.lvl.specs.Layouts.{IsLayoutOf, Spells}
use Rattle.lvl.specs.declared.layout.Head.{Head}
use Rattle.lvl.specs.declared.layout.Head.TheVariants.{Gds, Oasis}
use Rattle.lvl.proofs.Spelling.{gds_read, oasis_read}

spells_grow : (less more : Profile) → IsWider less more → (bytes : List ℕ) (cells : List Drawing) (head : Head)
    → Spells less bytes cells head → Spells more bytes cells head
spells_grow less more within bytes cells (Gds h) p = gds_grows less more within bytes cells h p
spells_grow less more within bytes cells (Oasis h) p = oasis_grows less more within bytes cells h p

-- a file that is accepted under a profile is accepted under each wider one
pub accepted_grows : (less more : Profile) → IsWider less more → (bytes : List ℕ) (name : Option (List ℕ))
    (cells : List Drawing) (top : Drawing) → IsAccepted (record { profile = less; bytes = bytes; top = name }) cells top
    → IsAccepted (record { profile = more; bytes = bytes; top = name }) cells top
accepted_grows less more within bytes name cells top p =
    record {
      head = p.head;
      spelled = spells_grow less more within bytes cells p.head p.spelled;
      index = p.index;
      sound = p.sound;
      top_is = p.top_is;
      fits = record {
        few_chains = omega (arith, p.fits.few_chains, within.limits.placed);
        few_rings = omega (arith, p.fits.few_rings, within.limits.placed);
        in_range = p.fits.in_range;
      };
    }

-- a layout that bytes spell under a profile they spell under each wider one
pub layout_grows : (less more : Profile) → IsWider less more → (bytes : List ℕ) (found : List (PlainCell Rings))
    (head : Head) → IsLayoutOf less bytes found head → IsLayoutOf more bytes found head
layout_grows less more within bytes found (Gds h) p =
    let spelled = gds_grows less more within bytes p.cells h p.spelled in
    gds_read more bytes found h (record {
      cells = p.cells;
      spelled = spelled;
      only = λ others g q. gds_only more bytes p.cells others h g spelled q;
      kept_as = p.kept_as;
    })
layout_grows less more within bytes found (Oasis h) p =
    let spelled = oasis_grows less more within bytes p.cells h p.spelled in
    oasis_read more bytes found h (record {
      cells = p.cells;
      spelled = spelled;
      only = λ others g q. oasis_only more bytes p.cells others h g spelled q;
      kept_as = p.kept_as;
    })
