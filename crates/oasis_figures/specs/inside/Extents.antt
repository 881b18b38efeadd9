-- Extensions as numbers.
use Rattle.std.specs.Prelude.{ℕ, ℤ, pos, negsuc, Option, Some, None}
use Rattle.oasis_records.specs.declared.path.Ends.{Ends}
use Rattle.oasis_records.specs.declared.path.Extension.TheVariants.{Modal}
use Rattle.oasis_figures.specs.declared.extension.Extent.{Extent}
use Rattle.oasis_figures.specs.declared.extension.Extent.TheVariants.{Beyond, Negative}

abbrev pub extent : ℤ → Extent
extent (pos n) = Beyond n
extent (negsuc n) = Negative

abbrev pub ends_of : Option Ends → Ends
ends_of None = record { start = Modal; end = Modal }
ends_of (Some e) = e

-- both extensions, if neither is negative
abbrev pub reaches : Extent → Extent → Option (ℕ × ℕ)
reaches (Beyond s) (Beyond e) = Some (s, e)
reaches (Beyond s) Negative = None
reaches Negative e = None
