-- Sets of what is ignored, tried one after another.
use Rattle.std.proofs.Common.{◌≡◌, ◌<◌, ◌∙◌, ℕ, ◌+◌, List, Bool, false, length, get_or, drop, ap, sym, refl}
use Rattle.std.proofs.lemmas.List.{drop_more}
use Rattle.lvl_profile.specs.declared.ignore.Ignore.{Ignore}
use Rattle.lvl_profile.specs.declared.profile.Profile.{Profile}
use Rattle.lvl.specs.declared.layout.FileFault.{FileFault}
use Rattle.lvl_report.specs.Hints.{is_read_by, first_that_reads}

-- the profile with another set
abbrev pub ignoring : Profile → Ignore → Profile
ignoring given more = record given { ignore = more }

-- if one set doesn't do, the first that does is among those after it
pub passed_by : (given : Profile) (fault : FileFault) (sets : List Ignore) (i : ℕ) (d : Ignore) (reads : Bool)
    → i < length sets → reads ≡ is_read_by (ignoring given (get_or sets i d)) fault → reads ≡ false
    → first_that_reads given fault (drop i sets) ≡ first_that_reads given fault (drop (i + 1) sets)
passed_by given fault sets i d reads low is none =
    let no : is_read_by (ignoring given (get_or sets i d)) fault ≡ false = sym is ∙ none in
    ap (first_that_reads given fault) (drop_more sets i d low) ∙ rw no refl
