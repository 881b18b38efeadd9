-- Records that are read and ignored (GDSII Stream Format Manual, Release 6, "Stream syntax"): they have the manual's
-- data types, come only where its syntax allows them, and mean nothing. Own rule: those of text, as REFLIBS and FONTS,
-- have any even length, also none.
use Rattle.std.specs.Prelude.{◌≡◌, ◌==◌, ◌&&◌, ◌||◌, ◌⊎◌, ◌<◌, not, ℕ, Bool, true, false, if◌then◌else◌}
use Rattle.std.specs.Prelude.{List, [], ◌∷◌, Option, Some, None}
use Rattle.std.specs.Str.{bytes_eq}
use Rattle.lvl_profile.specs.declared.profile.Profile.{Profile}
use Rattle.gds_records.specs.Table.{is_ignored}
use Rattle.gds_elements.specs.Types.{bgnlib, libname, strname}
use Rattle.gds_elements.specs.Order.{opens}
use Rattle.gds_elements.specs.Rec.{Rec, an_end}
use Rattle.gds_elements.specs.Rules.{IsKnown}
use Rattle.gds_elements.specs.declared.fault.Misplaced.{Misplaced as Misplacement}
use Rattle.gds_elements.specs.declared.fault.Misplaced.TheVariants.{Unexpected, Unsupported}
use Rattle.gds_library.specs.Types.{reflibs, fonts, generations, attrtable, elflags, propattr, propvalue, plex}
use Rattle.gds_library.specs.Types.{strclass, format, libdirsize, srfname, libsecur}
use Rattle.gds_library.specs.Rules.{IsWhole, InOrder, Breaches, KeepsRules}
use Rattle.gds_library.specs.declared.fault.GdsKind.{GdsKind}
use Rattle.gds_library.specs.declared.fault.GdsKind.TheVariants.{Misplaced}

-- whether the record is ignored; a FORMAT other than 0 never is, since such a file isn't a plain archive
abbrev pub is_passed : Profile → Rec → Bool
is_passed profile r = is_ignored profile.ignore r.kind && (not (r.kind == format) || bytes_eq r.payload (0 ∷ 0 ∷ []))

-- the records that aren't ignored, which alone give a stream its meaning
abbrev pub essential : Profile → List Rec → List Rec
essential profile [] = []
essential profile (r ∷ rs) = if is_passed profile r then essential profile rs else r ∷ essential profile rs

-- the type of the last record
abbrev pub last_type : List Rec → Option ℕ
last_type [] = None
last_type (r ∷ []) = Some r.kind
last_type (r ∷ s ∷ rs) = last_type (s ∷ rs)

-- whether a record of the ignored type k may come directly after one of type j; PROPATTR has a rule of its own
abbrev pub comes_after : ℕ → ℕ → Bool
comes_after k j =
    if k == libdirsize then j == bgnlib else
    (if k == srfname then (j == bgnlib) || (j == libdirsize) else
    (if k == libsecur then (j == bgnlib) || (j == libdirsize) || (j == srfname) else
    (if k == reflibs then j == libname else
    (if k == fonts then (j == libname) || (j == reflibs) else
    (if k == attrtable then (j == libname) || (j == reflibs) || (j == fonts) else
    (if k == generations then (j == libname) || (j == reflibs) || (j == fonts) || (j == attrtable) else
    (if k == format then
    (j == libname) || (j == reflibs) || (j == fonts) || (j == attrtable) || (j == generations) else
    (if k == strclass then j == strname else
    (if k == elflags then opens j else
    (if k == plex then opens j || (j == elflags) else
    (if k == propvalue then j == propattr else false)))))))))))

-- the last record is a PROPATTR, so a PROPVALUE must come next
abbrev pub AwaitsValue : List Rec → Type 0
AwaitsValue before = last_type before ≡ Some propattr

-- an ignored record may come next: the library isn't whole, and the record is a PROPATTR where ENDEL may come and no
-- PROPVALUE is missing, or it comes directly after a type that the syntax allows before it
pub record MayPass (profile : Profile) (before : List Rec) (r : Rec) : Type 0 where
  pub unended : ¬ IsWhole (essential profile before)
  pub there : ((r.kind ≡ propattr) × ¬ AwaitsValue before × InOrder (essential profile before) an_end)
      ⊎ ((j : ℕ) × (last_type before ≡ Some j) × (comes_after r.kind j ≡ true))

-- a record that isn't ignored may come next: no PROPVALUE is missing, and the record is in order after the others that
-- aren't ignored
pub record MayCome (profile : Profile) (before : List Rec) (r : Rec) : Type 0 where
  pub unpassed : is_passed profile r ≡ false
  pub complete : ¬ AwaitsValue before
  pub ordered : InOrder (essential profile before) r

-- the record may come next
abbrev pub InOrderBy : Profile → List Rec → Rec → Type 0
InOrderBy profile before r = ((is_passed profile r ≡ true) × MayPass profile before r) ⊎ MayCome profile before r

-- the record is always read, or ignored
abbrev pub IsKnownBy : Profile → Rec → Type 0
IsKnownBy profile r = (is_passed profile r ≡ true) ⊎ IsKnown r.kind

-- the record may not come next: it is one that is read or ignored (Unexpected), or it isn't (Unsupported)
abbrev pub IsMisplacedBy : Profile → List Rec → Rec → Misplacement → Type 0
IsMisplacedBy profile before r (Unexpected k) = (r.kind ≡ k) × IsKnownBy profile r × ¬ InOrderBy profile before r
IsMisplacedBy profile before r (Unsupported k) = (r.kind ≡ k) × (k < 60) × ¬ IsKnownBy profile r

-- the record breaches the rule: it may not come next; or it isn't ignored, and breaches the rule after the others that
-- aren't
abbrev pub BreachesBy : Profile → List Rec → Rec → GdsKind → Type 0
BreachesBy profile before r (Misplaced m) = IsMisplacedBy profile before r m
BreachesBy profile before r k =
    (is_passed profile r ≡ false) × ¬ AwaitsValue before × Breaches profile (essential profile before) r k

-- it breaches no other rule
abbrev pub BreachesOnlyBy : Profile → List Rec → Rec → GdsKind → Type 0
BreachesOnlyBy profile before r k = (j : GdsKind) → BreachesBy profile before r j → j ≡ k

-- the record may follow the others: it may come next, and breaches no rule unless it is ignored
abbrev pub MayFollowBy : Profile → List Rec → Rec → Type 0
MayFollowBy profile before r =
    InOrderBy profile before r × (is_passed profile r ≡ false → KeepsRules profile (essential profile before) r)

-- the records are a whole library, apart from those that are ignored
abbrev pub IsWholeBy : Profile → List Rec → Type 0
IsWholeBy profile rs = IsWhole (essential profile rs)
