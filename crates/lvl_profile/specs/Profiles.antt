-- What a file may be (own rule).
use Rattle.std.specs.Prelude.{◌≡◌, true, false}
use Rattle.lvl_profile.specs.Ignored.{nothing, IsSubsetOf}
use Rattle.lvl_profile.specs.Limits.{standard, AreWithin}
use Rattle.lvl_profile.specs.declared.profile.Profile.{Profile}

-- nothing is ignored, within the standard limits, and no compressed block is read
abbrev pub strict : Profile
strict = record { ignore = nothing; limits = standard; unpack = false }

-- the second profile ignores all that the first does, each of its limits is at least that of the first, and it reads
-- compressed blocks if the first does
pub record IsWider (less more : Profile) : Type 0 where
  pub ignore : IsSubsetOf less.ignore more.ignore
  pub limits : AreWithin less.limits more.limits
  pub unpack : less.unpack ≡ true → more.unpack ≡ true
