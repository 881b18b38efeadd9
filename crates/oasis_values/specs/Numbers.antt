-- Bytes and unsigned integers (SEMI P39 OASIS 1.0, "Unsigned-integer"): seven bits in each byte, the lowest group
-- first; the high bit is set if another byte follows.
use Rattle.std.specs.Prelude.{◌≡◌, ℕ, ◌+◌, ◌*◌, ◌%◌, ◌^◌, ◌<◌, ◌≤◌, ◌⊎◌, if◌then◌else◌, List, [], ◌∷◌, ◌++◌, length}
use Rattle.std.specs.Prelude.{All, Result, Ok, Err}
use Rattle.lvl_profile.specs.declared.profile.Profile.{Profile}
use Rattle.oasis_values.specs.declared.fault.ValueFault.{ValueFault}
use Rattle.oasis_values.specs.declared.fault.ValueFault.TheVariants.{IntegerTooLarge}

-- the bytes are the one byte x
abbrev pub IsOneByte : List ℕ → Result ℕ ValueFault → Type 0
IsOneByte b (Ok x) = b ≡ x ∷ []
IsOneByte b (Err f) = ⊥

-- a byte, which breaches no rule
abbrev pub IsByte : Profile → List ℕ → Result ℕ ValueFault → Type 0
IsByte profile = IsOneByte

-- the number in groups of seven bits, the lowest first
abbrev pub groups : List ℕ → ℕ
groups [] = 0
groups (b ∷ bs) = b % 128 + 128 * groups bs

-- the high bit of each byte is set
abbrev pub Continues : List ℕ → Type 0
Continues bs = All (λ b. 128 ≤ b) bs

-- own rule: an integer has at most ten bytes. If padding is ignored, it may have more groups than it needs, in at most
-- 256 bytes; those after the tenth are zero, since the number is below 2^64
abbrev pub most_bytes : Profile → ℕ
most_bytes profile = if profile.ignore.padding then 256 else 10

-- bytes with the high bit set and a last one without it; own rule: there are few enough, and the number is below 2^64
pub record IsInteger (profile : Profile) (b : List ℕ) (n : ℕ) : Type 0 where
  pub front : List ℕ
  pub last : ℕ
  pub bytes : b ≡ front ++ (last ∷ [])
  pub continues : Continues front
  pub ends : last < 128
  pub few : length front < most_bytes profile
  pub value : n ≡ groups b
  pub fits : n < 2 ^ 64

-- bytes of which the last shows that no integer begins with them: with it the number is 2^64 or more, or there are as
-- many bytes as an integer may have and it doesn't end them
pub record IsTooLarge (profile : Profile) (b : List ℕ) : Type 0 where
  pub front : List ℕ
  pub last : ℕ
  pub bytes : b ≡ front ++ (last ∷ [])
  pub continues : Continues front
  pub few : length front < most_bytes profile
  pub fits : groups front < 2 ^ 64
  pub decided : (2 ^ 64 ≤ groups b) ⊎ ((128 ≤ last) × (length b ≡ most_bytes profile))

-- an unsigned integer; the only rule that it can breach is IntegerTooLarge
abbrev pub IsUnsigned : Profile → List ℕ → Result ℕ ValueFault → Type 0
IsUnsigned profile b (Ok n) = IsInteger profile b n
IsUnsigned profile b (Err f) = (f ≡ IntegerTooLarge) × IsTooLarge profile b
