-- What a grid step stores, and its value.
use Rattle.std.specs.Prelude.{◌^◌, ◌<◌}
use Rattle.lvl_units.specs.Steps.{Fraction, IsReadable}
use Rattle.lvl_units.specs.declared.step.GridStep.TheInside.{Inside}

-- the value of a grid step
abbrev pub fraction_of : Inside → Fraction
fraction_of s = record { numerator = s.numerator; denominator = s.denominator }

-- the grid step with a value
abbrev pub step_of : Fraction → Inside
step_of f = record { numerator = f.numerator; denominator = f.denominator }

-- the length is readable, and both numbers are small enough to be multiplied by 10^15 and 2^32
pub record IsKept (s : Inside) : Type 0 where
  pub readable : IsReadable (fraction_of s)
  pub some : 0 < s.denominator
  pub numerator : s.numerator < 2 ^ 74
  pub denominator : s.denominator < 2 ^ 106
