-- How much of a file was read, as it is shown (own rule).
use Rattle.std.specs.Prelude.{◌*◌, ◌/◌, ℕ, zero, suc, Option, Some, None, min}
use Rattle.lvl_progress.specs.declared.amount.Amount.{Amount}
use Rattle.lvl_progress.specs.declared.amount.Amount.TheVariants.{Megabytes, Percent}

-- whole percents of the size, at most 100; whole megabytes if the size isn't known, or is 0
abbrev pub amount_of : ℕ → Option ℕ → Amount
amount_of read None = Megabytes (read / 1000000)
amount_of read (Some zero) = Megabytes (read / 1000000)
amount_of read (Some (suc n)) = Percent (min (100 * read / suc n) 100)
