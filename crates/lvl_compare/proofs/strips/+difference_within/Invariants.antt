use Rattle.lvl_compare.specs.inside.Strips.{girth}
use Rattle.lvl_compare.proofs.strips.+difference_within.Given as goal

-- halves have fewer columns or rows
abbrev pub decreases-difference_within : goal.decreases-difference_within
decreases-difference_within l = girth l.window.now
