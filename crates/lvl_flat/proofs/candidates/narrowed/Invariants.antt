use Rattle.lvl_flat.specs.inside.Listed.{IsKept}
use Rattle.lvl_flat.specs.inside.Parts.{MissesPart}
use Rattle.lvl_flat.proofs.candidates.narrowed.Given as goal

-- of the indexes so far all are kept that don't miss the window
abbrev pub invariant-loop-place : goal.invariant-loop-place
invariant-loop-place l = IsKept l.list (MissesPart l.checked l.window l.part) l.place l.kept.items
