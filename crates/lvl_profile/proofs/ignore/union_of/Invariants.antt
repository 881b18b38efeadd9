use Rattle.std.proofs.Common.{◌≡◌, map, drop}
use Rattle.lvl_profile.specs.Ignored.{nothing, union_of}
use Rattle.lvl_profile.proofs.ignore.union_of.Given as goal

-- the words that are left add to what the words so far have named
abbrev pub invariant-loop-word : goal.invariant-loop-word
invariant-loop-word l =
    union_of nothing (map (λ w. w.now) l.words) ≡ union_of l.ignore (map (λ w. w.now) (drop l.word-index l.words))
