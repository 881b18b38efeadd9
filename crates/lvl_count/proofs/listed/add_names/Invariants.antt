use Rattle.std.proofs.Common.{◌≡◌, ◌||◌, List, ℕ, take}
use Rattle.std.specs.List.{list_any}
use Rattle.std.specs.Str.{bytes_eq}
use Rattle.lvl_count.specs.inside.Referring.{has_name}
use Rattle.lvl_count.proofs.listed.add_names.Given as goal

-- the names of the references so far were added
abbrev pub invariant-loop-j : goal.invariant-loop-j
invariant-loop-j l = (q : List ℕ)
    → has_name l.referred q ≡ (has_name l.fn.referred q || list_any (λ r. bytes_eq q r.cell) (take l.j l.references))
