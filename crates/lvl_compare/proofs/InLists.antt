-- What of two tops may cover squares of a window and of its parts.
use Rattle.std.proofs.Common.{◌≡◌, inl, inr, Contains, List, Option, Some, None, refl, sym, subst}
use Rattle.std.specs.Prelude.{IfSome}
use Rattle.lvl_grid.specs.declared.point.Square.{Square}
use Rattle.lvl_grid.specs.declared.point.Window.{Window}
use Rattle.lvl_grid.specs.Clip.{IsInWindow}
use Rattle.lvl_view.specs.declared.map.LayerPair.{LayerPair}
use Rattle.lvl_cells.specs.Checks.{Settled}
use Rattle.lvl_flat.specs.Candidates.{AreCandidates}
use Rattle.lvl_flat.specs.declared.candidates.Candidates.{Candidates}
use Rattle.lvl_compare.specs.declared.groups.Group.{Group}
use Rattle.lvl_compare.specs.declared.lists.Lists.{Lists}
use Rattle.lvl_compare.specs.declared.pair.Pair.{Pair}
use Rattle.lvl_compare.specs.inside.Groups.{AreRowsBefore}
use Rattle.lvl_compare.specs.inside.Lists.{AreBoth}
use Rattle.lvl_compare.specs.inside.Strips.{Difference}
use Rattle.lvl_compare.proofs.InStrips.{in_rows}

candidates_in : (s : Settled) (w v : Window) (c : Candidates) → ((q : Square) → IsInWindow v q → IsInWindow w q)
    → AreCandidates s w c → AreCandidates s v c
candidates_in s w v c inside h = record {
  shapes = λ top at i layer q seen covers. h.shapes top at i layer q (inside q seen) covers;
  references = λ top at i layer q seen covers. h.references top at i layer q (inside q seen) covers;
}

-- candidates for a window are candidates for each part of it
pub both_in : (pair : Pair) (w v : Window) (lists : Lists) → ((q : Square) → IsInWindow v q → IsInWindow w q)
    → AreBoth pair w lists → AreBoth pair v lists
both_in pair w v lists inside h = record {
  ours = candidates_in pair.first.now w v lists.ours inside h.ours;
  theirs = candidates_in pair.second.now w v lists.theirs inside h.theirs;
}

-- and so are the shorter ones, if there are any
pub both_shorter : (pair : Pair) (w : Window) (short : Option Lists) (long result : Lists)
    → IfSome short (AreBoth pair w) → IfSome short (λ lists. result ≡ lists) → (short ≡ None → result ≡ long)
    → AreBoth pair w long → AreBoth pair w result
both_shorter pair w None long result inner some none outer = subst (AreBoth pair w) (sym (none refl)) outer
both_shorter pair w (Some lists) long result inner some none outer = subst (AreBoth pair w) (sym some) inner

-- candidates for some windows are found in the shorter lists, if there are any
pub both_near : (pair : Pair) (ws : List Window) (short : Option Lists) (long result : Lists)
    → IfSome short (λ lists. (w : Window) → Contains ws w → AreBoth pair w lists) → IfSome short (λ lists. result ≡ lists)
    → (short ≡ None → result ≡ long) → ((w : Window) → AreBoth pair w long) → (w : Window) → Contains ws w
    → AreBoth pair w result
both_near pair ws None long result near some none whole w has = subst (AreBoth pair w) (sym (none refl)) (whole w)
both_near pair ws (Some lists) long result near some none whole w has = subst (AreBoth pair w) (sym some) (near w has)

-- the rows that may have a square before the known one are rows of the window
pub rows_in : (pairs : List LayerPair) (group : Group) (k : Difference) (w rows : Window)
    → AreRowsBefore pairs group k w rows → (q : Square) → IsInWindow rows q → IsInWindow w q
rows_in pairs group k w rows (inl is) q h = subst (λ (v : Window). IsInWindow v q) is h
rows_in pairs group k w rows (inr is) q h =
    in_rows w is.0.y q (subst (λ (v : Window). IsInWindow v q) is.0.is h)
