-- Of two lists of bytes that begin alike, the shorter one is at the front of the longer one.
use Rattle.std.proofs.Common.{◌≡◌, ℕ, ◌≤◌, List, ◌++◌, length, take, drop, sym, ap, ◌∙◌}
use Rattle.std.proofs.lemmas.List.{take-append-drop, take-append-le}
use Rattle.std.proofs.Math.Seq.{take-append_seam}

pub front_in : (text ys x y : List ℕ) → text ++ x ≡ ys ++ y → length text ≤ length ys
    → ys ≡ text ++ drop (length text) ys
front_in text ys x y e fits =
    sym (take-append-drop (length text) ys)
    ∙ ap (λ l. l ++ drop (length text) ys) (sym (take-append-le (length text) ys y fits) ∙ ap (take (length text))
    (sym e) ∙ take-append_seam text x)
