use Rattle.std.proofs.Common.{◌≡◌, List, [], ◌∷◌, Some, length, slice_get, arith, sym, ap, ◌∙◌}
use Rattle.std.proofs.lemmas.Option.{get_or_from_slice_get}
use Rattle.lvl_cells.proofs.references.smallest.Goals as goal

-- the only item of a list
single_item : {X : Type 0} (xs : List X) (x : X) → length xs ≡ 1 → slice_get xs 0 ≡ Some x → x ∷ [] ≡ xs
single_item [] x one at = absurd (omega (arith, one))
single_item (y ∷ []) x one at = ap (λ z. z ∷ []) (sym (get_or_from_slice_get (y ∷ []) 0 x x at))
single_item (y ∷ z ∷ zs) x one at = absurd (omega (arith, one))

pub returns-in_ok-new-in-1 : goal.returns-in_ok-new-in-1
returns-in_ok-new-in-1 c =
    ap (λ r. r ∷ []) (c.in_ok-new-in-1.ensures.ok ∙ c.in_ok-single-in-1.ensures ∙ c.in_ok-copied-in-1.ensures)
    ∙ single_item c.args.lists c.reference.result (sym c.len.ensures ∙ c.in-1.is) c.reference.ensures
