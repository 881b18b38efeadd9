use Rattle.lvl_changed.proofs.cells.found_of.Goals as goal

pub returns-in_default-clause-found : goal.returns-in_default-clause-found
returns-in_default-clause-found c = λ known l s out.
    (λ covers. absurd (out (c.in_ok-area.ensures l s covers)), λ none. absurd none)
