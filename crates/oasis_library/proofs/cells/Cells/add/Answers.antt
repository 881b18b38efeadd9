use Rattle.std.proofs.Common.{◌++◌, sym, ◌∙◌, ap}
use Rattle.std.specs.Prelude.{option_to_list}
use Rattle.oasis_library.specs.inside.Kept.{on_last}
use Rattle.oasis_library.specs.inside.Taken.{grown}
use Rattle.oasis_library.proofs.Growing.{last_changed}
use Rattle.oasis_library.proofs.cells.Cells.add.Goals as goal

pub returns : goal.returns
returns c = λ earlier r t.
    let whole = c.self.inside.whole in
    let f = grown earlier r in
    last_changed f whole c.in-Some.last c.add.new.self (c.in_ok-add.ensures earlier r t)
    ∙ ap (on_last f) (ap (λ o. whole ++ option_to_list o) (sym c.in-Some.is) ∙ c.self.view_is)
