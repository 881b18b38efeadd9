use Rattle.std.proofs.Common.{length, sym, ap, ◌∙◌}
use Rattle.std.proofs.lemmas.List.FromFn.{length-range_with_len}
use Rattle.lvl_flat.specs.inside.Listed.{listed}
use Rattle.lvl_flat.proofs.indexes.Indexes.len.Goals as goal

pub returns-in-Below-clause-value : goal.returns-in-Below-clause-value
returns-in-Below-clause-value c =
    sym (ap length (sym c.self.view_is ∙ ap listed c.in-Below.is) ∙ length-range_with_len 0 c.in-Below.end)
