use Rattle.std.proofs.Common.{◌≡◌, ◌<◌, length, get_or, sym, ap, ◌∙◌, arith}
use Rattle.std.specs.List.{range_with_len}
use Rattle.std.proofs.lemmas.List.FromFn.{length-range_with_len}
use Rattle.lvl_flat.specs.inside.Listed.{listed}
use Rattle.lvl_flat.proofs.Choosing.{below_at}
use Rattle.lvl_flat.proofs.indexes.Indexes.at.Goals as goal

pub returns-in-Below : goal.returns-in-Below
returns-in-Below c =
    let is : range_with_len 0 c.in-Below.field-0 ≡ c.args.self.now =
    sym (ap listed c.in-Below.is) ∙ c.self.view_is in
    let inside : c.args.place < c.in-Below.field-0 =
    omega (arith, c.requires, ap length is, length-range_with_len 0 c.in-Below.field-0) in
    below_at c.in-Below.field-0 c.args.place inside ∙ ap (λ xs. get_or xs c.args.place 0) is
