use Rattle.std.proofs.Common.{◌≡◌, drop, Some, None, sym, ◌∙◌}
use Rattle.lvl_compare.specs.Flats.{head_layer}
use Rattle.lvl_compare.proofs.After.{head_is, tested_at}
use Rattle.lvl_compare.proofs.flats.is_at.Goals as goal

pub returns-in-Some : goal.returns-in-Some
returns-in-Some c =
    tested_at c.args.flat.now c.args.index c.in-Some.here c.args.layer (sym c.in-Some.is ∙ c.layer.ensures.layer)
    c.eq.result c.eq.ensures

pub returns-in-None : goal.returns-in-None
returns-in-None c =
    let none : head_layer (drop c.args.index c.args.flat.now) ≡ None =
    sym (head_is c.args.flat.now c.args.index) ∙ sym c.layer.ensures.layer ∙ c.in-None.is in
    (λ t. cc, λ e. let no : None ≡ Some c.args.layer = sym none ∙ e in cc)
