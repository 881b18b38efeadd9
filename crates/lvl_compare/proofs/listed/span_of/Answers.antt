use Rattle.std.proofs.Common.{List, get_or, refl, ◌<◌, ◌-◌, length, arith}
use Rattle.std.proofs.lemmas.List.{get_or_default}
use Rattle.lvl_names.specs.declared.layer.Layer.{Layer}
use Rattle.lvl_compare.proofs.InListed.{span_has}
use Rattle.lvl_compare.proofs.listed.span_of.Goals as goal

pub returns-clause-has : goal.returns-clause-has
returns-clause-has c =
    let xs : List Layer = c.args.layers.now in
    let none : Layer = record { layer = 0; datatype = 0 } in
    let first : Layer = get_or xs c.args.from none in
    let last : Layer = get_or xs (c.args.end - 1) none in
    let low : c.args.from < length xs = omega (arith, c.requires.some, c.requires.within) in
    let high : c.args.end - 1 < length xs = omega (arith, c.requires.some, c.requires.within) in
    span_has xs c.args.from c.args.end _ first last c.requires.rising c.requires.some c.requires.within
    (get_or_default xs c.args.from first none low) (get_or_default xs (c.args.end - 1) last none high)
    c.last_before.ensures refl
