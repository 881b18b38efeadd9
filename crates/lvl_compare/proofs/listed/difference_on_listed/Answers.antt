use Rattle.std.proofs.Common.{sym, subst, List, ◌<◌, arith}
use Rattle.std.proofs.lemmas.List.{take_all}
use Rattle.lvl_names.specs.declared.layer.Layer.{Layer}
use Rattle.lvl_compare.specs.Tops.{DrawSameOn}
use Rattle.lvl_compare.specs.Pairs.{ours, seen_in, theirs}
use Rattle.lvl_compare.proofs.InListed.{span_found, span_passed}
use Rattle.lvl_compare.proofs.listed.difference_on_listed.Goals as goal

pub loop-from-init : goal.loop-from-init
loop-from-init c = λ l s has seen. absurd (let below : has.0 < 0 = has.1 in omega arith)

pub part-requires-clause-within : goal.part-requires-clause-within
part-requires-clause-within c = λ l h. c.in_ok-whole.ensures.every l

pub loop-from-preserved : goal.loop-from-preserved
loop-from-preserved c =
    span_passed _ _ _ _ _ _ c.span_of-span.result c.in_ok-found.found (sym c.if-is_some.ensures)
    c.span_of-span.ensures.has c.loop-from.invariant (rw c.in_ok-group.ensures.span at c.in_ok-found.ensures)

pub returns-then-is_some : goal.returns-then-is_some
returns-then-is_some c =
    span_found _ _ _ _ _ _ c.span_of-span.result c.in_ok-found.found c.requires c.run_end-end.ensures.later
    c.run_end-end.ensures.within (sym c.if-is_some.ensures) c.span_of-span.ensures.has c.span_of-span.ensures.last
    c.loop-from.invariant (rw c.in_ok-group.ensures.span at c.in_ok-found.ensures)

pub returns : goal.returns
returns c =
    let pair = c.args.pair.now in
    subst (λ (xs : List Layer). DrawSameOn xs (seen_in pair c.args.windows.now) (ours pair) (theirs pair))
    (take_all c.loop-from.from c.args.layers.now c.loop-from-test.false) c.loop-from.invariant
