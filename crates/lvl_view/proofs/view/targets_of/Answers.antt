use Rattle.std.proofs.Common.{get_or, sym, ◌∙◌}
use Rattle.lvl_view.specs.declared.map.LayerPair.{LayerPair}
use Rattle.lvl_view.proofs.Sources.{first_twice, targets_more, targets_none}
use Rattle.lvl_view.proofs.Zips.{read_at}
use Rattle.lvl_view.proofs.view.targets_of.Goals as goal

abbrev blank : LayerPair
blank = record { source = record { layer = 0; datatype = 0 }; target = record { layer = 0; datatype = 0 } }

pub loop-pair-init : goal.loop-pair-init
loop-pair-init c = targets_none c.new-targets.result c.new-targets.ensures.empty

pub returns-then-is_some-clause-err : goal.returns-then-is_some-clause-err
returns-then-is_some-clause-err c =
    first_twice c.args.pairs.now c.loop-pair.pair-index (get_or c.args.pairs.now c.loop-pair.pair-index blank)
    c.loop-pair.targets c.in_ok-earlier.earlier c.loop-pair-test.true
    (read_at c.args.pairs.now c.loop-pair.pair-index blank c.loop-pair-test.true) c.loop-pair.invariant
    c.in_ok-earlier.ensures.old (sym c.is_some.ensures ∙ c.if-is_some.true)

pub loop-pair-preserved : goal.loop-pair-preserved
loop-pair-preserved c =
    targets_more c.args.pairs.now c.loop-pair.pair-index (get_or c.args.pairs.now c.loop-pair.pair-index blank)
    c.loop-pair.targets c.insert.new.self c.in_ok-earlier.earlier c.loop-pair-test.true
    (read_at c.args.pairs.now c.loop-pair.pair-index blank c.loop-pair-test.true) c.loop-pair.invariant
    c.in_ok-earlier.ensures.old (sym c.is_some.ensures ∙ c.if-is_some.false) c.in_ok-earlier.ensures.updates.0
