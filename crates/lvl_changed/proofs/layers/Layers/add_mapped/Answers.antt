use Rattle.std.proofs.Common.{subst}
use Rattle.lvl_view.specs.Views.{target_of}
use Rattle.lvl_names.specs.declared.layer.Layer.{Layer}
use Rattle.lvl_changed.specs.inside.Layers.{IsOn}
use Rattle.lvl_changed.proofs.Spreading.{layers_all, layers_more}
use Rattle.lvl_changed.proofs.layers.Layers.add_mapped.Goals as goal

pub returns-then-others-clause-added : goal.returns-then-others-clause-added
returns-then-others-clause-added c = λ l on. c.add_every.ensures (target_of c.args.view.now.pairs l)

pub returns-then-others-clause-kept : goal.returns-then-others-clause-kept
returns-then-others-clause-kept c = λ l on. c.add_every.ensures l

pub loop-layer-preserved : goal.loop-layer-preserved
loop-layer-preserved c =
    let none : Layer = record { layer = 0; datatype = 0 } in
    record {
      added =
          layers_more (λ l. IsOn c.loop-layer.self (target_of c.args.view.now.pairs l)) (λ l. IsOn c.add.new.self (target_of c.args.view.now.pairs l)) c.args.others.now.list.items
          c.deref-layer-items.result.now c.loop-layer.layer-index none c.deref-layer-items.ensures.value
          c.loop-layer-test.true (λ l. c.in_ok-add.ensures.kept (target_of c.args.view.now.pairs l)) c.loop-layer.invariant.added (subst (IsOn c.add.new.self) c.target.ensures c.in_ok-add.ensures.added);
      kept = λ l on. c.in_ok-add.ensures.kept l (c.loop-layer.invariant.kept l on);
    }

pub returns-clause-added : goal.returns-clause-added
returns-clause-added c =
    layers_all (λ l. IsOn c.loop-layer.self (target_of c.args.view.now.pairs l)) c.args.others.now c.deref-layer-items.result.now
    c.loop-layer.layer-index c.if-others.false c.deref-layer-items.ensures.value c.loop-layer-test.false
    c.loop-layer.invariant.added
