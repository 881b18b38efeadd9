use Rattle.std.proofs.Common.{◌≡◌, ◌∙◌, refl, ap, map}
use Rattle.std.proofs.lemmas.List.Elements.{All-map, All-same}
use Rattle.std.proofs.lemmas.Result.{IfOk-weaker}
use Rattle.lvl_count.specs.declared.counts.LayerRings.{LayerRings}
use Rattle.lvl_count.proofs.Listing.{no_rings, counts_rise, counts_there}
use Rattle.lvl_count.proofs.counts.counts_for.Goals as goal

pub returns-clause-sorted : goal.returns-clause-sorted
returns-clause-sorted c =
    IfOk-weaker c.no_counts.result _ _
    (λ counts e. counts_rise _ counts.items c.in_ok-in_order.ensures.rising
    (e ∙ ap (map no_rings) c.deref.ensures.value)) c.no_counts.ensures

pub returns-clause-layers : goal.returns-clause-layers
returns-clause-layers c =
    IfOk-weaker c.no_counts.result _ _
    (λ counts e. counts_there c.args.layers.items _ counts.items c.in_ok-in_order.ensures.all
    (e ∙ ap (map no_rings) c.deref.ensures.value)) c.no_counts.ensures

pub returns-clause-zero : goal.returns-clause-zero
returns-clause-zero c =
    let none : LayerRings → Type 0 = λ n. n.rings ≡ 0 in
    IfOk-weaker c.no_counts.result _ _
    (λ counts e. All-same none counts.items (map no_rings c.deref.result.now) e
    (All-map none no_rings c.deref.result.now (λ k d within. refl))) c.no_counts.ensures
