use Rattle.std.proofs.Common.{◌≡◌, ◌∷◌, [], List, IfSome, IfNone, sym, ap, subst, ◌∙◌, arith}
use Rattle.std.proofs.lemmas.Grind.{common_steps}
use Rattle.lvl_grid.specs.declared.point.Square.{Square}
use Rattle.lvl_names.specs.declared.layer.Layer.{Layer}
use Rattle.lvl_cells.specs.Chains.{unmoved}
use Rattle.lvl_cells.specs.Checks.{IsChecked, Settled}
use Rattle.lvl_witness.specs.Witnesses.{IsWitness}
use Rattle.lvl_flat.specs.Flattened.{TopCovers}
use Rattle.lvl_witness.specs.declared.witness.PlacedRing.{PlacedRing}
use Rattle.lvl_witness.specs.declared.witness.Step.{Step}
use Rattle.lvl_witness.specs.inside.Known.{AreEmpty}
use Rattle.lvl_witness.specs.inside.Moves.{begun}
use Rattle.lvl_witness.specs.inside.Searching.{HasNoRing, IsRingOfCell, IsSearch}
use Rattle.lvl_witness.proofs.Searching.{search_begins, none_empty}
use Rattle.lvl_witness.proofs.Witnessing.{top_witness, witness_covers, none_covers}
use Rattle.lvl_witness.proofs.search.find_witness.Goals as goal

pub returns-in-Some-clause-some : goal.returns-in-Some-clause-some
returns-in-Some-clause-some c =
    let s : Settled = c.args.fitted.now in
    let layers : List Layer = c.args.layers.now in
    let q : Square = c.args.square in
    let checked : IsChecked s = subst IsChecked c.checked.ensures.library c.top-top.ensures.checked in
    let index : c.top-top.result ≡ s.top =
    c.top-top.ensures.value ∙ ap (λ (x : Settled). x.top) c.checked.ensures.library in
    let ring : IsRingOfCell s.cells s.top unmoved layers q c.in-Some.ring =
    subst (λ i. IsRingOfCell s.cells i unmoved layers q c.in-Some.ring) index
    (subst (λ o. IfSome o (IsRingOfCell s.cells c.top-top.result unmoved layers q)) c.in-Some.is
    c.in_ok-ring.ensures.some) in
    let witness : IsWitness s layers q [] c.in-Some.ring =
    top_witness s layers q c.in-Some.ring checked.settled.cell checked.settled.is ring in
    subst (λ ss. IsWitness s layers q ss c.in-Some.ring) (sym c.new-steps.ensures.items) witness

pub returns-in-Some-clause-covered : goal.returns-in-Some-clause-covered
returns-in-Some-clause-covered c =
    let s : Settled = c.args.fitted.now in
    let layers : List Layer = c.args.layers.now in
    let q : Square = c.args.square in
    let checked : IsChecked s = subst IsChecked c.checked.ensures.library c.top-top.ensures.checked in
    let index : c.top-top.result ≡ s.top =
    c.top-top.ensures.value ∙ ap (λ (x : Settled). x.top) c.checked.ensures.library in
    let ring : IsRingOfCell s.cells s.top unmoved layers q c.in-Some.ring =
    subst (λ i. IsRingOfCell s.cells i unmoved layers q c.in-Some.ring) index
    (subst (λ o. IfSome o (IsRingOfCell s.cells c.top-top.result unmoved layers q)) c.in-Some.is
    c.in_ok-ring.ensures.some) in
    let witness : IsWitness s layers q [] c.in-Some.ring =
    top_witness s layers q c.in-Some.ring checked.settled.cell checked.settled.is ring in
    witness_covers s layers q [] c.in-Some.ring witness

pub loop-frame-init : goal.loop-frame-init
loop-frame-init c =
    let s : Settled = c.args.fitted.now in
    let layers : List Layer = c.args.layers.now in
    let q : Square = c.args.square in
    let checked : IsChecked s = subst IsChecked c.checked.ensures.library c.top-top.ensures.checked in
    let index : c.top-top.result ≡ s.top =
    c.top-top.ensures.value ∙ ap (λ (x : Settled). x.top) c.checked.ensures.library in
    let none : HasNoRing s.cells c.top-top.result unmoved layers q =
    subst (λ o. IfNone o (HasNoRing s.cells c.top-top.result unmoved layers q)) c.in_default.is
    c.in_ok-ring.ensures.none in
    let begins : IsSearch s layers q (begun s.top unmoved ∷ []) [] =
    search_begins s layers q checked.settled.cell checked checked.settled.is
    (subst (λ i. HasNoRing s.cells i unmoved layers q) index none) in
    let frames : c.in_ok-search.search.frames.items ≡ begun s.top unmoved ∷ [] =
    c.in_ok-search.ensures.frames ∙ ap (λ i. begun i unmoved ∷ []) index in
    record {
      search =
          subst (λ fs. IsSearch s layers q fs c.in_ok-search.search.steps.items) (sym frames)
          (subst (IsSearch s layers q (begun s.top unmoved ∷ [])) (sym c.in_ok-search.ensures.steps) begins);
      known = subst (AreEmpty s.cells layers) (sym c.in_ok-search.ensures.known) (none_empty s.cells layers);
    }

pub returns-in-Some-2-clause-covered : goal.returns-in-Some-2-clause-covered
returns-in-Some-2-clause-covered c =
    let s : Settled = c.args.fitted.now in
    let layers : List Layer = c.args.layers.now in
    let q : Square = c.args.square in
    let steps : List Step = c.advance.new.search.steps.items in
    subst (λ (ring : PlacedRing). TopCovers s ring.layer q) (sym c.into_witness.ensures.ring)
    (witness_covers s layers q steps c.in-Some-2.ring
    (subst (λ o. IfSome o (IsWitness s layers q steps)) c.in-Some-2.is c.in_ok-ring-2.ensures.some))

pub returns-clause-none : goal.returns-clause-none
returns-clause-none c =
    let none : c.loop-frame.search.frames.items ≡ [] = grind (arith, common_steps, c.in_default-pop.ensures) in
    none_covers c.args.fitted.now c.args.layers.now c.args.square c.loop-frame.search.steps.items
    (subst (λ fs. IsSearch c.args.fitted.now c.args.layers.now c.args.square fs c.loop-frame.search.steps.items) none
    c.loop-frame.invariant.search)
