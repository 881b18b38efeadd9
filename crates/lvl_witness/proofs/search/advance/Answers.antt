use Rattle.std.proofs.Common.{◌≡◌, ◌<◌, ◌-◌, ◌++◌, ◌∷◌, [], List, suc, length, take, vec_len, IfSome, IfNone}
use Rattle.std.proofs.Common.{sym, ap, subst, ◌∙◌, arith, Contains, IsSomeAnd, inl, inr, refl}
use Rattle.std.proofs.lemmas.List.{length-append}
use Rattle.lvl_grid.specs.declared.point.Square.{Square}
use Rattle.lvl_grid.specs.declared.map.Map.{Map}
use Rattle.lvl_names.specs.declared.layer.Layer.{Layer}
use Rattle.lvl_cells.specs.Checks.{Settled}
use Rattle.lvl_witness.specs.declared.frame.Frame.{Frame}
use Rattle.lvl_witness.specs.declared.witness.Step.{Step}
use Rattle.lvl_witness.specs.Witnesses.{IsWitness, Leads}
use Rattle.lvl_grid.specs.Winding.{SomeCovers}
use Rattle.lvl_cells.specs.Coverage.{CellCovers}
use Rattle.lvl_flat.specs.Flattened.{CoversAt}
use Rattle.lvl_witness.specs.declared.known.Seen.{Seen}
use Rattle.lvl_witness.specs.inside.Known.{seen_at}
use Rattle.lvl_witness.specs.inside.Wide.{as_square}
use Rattle.lvl_witness.specs.inside.Moves.{begun, Enters}
use Rattle.lvl_witness.specs.inside.Searching.{HasNoRing, IsRingOfCell, IsSearch, PlacedCovers, work_left}
use Rattle.lvl_cells.specs.Cells.{PlainCell, Rings}
use Rattle.lvl_witness.proofs.Leading.{leads_chain}
use Rattle.lvl_witness.proofs.Going.{less_into, less_known}
use Rattle.lvl_witness.proofs.Searching.{search_out, search_past, search_known, search_into, last_empty}
use Rattle.lvl_witness.proofs.Searching.{leads_into, last_reached, entered_reached}
use Rattle.lvl_witness.proofs.search.advance.Goals as goal

pub next_move-requires : goal.next_move-requires
next_move-requires c =
    last_reached c.args.fitted.now c.args.layers.now c.args.square c.args.search.now.frames.items c.args.frame
    c.args.search.now.steps.items c.requires.search

pub ring_in_cell-requires : goal.ring_in_cell-requires
ring_in_cell-requires c =
    entered_reached c.args.fitted.now c.args.layers.now c.args.square c.args.search.now.frames.items c.args.frame
    c.args.search.now.steps.items c.in-Into.step c.in-Into.map c.in-Into.rest c.requires.search c.in-Into.ensures

pub returns-in-Some-clause-some : goal.returns-in-Some-clause-some
returns-in-Some-clause-some c =
    let s : Settled = c.args.fitted.now in
    let layers : List Layer = c.args.layers.now in
    let q : Square = c.args.square in
    let step : Step = c.in-Into.step in
    let m : Map = c.in-Into.map in
    let steps : List Step = c.args.search.now.steps.items in
    let e : Enters s.cells q c.args.frame step m c.in-Into.rest = c.in-Into.ensures in
    let ring : IsRingOfCell s.cells step.cell m layers q c.in-Some.ring =
    subst (λ o. IfSome o (IsRingOfCell s.cells step.cell m layers q)) c.in-Some.is c.in_ok-ring-in-Into.ensures.some in
    let long : suc (length steps) ≡ length (steps ++ step ∷ []) =
    omega (arith, length-append steps (step ∷ [])) in
    let top : PlainCell Rings = c.requires.search.top in
    let more : List Step = steps ++ step ∷ [] in
    let leads : Leads s.cells top more (length more) m e.next =
    subst (λ n. Leads s.cells top more n m e.next) long
    (leads_into s layers q c.args.search.now.frames.items c.args.frame steps step m c.in-Into.rest c.requires.search e) in
    subst (λ ss. IsWitness s layers q ss c.in-Some.ring) (sym c.in_ok-push-in-Into-2.ensures.items)
    (record {
      top = top;
      is_top = c.requires.search.is_top;
      map = m;
      cell = e.next;
      leads = leads;
      chain = leads_chain s.cells top more (length more) m e.next leads;
      covers = ring e.next e.leads.cell_is;
    })

pub returns-in_ok-keep-in-Out-clause-none : goal.returns-in_ok-keep-in-Out-clause-none
returns-in_ok-keep-in-Out-clause-none c =
    let steps : List Step = c.args.search.now.steps.items in
    let long : vec_len c.args.search.now.steps ≡ length steps = omega arith in
    subst (IsSearch c.args.fitted.now c.args.layers.now c.args.square c.args.search.now.frames.items)
    (sym (c.pop.ensures.rest ∙ ap (λ n. take (n - 1) steps) long))
    (search_out c.args.fitted.now c.args.layers.now c.args.square c.args.search.now.frames.items c.args.frame
    c.args.search.now.steps.items c.requires.search c.in-Out.ensures)

pub returns-in_ok-push-in-Past-clause-none : goal.returns-in_ok-push-in-Past-clause-none
returns-in_ok-push-in-Past-clause-none c =
    subst (λ fs. IsSearch c.args.fitted.now c.args.layers.now c.args.square fs c.args.search.now.steps.items)
    (sym c.in_ok-push-in-Past.ensures.items)
    (search_past c.args.fitted.now c.args.layers.now c.args.square c.args.search.now.frames.items c.args.frame
    c.in-Past.rest c.args.search.now.steps.items c.requires.search c.in-Past.ensures)

pub returns-in_ok-push-in-Into-3-clause-none : goal.returns-in_ok-push-in-Into-3-clause-none
returns-in_ok-push-in-Into-3-clause-none c =
    let s : Settled = c.args.fitted.now in
    let layers : List Layer = c.args.layers.now in
    let q : Square = c.args.square in
    let step : Step = c.in-Into.step in
    let m : Map = c.in-Into.map in
    let front : List Frame = c.args.search.now.frames.items in
    let steps : List Step = c.args.search.now.steps.items in
    let own : HasNoRing s.cells step.cell m layers q =
    subst (λ o. IfNone o (HasNoRing s.cells step.cell m layers q)) c.in_default.is c.in_ok-ring-in-Into.ensures.none in
    let frames : c.push-in-Into-3.new.self.items ≡ (front ++ c.in-Into.rest ∷ []) ++ begun step.cell m ∷ [] =
    c.in_ok-push-in-Into-3.ensures.items
    ∙ (ap (λ (fs : List Frame). fs ++ c.begun.result ∷ []) c.in_ok-push-in-Into.ensures.items
    ∙ ap (λ (f : Frame). (front ++ c.in-Into.rest ∷ []) ++ f ∷ []) c.begun.ensures) in
    subst (λ fs. IsSearch s layers q fs c.push-in-Into-2.new.self.items) (sym frames)
    (subst (IsSearch s layers q ((front ++ c.in-Into.rest ∷ []) ++ begun step.cell m ∷ []))
    (sym c.in_ok-push-in-Into-2.ensures.items)
    (search_into s layers q front c.args.frame steps step m c.in-Into.rest c.requires.search c.in-Into.ensures own))

pub returns-in_ok-push-in-Into-3-clause-nearer : goal.returns-in_ok-push-in-Into-3-clause-nearer
returns-in_ok-push-in-Into-3-clause-nearer c =
    let s : Settled = c.args.fitted.now in
    let step : Step = c.in-Into.step in
    let m : Map = c.in-Into.map in
    let front : List Frame = c.args.search.now.frames.items in
    let sound = c.requires.search.checked.settled in
    let frames : c.push-in-Into-3.new.self.items ≡ (front ++ c.in-Into.rest ∷ []) ++ begun step.cell m ∷ [] =
    c.in_ok-push-in-Into-3.ensures.items
    ∙ (ap (λ (fs : List Frame). fs ++ c.begun.result ∷ []) c.in_ok-push-in-Into.ensures.items
    ∙ ap (λ (f : Frame). (front ++ c.in-Into.rest ∷ []) ++ f ∷ []) c.begun.ensures) in
    subst (λ fs. work_left s.cells fs < work_left s.cells (front ++ c.args.frame ∷ [])) (sym frames)
    (less_into s.cells s.order c.args.square front c.args.frame step m c.in-Into.rest sound.sound.linked sound.sorted
    c.in-Into.ensures)

pub returns-in_ok-keep-in-Out-clause-known : goal.returns-in_ok-keep-in-Out-clause-known
returns-in_ok-keep-in-Out-clause-known c =
    let s : Settled = c.args.fitted.now in
    let layers : List Layer = c.args.layers.now in
    let q : Square = c.args.square in
    let f : Frame = c.args.frame in
    let t : Square = as_square c.pulled.result in
    record {
      empty = λ seen layer has listed.
          elim (c.in_ok-keep-in-Out.ensures seen has) [
            | inl before ↦ c.requires.known.empty seen layer before listed
            | inr new ↦
                λ covers.
                last_empty s layers q t c.args.search.now.frames.items f c.args.search.now.steps.items
                c.requires.search c.in-Out.ensures ((c.pulled.ensures.square t).1 refl) layer listed
                (subst (λ (x : Seen). CoversAt s.cells x.cell layer x.square) new covers)
          ];
    }

pub returns-then-has-clause-none : goal.returns-then-has-clause-none
returns-then-has-clause-none c =
    let s : Settled = c.args.fitted.now in
    let layers : List Layer = c.args.layers.now in
    let q : Square = c.args.square in
    let step : Step = c.in-Into.step in
    let m : Map = c.in-Into.map in
    let e : Enters s.cells q c.args.frame step m c.in-Into.rest = c.in-Into.ensures in
    let t : Square = as_square c.pulled-in-Into.result in
    let none : (layer : Layer) → Contains layers layer → ¬ PlacedCovers s.cells layer q m e.next =
    λ layer listed u.
    let covers : CellCovers SomeCovers s.cells layer e.next t =
    subst (CellCovers SomeCovers s.cells layer e.next) ((c.pulled-in-Into.ensures.square u.0).0 u.1) u.2 in
    c.requires.known.empty (seen_at step.cell t) layer (c.if-has.ensures refl) listed
    (subst (λ o. IsSomeAnd o (λ d. CellCovers SomeCovers s.cells layer d t)) (sym e.leads.cell_is) covers) in
    subst (λ fs. IsSearch s layers q fs c.args.search.now.steps.items) (sym c.in_ok-push-in-Into.ensures.items)
    (search_known s layers q c.args.search.now.frames.items c.args.frame c.args.search.now.steps.items step m
    c.in-Into.rest c.requires.search e none)

pub returns-then-has-clause-nearer : goal.returns-then-has-clause-nearer
returns-then-has-clause-nearer c =
    let s : Settled = c.args.fitted.now in
    let front : List Frame = c.args.search.now.frames.items in
    let sound = c.requires.search.checked.settled in
    subst (λ fs. work_left s.cells fs < work_left s.cells (front ++ c.args.frame ∷ []))
    (sym c.in_ok-push-in-Into.ensures.items)
    (less_known s.cells s.order c.args.square front c.args.frame c.in-Into.step c.in-Into.map c.in-Into.rest
    sound.sound.linked sound.sorted c.in-Into.ensures)
