use Rattle.std.proofs.Common.{◌≡◌, ◌∙◌, List, length, map, All, sym, subst, ap}
use Rattle.lvl_cells.specs.Chains.{Chain}
use Rattle.lvl_cells.specs.Checks.{Settled}
use Rattle.lvl_witness.specs.Witnesses.{Leads}
use Rattle.lvl_witness.specs.declared.witness.Step.{Step}
use Rattle.lvl_why.specs.Whys.{IsNamed, IsNamedStep}
use Rattle.lvl_why.specs.inside.Steps.{IsWithin}
use Rattle.lvl_why.proofs.Leading.{steps_within}
use Rattle.lvl_why.proofs.finding.described.Goals as goal

pub named-requires : goal.named-requires
named-requires c =
    let s : Settled = c.args.fitted.now in
    let steps : List Step = c.args.witness.now.steps.items in
    let held : All (IsWithin s.cells) steps =
    steps_within s.cells c.requires.top steps c.requires.map c.requires.cell c.requires.leads in
    subst (λ (t : Settled). All (IsWithin t.cells) c.deref.result.now) (sym c.checked-checked.ensures.library)
    (subst (λ others. All (IsWithin s.cells) others) (sym c.deref.ensures.value) held)

pub returns : goal.returns
returns c =
    let s : Settled = c.args.fitted.now in
    let w = c.requires in
    let steps : map (λ n. n.step) c.in_ok-steps.steps.items ≡ c.args.witness.now.steps.items =
    c.in_ok-steps.ensures.same ∙ c.deref.ensures.value in
    let first : c.top.result ≡ s.top =
    c.top.ensures.value ∙ ap (λ (t : Settled). t.top) c.checked-checked.ensures.library in
    record {
      witness = record {
        top = w.top;
        is_top = w.is_top;
        map = w.map;
        cell = w.cell;
        leads =
            subst (λ (others : List Step). Leads s.cells w.top others (length others) w.map w.cell) (sym steps) w.leads;
        chain =
            subst (λ (others : List Step). Chain s.cells w.top (length others) w.map w.cell) (sym steps) w.chain;
        covers = w.covers;
      };
      top =
          subst (λ k. IsNamed s.cells k c.in_ok-top.top.items) first
          (subst (λ (t : Settled). IsNamed t.cells c.top.result c.in_ok-top.top.items) c.checked-checked.ensures.library
          c.in_ok-top.ensures);
      names =
          subst (λ (t : Settled). All (IsNamedStep t.cells) c.in_ok-steps.steps.items) c.checked-checked.ensures.library
          c.in_ok-steps.ensures.names;
    }
