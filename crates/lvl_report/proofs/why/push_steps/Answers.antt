use Rattle.std.proofs.Common.{append_assoc, append-nil, ap, flat_map, take, ◌+◌, ◌∙◌, sym, ◌++◌, ◌≡◌, ◌∷◌, []}
use Rattle.std.proofs.lemmas.List.{take_more}
use Rattle.std.proofs.lemmas.List.Concat.{flat_map-append}
use Rattle.lvl_why.specs.declared.why.NamedStep.{NamedStep}
use Rattle.lvl_report.specs.Texts.{step_line}
use Rattle.lvl_report.proofs.why.push_steps.Goals as goal

-- src/why.rt:71:5
pub loop-named-preserved : goal.loop-named-preserved
loop-named-preserved c =
    let steps = c.args.steps.now in
    let i = c.loop-named.named-index in
    let named = c.named-item.result in
    let taken : take (i + 1) steps ≡ take i steps ++ named ∷ [] =
    take_more steps i named c.loop-named-test.true ∙ ap (λ (n : NamedStep). take i steps ++ n ∷ []) (sym c.named-item.is) in
    let more : flat_map step_line (take (i + 1) steps) ≡ flat_map step_line (take i steps) ++ step_line named =
    ap (flat_map step_line) taken ∙ flat_map-append step_line (take i steps) (named ∷ [])
    ∙ ap (λ t. flat_map step_line (take i steps) ++ t) (append-nil (step_line named)) in
    rw (c.in_ok-push_step.ensures, c.loop-named.invariant, more) (append_assoc c.args.text.now.items (flat_map step_line (take i steps)) (step_line named))
