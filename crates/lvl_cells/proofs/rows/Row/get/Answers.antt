use Rattle.std.proofs.Common.{◌≡◌, List, ℕ, sym, ap, ◌∙◌, subst, arith}
use Rattle.std.specs.List.{slice_get}
use Rattle.std.specs.Option.{option_map}
use Rattle.std.proofs.lemmas.Option.{slice_get_past, slice_get-get_or}
use Rattle.lvl_cells.specs.declared.rows.Run.{Run}
use Rattle.lvl_cells.proofs.rows.Row.get.Goals as goal

pub returns-then-run-self : goal.returns-then-run-self
returns-then-run-self c =
    sym (subst (λ (ts : List ℕ). slice_get ts c.args.reference
    ≡ option_map (λ (r : Run). r.target) (slice_get c.self.inside.runs.now c.run_of-run.result)) c.self.view_is
    c.run_of-run.ensures
    ∙ ap (option_map (λ (r : Run). r.target))
    (slice_get_past c.self.inside.runs.now c.run_of-run.result c.if-run-self.true))

pub returns : goal.returns
returns c =
    sym (subst (λ (ts : List ℕ). slice_get ts c.args.reference
    ≡ option_map (λ (r : Run). r.target) (slice_get c.self.inside.runs.now c.run_of-run.result)) c.self.view_is
    c.run_of-run.ensures
    ∙ ap (option_map (λ (r : Run). r.target))
    (slice_get-get_or c.self.inside.runs.now c.run_of-run.result (record { end = 0; target = 0 })
    (omega (arith, c.if-run-self.false))))
