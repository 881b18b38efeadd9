use Rattle.std.proofs.Common.{◌≡◌, ◌≤◌, ◌-◌, ℕ, suc, get_or, subst, arith}
use Rattle.std.proofs.lemmas.Bool.{leb-true}
use Rattle.std.specs.List.{slice_get}
use Rattle.std.specs.Option.{option_map}
use Rattle.lvl_cells.specs.declared.rows.Run.{Run}
use Rattle.lvl_cells.specs.inside.Rows.{spread}
use Rattle.lvl_cells.proofs.Runs.{target_in}
use Rattle.lvl_cells.proofs.rows.has_reference.Goals as goal

pub returns-then-run-eq0 : goal.returns-then-run-eq0
returns-then-run-eq0 c = λ yes.
    let from : c.args.reference - 0 ≡ c.args.reference = omega arith in
    subst (λ n. slice_get (spread 0 c.args.runs.now) n
    ≡ option_map (λ (r : Run). r.target) (slice_get c.args.runs.now c.args.run)) from
    (target_in 0 c.args.runs.now c.args.reference c.args.run (record { end = 0; target = 0 }) c.requires (omega arith)
    c.if-run-runs.false (λ i is. absurd (omega (arith, is, c.if-run-eq0.true))) c.if-runs-run.false)

pub returns : goal.returns
returns c = λ last.
    let d : Run = record { end = 0; target = 0 } in
    let from : c.args.reference - 0 ≡ c.args.reference = omega arith in
    let past : (get_or c.args.runs.now (c.args.run - 1) d).end ≤ c.args.reference =
    leb-true (get_or c.args.runs.now (c.args.run - 1) d).end c.args.reference last in
    subst (λ n. slice_get (spread 0 c.args.runs.now) n
    ≡ option_map (λ (r : Run). r.target) (slice_get c.args.runs.now c.args.run)) from
    (target_in 0 c.args.runs.now c.args.reference c.args.run d c.requires (omega arith) c.if-run-runs.false
    (λ i is.
    let before : c.args.run - 1 ≡ i = omega (arith, is) in
    subst (λ n. (get_or c.args.runs.now n d).end ≤ c.args.reference) before past) c.if-runs-run.false)
