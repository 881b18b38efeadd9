use Rattle.std.proofs.Common.{◌≡◌, ◌-◌, ℕ, suc, List, [], ◌∷◌, ◌++◌, Some, length, get_or, set, refl, sym}
use Rattle.std.proofs.Common.{ap, subst, arith, ◌∙◌}
use Rattle.std.specs.List.{slice_get}
use Rattle.std.proofs.lemmas.Option.{slice_get_read, get_or_from_slice_get}
use Rattle.std.proofs.lemmas.Result.{on_ok_weaker}
use Rattle.lvl_cells.specs.declared.rows.Run.{Run}
use Rattle.lvl_cells.specs.inside.Rows.{HasRow}
use Rattle.lvl_cells.proofs.Runs.{row_pushed, row_lengthened}
use Rattle.lvl_cells.proofs.rows.push_target.Goals as goal

pub returns-then-index-run : goal.returns-then-index-run
returns-then-index-run c = λ front targets long count h.
    let runs : List Run = c.args.runs.now.items in
    let k : ℕ = c.len-count.result - 1 in
    let r : Run = record { end = c.in_ok-kept_sum.field-0; target = c.in_ok-kept_count.field-0 } in
    let all : length runs ≡ suc k =
    omega (arith, c.len-count.ensures, c.args.runs.now.ok.0, c.if-count-begin.true) in
    let at : slice_get runs k ≡ Some c.index.result.now =
    slice_get_read runs (length runs) k c.index.result.now refl (omega (arith, all)) c.index.ensures in
    let same : (get_or runs k r).target ≡ r.target =
    ap (λ (q : Run). q.target) (get_or_from_slice_get runs k c.index.result.now r at) ∙ c.if-index-run.true in
    subst (λ t. HasRow front (set runs k r) (targets ++ t ∷ [])) c.in_ok-kept_count.ensures.0
    (row_lengthened front runs targets k r h (omega (arith, c.in_ok-kept_sum.ensures.0, count)) all
    (omega (arith, long, c.if-count-begin.true)) same)

pub returns : goal.returns
returns c =
    let r : Run = record { end = c.in_ok-kept_sum.field-0; target = c.in_ok-kept_count.field-0 } in
    on_ok_weaker c.push_item.result
    (λ is front targets long count h.
    subst (λ (rs : List Run). HasRow front rs (targets ++ c.args.target ∷ [])) (sym is)
    (subst (λ t. HasRow front (c.args.runs.now.items ++ r ∷ []) (targets ++ t ∷ [])) c.in_ok-kept_count.ensures.0
    (row_pushed front c.args.runs.now.items targets r h (omega (arith, c.in_ok-kept_sum.ensures.0, count)))))
    c.push_item.ensures.added
