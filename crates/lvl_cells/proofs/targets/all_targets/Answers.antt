use Rattle.std.proofs.Common.{◌≡◌, ◌+◌, ◌++◌, ◌∷◌, List, [], ℕ, take, length, refl, sym, ap, subst, arith, ◌∙◌}
use Rattle.std.proofs.lemmas.Result.{err_from_is_err_and}
use Rattle.std.proofs.lemmas.List.{take_all}
use Rattle.std.proofs.lemmas.List.Elements.{All-nil}
use Rattle.lvl_refusal.proofs.Saying.{Says-map}
use Rattle.lvl_cells.specs.Cells.{PlainCell, Rings, names}
use Rattle.lvl_cells.specs.declared.rows.Run.{Run}
use Rattle.lvl_cells.specs.inside.Rows.{Rises, AreRows, spread_rows}
use Rattle.lvl_cells.specs.inside.Targets.{IsMissingFault}
use Rattle.lvl_cells.proofs.Missing.{AreTargetsOf, cells_more, missing_fault}
use Rattle.lvl_cells.proofs.Runs.{rows_more}
use Rattle.lvl_cells.proofs.targets.all_targets.Goals as goal

pub loop-cell-init : goal.loop-cell-init
loop-cell-init c =
    rw (c.in_ok-ends.ensures.items, c.new-runs.ensures.items)
    record { rows = record { rising = refl; rows = All-nil (Rises 0) }; targets = refl }

pub returns-in_err-push_row-clause-err : goal.returns-in_err-push_row-clause-err
returns-in_err-push_row-clause-err c =
    let p = err_from_is_err_and c.from_residual-in_err-push_row.result c.from_residual-in_err-push_row.ensures.1 in
    rw (p.1, p.2) (Says-map (IsMissingFault (names c.args.cells.now) c.cell-item.result) _ _
    (λ f h. missing_fault c.args.cells.now c.loop-cell.cell-index c.cell-item.result
    (spread_rows c.loop-cell.ends.items c.loop-cell.runs.items) f
    c.loop-cell-test.true c.cell-item.is c.loop-cell.invariant.targets h) c.in_err-push_row.ensures.err)

pub loop-cell-preserved : goal.loop-cell-preserved
loop-cell-preserved c =
    let all : List (List ℕ) = names c.args.cells.now in
    let cells : List (PlainCell Rings) = c.args.cells.now in
    let i : ℕ = c.loop-cell.cell-index in
    let ends : List ℕ = c.loop-cell.ends.items in
    let old : List Run = c.loop-cell.runs.items in
    let new : List Run = c.push_row.new.runs.items in
    let has = c.in_ok-push_row.ensures.ok in
    let more = rows_more ends old new has.targets c.loop-cell.invariant.rows has.row in
    let size : c.len.result ≡ length new = omega (arith, c.len.ensures, c.push_row.new.runs.ok.0) in
    let ends_are : c.push.new.self.items ≡ ends ++ length new ∷ [] =
    c.in_ok-push.ensures.items ∙ ap (λ n. ends ++ n ∷ []) size in
    record {
      rows = subst (λ (es : List ℕ). AreRows es new) (sym ends_are) more.0;
      targets =
          subst (λ (tss : List (List ℕ)). AreTargetsOf all (take (i + 1) cells) tss)
          (sym (ap (λ (es : List ℕ). spread_rows es new) ends_are ∙ more.1))
          (cells_more all cells i c.cell-item.result (spread_rows ends old) has.targets c.loop-cell-test.true
          c.cell-item.is has.are c.loop-cell.invariant.targets);
    }

pub returns-in_err-ends-clause-err : goal.returns-in_err-ends-clause-err
returns-in_err-ends-clause-err c =
    let p = err_from_is_err_and c.from_residual.result c.from_residual.ensures.1 in rw (p.1, p.2) tt

pub returns-in_err-push-clause-err : goal.returns-in_err-push-clause-err
returns-in_err-push-clause-err c =
    let p = err_from_is_err_and c.from_residual-in_err-push.result c.from_residual-in_err-push.ensures.1 in
    rw (p.1, p.2) tt

pub push_row-requires : goal.push_row-requires
push_row-requires c = c.requires

pub of-requires : goal.of-requires
of-requires c = c.loop-cell.invariant.rows

pub returns-clause-ok : goal.returns-clause-ok
returns-clause-ok c =
    let cells : List (PlainCell Rings) = c.args.cells.now in
    let rows : List (List ℕ) = spread_rows c.loop-cell.ends.items c.loop-cell.runs.items in
    let whole : take c.loop-cell.cell-index cells ≡ cells =
    take_all c.loop-cell.cell-index cells c.loop-cell-test.false in
    subst (AreTargetsOf (names cells) cells) (sym c.of.ensures)
    (subst (λ (cs : List (PlainCell Rings)). AreTargetsOf (names cells) cs rows) whole c.loop-cell.invariant.targets)
