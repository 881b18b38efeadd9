use Rattle.std.proofs.Common.{◌≡◌, ◌+◌, ◌⊎◌, ◌↔◌, ℕ, Bool, true, List, Some, length, Contains, sym, ap, ◌∙◌}
use Rattle.std.proofs.Common.{false, replicate, subst, arith}
use Rattle.std.specs.List.{slice_get}
use Rattle.std.proofs.lemmas.Option.{slice_get_within}
use Rattle.lvl_cells.proofs.Roots.{AreMarkedBefore, none_marked, referred_more, row_within, written_whole}
use Rattle.lvl_cells.proofs.top.referred_cells.Goals as goal

pub loop-cell-preserved : goal.loop-cell-preserved
loop-cell-preserved c =
    let targets = c.args.targets.now in
    let i = c.loop-cell.cell in
    let ts = c.row.result in
    let old : List Bool = c.loop-cell.referred.items in
    let new : List Bool = c.mark_all.new.marks in
    let same_long : length new ≡ length old = c.mark_all.auto.marks ∙ ap length c.deref_mut.ensures.value in
    let whole : c.loop-cell.referred.len ≡ length old =
    sym c.deref_mut.ensures.len ∙ ap length c.deref_mut.ensures.value in
    let written = written_whole old new c.loop-cell.referred.len same_long whole in
    let more : (k : ℕ) → (slice_get new k ≡ Some true) ↔ ((slice_get old k ≡ Some true) ⊎ Contains ts k) =
    rw c.deref_mut.ensures.value at c.mark_all.ensures in
    record {
      long = c.loop-cell.invariant.long;
      marked =
          subst (λ (l : List Bool). AreMarkedBefore l targets (i + 1)) (sym written)
          (referred_more old new targets i ts c.row.ensures c.loop-cell.invariant.marked more);
    }

pub returns-clause-marked : goal.returns-clause-marked
returns-clause-marked c =
    λ k. (
      λ h. let w = (c.loop-cell.invariant.marked k).0 h in (w.0, w.1, w.3),
      λ w. (c.loop-cell.invariant.marked k).1 (
        w.0,
        w.1,
        omega (
          arith,
          slice_get_within c.args.targets.now w.0 w.2.0 w.2.1,
          c.loop-cell-test.false,
          c.len-cell-end.ensures,
        ),
        w.2,
      ),
    )

pub loop-cell-init : goal.loop-cell-init
loop-cell-init c =
    let none : c.in_ok-referred.referred.items ≡ replicate c.len.result false =
    c.in_ok-referred.ensures.items_if_clones_equal (λ y h. h) in
    record {
      long = c.in_ok-referred.ensures.len ∙ c.len.ensures;
      marked = rw none (none_marked c.len.result c.args.targets.now);
    }

pub row-requires : goal.row-requires
row-requires c = omega (arith, c.loop-cell-test.true, c.len-cell-end.ensures)

pub returns-clause-long : goal.returns-clause-long
returns-clause-long c = c.loop-cell.invariant.long

pub mark_all-requires : goal.mark_all-requires
mark_all-requires c =
    let long : length c.deref_mut.result.now ≡ length c.args.targets.now =
    c.deref_mut.ensures.len ∙ c.loop-cell.invariant.long in
    row_within c.args.targets.now c.loop-cell.cell c.row.result (length c.deref_mut.result.now) c.row.ensures long
    c.requires
