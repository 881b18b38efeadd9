use Rattle.std.proofs.Common.{◌≡◌, None, sym, ap, ◌∙◌, subst}
use Rattle.lvl_cells.specs.Cells.{PlainCell, names, Rings}
use Rattle.lvl_cells.specs.Faults.{IsFirstRepeat}
use Rattle.lvl_cells.specs.Resolving.{place_in_index}
use Rattle.std.proofs.lemmas.Map.Text.{btree_map_updates_str}
use Rattle.lvl_cells.proofs.Indexes.{distinct_none, distinct_step, index_none, index_step, none_where, repeat_by}
use Rattle.lvl_cells.proofs.names.index_of.Goals as goal

pub loop-i-init : goal.loop-i-init
loop-i-init c = record {
  distinct = distinct_none;
  index = index_none c.new-index.result c.new-index.ensures.empty;
}

pub returns-then-is_some-clause-err : goal.returns-then-is_some-clause-err
returns-then-is_some-clause-err c =
    let cell = c.index-cells-i.result in
    let named : c.as_bytes-name.result.now ≡ cell.name =
    c.as_bytes-name.ensures ∙ ap (λ (x : PlainCell Rings). x.name) c.cell.view_is in
    subst (IsFirstRepeat (names c.args.cells.now)) (sym (c.in_ok-from_slice.ensures.items ∙ named))
    (repeat_by c.args.cells.now c.loop-i.i cell (place_in_index c.loop-i.index) c.in_ok-earlier.earlier
    c.loop-i-test.true c.index-cells-i.is c.loop-i.invariant.distinct c.loop-i.invariant.index
    (sym c.is_some.ensures ∙ c.if-is_some.true)
    (c.in_ok-earlier.ensures.old ∙ ap (place_in_index c.loop-i.index) named))

pub loop-i-preserved : goal.loop-i-preserved
loop-i-preserved c =
    let cell = c.index-cells-i.result in
    let named : c.as_bytes-name.result.now ≡ cell.name =
    c.as_bytes-name.ensures ∙ ap (λ (x : PlainCell Rings). x.name) c.cell.view_is in
    let updates =
    btree_map_updates_str c.as_bytes-name.result.now c.loop-i.index c.insert.new.self _
    c.in_ok-earlier.ensures.updates in
    let free : place_in_index c.loop-i.index cell.name ≡ None =
    none_where c.in_ok-earlier.earlier _ (sym c.is_some.ensures ∙ c.if-is_some.false)
    (c.in_ok-earlier.ensures.old ∙ ap (place_in_index c.loop-i.index) named) in
    record {
      distinct =
          distinct_step c.args.cells.now c.loop-i.i cell c.loop-i.index c.loop-i-test.true c.index-cells-i.is
          c.loop-i.invariant.index free c.loop-i.invariant.distinct;
      index =
          index_step c.args.cells.now c.loop-i.i cell c.loop-i.index c.insert.new.self c.loop-i-test.true
          c.index-cells-i.is c.loop-i.invariant.index free (rw (sym named) updates);
    }
