use Rattle.std.proofs.Common.{◌≡◌, ◌↔◌, ◌++◌, ◌∷◌, [], List, ap, sym, subst, ◌∙◌, arith}
use Rattle.lvl_changed.specs.declared.arrays.Array.{Array}
use Rattle.lvl_changed.specs.declared.lattices.Rows.{Rows}
use Rattle.lvl_changed.specs.inside.Arrays.{every_place}
use Rattle.lvl_changed.specs.inside.Placements.{PlacedCover}
use Rattle.lvl_changed.specs.inside.Rows.{RowsCover, row_at}
use Rattle.lvl_changed.proofs.Rowing.{rows_more, rows_none}
use Rattle.lvl_changed.proofs.rows.all_rows.Goals as goal

pub loop-j-init : goal.loop-j-init
loop-j-init c = λ cells l s.
    let a : Array = c.args.array.now in
    let rows : Rows = c.args.rows.now in
    subst (λ (xs : List Array). PlacedCover cells (every_place xs) l s ↔ RowsCover cells a rows 0 l s)
    (sym c.new-all.ensures.items) (rows_none cells a rows l s)

pub loop-j-preserved : goal.loop-j-preserved
loop-j-preserved c = λ cells l s.
    let a : Array = c.args.array.now in
    let rows : Rows = c.args.rows.now in
    let old : List Array = c.loop-j.all.items in
    let is : c.in-Some.row ≡ row_at a rows c.loop-j.j = rw c.in-Some.is at c.in_ok-row.ensures in
    rows_more cells a rows old c.push.new.self.items c.loop-j.j l s
    (c.in_ok-push.ensures.items ∙ ap (λ (r : Array). old ++ r ∷ []) is) (c.loop-j.invariant cells l s)

pub returns : goal.returns
returns c = λ cells l s.
    let a : Array = c.args.array.now in
    let rows : Rows = c.args.rows.now in
    let all : c.loop-j.j ≡ rows.count = omega (arith, c.loop-j-test.false, c.loop-j.auto.j-end) in
    subst (λ n. PlacedCover cells (every_place c.loop-j.all.items) l s ↔ RowsCover cells a rows n l s) all
    (c.loop-j.invariant cells l s)
