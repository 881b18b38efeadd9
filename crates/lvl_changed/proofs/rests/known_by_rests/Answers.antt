use Rattle.std.proofs.Common.{◌≡◌, List, Option, None, sym, ◌∙◌, subst}
use Rattle.lvl_grid.specs.declared.point.Window.{Window}
use Rattle.lvl_columns.specs.Windows.{IsShown}
use Rattle.lvl_flat.specs.Flattened.{TopCovers}
use Rattle.lvl_view.specs.Moved.{IsMoved}
use Rattle.lvl_view.specs.declared.map.LayerPair.{LayerPair}
use Rattle.lvl_compare.specs.Pairs.{ours, theirs}
use Rattle.lvl_compare.specs.Tops.{Draws, DrawSame, IsFirstDifference}
use Rattle.lvl_compare.specs.declared.pair.Pair.{Pair}
use Rattle.lvl_changed.proofs.Resting.{differ_where, rest_within, same_where, where_unmapped}
use Rattle.lvl_changed.proofs.rests.known_by_rests.Goals as goal

pub returns-in_default-found : goal.returns-in_default-found
returns-in_default-found c =
    let p : Pair = c.args.pair.now in
    let none : List LayerPair = c.whole.result.pairs in
    let shown : Option Window = c.whole.result.window in
    let x : Draws = TopCovers c.in-Some.rest in
    let y : Draws = TopCovers c.in-Some.their_rest in
    let where_same = rw c.in-Some.is at c.in_ok-rest.ensures.same in
    let window : p.view.now.window ≡ None = rw c.in-Some.is at c.in_ok-rest.ensures.window in
    let same = rw c.in_default-found.is at c.in_ok-found.ensures.same in
    subst (λ (w : Option Window). DrawSame (IsShown w) (ours p) (theirs p)) (c.whole.ensures.no_window ∙ sym window)
    (same_where (IsShown shown) (ours p) (theirs p) x (IsMoved none y)
    (where_unmapped none (ours p) (theirs p) x y c.whole.ensures.no_pairs where_same) same)

pub returns-in-Some-2 : goal.returns-in-Some-2
returns-in-Some-2 c =
    let p : Pair = c.args.pair.now in
    let none : List LayerPair = c.whole.result.pairs in
    let shown : Option Window = c.whole.result.window in
    let x : Draws = TopCovers c.in-Some.rest in
    let y : Draws = TopCovers c.in-Some.their_rest in
    let where_same = rw c.in-Some.is at c.in_ok-rest.ensures.same in
    let window : p.view.now.window ≡ None = rw c.in-Some.is at c.in_ok-rest.ensures.window in
    let first = rw c.in-Some-found.is at c.in_ok-found.ensures.differ in
    let alone = rw c.in-Some-2.is at c.in_ok-side.ensures in
    subst
    (λ (w : Option Window). IsFirstDifference (IsShown w) (ours p) (theirs p) c.in-Some-found.layer
    c.in-Some-found.square c.in-Some-2.side) (c.whole.ensures.no_window ∙ sym window)
    (differ_where (IsShown shown) (ours p) (theirs p) x (IsMoved none y) c.in-Some-found.layer c.in-Some-found.square _
    c.in-Some-2.side (where_unmapped none (ours p) (theirs p) x y c.whole.ensures.no_pairs where_same) first alone)

pub known_among-requires : goal.known_among-requires
known_among-requires c =
    let p : Pair = c.args.pair.now in
    let where_same = rw c.in-Some.is at c.in_ok-rest.ensures.same in
    let mine = rw c.in-Some-3.is at c.in_ok-changes.ensures.ours in
    let their = rw c.in-Some-3.is at c.in_ok-changes.ensures.theirs in
    rest_within c.in-Some-3.changes (ours p) (theirs p) (TopCovers c.in-Some.rest) (TopCovers c.in-Some.their_rest)
    where_same mine their
