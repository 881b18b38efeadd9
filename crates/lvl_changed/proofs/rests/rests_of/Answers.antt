use Rattle.std.proofs.Common.{◌≡◌, [], List, ap, sym, ◌∙◌}
use Rattle.lvl_cells.specs.Cells.{PlainCell, PlainShape, Rings}
use Rattle.lvl_view.specs.declared.map.LayerPair.{LayerPair}
use Rattle.lvl_changed.specs.inside.Figures.{AreLeft}
use Rattle.lvl_changed.proofs.Resting.{seen_alike, tops_where}
use Rattle.lvl_changed.proofs.Tops.{none_mapped}
use Rattle.lvl_changed.proofs.rests.rests_of.Goals as goal

-- `left` is left of xs
abbrev Left : List LayerPair → List LayerPair → List (PlainShape Rings) → List (PlainShape Rings)
    → List (PlainShape Rings) → Type 0
Left pairs others left xs ys = AreLeft pairs xs others ys left

pub returns-clause-same : goal.returns-clause-same
returns-clause-same c =
    let none : List LayerPair = c.whole-whole.result.pairs in
    let pairs : List LayerPair = c.args.pair.now.view.now.pairs in
    let first : PlainCell Rings = c.top_of-first.result.now in
    let second : PlainCell Rings = c.top_of-second.result.now in
    let ours : first.references ≡ [] =
    sym (ap (λ (b : PlainCell Rings). b.references) c.first.view_is) ∙ c.is_empty.ensures.0 c.if-not-is_empty.false in
    let theirs : second.references ≡ [] =
    sym (ap (λ (b : PlainCell Rings). b.references) c.second.view_is)
    ∙ c.is_empty-else-not-is_empty.ensures.0 c.if-not-is_empty-2.false in
    let mine : c.first.inside.shapes ≡ first.shapes = ap (λ (b : PlainCell Rings). b.shapes) c.first.view_is in
    let their : c.second.inside.shapes ≡ second.shapes = ap (λ (b : PlainCell Rings). b.shapes) c.second.view_is in
    let left : AreLeft none first.shapes pairs second.shapes c.in_ok-left.left =
    seen_alike (Left none pairs c.in_ok-left.left) mine their c.in_ok-left.ensures in
    let other_left : AreLeft pairs second.shapes none first.shapes c.in_ok-their_left.their_left =
    seen_alike (Left pairs none c.in_ok-their_left.their_left) their mine c.in_ok-their_left.ensures in
    let rest = rw c.in-Some-2.is at c.in_ok-rest.ensures in
    let other = rw c.in-Some-3.is at c.in_ok-their_rest.ensures in
    tops_where none pairs c.args.pair.now.first.now c.args.pair.now.second.now c.in-Some-2.rest c.in-Some-3.their_rest
    first second c.in_ok-left.left c.in_ok-their_left.their_left c.whole-whole.ensures.no_pairs
    c.top_of-first.ensures c.top_of-second.ensures ours theirs left other_left rest other

pub returns-clause-window : goal.returns-clause-window
returns-clause-window c =
    none_mapped _ c.window.result c.args.pair.now.view.now.window c.window.ensures
    (sym c.is_some.ensures ∙ c.if-is_some.false)
