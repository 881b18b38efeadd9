use Rattle.std.proofs.Common.{◌≡◌, ◌≤◌, ◌+◌, ◌++◌, ◌∷◌, [], ℕ, List, map, take, length, sym, ap, ◌∙◌, arith}
use Rattle.std.proofs.lemmas.List.{map-append, take_all}
use Rattle.lvl_grid.specs.declared.point.Point.{Point}
use Rattle.lvl_grid.specs.declared.map.Map.{Map}
use Rattle.lvl_cells.specs.Cells.{map_at}
use Rattle.lvl_changed.specs.declared.arrays.Array.{Array}
use Rattle.lvl_changed.specs.declared.placements.Placement.{Placement}
use Rattle.lvl_changed.specs.inside.Arrays.{as_reference}
use Rattle.lvl_changed.proofs.Lists.{take_next}
use Rattle.lvl_changed.proofs.listing.places_of.Goals as goal

pub loop-k-preserved : goal.loop-k-preserved
loop-k-preserved c =
    let a : Array = c.args.array.now in
    let shifts : List Point = a.shifts in
    let k : ℕ = c.loop-k.k in
    let f : Point → Placement = λ e. record { cell = a.cell; map = map_at (as_reference a) e } in
    let p = c.in-Some.ensures in
    let e : Point = p.shift in
    let more : take (k + 1) shifts ≡ take k shifts ++ e ∷ [] = take_next shifts k e p.there in
    let one : record { cell = a.cell; map = c.in-Some.map } ≡ f e =
    ap (λ (m : Map). let q : Placement = record { cell = a.cell; map = m } in q) p.map_is in
    let grown : map f (take (k + 1) shifts) ≡ map f (take k shifts) ++ f e ∷ [] =
    ap (map f) more ∙ map-append f (take k shifts) (e ∷ []) in
    c.in_ok-push.ensures.items
    ∙ (ap (λ xs. xs ++ record { cell = a.cell; map = c.in-Some.map } ∷ []) c.loop-k.invariant
    ∙ (ap (λ q. map f (take k shifts) ++ q ∷ []) one ∙ sym grown))

pub returns : goal.returns
returns c =
    let a : Array = c.args.array.now in
    let shifts : List Point = a.shifts in
    let f : Point → Placement = λ e. record { cell = a.cell; map = map_at (as_reference a) e } in
    let long : length shifts ≤ c.loop-k.k = omega (arith, c.loop-k-test.false, c.len-k-end.ensures.count) in
    c.loop-k.invariant ∙ ap (map f) (take_all c.loop-k.k shifts long)
