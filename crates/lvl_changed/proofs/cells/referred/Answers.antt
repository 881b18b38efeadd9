use Rattle.std.proofs.Common.{◌↔◌, List, slice_get, ap, subst}
use Rattle.std.specs.Prelude.{IfSome}
use Rattle.lvl_grid.specs.declared.point.Square.{Square}
use Rattle.lvl_names.specs.declared.layer.Layer.{Layer}
use Rattle.lvl_cells.specs.Cells.{PlainCell, Rings}
use Rattle.lvl_cells.specs.Checks.{Settled}
use Rattle.lvl_view.specs.declared.map.LayerPair.{LayerPair}
use Rattle.lvl_changed.specs.inside.Areas.{AlikeOutside}
use Rattle.lvl_changed.specs.inside.Arrays.{all_places}
use Rattle.lvl_changed.specs.inside.Placements.{PlacedCover, ReferencesCover}
use Rattle.lvl_changed.specs.inside.Remains.{PartnersDraw}
use Rattle.lvl_changed.proofs.Moving.{moved_more}
use Rattle.lvl_changed.proofs.Remaining.{nothing_draws, remain_all, remain_none}
use Rattle.lvl_changed.proofs.cells.referred.Goals as goal

pub returns-then-branch : goal.returns-then-branch
returns-then-branch c = λ found x y at there l s out.
    remain_none (c.in_ok-hold_same.ensures.alike c.if-branch.true found x y at there l s out)
    (c.none.ensures c.args.pair.now l s)
    (nothing_draws c.args.pair.now.view.now.pairs c.args.pair.now.second.now.cells (all_places c.none-then-branch.result)
    c.none-then-branch.ensures l s)

pub returns : goal.returns
returns c = λ found x y at there l s out.
    let ours : List (PlainCell Rings) = c.args.pair.now.first.now.cells in
    let theirs : List (PlainCell Rings) = c.args.pair.now.second.now.cells in
    let pairs : List LayerPair = c.args.pair.now.view.now.pairs in
    let covers : IfSome (slice_get ours c.args.ours)
    (λ d. AlikeOutside c.partners_placed.new.area (ReferencesCover ours d.references)
    (PartnersDraw c.args.pair.now c.in_ok-partners.partners)) =
    subst
    (λ (z : Settled). IfSome (slice_get z.cells c.args.ours)
    (λ d. AlikeOutside c.partners_placed.new.area (ReferencesCover z.cells d.references)
    (PartnersDraw c.args.pair.now c.in_ok-partners.partners))) c.checked.ensures.library
    (c.in_ok-partners.ensures.covers c.args.pair.now found (ap (λ (z : Settled). z.cells) c.checked.ensures.library)) in
    let mine : AlikeOutside c.partners_placed.new.area (ReferencesCover ours x.references)
    (PartnersDraw c.args.pair.now c.in_ok-partners.partners) =
    subst
    (λ o. IfSome o
    (λ (d : PlainCell Rings). AlikeOutside c.partners_placed.new.area (ReferencesCover ours d.references)
    (PartnersDraw c.args.pair.now c.in_ok-partners.partners))) at covers in
    let own : IfSome (slice_get theirs c.args.theirs)
    (λ d. (k : Layer) (q : Square)
    → PlacedCover theirs (all_places c.in_ok-placed.placed) k q ↔ ReferencesCover theirs d.references k q) =
    subst
    (λ (z : Settled). IfSome (slice_get z.cells c.args.theirs)
    (λ d. (k : Layer) (q : Square)
    → PlacedCover z.cells (all_places c.in_ok-placed.placed) k q ↔ ReferencesCover z.cells d.references k q))
    c.checked-2.ensures.library c.in_ok-placed.ensures in
    let other : (k : Layer) (q : Square)
    → PlacedCover theirs (all_places c.in_ok-placed.placed) k q ↔ ReferencesCover theirs y.references k q =
    subst
    (λ o. IfSome o
    (λ (d : PlainCell Rings). (k : Layer) (q : Square)
    → PlacedCover theirs (all_places c.in_ok-placed.placed) k q ↔ ReferencesCover theirs d.references k q)) there own in
    let both = mine l s out in
    remain_all (both.1, both.0) (
      moved_more pairs (PlacedCover theirs (all_places c.in_ok-placed.placed)) (ReferencesCover theirs y.references) s s
          (λ k. (other k s).0) l,
      moved_more pairs (ReferencesCover theirs y.references) (PlacedCover theirs (all_places c.in_ok-placed.placed)) s s
          (λ k. (other k s).1) l,
    )
