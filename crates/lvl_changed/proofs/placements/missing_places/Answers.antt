use Rattle.std.proofs.Common.{◌≡◌, ◌<◌, ◌+◌, [], ℕ, List, false, pos, take, get_or, length, sym, ap, subst}
use Rattle.std.proofs.lemmas.List.{get_or_default, take_all}
use Rattle.lvl_grid.specs.declared.map.Turn.TheVariants.{R0}
use Rattle.lvl_changed.specs.declared.placements.Placement.{Placement}
use Rattle.lvl_changed.specs.inside.Placements.{AreLeftPlaces}
use Rattle.lvl_changed.proofs.LeftPlaces.{left_among, left_more, left_none}
use Rattle.lvl_changed.proofs.placements.missing_places.Goals.{then-not-is_at+in_ok-push, else-not-is_at}
use Rattle.lvl_changed.proofs.placements.missing_places.Goals as goal

pub loop-placement-init : goal.loop-placement-init
loop-placement-init c =
    subst (λ (xs : List Placement). AreLeftPlaces [] c.args.others.now xs) (sym c.new-left.ensures.items)
    (left_none c.args.others.now)

pub loop-placement-preserved : goal.loop-placement-preserved
loop-placement-preserved c =
    let ps : List Placement = c.args.placements.now in
    let others : List Placement = c.args.others.now in
    let i : ℕ = c.loop-placement.placement-index in
    let none : Placement = record {
      cell = 0;
      map = record { flip = false; turn = R0; at = record { x = pos 0; y = pos 0 } };
    } in
    let p : Placement = get_or ps i none in
    let low : i < length ps = c.loop-placement-test.true in
    let is : p ≡ get_or ps i p = get_or_default ps i none p low in
    let before : List Placement = c.loop-placement.left.items in
    elim c.if-not-is_at.branch [
      | then-not-is_at+in_ok-push w ↦
          subst (λ (xs : List Placement). AreLeftPlaces (take (i + 1) ps) others xs) (sym (ap (λ v. v.items) w.left-is))
          (left_more ps others before w.push.new.self.items i p low is w.in_ok-push.ensures.items
          c.loop-placement.invariant)
      | else-not-is_at w ↦
          subst (λ (xs : List Placement). AreLeftPlaces (take (i + 1) ps) others xs) (sym (ap (λ v. v.items) w.left-is))
          (left_among ps others before i p low is (c.is_at.ensures w.if-not-is_at.false) c.loop-placement.invariant)
    ]

pub returns : goal.returns
returns c =
    subst (λ (ps : List Placement). AreLeftPlaces ps c.args.others.now c.loop-placement.left.items)
    (take_all c.loop-placement.placement-index c.args.placements.now c.loop-placement-test.false)
    c.loop-placement.invariant
