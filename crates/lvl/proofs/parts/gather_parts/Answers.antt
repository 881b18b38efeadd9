use Rattle.std.proofs.Common.{◌≡◌, ◌<◌, ℕ, ◌<ℤ◌, ◌≤ℤ◌, ℤ, List, length, get_or, None, Some, inr, refl}
use Rattle.std.proofs.Common.{sym, ◌∙◌, subst, rules, arith}
use Rattle.std.specs.Int.{w64}
use Rattle.std.proofs.lemmas.Int.{ints}
use mir.Val.{to_z, of_z}
use Rattle.lvl_corners.specs.Gathered.{IsLowered}
use Rattle.lvl_corners.specs.declared.digest.LayerHash.{LayerHash}
use Rattle.lvl_corners.proofs.Gathered.{lowered_both}
use Rattle.lvl_flat.specs.Flattened.{IsFlattenedWithin}
use Rattle.lvl.specs.Hashes.{around, below_at, rows_around, IsGathering, IsPartPushed}
use Rattle.lvl.proofs.Columns.{gathering_lower, gathering_more, gathering_none}
use Rattle.lvl.proofs.Hashing.{below_none, below_some, listed_at, same_layers}
use Rattle.lvl.proofs.parts.gather_parts.Goals as goal

-- the coordinate, as stored in 64 bits
abbrev kept : ℤ → ℤ
kept z = to_z w64 (of_z w64 z)

pub loop-y-init : goal.loop-y-init
loop-y-init c =
    let s = c.args.fitted.now in
    let w = c.args.window.now in
    let hs : List LayerHash = c.args.hashes.now in
    let is : kept w.y0 ≡ w.y0 = search rules in
    let from : ℤ = kept c.args.from in
    let end : ℤ = kept c.args.end in
    let Begun : ℤ → Type 0 = λ y. (k : ℕ) (h : LayerHash) → k < length hs
    → IsGathering s w from end (below_at y w.y1) (get_or hs k h) (get_or hs k h) in
    record {
      layers = c.requires.layers;
      gathered =
          subst Begun (sym is) (λ k h lt. gathering_none s w from end (get_or hs k h) (c.requires.none k h lt));
      lowered = (omega (arith, ints), inr refl);
      wide = c.of_parts-pace.ensures;
    }

pub loop-y-preserved : goal.loop-y-preserved
loop-y-preserved c =
    let s = c.args.fitted.now in
    let w = c.args.window.now in
    let layers = c.args.layers.now in
    let y : ℤ = to_z w64 c.loop-y.y-bits in
    let stop : ℤ = to_z w64 c.loop-y.stop-bits in
    let from : ℤ = kept c.args.from in
    let next = c.in_ok-part.part in
    let top : ℤ = kept next.top in
    let first : ℤ = kept next.end in
    let then : ℤ = kept c.in_ok-below.below in
    let last : ℤ = kept c.in_ok-stop.stop in
    let top_is : top ≡ next.top = search rules in
    let first_is : first ≡ next.end = search rules in
    let then_is : then ≡ c.in_ok-below.below = search rules in
    let last_is : last ≡ c.in_ok-stop.stop = search rules in
    let y1_is : kept w.y1 ≡ w.y1 = search rules in
    let old : List LayerHash = c.args.hashes.now in
    let mid : List LayerHash = c.loop-y.hashes in
    let new : List LayerHash = c.push_part.new.hashes in
    let long : length new ≡ length mid = c.push_part.auto.hashes in
    let same : length mid ≡ length old = c.loop-y.auto.hashes in
    let lt : y <ℤ w.y1 = search (rules, c.loop-y-test.true) in
    let further : y <ℤ top = subst (λ z. y <ℤ z) (sym top_is) c.in_ok-part.ensures.further in
    let lower : IsLowered from stop first = rw first_is c.in_ok-part.ensures.lowered in
    let lower_part : IsLowered from first then = rw then_is c.in_ok-below.ensures.lowered in
    let lower_all : IsLowered from then last = rw last_is c.in_ok-stop.ensures in
    let flat : IsFlattenedWithin s layers (rows_around (around w from first) y top) next.flat =
    rw (first_is, top_is) c.in_ok-part.ensures.flat in
    let pushed : (k : ℕ) (h : LayerHash) → k < length mid
    → IsPartPushed next.flat from then (record { from = Some y; below = below_at top w.y1 }) (get_or mid k h) (get_or new
    k h) = rw then_is (rw (c.end_before.ensures, y1_is) at c.in_ok-below.ensures.pushed) in
    record {
      layers = same_layers mid new long (λ k h lt. (pushed k h lt).layer) ∙ c.loop-y.invariant.layers;
      gathered = λ k h few. let there : k < length mid = omega (arith, few, same) in
          gathering_lower s w from then last (below_at top w.y1) (get_or old k h) (get_or new k h) lower_all
          (gathering_more s layers w next.flat from first then y top (get_or old k h) (get_or mid k h) (get_or new k h)
          c.requires.all (search rules) (search rules) (listed_at layers old k h c.requires.layers few) further
          lower_part flat
          (gathering_lower s w from stop first (Some y) (get_or old k h) (get_or mid k h) lower
          (subst (λ o. IsGathering s w from stop o (get_or old k h) (get_or mid k h)) (below_some y w.y1 lt)
          (c.loop-y.invariant.gathered k h few))) (pushed k h there));
      lowered =
          lowered_both from (kept c.args.end) then last
          (lowered_both from (kept c.args.end) first then
          (lowered_both from (kept c.args.end) stop first c.loop-y.invariant.lowered lower) lower_part) lower_all;
      wide = c.in_ok-part.ensures.high;
    }

pub returns-clause-gathered : goal.returns-clause-gathered
returns-clause-gathered c = λ k h lt.
    let s = c.args.fitted.now in
    let w = c.args.window.now in
    let y : ℤ = to_z w64 c.loop-y.y-bits in
    let stop : ℤ = to_z w64 c.loop-y.stop-bits in
    let old : List LayerHash = c.args.hashes.now in
    let new : List LayerHash = c.loop-y.hashes in
    let ge : w.y1 ≤ℤ y = search (rules, c.loop-y-test.false) in
    let from_is : kept c.args.from ≡ c.args.from = search rules in
    subst (λ x. IsGathering s w x stop None (get_or old k h) (get_or new k h)) from_is
    (subst (λ o. IsGathering s w (kept c.args.from) stop o (get_or old k h) (get_or new k h)) (below_none y w.y1 ge)
    (c.loop-y.invariant.gathered k h lt))

pub returns-clause-lowered : goal.returns-clause-lowered
returns-clause-lowered c =
    let from_is : kept c.args.from ≡ c.args.from = search rules in
    let end_is : kept c.args.end ≡ c.args.end = search rules in
    rw (from_is, end_is) at c.loop-y.invariant.lowered
