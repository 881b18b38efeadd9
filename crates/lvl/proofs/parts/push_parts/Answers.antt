use Rattle.std.proofs.Common.{◌≡◌, ◌<◌, ◌^◌, ◌-◌, ℕ, ◌<ℤ◌, ◌≤ℤ◌, ◌+ℤ◌, ℤ, pos, negsuc, List, length, get_or, None}
use Rattle.std.proofs.Common.{◌∙◌, rules, arith}
use Rattle.std.specs.Int.{w64}
use Rattle.std.proofs.lemmas.Int.{ints}
use mir.Val.{to_z, of_z}
use Rattle.lvl_corners.specs.declared.digest.LayerHash.{LayerHash}
use Rattle.lvl_corners.proofs.Gathered.{gathered_all}
use Rattle.lvl.specs.Hashes.{around, between, CoversIn, IsGathering, IsRightPushed, IsUnder}
use Rattle.lvl.proofs.Columns.{strip_cleared, strip_narrow, strip_wide}
use Rattle.lvl.proofs.Hashing.{same_layers, saturated_to}
use Rattle.lvl.proofs.parts.push_parts.Goals as goal

-- the coordinate, as stored in 64 bits
abbrev kept : ℤ → ℤ
kept z = to_z w64 (of_z w64 z)

pub gather_parts-requires-clause-layers : goal.gather_parts-requires-clause-layers
gather_parts-requires-clause-layers c =
    let old : List LayerHash = c.args.hashes.now in
    let mid : List LayerHash = c.clear_gathered.new.hashes in
    same_layers old mid c.clear_gathered.auto.hashes (λ k h few. (c.clear_gathered.ensures k h few).layer)
    ∙ c.requires.layers

pub gather_parts-requires-clause-none : goal.gather_parts-requires-clause-none
gather_parts-requires-clause-none c = λ k h few.
    let same : length c.clear_gathered.new.hashes ≡ length c.args.hashes.now = c.clear_gathered.auto.hashes in
    (c.clear_gathered.ensures k h (omega (arith, few, same))).none

pub returns-then-end-right-clause-pushed : goal.returns-then-end-right-clause-pushed
returns-then-end-right-clause-pushed c = λ k h few.
    let s = c.args.fitted.now in
    let w = c.args.window.now in
    let from : ℤ = c.args.from in
    let end : ℤ = c.in_ok-found.found.end in
    let from_is : kept from ≡ from = search rules in
    let end_is : kept end ≡ end = search rules in
    let old : List LayerHash = c.args.hashes.now in
    let mid : List LayerHash = c.clear_gathered.new.hashes in
    let new : List LayerHash = c.gather_parts.new.hashes in
    let same : length mid ≡ length old = c.clear_gathered.auto.hashes in
    let gathered : (k : ℕ) (h : LayerHash) → k < length mid
    → IsGathering s w from end None (get_or mid k h) (get_or new k h) = rw from_is at c.in_ok-found.ensures.gathered in
    let low : negsuc (2 ^ 63 - 1) ≤ℤ from = search rules in
    let sat = saturated_to (from +ℤ pos 1) (from +ℤ pos 1) (omega (arith, ints)) (omega (arith, ints, low)) in
    let next = c.saturating_add-right.ensures in
    let narrow : end ≤ℤ (from +ℤ pos 1) = search (rules, c.if-end-right.true, sat, next) in
    rw end_is (strip_cleared s w from end (get_or old k h) (get_or mid k h) (get_or new k h)
    (c.clear_gathered.ensures k h few)
    (strip_narrow s w from end (get_or mid k h) (get_or new k h) narrow (gathered k h (omega (arith, few, same)))))

pub push_gathered-requires : goal.push_gathered-requires
push_gathered-requires c = λ k h few.
    let s = c.args.fitted.now in
    let w = c.args.window.now in
    let from : ℤ = c.args.from in
    let end : ℤ = c.in_ok-found.found.end in
    let from_is : kept from ≡ from = search rules in
    let end_is : kept end ≡ end = search rules in
    let mid : List LayerHash = c.clear_gathered.new.hashes in
    let new : List LayerHash = c.gather_parts.new.hashes in
    let same : length new ≡ length mid = c.gather_parts.auto.hashes in
    let gathered : (k : ℕ) (h : LayerHash) → k < length mid
    → IsGathering s w from end None (get_or mid k h) (get_or new k h) = rw from_is at c.in_ok-found.ensures.gathered in
    let g = gathered k h (omega (arith, few, same)) in
    let right_is : kept c.saturating_add-right.result ≡ from +ℤ pos 1 = search rules in
    let first : LayerHash = get_or mid k h in
    let all = gathered_all (IsUnder None (CoversIn s (around w from end) first.layer)) from end (get_or new k h)
    g.gathered in
    rw (right_is, end_is) (g.gathered.covered, all)

pub returns-clause-pushed : goal.returns-clause-pushed
returns-clause-pushed c = λ k h few.
    let s = c.args.fitted.now in
    let w = c.args.window.now in
    let from : ℤ = c.args.from in
    let end : ℤ = c.in_ok-found.found.end in
    let from_is : kept from ≡ from = search rules in
    let end_is : kept end ≡ end = search rules in
    let right_is : kept c.saturating_add-right.result ≡ from +ℤ pos 1 = search rules in
    let old : List LayerHash = c.args.hashes.now in
    let mid : List LayerHash = c.clear_gathered.new.hashes in
    let held : List LayerHash = c.gather_parts.new.hashes in
    let new : List LayerHash = c.push_gathered.new.hashes in
    let same : length mid ≡ length old = c.clear_gathered.auto.hashes in
    let as_long : length held ≡ length mid = c.gather_parts.auto.hashes in
    let gathered : (k : ℕ) (h : LayerHash) → k < length mid
    → IsGathering s w from end None (get_or mid k h) (get_or held k h) = rw from_is at c.in_ok-found.ensures.gathered in
    let pushed : (k : ℕ) (h : LayerHash) → k < length held
    → IsRightPushed (between (from +ℤ pos 1) end) (get_or held k h) (get_or new k h) =
    rw (right_is, end_is) at c.in_ok-push_gathered.ensures in
    let wide : (from +ℤ pos 1) <ℤ end = search (rules, c.if-end-right.false, right_is) in
    rw end_is (strip_cleared s w from end (get_or old k h) (get_or mid k h) (get_or new k h)
    (c.clear_gathered.ensures k h few)
    (strip_wide s w from end (get_or mid k h) (get_or held k h) (get_or new k h) wide
    (gathered k h (omega (arith, few, same))) (pushed k h (omega (arith, few, same, as_long)))))
