use Rattle.std.proofs.Common.{◌≡◌, ◌<◌, ℕ, ◌<ℤ◌, ◌≤ℤ◌, ℤ, List, length, get_or, None}
use Rattle.std.proofs.Common.{◌∙◌, rules, arith}
use Rattle.std.specs.Int.{w64}
use Rattle.std.proofs.lemmas.Int.{ints}
use mir.Val.{to_z, of_z}
use Rattle.lvl_corners.specs.Gathered.{IsLowered}
use Rattle.lvl_corners.specs.declared.digest.LayerHash.{LayerHash}
use Rattle.lvl.specs.Hashes.{IsStripPushed}
use Rattle.lvl.proofs.Hashing.{below_none, below_some, lowered_further, lowered_same, same_layers, step_last, step_strip, steps_both}
use Rattle.lvl.proofs.hashes.push_full.Goals as goal

-- the coordinate, as stored in 64 bits
abbrev kept : ℤ → ℤ
kept z = to_z w64 (of_z w64 z)

pub returns-then-end-window-clause-hashed : goal.returns-then-end-window-clause-hashed
returns-then-end-window-clause-hashed c =
    let s = c.args.fitted.now in
    let w = c.args.window.now in
    let from : ℤ = c.args.from in
    let end : ℤ = c.in_ok-pushed.pushed.end in
    let from_is : kept from ≡ from = search rules in
    let end_is : kept end ≡ end = search rules in
    let asked_is : kept c.end_of-asked.result ≡ c.end_of-asked.result = search rules in
    let old : List LayerHash = c.args.hashes.now in
    let mid : List LayerHash = c.push_parts.new.hashes in
    let pushed : (k : ℕ) (h : LayerHash) → k < length old
    → IsStripPushed s w from end (get_or old k h) (get_or mid k h) = rw from_is at c.in_ok-pushed.ensures.pushed in
    let lower : IsLowered from c.end_of-asked.result end = rw (from_is, asked_is) at c.in_ok-pushed.ensures.lowered in
    let further : from <ℤ end = lowered_further from c.end_of-asked.result end (search (rules, c.end_of-asked.ensures.further)) lower in
    let lt : end <ℤ w.x1 = search (rules, c.if-end-window.true) in
    λ k h few. rw (end_is, below_some end w.x1 lt) (step_strip s w (get_or old k h) (get_or mid k h) from end
    c.requires.all c.requires.low (search rules) further (pushed k h few))

pub push_parts-requires-2-clause-layers : goal.push_parts-requires-2-clause-layers
push_parts-requires-2-clause-layers c =
    let old : List LayerHash = c.args.hashes.now in
    let mid : List LayerHash = c.push_parts.new.hashes in
    same_layers old mid c.push_parts.auto.hashes (λ k h few. (c.in_ok-pushed.ensures.pushed k h few).layer)
    ∙ c.requires.layers

pub returns-clause-hashed : goal.returns-clause-hashed
returns-clause-hashed c =
    let s = c.args.fitted.now in
    let w = c.args.window.now in
    let from : ℤ = c.args.from in
    let end : ℤ = c.in_ok-pushed.pushed.end in
    let from_is : kept from ≡ from = search rules in
    let end_is : kept end ≡ end = search rules in
    let asked_is : kept c.end_of-asked.result ≡ c.end_of-asked.result = search rules in
    let old : List LayerHash = c.args.hashes.now in
    let mid : List LayerHash = c.push_parts.new.hashes in
    let new : List LayerHash = c.push_parts-2.new.hashes in
    let pushed : (k : ℕ) (h : LayerHash) → k < length old
    → IsStripPushed s w from end (get_or old k h) (get_or mid k h) = rw from_is at c.in_ok-pushed.ensures.pushed in
    let again_end : ℤ = c.in_ok-push_parts.field-0.end in
    let again_lower : IsLowered end end again_end = rw end_is at c.in_ok-push_parts.ensures.lowered in
    let same_end : again_end ≡ end = lowered_same end again_end again_lower in
    let again : (k : ℕ) (h : LayerHash) → k < length mid
    → IsStripPushed s w end end (get_or mid k h) (get_or new k h) =
    rw (end_is, same_end) at c.in_ok-push_parts.ensures.pushed in
    let lower : IsLowered from c.end_of-asked.result end = rw (from_is, asked_is) at c.in_ok-pushed.ensures.lowered in
    let further : from <ℤ end = lowered_further from c.end_of-asked.result end (search (rules, c.end_of-asked.ensures.further)) lower in
    let ge : w.x1 ≤ℤ end = search (rules, c.if-end-window.false) in
    let bound : c.end_of-asked.result ≤ℤ w.x1 = search (rules, c.end_of-asked.ensures.inside) in
    let below = lower.0 in
    let last : end ≡ w.x1 = omega (arith, ints, ge, bound, below) in
    let same : length mid ≡ length old = c.push_parts.auto.hashes in
    λ k h few. let there : k < length mid = omega (arith, few, same) in
    rw (end_is, below_none end w.x1 ge) (steps_both s from end None (get_or old k h) (get_or mid k h) (get_or new k h)
    (step_strip s w (get_or old k h) (get_or mid k h) from end c.requires.all c.requires.low (search rules) further
    (pushed k h few))
    (step_last s w (get_or mid k h) (get_or new k h) end c.requires.all c.requires.low (search rules) last
    (again k h there)))
