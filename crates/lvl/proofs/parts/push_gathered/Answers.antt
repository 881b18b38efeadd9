use Rattle.std.proofs.Common.{◌≡◌, ◌<◌, ℕ, Bool, List, length, get_or, sym, subst, rules, arith}
use Rattle.lvl_grid.specs.declared.point.Square.{Square}
use Rattle.lvl_corners.specs.Gathered.{HasGathered}
use Rattle.lvl_corners.specs.declared.digest.LayerHash.{LayerHash}
use Rattle.lvl.specs.Hashes.{IsRightPushed}
use Rattle.lvl.proofs.Hashing.{each_next, rest_next}
use Rattle.lvl.proofs.parts.push_gathered.Goals as goal

pub push_gathered-requires : goal.push_gathered-requires
push_gathered-requires c =
    let old : List LayerHash = c.args.hashes.now in
    let mid : List LayerHash = c.loop-hash.hashes in
    let i : ℕ = c.loop-hash.hash-index in
    let d : LayerHash = c.hash-item.result in
    let same : length mid ≡ length old = c.loop-hash.auto.hashes in
    let lt : i < length mid = search (rules, c.loop-hash-test.true) in
    subst (λ h. (covered : Square → Bool) × HasGathered covered c.args.span h)
    (sym (c.loop-hash.invariant.rest i d (omega arith) lt)) (c.requires i d (omega (arith, lt, same)))

pub loop-hash-preserved : goal.loop-hash-preserved
loop-hash-preserved c =
    let old : List LayerHash = c.args.hashes.now in
    let mid : List LayerHash = c.loop-hash.hashes in
    let i : ℕ = c.loop-hash.hash-index in
    let d : LayerHash = c.hash-item.result in
    let new : LayerHash = c.push_gathered.new.self in
    let same : length mid ≡ length old = c.loop-hash.auto.hashes in
    let lt : i < length mid = search (rules, c.loop-hash-test.true) in
    let one : IsRightPushed c.args.span (get_or mid i d) new = record {
      layer = c.in_ok-push_gathered.ensures.layer;
      taken = c.in_ok-push_gathered.ensures.hashed;
    } in
    record {
      pushed =
          each_next (IsRightPushed c.args.span) old mid i d new lt same c.loop-hash.invariant.pushed
          c.loop-hash.invariant.rest one;
      rest = rest_next old mid i new c.loop-hash.invariant.rest;
    }
