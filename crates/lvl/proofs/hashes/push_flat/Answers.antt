use Rattle.std.proofs.Common.{◌≡◌, ◌<◌, ℕ, ℤ, List, length, get_or, Some}
use Rattle.std.proofs.Common.{rules}
use Rattle.std.specs.Int.{w64}
use mir.Val.{to_z, of_z}
use Rattle.lvl_corners.specs.declared.digest.LayerHash.{LayerHash}
use Rattle.lvl.specs.Hashes.{below_at, IsPushed}
use Rattle.lvl.proofs.Hashing.{listed_at, step_flat}
use Rattle.lvl.proofs.hashes.push_flat.Goals as goal

-- the coordinate, as stored in 64 bits
abbrev kept : ℤ → ℤ
kept z = to_z w64 (of_z w64 z)

pub returns : goal.returns
returns c =
    let s = c.args.fitted.now in
    let w = c.args.window.now in
    let from : ℤ = c.args.from in
    let end : ℤ = c.args.end in
    let flat = c.args.flat.now in
    let from_is : kept from ≡ from = search rules in
    let end_is : kept end ≡ end = search rules in
    let last : kept w.x1 ≡ w.x1 = search rules in
    let old : List LayerHash = c.args.hashes.now in
    let new : List LayerHash = c.push_strip.new.hashes in
    let pushed : (k : ℕ) (h : LayerHash) → k < length old
    → IsPushed flat (record { from = Some from; below = below_at end w.x1 }) (get_or old k h) (get_or new k h) =
    rw (c.end_before.ensures, from_is, end_is, last) at c.in_ok-push_strip.ensures in
    λ k h few. step_flat s c.args.layers.now w flat (get_or old k h) (get_or new k h) from end c.requires.all
    c.requires.low (search rules) (listed_at c.args.layers.now old k h c.requires.layers few) c.requires.further
    c.requires.flat (pushed k h few)
