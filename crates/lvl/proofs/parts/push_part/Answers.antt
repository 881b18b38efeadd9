use Rattle.std.proofs.Common.{◌≡◌, ◌∙◌, ◌<◌, ℕ, ℤ, List, length, get_or, ap, subst, rules}
use Rattle.std.specs.Int.{w64}
use mir.Val.{to_z, of_z}
use Rattle.lvl_grid.specs.Winding.{SomeCovers}
use Rattle.lvl_grid.specs.declared.point.Point.{Point}
use Rattle.lvl_names.specs.declared.layer.Layer.{Layer}
use Rattle.lvl_flat.specs.Sheets.{rings_on}
use Rattle.lvl_corners.specs.Gathered.{AreMoreGathered, IsLowered}
use Rattle.lvl_corners.specs.Parts.{AreCornersAt}
use Rattle.lvl_corners.specs.declared.digest.LayerHash.{LayerHash}
use Rattle.lvl_corners.proofs.Gathered.{lowered_both}
use Rattle.lvl.specs.Hashes.{IsPartPushed}
use Rattle.lvl.proofs.Columns.{part_lower}
use Rattle.lvl.proofs.Hashing.{each_next, rest_next}
use Rattle.lvl.proofs.parts.push_part.Goals as goal

-- the coordinate, as stored in 64 bits
abbrev kept : ℤ → ℤ
kept z = to_z w64 (of_z w64 z)

pub loop-hash-preserved : goal.loop-hash-preserved
loop-hash-preserved c =
    let f = c.args.flat.now in
    let rows = c.args.rows in
    let x : ℤ = kept c.args.x in
    let stop : ℤ = to_z w64 c.loop-hash.stop-bits in
    let last : ℤ = kept c.in_ok-stop.stop in
    let last_is : last ≡ c.in_ok-stop.stop = search rules in
    let old : List LayerHash = c.args.hashes.now in
    let mid : List LayerHash = c.loop-hash.hashes in
    let i : ℕ = c.loop-hash.hash-index in
    let d : LayerHash = c.hash-item.result in
    let first : LayerHash = get_or mid i d in
    let new : LayerHash = c.push_part.new.self in
    let same : length mid ≡ length old = c.loop-hash.auto.hashes in
    let lt : i < length mid = search (rules, c.loop-hash-test.true) in
    let lower : IsLowered x stop last = rw last_is c.in_ok-stop.ensures.lowered in
    let rings : c.rings-rings.result.now ≡ rings_on first.layer f =
    c.rings-rings.ensures ∙ ap (λ (layer : Layer). rings_on layer f) c.layer.ensures in
    let hashed = c.in_ok-stop.ensures.hashed in
    let gathered : AreMoreGathered (SomeCovers c.rings-rings.result.now) x last rows first new =
    rw last_is c.in_ok-stop.ensures.gathered in
    let one : IsPartPushed f x last rows first new = record {
      layer = c.in_ok-stop.ensures.layer;
      corners = hashed.0;
      are = subst (λ (rs : List (List Point)). AreCornersAt (SomeCovers rs) x rows hashed.0) rings hashed.1;
      fits = hashed.2;
      hashes = hashed.3;
      gathered = subst (λ (rs : List (List Point)). AreMoreGathered (SomeCovers rs) x last rows first new) rings gathered;
    } in
    record {
      pushed =
          each_next (IsPartPushed f x last rows) old mid i d new lt same
          (λ k h few inside. part_lower f x stop last rows (get_or old k h) (get_or mid k h) lower.0
          (c.loop-hash.invariant.pushed k h few inside)) c.loop-hash.invariant.rest one;
      rest = rest_next old mid i new c.loop-hash.invariant.rest;
      lowered = lowered_both x (kept c.args.end) stop last c.loop-hash.invariant.lowered lower;
    }
