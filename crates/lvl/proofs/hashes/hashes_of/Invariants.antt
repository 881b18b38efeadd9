use Rattle.std.proofs.Common.{◌≡◌, [], All, map, take}
use Rattle.lvl_corners.specs.Digests.{HasHashed}
use Rattle.lvl.proofs.hashes.hashes_of.Given as goal

-- the Layers so far have hashes, which have taken nothing
abbrev pub invariant-loop-layer : goal.invariant-loop-layer
invariant-loop-layer l =
    (map (λ h. h.layer) l.hashes.items ≡ take l.layer-index l.layers) × All (λ h. HasHashed h []) l.hashes.items
