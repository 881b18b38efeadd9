use Rattle.lvl.proofs.Listing.{AreListing}
use Rattle.lvl.proofs.digested.push_group.Given as goal

-- the digests of the Layers so far are listed
abbrev pub invariant-loop-hash : goal.invariant-loop-hash
invariant-loop-hash l =
    AreListing l.fitted l.layers l.fn.digested.items l.yielded l.hash-iterator.rest.items l.digested.items
