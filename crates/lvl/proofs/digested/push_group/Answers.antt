use Rattle.std.proofs.Common.{◌≡◌, ◌++◌, ◌∷◌, [], sym, subst, ◌∙◌, arith}
use Rattle.std.proofs.lemmas.List.{nil_from_length}
use Rattle.lvl_names.specs.declared.layer.Layer.{Layer}
use Rattle.lvl.proofs.Listing.{AreListing, IsNarrow, listing_adds, listing_ends, listing_none, listing_skips}
use Rattle.lvl.proofs.digested.push_group.Goals as goal

pub loop-hash-init : goal.loop-hash-init
loop-hash-init c =
    subst (λ hashes. AreListing c.args.fitted.now c.args.layers.now c.args.digested.now.items [] hashes
    c.args.digested.now.items) (sym c.into_iter-hash-iterator.ensures.into_iter_gives.0)
    (listing_none c.args.fitted.now c.args.layers.now c.args.digested.now.items c.in_ok-hash-items.hash-items.items
    c.in_ok-hash-items.ensures.hashed c.in_ok-hash-items.ensures.layers)

pub loop-hash-preserved-in-Continue-branch-2 : goal.loop-hash-preserved-in-Continue-branch-2
loop-hash-preserved-in-Continue-branch-2 c =
    let of : c.layer-layer.result ≡ c.in-Some.hash.layer = c.layer-layer.ensures in
    let narrow : IsNarrow c.layer-layer.result = (omega arith, omega arith) in
    let more = c.in_ok-push.ensures.items in
    listing_adds c.args.fitted.now c.args.layers.now c.args.digested.now.items c.loop-hash.digested.items
    c.push.new.self.items c.loop-hash.yielded c.loop-hash.hash-iterator.rest.items c.next.new.self.rest.items
    c.in-Some.hash c.in-Some-finish.digest c.in-Some.ensures.steps.0 (subst IsNarrow of narrow)
    c.in-Some-finish.ensures
    (subst (λ (l : Layer). c.push.new.self.items
    ≡ c.loop-hash.digested.items ++ record { layer = l; digest = c.in-Some-finish.digest } ∷ []) of more)
    c.loop-hash.invariant

pub loop-hash-preserved : goal.loop-hash-preserved
loop-hash-preserved c =
    listing_skips c.args.fitted.now c.args.layers.now c.args.digested.now.items c.loop-hash.digested.items
    c.loop-hash.yielded c.loop-hash.hash-iterator.rest.items c.next.new.self.rest.items c.in-Some.hash
    c.in-Some.ensures.steps.0 c.in_default.ensures c.loop-hash.invariant

pub returns : goal.returns
returns c =
    let none =
    nil_from_length c.loop-hash.hash-iterator.rest.items
    (sym c.loop-hash.hash-iterator.rest.ok.0 ∙ c.in-None.ensures.steps.0) in
    listing_ends c.args.fitted.now c.args.layers.now c.args.digested.now.items c.loop-hash.digested.items
    c.loop-hash.yielded c.loop-hash.hash-iterator.rest.items none c.loop-hash.invariant
