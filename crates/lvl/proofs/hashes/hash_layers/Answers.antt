use Rattle.std.proofs.Common.{◌≡◌, ◌<◌, ℕ, ◌<ℤ◌, ◌≤ℤ◌, ◌-ℤ◌, ℤ, List, All, length, map, get_or, nat_abs}
use Rattle.std.proofs.Common.{sym, ◌∙◌, ap, subst, rules, arith}
use Rattle.std.specs.Int.{w64}
use Rattle.std.proofs.lemmas.Int.{ints}
use mir.Val.{to_z, of_z}
use Rattle.lvl_corners.specs.declared.digest.LayerHash.{LayerHash}
use Rattle.lvl.specs.Hashes.{below_at, IsHashedTo, IsStep}
use Rattle.lvl.proofs.Hashing.{below_some, hashed_none, same_layers, written}
use Rattle.lvl.proofs.hashes.hash_layers.Goals as goal

-- the coordinate, as stored in 64 bits
abbrev kept : ℤ → ℤ
kept z = to_z w64 (of_z w64 z)

nearer : (last a b : ℤ) → a <ℤ b → b ≤ℤ last → nat_abs (last -ℤ b) < nat_abs (last -ℤ a)
nearer last a b lt le = omega (arith, ints, lt, le)

pub loop-from-init : goal.loop-from-init
loop-from-init c =
    let s = c.args.fitted.now in
    let w = c.extent-window.result in
    let is : kept w.x0 ≡ w.x0 = search rules in
    let begun : All (IsHashedTo s (below_at w.x0 w.x1)) c.in_ok-hashes.hashes.items =
    λ k h lt. hashed_none s w (get_or c.in_ok-hashes.hashes.items k h) c.extent-window.ensures
    (c.in_ok-hashes.ensures.none k h lt) in
    record {
      layers = c.in_ok-hashes.ensures.layers;
      hashed = subst (λ x. All (IsHashedTo s (below_at x w.x1)) c.in_ok-hashes.hashes.items) (sym is) begun;
      wide = c.new-pace.ensures;
    }

pub loop-from-preserved : goal.loop-from-preserved
loop-from-preserved c =
    let s = c.args.fitted.now in
    let w = c.extent-window.result in
    let x : ℤ = to_z w64 c.loop-from.from-bits in
    let next = c.in_ok-next.next in
    let end : ℤ = kept next.end in
    let old : List LayerHash = c.loop-from.hashes.items in
    let new : List LayerHash = c.push_next.new.hashes in
    let held : c.deref_mut.result.now ≡ old = c.deref_mut.ensures.value in
    let long : length new ≡ length old = c.push_next.auto.hashes ∙ ap length held in
    let lt : x <ℤ w.x1 = search (rules, c.loop-from-test.true) in
    let is : end ≡ next.end = search rules in
    let Stepped : ℤ → Type 0 = λ z. (k : ℕ) (h : LayerHash) → k < length old
    → IsStep s x (below_at z w.x1) (get_or old k h) (get_or new k h) in
    let stepped : Stepped next.end = rw held at c.in_ok-next.ensures.hashed in
    let pushed : Stepped end = subst Stepped (sym is) stepped in
    let layers : map (λ (h : LayerHash). h.layer) new ≡ c.args.layers.now =
    same_layers old new long (λ k h lt. (pushed k h lt).layer) ∙ c.loop-from.invariant.layers in
    let all : List LayerHash → Type 0 = λ hashes. record {
      layers : map (λ (h : LayerHash). h.layer) hashes ≡ c.args.layers.now;
      hashed : All (IsHashedTo s (below_at end w.x1)) hashes;
      wide : 0 < next.pace.width;
    } in
    subst all (sym (written c.loop-from.hashes.len new old long c.loop-from.hashes.ok.0)) (record {
      layers = layers;
      hashed = λ k h few. let there : k < length old = omega (arith, few, long) in
          (pushed k h there).step (subst (λ o. IsHashedTo s o (get_or old k h)) (below_some x w.x1 lt)
          (c.loop-from.invariant.hashed k h there));
      wide = c.in_ok-next.ensures.wide;
    })

pub loop-from-smaller : goal.loop-from-smaller
loop-from-smaller c =
    let w = c.extent-window.result in
    let end_is : kept c.in_ok-next.next.end ≡ c.in_ok-next.next.end = search rules in
    let from : ℤ = to_z w64 c.loop-from.from-bits in
    let end : ℤ = c.in_ok-next.next.end in
    subst (λ z. nat_abs (w.x1 -ℤ z) < nat_abs (w.x1 -ℤ from)) (sym end_is)
    (nearer w.x1 from end c.in_ok-next.ensures.further c.in_ok-next.ensures.inside)
