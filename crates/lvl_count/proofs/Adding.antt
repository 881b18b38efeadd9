-- Rings added to the count of their Layer.
use Rattle.std.proofs.Common.{◌≡◌, ◌≢◌, ◌<◌, ◌+◌, ◌||◌, ◌&&◌, ◌==◌, ℕ, Bool, true, false, cond, nat_lt, IsTrue}
use Rattle.std.proofs.Common.{◌↔◌, inl, inr, ⊎_elim, List, length, get_or, set, map, Contains, sym, ap, ◌∙◌}
use Rattle.std.proofs.Common.{subst, arith}
use Rattle.std.specs.List.Sorted.{IsPartitionedBy, IsPartitionPoint}
use Rattle.std.proofs.Math.ListN.{length-map, length-set}
use Rattle.std.proofs.lemmas.Bool.Decides.{nat_tests}
use Rattle.std.proofs.lemmas.List.{get_or-map, get_or-set_same, get_or-set_other, ext_get_or, get_or_default}
use Rattle.lvl_names.specs.declared.layer.Layer.{Layer}
use Rattle.lvl_names.specs.Layers.{ComesBefore, same_layer}
use Rattle.lvl_names.proofs.Elements.{same_answer}
use Rattle.lvl_names.proofs.Layers.{before_trans, before_itself, same_is, differs_is}
use Rattle.lvl_cells.proofs.Arcs.{order_of_two}
use Rattle.lvl_count.specs.declared.counts.LayerRings.{LayerRings}
use Rattle.lvl_count.specs.inside.Counts.{AreSorted, IsCountOf, more}

-- the test that a Layer comes before another
abbrev pub comes : Layer → Layer → Bool
comes a b = nat_lt a.layer b.layer || ((a.layer == b.layer) && nat_lt a.datatype b.datatype)

comes_before : (a b : Layer) → comes a b ≡ true → ComesBefore a b
comes_before a b h = grind (arith, nat_tests)

before_comes : (a b : Layer) → ComesBefore a b → comes a b ≡ true
before_comes a b (inl h) = grind (arith, nat_tests)
before_comes a b (inr h) =
    let one = h.0 in
    let two = h.1 in
    grind (arith, nat_tests)

-- any test of whether a Layer comes before another is that test
pub comes_if : (a b : Layer) (t : Bool) → IsTrue t ↔ ComesBefore a b → t ≡ comes a b
comes_if a b t h =
    same_answer t (comes a b) (λ e. before_comes a b (h.0 e)) (λ e. h.1 (comes_before a b e))

-- of sorted counts those for earlier Layers come first
pub parted : (counts : List LayerRings) (layer : Layer) → AreSorted counts
    → IsPartitionedBy (λ (c : LayerRings). comes c.layer layer) counts
parted counts layer sorted i j d le low h =
    elim (order_of_two i j) [
      | inl e ↦ subst (λ n. comes (get_or counts n d).layer layer ≡ true) (sym e) h
      | inr (inl lt) ↦
          before_comes (get_or counts i d).layer layer
          (before_trans (get_or counts i d).layer (get_or counts j d).layer layer (sorted i j d lt low)
          (comes_before (get_or counts j d).layer layer h))
      | inr (inr gt) ↦ absurd (omega (arith, gt, le))
    ]

-- the first count after those for earlier Layers is that of the Layer
pub found_at : (counts : List LayerRings) (layer : Layer) (place : ℕ) → AreSorted counts
    → Contains (map (λ c. c.layer) counts) layer
    → IsPartitionPoint (λ (c : LayerRings). comes c.layer layer ≡ true)
    (λ (c : LayerRings). comes c.layer layer ≡ false)
    counts place
    → IsCountOf counts layer place
found_at counts layer place sorted (k, within, is) (before, after) =
    let no : LayerRings = record { layer = layer; rings = 0 } in
    let low : k < length counts = omega (arith, within, length-map counts (λ (c : LayerRings). c.layer)) in
    let here : (get_or counts k no).layer ≡ layer =
    sym (get_or-map (λ (c : LayerRings). c.layer) counts k no layer low) ∙ is in
    let same : place ≡ k =
    elim (order_of_two place k) [
      | inl e ↦ e
      | inr (inl lt) ↦
          let earlier : ComesBefore (get_or counts place no).layer layer =
          subst (ComesBefore (get_or counts place no).layer) here (sorted place k no lt low) in
          let yes = before_comes (get_or counts place no).layer layer earlier in
          let not_so = after place no (omega arith) (omega (arith, lt, low)) in
          let both : true ≡ false = sym yes ∙ not_so in
          cc
      | inr (inr gt) ↦
          absurd (before_itself layer
          (subst (λ l. ComesBefore l layer) here
          (comes_before (get_or counts k no).layer layer (before k no (omega arith) gt))))
    ] in
    let low_place : place < length counts = omega (arith, same, low) in
    record {
      low = low_place;
      layer_is = λ d.
          ap (λ (c : LayerRings). c.layer) (get_or_default counts place d no low_place)
          ∙ (ap (λ n. (get_or counts n no).layer) same ∙ here);
    }

-- its rings are added
abbrev pub with_more : LayerRings → ℕ → LayerRings
with_more c n = record { layer = c.layer; rings = c.rings + n }

-- no other count changes
pub added_at : (counts : List LayerRings) (layer : Layer) (n place : ℕ) (d : LayerRings) → AreSorted counts
    → IsCountOf counts layer place
    → set counts place (with_more (get_or counts place d) n) ≡ map (more (λ l. cond (same_layer layer l) n 0)) counts
added_at counts layer n place d sorted at =
    let f : Layer → ℕ = λ l. cond (same_layer layer l) n 0 in
    let new : List LayerRings = set counts place (with_more (get_or counts place d) n) in
    ext_get_or d new (map (more f) counts)
    (length-set counts place (with_more (get_or counts place d) n) ∙ sym (length-map counts (more f)))
    (λ k within.
    let low : k < length counts =
    omega (arith, within, length-set counts place (with_more (get_or counts place d) n)) in
    let changed : get_or (map (more f) counts) k d ≡ more f (get_or counts k d) =
    get_or-map (more f) counts k d d low in
    elim (order_of_two k place) [
      | inl e ↦
          let one : cond (same_layer layer (get_or counts place d).layer) n 0 ≡ n =
          ap (λ t. cond t n 0) (same_is layer (get_or counts place d).layer (sym (at.layer_is d))) in
          let set_here : get_or new k d ≡ with_more (get_or counts place d) n =
          ap (λ m. get_or new m d) e ∙ get_or-set_same counts place (with_more (get_or counts place d) n) d at.low in
          set_here
          ∙ (ap (with_more (get_or counts place d)) (sym one)
          ∙ (ap (λ m. more f (get_or counts m d)) (sym e) ∙ sym changed))
      | inr apart ↦
          let other : k ≢ place = λ e. ⊎_elim (λ lt. omega (arith, lt, e)) (λ gt. omega (arith, gt, e)) apart in
          let unlike : layer ≡ (get_or counts k d).layer → ⊥ = λ e.
          ⊎_elim
          (λ lt. before_itself layer
          (subst (λ l. ComesBefore l layer) (sym e)
          (subst (ComesBefore (get_or counts k d).layer) (at.layer_is d) (sorted k place d lt at.low))))
          (λ gt. before_itself layer
          (subst (ComesBefore layer) (sym e)
          (subst (λ l. ComesBefore l (get_or counts k d).layer) (at.layer_is d) (sorted place k d gt low)))) apart in
          let none : cond (same_layer layer (get_or counts k d).layer) n 0 ≡ 0 =
          ap (λ t. cond t n 0) (differs_is layer (get_or counts k d).layer unlike) in
          let kept : (get_or counts k d).rings + cond (same_layer layer (get_or counts k d).layer) n 0
          ≡ (get_or counts k d).rings = omega (arith, none) in
          let of : ℕ → LayerRings = λ m. record { layer = (get_or counts k d).layer; rings = m } in
          get_or-set_other counts place k (with_more (get_or counts place d) n) d other
          ∙ (ap of (sym kept) ∙ sym changed)
    ])
