-- The laws of corner sinks, for lists and for hashers.
use Rattle.std.proofs.Common.{◌≡◌, ℕ, List, [], ◌++◌, flat_map, sym, ◌∙◌, ap, subst, arith}
use Rattle.std.proofs.lemmas.List.{append-nil, append_assoc, length-append}
use Rattle.std.proofs.lemmas.Grind.{flat_map-append}
use Rattle.lvl_corners.specs.declared.corner.Corner.{Corner}
use Rattle.lvl_corners.specs.declared.hashing.LayerHashing.{LayerHashing}
use Rattle.lvl_corners.specs.Bytes.{corner_bytes}
use Rattle.lvl_corners.specs.inside.Hashing.{HasTaken, HoldsMore, HoldsWith}

pub vec_takes_none : (ks : List Corner) → ks ≡ ks ++ []
vec_takes_none ks = sym (append-nil ks)

pub vec_takes_both : (as' bs cs ks ls : List Corner) → bs ≡ as' ++ ks → cs ≡ bs ++ ls → cs ≡ as' ++ (ks ++ ls)
vec_takes_both as' bs cs ks ls h k = k ∙ (ap (λ (xs : List Corner). xs ++ ls) h ∙ append_assoc as' ks ls)

more_none : (h : LayerHashing) → HoldsMore h h []
more_none h = λ m held. subst (HoldsWith h.hasher h.pending.items) (sym (append-nil m)) held

more_both : (a b c : LayerHashing) (bs cs : List ℕ) → HoldsMore a b bs → HoldsMore b c cs → HoldsMore a c (bs ++ cs)
more_both a b c bs cs h k = λ m held.
    subst (HoldsWith c.hasher c.pending.items) (append_assoc m bs cs) (k (m ++ bs) (h m held))

pub hasher_takes_none : (h : LayerHashing) → HasTaken h h []
hasher_takes_none h = record { bytes = more_none h; count = omega arith }

pub hasher_takes_both : (a b c : LayerHashing) (ks ls : List Corner) → HasTaken a b ks → HasTaken b c ls
    → HasTaken a c (ks ++ ls)
hasher_takes_both a b c ks ls h k =
    let bytes = sym (flat_map-append corner_bytes ks ls) in
    record {
      bytes = subst (HoldsMore a c) bytes (more_both a b c (flat_map corner_bytes ks) (flat_map corner_bytes ls) h.bytes
          k.bytes);
      count = let all = length-append ks ls in let first = h.count in let then = k.count in omega (
        arith,
        all,
        first,
        then,
      );
    }
