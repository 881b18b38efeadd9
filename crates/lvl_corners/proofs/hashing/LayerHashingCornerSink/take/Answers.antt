use Rattle.std.proofs.Common.{◌≡◌, ◌++◌, List, ℕ, ◌∙◌, ap, subst, sym, arith}
use Rattle.std.proofs.lemmas.List.{append-nil, append_assoc}
use Rattle.sha2.specs.declared.Sha256.{Sha256}
use Rattle.lvl_corners.specs.Bytes.{corner_bytes}
use Rattle.lvl_corners.specs.inside.Hashing.{HoldsWith}
use Rattle.lvl_corners.proofs.hashing.LayerHashingCornerSink.take.Goals as goal

-- what is appended to the pending bytes is appended to the message
pushed : (h : Sha256) (old new bytes m : List ℕ) → new ≡ old ++ bytes → HoldsWith h old m → HoldsWith h new (m ++ bytes)
pushed h old new bytes m is (n, held, all) = (
  n,
  held,
  ap (λ (bs : List ℕ). bs ++ bytes) all ∙ (append_assoc n old bytes ∙ ap (λ (bs : List ℕ). n ++ bs) (sym is)),
)

pub returns : goal.returns
returns c =
    let bytes : List ℕ = corner_bytes c.args.corner in
    let old = c.args.self.now in
    let new = c.flush_many.new.self in
    let count = c.saturating_add-self.ensures in
    let same = c.flush_many.ensures.count in
    record {
      bytes = λ m held. subst (λ (bs : List ℕ). HoldsWith new.hasher new.pending.items (m ++ bs))
          (sym (append-nil bytes))
          (c.flush_many.ensures.message (m ++ bytes) (pushed old.hasher old.pending.items c.push_corner.new.bytes.items
          bytes m c.in_ok-push_corner.ensures held));
      count = omega (arith, count, same);
    }
