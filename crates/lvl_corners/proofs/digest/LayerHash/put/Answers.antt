use Rattle.std.proofs.Common.{◌≡◌, ◌∙◌, ◌++◌, List, ℕ, ap, sym, subst, arith, flat_map}
use Rattle.std.proofs.lemmas.List.{append_assoc, length-append}
use Rattle.std.proofs.lemmas.Grind.{flat_map-append}
use Rattle.sha2.specs.Hashers.{Holds256}
use Rattle.lvl_corners.specs.Bytes.{layer_bytes, layer_head, corner_bytes}
use Rattle.lvl_corners.proofs.Hashings.{holds_all}
use Rattle.lvl_corners.proofs.digest.LayerHash.put.Goals as goal

pub returns-clause-taken : goal.returns-clause-taken
returns-clause-taken c begun corners is sent before held =
    let layer = c.args.self.now.layer in
    let head : List ℕ = layer_head layer.layer layer.datatype in
    let body : List ℕ = flat_map corner_bytes corners in
    let m : List ℕ = layer_bytes layer.layer layer.datatype before in
    let taken : Holds256 c.flush.new.self.hasher (m ++ body) =
    holds_all c.flush.new.self.hasher c.flush.new.self.pending.items (m ++ body) c.flush.ensures.none
    (c.flush.ensures.same.message (m ++ body) (sent.bytes m (is.message m held.bytes))) in
    let all : m ++ body ≡ layer_bytes layer.layer layer.datatype (before ++ corners) =
    append_assoc head (flat_map corner_bytes before) body
    ∙ ap (λ (bs : List ℕ). head ++ bs) (sym (flat_map-append corner_bytes before corners)) in
    let began = is.count in
    let count = sent.count in
    let kept = c.flush.ensures.same.count in
    let counted = c.count-self.ensures in
    let number = held.count in
    let both = length-append before corners in
    record {
      bytes = subst (Holds256 c.flush.new.self.hasher) all taken;
      count = omega (arith, began, count, kept, counted, number, both);
    }
