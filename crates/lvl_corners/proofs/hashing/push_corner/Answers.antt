use Rattle.std.proofs.Common.{◌≡◌, ◌++◌, [], ◌∷◌, List, ℕ, ◌∙◌, ap, rules, FitsSigned}
use Rattle.std.specs.Int.{w8, w64, to_be_bytes, cast_unsigned}
use Rattle.std.proofs.lemmas.Int.{to_z-of_z}
use Rattle.std.proofs.lemmas.List.{append_assoc}
use Rattle.lvl_corners.specs.Bytes.{corner_bytes}
use Rattle.lvl_corners.proofs.hashing.push_corner.Goals as goal

pub returns : goal.returns
returns c =
    let x_fits : FitsSigned w64 c.args.corner.x = search rules in
    let y_fits : FitsSigned w64 c.args.corner.y = search rules in
    let change_fits : FitsSigned w8 c.args.corner.change = search rules in
    let m : List ℕ = c.args.bytes.now.items in
    let x : List ℕ = c.to_be_bytes.result in
    let y : List ℕ = c.to_be_bytes-2.result in
    let change : List ℕ = c.to_be_bytes-3.result in
    let x_is : x ≡ to_be_bytes w64 (cast_unsigned w64 c.args.corner.x) = simp to_z-of_z at c.to_be_bytes.ensures in
    let y_is : y ≡ to_be_bytes w64 (cast_unsigned w64 c.args.corner.y) = simp to_z-of_z at c.to_be_bytes-2.ensures in
    let change_is : change ≡ cast_unsigned w8 c.args.corner.change ∷ [] = simp to_z-of_z at c.to_be_bytes-3.ensures in
    let first : c.extend_from_slice.new.self.items ≡ m ++ x = c.in_ok-extend_from_slice.ensures.items in
    let second : c.extend_from_slice-2.new.self.items ≡ c.extend_from_slice.new.self.items ++ y =
    c.in_ok-extend_from_slice-2.ensures.items in
    let third : c.extend_from_slice-3.new.self.items ≡ c.extend_from_slice-2.new.self.items ++ change =
    c.in_ok-extend_from_slice-3.ensures.items in
    let bytes : c.extend_from_slice-3.new.self.items ≡ m ++ corner_bytes c.args.corner = third
    ∙ (ap (λ (bs : List ℕ). bs ++ change) (second ∙ ap (λ (bs : List ℕ). bs ++ y) first)
    ∙ (append_assoc (m ++ x) y change ∙ (append_assoc m x (y ++ change)
    ∙ ap (λ (bs : List ℕ). m ++ bs) (ap (λ (bs : List ℕ). bs ++ (y ++ change)) x_is
    ∙ ap (λ (bs : List ℕ). to_be_bytes w64 (cast_unsigned w64 c.args.corner.x) ++ bs) (ap (λ (bs : List ℕ). bs ++
    change) y_is
    ∙ ap (λ (bs : List ℕ). to_be_bytes w64 (cast_unsigned w64 c.args.corner.y) ++ bs) change_is))))) in
    bytes
