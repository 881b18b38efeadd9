-- Hashers that take corners.
use Rattle.std.proofs.Common.{◌≡◌, ◌∙◌, ◌++◌, List, [], ℕ, ap, sym, subst}
use Rattle.std.proofs.lemmas.List.{append-nil}
use Rattle.sha2.specs.declared.Sha256.{Sha256}
use Rattle.sha2.specs.Hashers.{Holds256}
use Rattle.lvl_corners.specs.inside.Hashing.{HoldsWith}

-- if no byte is pending, the message is what the hasher has taken
pub holds_all : (h : Sha256) (pending m : List ℕ) → pending ≡ [] → HoldsWith h pending m → Holds256 h m
holds_all h pending m none (n, held, all) =
    subst (Holds256 h) (sym (all ∙ (ap (λ (bs : List ℕ). n ++ bs) none ∙ append-nil n))) held

pub holds_none : (h : Sha256) (pending m : List ℕ) → pending ≡ [] → Holds256 h m → HoldsWith h pending m
holds_none h pending m none held = (m, held, sym (ap (λ (bs : List ℕ). m ++ bs) none ∙ append-nil m))
