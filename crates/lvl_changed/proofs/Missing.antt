-- What one list covers outside of windows is covered by another too.
use Rattle.std.proofs.Common.{◌≡◌, ◌<◌, ◌≤◌, ◌+◌, ℕ, List, Option, Some, None, false, Any, take}
use Rattle.std.proofs.Common.{length, get_or, inl, inr, sym, subst}
use Rattle.std.specs.Prelude.{IfNone, is_some}
use Rattle.std.proofs.lemmas.List.{take_all, take_more}
use Rattle.lvl_grid.specs.declared.point.Square.{Square}
use Rattle.lvl_grid.proofs.Anyone.{Any-push}
use Rattle.lvl_changed.specs.declared.windows.Windows.{Windows}
use Rattle.lvl_changed.specs.inside.Windows.{Has, Widens}

-- outside of the squares for which H holds, what an element covers is in the set
abbrev pub GoesInto : {X : Type 0} → (Square → Type 0) → (Square → X → Type 0) → List X → (Square → Type 0) → Type 0
GoesInto H P xs Q = (s : Square) → (¬ H s) → Any (P s) xs → Q s

-- with one more element, for whose squares H may hold
pub into_more : {X : Type 0} (P : Square → X → Type 0) (xs : List X) (i : ℕ) (d x : X) (Q : Square → Type 0)
    (old new all : Square → Type 0) → i < length xs → x ≡ get_or xs i d → ((s : Square) → new s → all s)
    → ((s : Square) → old s → new s) → GoesInto old P (take i xs) Q → ((s : Square) → (¬ new s) → P s x → Q s)
    → GoesInto all P (take (i + 1) xs) Q
into_more {X} P xs i d x Q old new all low at is wide before here s out any =
    let outside : ¬ new s = λ h. out (is s h) in
    elim ((Any-push (P s) (take i xs) (get_or xs i d)).0 (subst (λ ys. Any (P s) ys) (take_more xs i d low) any)) [
      | inl a ↦ before s (λ h. outside (wide s h)) a
      | inr p ↦ here s outside (subst (P s) (sym at) p)
    ]

-- and with all of them
pub into_all : {X : Type 0} (P : Square → X → Type 0) (xs : List X) (i : ℕ) (Q all : Square → Type 0)
    → length xs ≤ i → GoesInto all P (take i xs) Q → GoesInto all P xs Q
into_all P xs i Q all long has s out any = has s out (subst (λ ys. Any (P s) ys) (sym (take_all i xs long)) any)

pub widens_to : (first old new all : Windows) → Widens first old → Widens old new → all ≡ new → Widens first all
widens_to first old new all p q is = record {
  has = λ s h. subst (λ (w : Windows). Has w s) (sym is)
      (q.has s (p.has s h));
}

pub none_is : {X : Type 0} (o : Option X) (P : Type 0) → is_some o ≡ false → IfNone o P → P
none_is None P e h = h
none_is (Some x) P e h = cc
