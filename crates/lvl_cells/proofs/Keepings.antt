-- Lists of what is stored over what is kept beside it: they stay valid and mean the same after more is kept.
use Rattle.std.proofs.Common.{◌≡◌, List, [], ◌∷◌, ◌++◌, map, All, refl, sym, ap, subst, ◌∙◌}
use Rattle.std.proofs.lemmas.List.{map-append}
use Rattle.std.proofs.lemmas.List.Elements.{All-head, All-push, All-tail, All-weaker}
use Rattle.lvl_cells.specs.inside.Spans.{IsPrefixOf}
use Rattle.lvl_cells.proofs.Spanned.{goes_on_same}

-- each stored item stays valid and means the same after more is kept
pub record IsLasting {K S V : Type 0} (Is : List K → S → Type 0) (means : List K → S → V) : Type 0 where
  pub still : (kept kept' : List K) (s : S) → IsPrefixOf kept kept' → Is kept s → Is kept' s
  pub same : (kept kept' : List K) (s : S) → IsPrefixOf kept kept' → Is kept s → means kept' s ≡ means kept s

pub all_still : {K S V : Type 0} (Is : List K → S → Type 0) (means : List K → S → V) → IsLasting Is means
    → (kept kept' : List K) (stored : List S) → IsPrefixOf kept kept' → All (Is kept) stored → All (Is kept') stored
all_still Is means lasts kept kept' stored on h =
    All-weaker (Is kept) (Is kept') (λ s is. lasts.still kept kept' s on is) stored h

pub all_same : {K S V : Type 0} (Is : List K → S → Type 0) (means : List K → S → V) → IsLasting Is means
    → (kept kept' : List K) (stored : List S) → IsPrefixOf kept kept' → All (Is kept) stored
    → map (means kept') stored ≡ map (means kept) stored
all_same Is means lasts kept kept' [] on h = refl
all_same Is means lasts kept kept' (s ∷ stored) on h =
    rw (
      lasts.same kept kept' s on (All-head (Is kept) s stored h),
      all_same Is means lasts kept kept' stored on (All-tail (Is kept) s stored h),
    ) refl

-- one more item, appended
pub record AreMoreStored {K S V : Type 0} (Is : List K → S → Type 0) (means : List K → S → V) (kept' : List K)
    (stored : List S) (s : S) (items : List V) (item : V) : Type 0 where
  pub are : All (Is kept') (stored ++ s ∷ [])
  pub is : map (means kept') (stored ++ s ∷ []) ≡ items ++ item ∷ []

pub one_more_stored : {K S V : Type 0} (Is : List K → S → Type 0) (means : List K → S → V) → IsLasting Is means
    → (kept kept' : List K) (stored : List S) (s : S) (items : List V) (item : V) → IsPrefixOf kept kept'
    → All (Is kept) stored → map (means kept) stored ≡ items → Is kept' s → means kept' s ≡ item
    → AreMoreStored Is means kept' stored s items item
one_more_stored Is means lasts kept kept' stored s items item on h e valid is = record {
  are = All-push (Is kept') stored s (all_still Is means lasts kept kept' stored on h) valid;
  is =
      map-append (means kept') stored (s ∷ [])
      ∙ (ap (λ vs. vs ++ means kept' s ∷ []) (all_same Is means lasts kept kept' stored on h ∙ e)
      ∙ ap (λ v. items ++ v ∷ []) is);
}

-- what the stored items meant is where it was, after more is kept
pub begins_same : {K S V : Type 0} (Is : List K → S → Type 0) (means : List K → S → V) → IsLasting Is means
    → (kept kept' : List K) (stored : List S) (items : List V) → IsPrefixOf kept kept' → All (Is kept) stored
    → map (means kept) stored ≡ items → IsPrefixOf items (map (means kept') stored)
begins_same Is means lasts kept kept' stored items on h e =
    subst (IsPrefixOf items) (sym (all_same Is means lasts kept kept' stored on h ∙ e)) (goes_on_same items)
