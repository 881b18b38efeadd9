-- Spellings of values, which depend on the profile (own rule). `S profile b r` is read: for a reader with this profile,
-- the bytes b say r.
use Rattle.std.specs.Prelude.{ℕ, zero, suc, List, [], ◌∷◌, Result, Ok}
use Rattle.lvl_io.specs.Spelling.{Gives as GivesAlways, Then as ThenAlways}
use Rattle.lvl_profile.specs.declared.profile.Profile.{Profile}
use Rattle.oasis_values.specs.declared.fault.ValueFault.{ValueFault}

-- what bytes say, by the profile
abbrev pub Spelling : Type 0 → Type 1
Spelling A = Profile → List ℕ → Result A ValueFault → Type 0

-- the empty list says r, and no other bytes say anything
abbrev pub Gives : {A : Type 0} → Result A ValueFault → Profile → List ℕ → Result A ValueFault → Type 0
Gives r profile = GivesAlways r

-- S and then T for its value; a breach of S is a breach of the whole
abbrev pub Then : {A B : Type 0} → Spelling A → (A → Spelling B) → Profile → List ℕ → Result B ValueFault → Type 0
Then S T profile = ThenAlways (S profile) (λ x. T x profile)

-- n values one after another: the first is read by S for a, and each other by S for the one before it. The whole says
-- the list of what `show` makes of each
abbrev pub Chain : {A B : Type 0} → (A → Spelling A) → (A → B) → ℕ → A → Spelling (List B)
Chain S show zero a = Gives (Ok [])
Chain S show (suc n) a = Then (S a) (λ x. Then (Chain S show n x) (λ ys. Gives (Ok (show x ∷ ys))))
