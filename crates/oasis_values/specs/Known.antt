-- Tables of numbers, and spellings by what follows from a value that was read (own notation).
use Rattle.std.specs.Prelude.{ℕ, ◌+◌, ◌==◌, if◌then◌else◌, List, [], ◌∷◌, Option, Some, None, Ok, Err}
use Rattle.lvl_profile.specs.declared.limits.Limits.{Limits}
use Rattle.oasis_values.specs.Spelling.{Spelling, Gives, Then}
use Rattle.oasis_values.specs.declared.fault.ValueFault.{ValueFault}

-- the element of a list that the number k stands for, if the first has the number n and each other the next
abbrev pub among : {A : Type 0} → ℕ → List A → ℕ → Option A
among n [] k = None
among n (x ∷ xs) k = if k == n then Some x else among (n + 1) xs k

-- the element of a list that the number k stands for, as in `among`; d for a number that isn't listed
abbrev pub one_of : {A : Type 0} → ℕ → List A → A → ℕ → A
one_of n [] d k = d
one_of n (x ∷ xs) d k = if k == n then x else one_of (n + 1) xs d k

-- no further byte is read: the value is given if there is one, else the rule f is breached
abbrev pub Known : {A : Type 0} → Option A → ValueFault → Spelling A
Known (Some x) f = Gives (Ok x)
Known None f = Gives (Err f)

-- no further byte is read: the value that g gives within the limits is given if there is one, else the rule f is
-- breached
abbrev pub Allowed : {A : Type 0} → (Limits → Option A) → ValueFault → Spelling A
Allowed g f profile = Known (g profile.limits) f profile

-- g of what the bytes say
abbrev pub Seen : {A B : Type 0} → (A → B) → Spelling A → Spelling B
Seen g S = Then S (λ x. Gives (Ok (g x)))

-- the bytes say something, but it isn't kept
abbrev pub Unkept : {A : Type 0} → Spelling A → Spelling (Unit {0})
Unkept S = Seen (λ _. tt) S
