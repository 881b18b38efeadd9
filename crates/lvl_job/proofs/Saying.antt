-- A text written in parts.
use Rattle.std.proofs.Common.{◌≡◌, ℕ, List, ◌++◌, subst, Option}
use Rattle.std.proofs.Common.{sym, append_assoc}
use Rattle.std.specs.Io.KnownBytes.{Appends}
use Rattle.std.proofs.KnownBytes.{Appends-trans}
use Rattle.lvl_report.specs.Writing.{AppendsBeginning}
use Rattle.lvl_report.proofs.Writing.{begins, begins_later}

-- of a line in three parts, a beginning of the first was written
pub in_first : (old new : Option (List ℕ)) (x a b c : List ℕ) → x ≡ a → AppendsBeginning old new x
    → AppendsBeginning old new ((a ++ b) ++ c)
in_first old new x a b c is h =
    let P : List ℕ → Type 0 = λ l. AppendsBeginning old new l in
    subst P (sym (append_assoc a b c)) (begins old new a (b ++ c) (subst P is h))

-- the first was written, and a beginning of the second
pub in_second : (old mid new : Option (List ℕ)) (x y a b c : List ℕ) → x ≡ a → y ≡ b → Appends old mid x
    → AppendsBeginning mid new y → AppendsBeginning old new ((a ++ b) ++ c)
in_second old mid new x y a b c first second whole h =
    let P : List ℕ → Type 0 = λ l. Appends old mid l in
    let Q : List ℕ → Type 0 = λ l. AppendsBeginning mid new l in
    begins old new (a ++ b) c (begins_later old mid new a b (subst P first whole) (subst Q second h))

-- the first and the second were written, and a beginning of the third
pub in_third : (old mid late new : Option (List ℕ)) (x y a b c : List ℕ) → x ≡ a → y ≡ b → Appends old mid x
    → Appends mid late y → AppendsBeginning late new c → AppendsBeginning old new ((a ++ b) ++ c)
in_third old mid late new x y a b c first second whole too h =
    let P : List ℕ → Type 0 = λ l. Appends old mid l in
    let Q : List ℕ → Type 0 = λ l. Appends mid late l in
    begins_later old late new (a ++ b) c
    (Appends-trans old mid late a b (subst P first whole) (subst Q second too)) h
