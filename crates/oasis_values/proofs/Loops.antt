-- Loops that read one value after another.
use Rattle.std.proofs.Common.{◌≡◌, ℕ, suc, false, List, [], ◌∷◌, ◌++◌}
use Rattle.std.proofs.Common.{Result, Ok, Err, refl, sym, ap, subst, append_assoc, append-nil}
use Rattle.std.specs.Prelude.{Option}
use Rattle.std.specs.Borrow.{GName}
use Rattle.lvl_refusal.specs.declared.Cause.{Cause}
use Rattle.lvl_refusal.specs.declared.Cause.TheVariants.{OutOfMemory}
use Rattle.oasis_values.specs.Input.{has_failed}
use Rattle.oasis_values.specs.Reads.{Reads}
use Rattle.oasis_values.specs.inside.Stopped.{HasStopped}
use Rattle.oasis_values.proofs.Reading.{reads_err, reads_then, reads_nothing, reads_seen, reads_seen_err}
use Rattle.oasis_values.proofs.Reading.{reads_stopped}
use Rattle.oasis_values.specs.Spelling.{Spelling, Gives, Then, Chain}
use Rattle.oasis_values.proofs.Codes.{IsCode, gives_code, then_code, chain_code}
use Rattle.oasis_values.specs.declared.fault.ValueFault.{ValueFault}
use Rattle.oasis_values.specs.declared.input.Input.{Input}

-- what the remaining values say, after `before`
abbrev pub later : {B E : Type 0} → List B → Result (List B) E → Result (List B) E
later said (Ok ys) = Ok (said ++ ys)
later said (Err e) = Err e

-- n values are to be read, the first by S for a. The state of the input was `first` and is `now`; `left` values are
-- still to be read, the next by S for b, and `said` was said so far: whatever reads the rest reads the whole
pub record Going {R A B : Type 0} (remaining : R → Option (List ℕ)) (errors : R → ℕ) (lent : R → List GName)
    (S : A → Spelling A) (show : A → B) (n : ℕ) (a : A) (first now : Input R) (left : ℕ)
    (b : A) (said : List B) : Type 0 where
  pub live : has_failed now ≡ false
  pub goes : (new : Input R) (r : Result (List B) (Cause ValueFault))
      → Reads remaining errors lent (Chain S show left b) now new r
      → Reads remaining errors lent (Chain S show n a) first new (later said r)

after_nothing : {B E : Type 0} (r : Result (List B) E) → later [] r ≡ r
after_nothing (Ok ys) = refl
after_nothing (Err e) = refl

pub going_start : {R A B : Type 0} {remaining : R → Option (List ℕ)} {errors : R → ℕ} {lent : R → List GName}
    (S : A → Spelling A) (show : A → B) (n : ℕ) (a : A) (first : Input R)
    → has_failed first ≡ false → Going remaining errors lent S show n a first first n a []
going_start {remaining = remaining} {errors = errors} {lent = lent} S show n a first live =
    record {
      live = live;
      goes = λ new r p. subst (λ q. Reads remaining errors lent (Chain S show n a) first new q)
          (sym (after_nothing r)) p;
    }

reads_after : {R A B : Type 0} {remaining : R → Option (List ℕ)} {errors : R → ℕ} {lent : R → List GName}
    (S : A → Spelling A) (show : A → B) (k : ℕ) (x : A) (old new : Input R)
    (r : Result (List B) (Cause ValueFault))
    → Reads remaining errors lent (Chain S show k x) old new r
    → Reads remaining errors lent (Then (Chain S show k x) (λ ys. Gives (Ok (show x ∷ ys)))) old new
    (later (show x ∷ []) r)
reads_after S show k x old new (Ok ys) p = reads_seen (λ ys. show x ∷ ys) p
reads_after S show k x old new (Err e) p = reads_seen_err (λ ys. show x ∷ ys) p

after_more : {B E : Type 0} (said : List B) (y : B) (r : Result (List B) E)
    → later said (later (y ∷ []) r) ≡ later (said ++ (y ∷ [])) r
after_more said y (Ok ys) = ap Ok (sym (append_assoc said (y ∷ []) ys))
after_more said y (Err e) = refl

going_next : {R A B : Type 0} {remaining : R → Option (List ℕ)} {errors : R → ℕ} {lent : R → List GName}
    (S : A → Spelling A) (show : A → B) (n : ℕ) (a : A) (first now mid : Input R) (k : ℕ)
    (b x : A) (said : List B)
    → Going remaining errors lent S show n a first now (suc k) b said → Reads remaining errors lent (S b) now mid (Ok x)
    → Going remaining errors lent S show n a first mid k x (said ++ (show x ∷ []))
going_next {remaining = remaining} {errors = errors} {lent = lent} S show n a first now mid k b x said g p =
    record {
      live = p.failed;
      goes = λ new r q.
          subst (λ s. Reads remaining errors lent (Chain S show n a) first new s) (after_more said (show x) r)
          (g.goes new (later (show x ∷ []) r)
          (reads_then (λ y. Then (Chain S show k y) (λ ys. Gives (Ok (show y ∷ ys)))) p
          (reads_after S show k x mid new r q)));
    }

-- one more value was read
pub going_on : {R A B : Type 0} {remaining : R → Option (List ℕ)} {errors : R → ℕ} {lent : R → List GName}
    {S : A → Spelling A} {show : A → B} {n : ℕ} {a : A} {first now mid : Input R}
    {left : ℕ} {b x : A} {said : List B} (k : ℕ)
    → Going remaining errors lent S show n a first now left b said → left ≡ suc k
    → Reads remaining errors lent (S b) now mid (Ok x)
    → Going remaining errors lent S show n a first mid k x (said ++ (show x ∷ []))
going_on {remaining = remaining} {errors = errors} {lent = lent} {S = S} {show = show} {n = n} {a = a}
    {first = first} {now = now} {mid = mid} {b = b} {x = x} {said = said} k g e p =
    going_next S show n a first now mid k b x said
    (subst (λ i. Going remaining errors lent S show n a first now i b said) e g) p

-- the next value could not be read
pub going_err : {R A B : Type 0} {remaining : R → Option (List ℕ)} {errors : R → ℕ} {lent : R → List GName}
    {S : A → Spelling A} {show : A → B} {n : ℕ} {a : A} {first now new : Input R}
    {left : ℕ} {b : A} {said : List B} {e : Cause ValueFault} (k : ℕ)
    → ((x : A) → IsCode (S x)) → Going remaining errors lent S show n a first now left b said → left ≡ suc k
    → Reads remaining errors lent (S b) now new (Err e)
    → Reads remaining errors lent (Chain S show n a) first new (Err e)
going_err {remaining = remaining} {errors = errors} {lent = lent} {S = S} {show = show} {n = n} {a = a}
    {first = first} {now = now} {new = new} {b = b} {said = said} {e = e} k can g h p =
    let next = subst (λ i. Going remaining errors lent S show n a first now i b said) h g in
    next.goes new (Err e) (reads_err (λ x. Then (Chain S show k x) (λ ys. Gives (Ok (show x ∷ ys))))
    (λ x. then_code (chain_code {S = S} show k x can) (λ ys. gives_code)) p)

-- an allocation failed
pub going_stop : {R A B : Type 0} {remaining : R → Option (List ℕ)} {errors : R → ℕ} {lent : R → List GName}
    {S : A → Spelling A} {show : A → B} {n : ℕ} {a : A} {first now new : Input R}
    {left : ℕ} {b : A} {said : List B}
    → Going remaining errors lent S show n a first now left b said → HasStopped now new
    → Reads remaining errors lent (Chain S show n a) first new (Err OutOfMemory)
going_stop {new = new} g stop =
    let none : ℕ = 0 in
    g.goes new (Err OutOfMemory) (reads_stopped g.live (reads_nothing none g.live) stop)

-- all values were read
pub going_end : {R A B : Type 0} {remaining : R → Option (List ℕ)} {errors : R → ℕ} {lent : R → List GName}
    {S : A → Spelling A} {show : A → B} {n : ℕ} {a : A} {first now : Input R} {left : ℕ}
    {b : A} {said : List B}
    → Going remaining errors lent S show n a first now left b said → left ≡ 0
    → Reads remaining errors lent (Chain S show n a) first now (Ok said)
going_end {remaining = remaining} {errors = errors} {lent = lent} {S = S} {show = show} {n = n} {a = a}
    {first = first} {now = now} {b = b} {said = said} g h =
    let last = subst (λ i. Going remaining errors lent S show n a first now i b said) h g in
    subst (λ l. Reads remaining errors lent (Chain S show n a) first now (Ok l)) (append-nil said)
    (last.goes now (Ok []) (reads_nothing [] last.live))

pub going_from : {R A B : Type 0} {remaining : R → Option (List ℕ)} {errors : R → ℕ} {lent : R → List GName}
    (S : A → Spelling A) (show : A → B) (n : ℕ) (a : A) (first : Input R) {left : ℕ}
    → n ≡ left → has_failed first ≡ false → Going remaining errors lent S show n a first first left a []
going_from {remaining = remaining} {errors = errors} {lent = lent} S show n a first e live =
    subst (λ i. Going remaining errors lent S show n a first first i a []) e (going_start S show n a first live)

-- what was said, by an equal list
pub going_as : {R A B : Type 0} {remaining : R → Option (List ℕ)} {errors : R → ℕ} {lent : R → List GName}
    {S : A → Spelling A} {show : A → B} {n : ℕ} {a : A} {first now : Input R} {left : ℕ}
    {b : A} {said : List B} {words : List B}
    → said ≡ words → Going remaining errors lent S show n a first now left b said
    → Going remaining errors lent S show n a first now left b words
going_as {remaining = remaining} {errors = errors} {lent = lent} {S = S} {show = show} {n = n} {a = a}
    {first = first} {now = now} {left = left} {b = b} e g =
    subst (λ l. Going remaining errors lent S show n a first now left b l) e g

-- the next value is read by an equal start
pub going_at : {R A B : Type 0} {remaining : R → Option (List ℕ)} {errors : R → ℕ} {lent : R → List GName}
    {S : A → Spelling A} {show : A → B} {n : ℕ} {a : A} {first now : Input R} {left : ℕ}
    {b c : A} {said : List B}
    → c ≡ b → Going remaining errors lent S show n a first now left b said
    → Going remaining errors lent S show n a first now left c said
going_at {remaining = remaining} {errors = errors} {lent = lent} {S = S} {show = show} {n = n} {a = a}
    {first = first} {now = now} {left = left} {said = said} e g =
    subst (λ x. Going remaining errors lent S show n a first now left x said) (sym e) g
