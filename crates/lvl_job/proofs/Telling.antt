-- What is said in several texts.
use Rattle.std.proofs.Common.{◌≡◌, ◌++◌, ℕ, true, false, MatchResult, List, [], Option, Result, Ok, Err, inl, inr, is_err, refl, ◌∙◌, sym, subst, append_assoc}
use Rattle.std.specs.Io.KnownBytes.{Appends}
use Rattle.std.proofs.lemmas.List.{append-nil}
use Rattle.std.proofs.KnownBytes.{Appends-nil, Appends-trans}
use Rattle.lvl_io.specs.Bytes.{CountsFailure}
use Rattle.lvl_io.specs.declared.Failure.{Failure}
use Rattle.lvl_report.specs.Writing.{AppendsBeginning}
use Rattle.lvl_job.specs.Ends.{IsSaid}
use Rattle.lvl_job.specs.inside.Steps.{IsSaidBy, Says, Speaking}
use Rattle.lvl_report.proofs.Writing.{begins_later}

-- two texts, one after the other
pub says_then : (text more : List ℕ) (a b c : Speaking) → Says text a b → Says more b c → Says (text ++ more) a c
says_then text more a b c first second front old before h =
    subst (λ l. IsSaidBy l old before c) (append_assoc front text more)
    (second (front ++ text) old before (first front old before h))

-- nothing was said
pub says_nothing : (a : Speaking) → Says [] a a
says_nothing a front old before h = subst (λ l. IsSaidBy l old before a) (sym (append-nil front)) h

-- the state before anything was said
abbrev pub silent : Option (List ℕ) → ℕ → Speaking
silent old before = record { so_far = Ok (tt {0}); contents = old; errors = before }

pub silent_so_far : (old : Option (List ℕ)) (before : ℕ) → IsSaidBy [] old before (silent old before)
silent_so_far old before = (Appends-nil old, refl)

-- all that was said
pub all_said : (text : List ℕ) (old : Option (List ℕ)) (before : ℕ) (b : Speaking) → IsSaidBy text old before b
    → IsSaid text old b.contents before b.errors
all_said text old before b h = go b.so_far h
  where
    go : (r : Result (Unit {0}) Failure)
        → MatchResult r (λ _. Appends old b.contents text × CountsFailure before b.errors false)
        (λ _. AppendsBeginning old b.contents text × CountsFailure before b.errors true)
        → IsSaid text old b.contents before b.errors
    go (Ok x) h = inl h
    go (Err e) h = inr h

pub said_from_start : (text : List ℕ) (old : Option (List ℕ)) (before : ℕ) (b : Speaking) → Says text (silent old before) b
    → IsSaid text old b.contents before b.errors
said_from_start text old before b says = all_said text old before b (says [] old before (silent_so_far old before))

-- a text that is equal is said as well
pub says_same : (text more : List ℕ) (a b : Speaking) → text ≡ more → Says more a b → Says text a b
says_same text more a b is says = subst (λ l. Says l a b) (sym is) says

-- after all of a text was said, a text more
pub end_said : (s : Speaking) (front more : List ℕ) (old new : Option (List ℕ)) (before after : ℕ)
    → is_err s.so_far ≡ false → IsSaidBy front old before s → IsSaid more s.contents new s.errors after
    → IsSaid (front ++ more) old new before after
end_said s front more old new before after fine h more_said = go s.so_far fine h more_said
  where
    go : (r : Result (Unit {0}) Failure) → is_err r ≡ false
        → MatchResult r (λ _. Appends old s.contents front × CountsFailure before s.errors false)
        (λ _. AppendsBeginning old s.contents front × CountsFailure before s.errors true)
        → IsSaid more s.contents new s.errors after → IsSaid (front ++ more) old new before after
    go (Ok x) fine h (inl m) = inl (Appends-trans _ _ _ _ _ h.0 m.0, m.1 ∙ h.1)
    go (Ok x) fine h (inr m) = inr (begins_later _ _ _ _ _ h.0 m.0, subst (λ n. CountsFailure n after true) h.1 m.1)
    go (Err e) fine h m = cc
