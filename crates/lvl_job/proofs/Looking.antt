-- What is said of an answer, and of files that are looked at after it.
use Rattle.std.proofs.Common.{◌≡◌, ◌∙◌, ◌++◌, ℕ, true, false, List, [], ◌∷◌, Option, Ok, refl, sym}
use Rattle.std.proofs.lemmas.Bool.{false≢true}
use Rattle.std.proofs.lemmas.List.{append-nil}
use Rattle.lvl_report.specs.declared.outcome.Outcome.{Outcome}
use Rattle.lvl_job.specs.declared.files.Look.{Look}
use Rattle.lvl_job.specs.Ends.{end_text, is_looked_at, look_text}
use Rattle.lvl_job.specs.inside.Looks.{IsAnswerSaid, IsFileLooked, IsToldOf}
use Rattle.lvl_job.specs.inside.Steps.{Says, Speaking}
use Rattle.lvl_job.proofs.Telling.{said_from_start, says_same, says_then, silent}

module _ {S : Type 0} (looks : S → List ℕ → Look → Type 0) (s : S) where
  -- the only file was looked at
  pub told_of_one : (name : List ℕ) (a b : Speaking) → IsFileLooked looks s name a b
      → IsToldOf looks s (name ∷ []) a b
  told_of_one name a b h =
      (look_text name h.0 ++ [], (h.0, [], h.1, refl, refl), says_same _ _ a b (append-nil (look_text name h.0)) h.2)

  -- both files were
  pub told_of_two : (first second : List ℕ) (a b c : Speaking) → IsFileLooked looks s first a b
      → IsFileLooked looks s second b c → IsToldOf looks s (first ∷ second ∷ []) a c
  told_of_two first second a b c h k =
      let rest = told_of_one second b c k in
      (look_text first h.0 ++ rest.0, (h.0, rest.0, h.1, rest.1, refl), says_then _ _ a b c h.2 rest.2)

  module _ (names : List (List ℕ)) (outcome : Outcome) (old : Option (List ℕ)) (before : ℕ) where
    -- an answer was said, and then the looks
    pub answer_looked_at : (b c : Speaking) → is_looked_at outcome ≡ true
        → Says (end_text names (Ok outcome)) (silent old before) b → IsToldOf looks s names b c
        → IsAnswerSaid looks s names (Ok outcome) old c.contents before c.errors
    answer_looked_at b c is said told = (
      end_text names (Ok outcome) ++ told.0,
      ((λ no. absurd (false≢true (sym no ∙ is))), (λ _. (told.0, told.1, refl))),
      said_from_start _ old before c (says_then _ _ (silent old before) b c said told.2),
    )

    -- an answer was said after which no file is looked at
    pub answer_said : (b : Speaking) → is_looked_at outcome ≡ false
        → Says (end_text names (Ok outcome)) (silent old before) b
        → IsAnswerSaid looks s names (Ok outcome) old b.contents before b.errors
    answer_said b not said = (
      end_text names (Ok outcome),
      ((λ _. refl), (λ yes. absurd (false≢true (sym not ∙ yes)))),
      said_from_start _ old before b said,
    )
