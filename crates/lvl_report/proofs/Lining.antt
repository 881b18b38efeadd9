-- The line on grid steps.
use Rattle.std.proofs.Common.{◌≡◌, ℕ, List, [], ◌∷◌, ◌++◌, Option, Some, None, IsNone, IfSome}
use Rattle.std.proofs.Common.{refl, sym, ap, ◌∙◌, append_assoc}
use Rattle.std.specs.Prelude.{codes}
use Rattle.lvl.specs.declared.layout.Head.{Head}
use Rattle.lvl.specs.Steps.{HasNoStep, IsReadStep}
use Rattle.lvl_report.specs.Steps.{IsRounded, length_text, steps_text}
use Rattle.lvl_report.specs.inside.Steps.{IsRoundedTo}
use Rattle.lvl_units.specs.Steps.{Fraction}

-- a text to which five parts were added
made_of : (t0 t1 t2 t3 t4 t5 a b c d e : List ℕ) → t0 ≡ [] → t1 ≡ t0 ++ a → t2 ≡ t1 ++ b → t3 ≡ t2 ++ c
    → t4 ≡ t3 ++ d → t5 ≡ t4 ++ e → t5 ≡ (((a ++ b) ++ c) ++ d) ++ e
made_of t0 t1 t2 t3 t4 t5 a b c d e e0 e1 e2 e3 e4 e5 =
    e5 ∙ ap (λ t. t ++ e) (e4 ∙ ap (λ t. t ++ d) (e3 ∙ ap (λ t. t ++ c) (e2 ∙ ap (λ t. t ++ b)
    (e1 ∙ ap (λ t. t ++ a) e0))))

pub whole_line : (first second : Option ℕ) (t0 t1 t2 t3 t4 t5 : List ℕ) → t0 ≡ []
    → t1 ≡ t0 ++ codes "lvl: the grid steps differ: " → t2 ≡ t1 ++ length_text first
    → t3 ≡ t2 ++ codes " in the first file, " → t4 ≡ t3 ++ length_text second
    → t5 ≡ t4 ++ codes " in the second\n" → t5 ≡ steps_text first second
whole_line first second t0 t1 t2 t3 t4 t5 e0 e1 e2 e3 e4 e5 =
    let a = codes "lvl: the grid steps differ: " in
    let c = codes " in the first file, " in
    made_of t0 t1 t2 t3 t4 t5 a (length_text first) c (length_text second) (codes " in the second\n") e0 e1 e2 e3 e4 e5
    ∙ sym (append_assoc (a ++ length_text first ++ c ++ length_text second) (codes " in the second") (10 ∷ []))

-- the rounded length of a head's step, which isn't there if the head has no readable one
pub rounded_is : (head : Head) (step : Option Fraction) (n : Option ℕ) → IfSome step (IsReadStep head)
    → (IsNone step → HasNoStep head) → IsRoundedTo step n → IsRounded head n
rounded_is head (Some f) (Some n) read none nearest = (f, read, nearest)
rounded_is head None None read none nearest = none refl
rounded_is head (Some f) None read none nearest = absurd nearest
rounded_is head None (Some n) read none nearest = absurd nearest
