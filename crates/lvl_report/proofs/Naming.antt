-- The line that names the cells that could be the top.
use Rattle.std.proofs.Common.{◌≡◌, ◌∙◌, ℕ, List, [], ◌++◌, length, take}
use Rattle.std.proofs.Common.{refl, ap, append_assoc}
use Rattle.std.specs.Prelude.{codes, decimal, Option}
use Rattle.lvl_region.specs.declared.region.Side.{Side}
use Rattle.lvl_report.specs.Tops.{names_text, others_text, top_option, tops_text, which_file}

-- a text to which five parts were added
made_of : (t0 t1 t2 t3 t4 t5 a b c d e : List ℕ) → t0 ≡ [] → t1 ≡ t0 ++ a → t2 ≡ t1 ++ b → t3 ≡ t2 ++ c
    → t4 ≡ t3 ++ d → t5 ≡ t4 ++ e → t5 ≡ (((a ++ b) ++ c) ++ d) ++ e
made_of t0 t1 t2 t3 t4 t5 a b c d e e0 e1 e2 e3 e4 e5 =
    e5 ∙ ap (λ t. t ++ e) (e4 ∙ ap (λ t. t ++ d) (e3 ∙ ap (λ t. t ++ c) (e2 ∙ ap (λ t. t ++ b)
    (e1 ∙ ap (λ t. t ++ a) e0))))

shape : (a f h n t s o k p z : List ℕ) → (((a ++ f) ++ (h ++ n ++ t)) ++ (s ++ o)) ++ (k ++ p ++ z)
    ≡ (a ++ f ++ h ++ n ++ t ++ s ++ o ++ k ++ p) ++ z
shape a f h n t s o k p z = simp append_assoc refl

-- the line of its parts
pub tops_of : (side : Option Side) (names : List (List ℕ)) (t0 t1 t2 t3 t4 t5 : List ℕ) → t0 ≡ []
    → t1 ≡ t0 ++ codes "lvl: the " → t2 ≡ t1 ++ which_file side
    → t3 ≡ t2 ++ (codes " has " ++ decimal (length names) ++ codes " tops: ")
    → t4 ≡ t3 ++ (names_text (take 8 names) ++ others_text names)
    → t5 ≡ t4 ++ (codes ": choose one by " ++ top_option side ++ codes "\n") → t5 ≡ tops_text side names
tops_of side names t0 t1 t2 t3 t4 t5 e0 e1 e2 e3 e4 e5 =
    made_of t0 t1 t2 t3 t4 t5 (codes "lvl: the ") (which_file side)
    (codes " has " ++ decimal (length names) ++ codes " tops: ") (names_text (take 8 names) ++ others_text names)
    (codes ": choose one by " ++ top_option side ++ codes "\n") e0 e1 e2 e3 e4 e5
    ∙ shape (codes "lvl: the ") (which_file side) (codes " has ") (decimal (length names)) (codes " tops: ")
    (names_text (take 8 names)) (others_text names) (codes ": choose one by ") (top_option side) (codes "\n")
