-- Lists, one element further.
use Rattle.std.proofs.Common.{◌≡◌, ◌+◌, ◌++◌, ◌∷◌, [], ℕ, List, Option, Some, None, take, slice_get, sym, ap, ◌∙◌, subst}
use Rattle.std.proofs.Common.{◌≢◌, ◌<◌, ◌⊎◌, inl, inr, Contains, get_or, set, length, refl, arith, ℤ}
use Rattle.std.proofs.Common.{Bool, true, false, ◌&&◌, nat_eq, int_eq}
use Rattle.std.proofs.lemmas.Bool.Decides.{Decides-eqb, Decides-int_eq}
use Rattle.lvl_grid.specs.declared.point.Square.{Square}
use Rattle.lvl_grid.specs.declared.point.Window.{Window}
use Rattle.lvl_names.specs.declared.layer.Layer.{Layer}
use Rattle.std.proofs.lemmas.Bool.{cases_lt}
use Rattle.std.proofs.lemmas.List.{length-set, get_or-set_same, get_or-set_other}
use Rattle.std.specs.Prelude.{IfSome}
use Rattle.std.proofs.lemmas.List.{take_more}
use Rattle.std.proofs.lemmas.Option.{slice_get_within, get_or_from_slice_get}

pub take_next : {X : Type 0} (xs : List X) (k : ℕ) (x : X) → slice_get xs k ≡ Some x
    → take (k + 1) xs ≡ take k xs ++ x ∷ []
take_next {X} xs k x at =
    take_more xs k x (slice_get_within xs k x at)
    ∙ ap (λ (y : X). take k xs ++ y ∷ []) (get_or_from_slice_get xs k x x at)

-- what holds of one value holds of the value of an option, if it is this one
pub if_same : {X : Type 0} (P : X → Type 0) (o : Option X) (x : X) → P x → IfSome o (λ y. y ≡ x) → IfSome o P
if_same P None x p is = tt
if_same P (Some y) x p is = subst P (sym is) p

-- a list with one element changed has the new one
pub set_has : {X : Type 0} (xs : List X) (i : ℕ) (y : X) → i < length xs → Contains (set xs i y) y
set_has xs i y low = (i, omega (arith, low, length-set xs i y), get_or-set_same xs i y y low)

set_other : {X : Type 0} (xs : List X) (i : ℕ) (y x : X) (c : Contains xs x) → c.0 ≢ i → Contains (set xs i y) x
set_other xs i y x c apart =
    (c.0, omega (arith, c.1, length-set xs i y), get_or-set_other xs i c.0 y x apart ∙ c.2)

-- and all others
pub set_keeps : {X : Type 0} (xs : List X) (i : ℕ) (y x : X) → Contains xs x
    → (x ≡ get_or xs i x) ⊎ Contains (set xs i y) x
set_keeps xs i y x c =
    elim (cases_lt c.0 i) [
      | inl lt ↦ inr (set_other xs i y x c (omega (arith, lt)))
      | inr ge ↦
          elim (cases_lt i c.0) [
            | inl gt ↦ inr (set_other xs i y x c (omega (arith, gt)))
            | inr le ↦
                let one : c.0 ≡ i = omega (arith, ge, le) in
                inl (subst (λ j. x ≡ get_or xs j x) one (sym c.2))
          ]
    ]

-- a list of four values, by its values
pub four_of : {X : Type 0} (xs : List X) (a b c d : X) → slice_get xs 0 ≡ Some a → slice_get xs 1 ≡ Some b
    → slice_get xs 2 ≡ Some c → slice_get xs 3 ≡ Some d → slice_get xs 4 ≡ None → xs ≡ a ∷ b ∷ c ∷ d ∷ []
four_of [] a b c d p q r s n = cc
four_of (x ∷ []) a b c d p q r s n = cc
four_of (x ∷ y ∷ []) a b c d p q r s n = cc
four_of (x ∷ y ∷ z ∷ []) a b c d p q r s n = cc
four_of (x ∷ y ∷ z ∷ w ∷ []) a b c d p q r s n = cc
four_of (x ∷ y ∷ z ∷ w ∷ v ∷ xs) a b c d p q r s n = cc

-- windows with the same sides
pub same_window : (v w : Window) → v.x0 ≡ w.x0 → v.y0 ≡ w.y0 → v.x1 ≡ w.x1 → v.y1 ≡ w.y1 → v ≡ w
same_window v w a b c d =
    let at : (p q r s : ℤ) → Window = λ p q r s. record { x0 = p; y0 = q; x1 = r; y1 = s } in
    ap (λ z. at z v.y0 v.x1 v.y1) a ∙ (ap (λ z. at w.x0 z v.x1 v.y1) b ∙ (ap (λ z. at w.x0 w.y0 z v.y1) c
    ∙ ap (λ z. at w.x0 w.y0 w.x1 z) d))

-- Layers with the same numbers
pub same_layer : (k l : Layer) → k.layer ≡ l.layer → k.datatype ≡ l.datatype → k ≡ l
same_layer k l a b =
    let at : (m n : ℕ) → Layer = λ m n. record { layer = m; datatype = n } in
    ap (λ m. at m k.datatype) a ∙ ap (at l.layer) b

-- squares with the same coordinates
pub same_square : (p q : Square) → p.x ≡ q.x → p.y ≡ q.y → p ≡ q
same_square p q a b =
    let at : (m n : ℤ) → Square = λ m n. record { x = m; y = n } in
    ap (λ m. at m p.y) a ∙ ap (at q.x) b

both_true : (a b : Bool) → true ≡ (a && b) → (a ≡ true) × (b ≡ true)
both_true true true e = (refl, refl)
both_true true false e = cc
both_true false b e = cc

-- and Layers and squares that a test finds equal
pub equal_layers : (k l : Layer) → true ≡ (nat_eq k.layer l.layer && nat_eq k.datatype l.datatype) → k ≡ l
equal_layers k l e =
    let both = both_true (nat_eq k.layer l.layer) (nat_eq k.datatype l.datatype) e in
    same_layer k l ((Decides-eqb k.layer l.layer).0 both.0) ((Decides-eqb k.datatype l.datatype).0 both.1)

pub equal_squares : (p q : Square) → true ≡ (int_eq p.x q.x && int_eq p.y q.y) → p ≡ q
equal_squares p q e =
    let both = both_true (int_eq p.x q.x) (int_eq p.y q.y) e in
    same_square p q ((Decides-int_eq p.x q.x).0 both.0) ((Decides-int_eq p.y q.y).0 both.1)
