-- The first difference of two layouts that are known to draw the same but for some changes.
use Rattle.std.proofs.Common.{◌≡◌, ◌↔◌, ◌⊎◌, ◌∷◌, [], inl, inr, List, Option, Some, None, ℤ, ◌<ℤ◌, true, int_lt, arith}
use Rattle.std.proofs.Common.{◌<◌, Contains, zero, suc, false, sym, subst, ◌∙◌}
use Rattle.std.specs.Prelude.{IfNone, IfSome}
use Rattle.std.proofs.lemmas.Bool.{cases_Bool}
use Rattle.std.proofs.lemmas.Int.{ints}
use Rattle.lvl_grid.specs.declared.point.Square.{Square}
use Rattle.lvl_grid.specs.declared.point.Window.{Window}
use Rattle.lvl_grid.specs.Clip.{IsInWindow}
use Rattle.lvl_grid.proofs.Anyone.{Any-head, Any-nil, Any-tail, Any-uncons}
use Rattle.lvl_names.specs.declared.layer.Layer.{Layer}
use Rattle.lvl_names.specs.Layers.{same_layer}
use Rattle.lvl_names.proofs.Layers.{is_same, same_is}
use Rattle.lvl_columns.specs.Windows.{IsShown}
use Rattle.lvl_compare.specs.Parts.{IsSeenIn, SomeHas}
use Rattle.lvl_compare.specs.Tops.{Draws, DrawSame, DrawSameOn, IsFirstDifference, IsFirstDifferenceOn}
use Rattle.lvl_compare.specs.inside.Strips.{Difference}
use Rattle.lvl_compare.proofs.Finding.{not_below}
use Rattle.lvl_changed.specs.Changed.{DrawSameBut}
use Rattle.lvl_changed.specs.declared.changes.Changes.{Changes}

pub below : (a b : ℤ) → int_lt a b ≡ true → a <ℤ b
below a b h = grind (arith, ints, h)

-- a window has a square, or it doesn't
within_or_not : (w : Window) (s : Square) → IsInWindow w s ⊎ (IsInWindow w s → ⊥)
within_or_not w s =
    elim (cases_Bool (int_lt s.x w.x0)) [
      | inl left ↦ inr (λ h. omega (arith, ints, h.x_from, below s.x w.x0 left))
      | inr x_from ↦
          elim (cases_Bool (int_lt s.x w.x1)) [
            | inr right ↦ inr (λ h. omega (arith, ints, h.x_below, not_below s.x w.x1 right))
            | inl x_below ↦
                elim (cases_Bool (int_lt s.y w.y0)) [
                  | inl low ↦ inr (λ h. omega (arith, ints, h.y_from, below s.y w.y0 low))
                  | inr y_from ↦
                      elim (cases_Bool (int_lt s.y w.y1)) [
                        | inr high ↦ inr (λ h. omega (arith, ints, h.y_below, not_below s.y w.y1 high))
                        | inl y_below ↦
                            inl
                            (record {
                              x_from = not_below s.x w.x0 x_from;
                              x_below = below s.x w.x1 x_below;
                              y_from = not_below s.y w.y0 y_from;
                              y_below = below s.y w.y1 y_below;
                            })
                      ]
                ]
          ]
    ]

has_or_not : (ws : List Window) (s : Square) → SomeHas ws s ⊎ (SomeHas ws s → ⊥)
has_or_not [] s = inr (λ a. Any-nil (λ w. IsInWindow w s) a)
has_or_not (w ∷ ws) s =
    let P : Window → Type 0 = λ v. IsInWindow v s in
    elim (within_or_not w s) [
      | inl h ↦ inl (Any-head P w ws h)
      | inr here ↦
          elim (has_or_not ws s) [
            | inl a ↦ inl (Any-tail P w ws a)
            | inr none ↦ inr (λ a. elim (Any-uncons P w ws a) [ inl h ↦ here h | inr b ↦ none b ])
          ]
    ]

not_first : (x : Layer) (xs : List Layer) (l : Layer) → (x ≡ l → ⊥) → (Contains xs l → ⊥) → Contains (x ∷ xs) l → ⊥
not_first x xs l other rest (zero, below, is) = other is
not_first x xs l other rest (suc k, below, is) = rest (k, omega (arith, below), is)

-- a list has a Layer, or it doesn't
listed_or_not : (xs : List Layer) (l : Layer) → Contains xs l ⊎ (Contains xs l → ⊥)
listed_or_not [] l = inr (λ has. let below : has.0 < 0 = has.1 in omega arith)
listed_or_not (x ∷ xs) l =
    elim (cases_Bool (same_layer x l)) [
      | inl same ↦ inl (zero, omega arith, is_same x l same)
      | inr other ↦
          elim (listed_or_not xs l) [
            | inl has ↦ inl (suc has.0, omega (arith, has.1), has.2)
            | inr none ↦
                inr
                (not_first x xs l (λ is. let never : true ≡ false = sym (same_is x l is) ∙ other in cc) none)
          ]
    ]

-- among changes and outside of them
both_parts : (L : Type 0) (ws : List Window) (s : Square) (A B : Type 0) → L ⊎ (L → ⊥)
    → ((¬ (L × SomeHas ws s)) → A ↔ B) → (L → SomeHas ws s → A ↔ B) → A ↔ B
both_parts L ws s A B (inr none) out within = out (λ h. none h.0)
both_parts L ws s A B (inl listed) out within =
    elim (has_or_not ws s) [ inl a ↦ within listed a | inr none ↦ out (λ h. none h.1) ]

-- both draw the same but in the windows, on the Layers for which L holds
abbrev pub SameBut : (Layer → Type 0) → List Window → Draws → Draws → Type 0
SameBut L ws a b = (l : Layer) (s : Square) → (¬ (L l × SomeHas ws s)) → a l s ↔ b l s

-- changes as a list of windows, and a property that the Layers have if any are listed
pub but_changes : (a b : Draws) (changes : Changes) (L : Layer → Type 0) (ws : List Window)
    → ((l : Layer) → IfSome changes.layers (λ list. Contains list.items l) → L l) → ws ≡ changes.windows.items
    → DrawSameBut changes a b → SameBut L ws a b
but_changes a b changes L ws listed is out = λ l s none.
    out l s (λ h. none (listed l h.0, subst (λ us. SomeHas us s) (sym is) h.1))

-- what is found in the windows is what is found among all squares that are compared
pub seen_same : (a b : Draws) (v : Option Window) (ws : List Window) (found : Option Difference)
    → SameBut (λ l. Unit {0}) ws a b → IfNone found (DrawSame (IsSeenIn v ws) a b)
    → IfNone found (DrawSame (IsShown v) a b)
seen_same a b v ws None out same =
    λ l s seen. both_parts (Unit {0}) ws s (a l s) (b l s) (inl tt) (out l s) (λ any has. same l s (seen, has))
seen_same a b v ws (Some at) out same = tt

pub seen_apart : (a b : Draws) (v : Option Window) (ws : List Window) (found : Option Difference)
    → SameBut (λ l. Unit {0}) ws a b
    → IfSome found (λ at. IsFirstDifference (IsSeenIn v ws) a b at.0 at.1 at.2)
    → IfSome found (λ at. IsFirstDifference (IsShown v) a b at.0 at.1 at.2)
seen_apart a b v ws None out differ = tt
seen_apart a b v ws (Some at) out differ = record {
  seen = differ.seen.0;
  alone = differ.alone;
  least_layer = λ l before s seen.
      both_parts (Unit {0}) ws s (a l s) (b l s) (inl tt) (out l s)
      (λ any has. differ.least_layer l before s (seen, has));
  least_square = λ s seen before.
      both_parts (Unit {0}) ws s (a at.0 s) (b at.0 s) (inl tt) (out at.0 s)
      (λ any has. differ.least_square s (seen, has) before);
}

-- what is found on the listed Layers of the windows is what is found among all squares that are compared
pub listed_same : (a b : Draws) (v : Option Window) (layers : List Layer) (ws : List Window)
    (found : Option Difference) → SameBut (Contains layers) ws a b
    → IfNone found (DrawSameOn layers (IsSeenIn v ws) a b) → IfNone found (DrawSame (IsShown v) a b)
listed_same a b v layers ws None out same = λ l s seen.
    both_parts (Contains layers l) ws s (a l s) (b l s) (listed_or_not layers l) (out l s)
    (λ there has. same l s there (seen, has))
listed_same a b v layers ws (Some at) out same = tt

pub listed_apart : (a b : Draws) (v : Option Window) (layers : List Layer) (ws : List Window)
    (found : Option Difference) → SameBut (Contains layers) ws a b
    → IfSome found (λ at. IsFirstDifferenceOn layers (IsSeenIn v ws) a b at.0 at.1 at.2)
    → IfSome found (λ at. IsFirstDifference (IsShown v) a b at.0 at.1 at.2)
listed_apart a b v layers ws None out differ = tt
listed_apart a b v layers ws (Some at) out differ = record {
  seen = differ.seen.0;
  alone = differ.alone;
  least_layer = λ l before s seen.
      both_parts (Contains layers l) ws s (a l s) (b l s) (listed_or_not layers l) (out l s)
      (λ there has. differ.least_layer l there before s (seen, has));
  least_square = λ s seen before.
      both_parts (Contains layers at.0) ws s (a at.0 s) (b at.0 s) (listed_or_not layers at.0) (out at.0 s)
      (λ there has. differ.least_square s (seen, has) before);
}
