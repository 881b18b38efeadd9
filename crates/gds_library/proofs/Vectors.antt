-- The definitions, applied to small examples.
use Rattle.std.proofs.Common.{◌||◌, ◌≡◌, ℕ, ◌⊎◌, inl, inr, Bool, true, false, List, [], ◌∷◌, refl}
use Rattle.std.specs.Prelude.{pos, negsuc}
use Rattle.std.specs.List.{flat_map}
use Rattle.lvl_grid.specs.declared.map.Turn.TheVariants.{R90}
use Rattle.lvl_path.specs.Figure.{path}
use Rattle.lvl_grammar.specs.Order.{Order, IsWord}
use Rattle.gds_elements.specs.Order.{an_element}
use Rattle.gds_elements.specs.Rec.{Rec}
use Rattle.lvl_grammar.specs.inside.After.{after_first, can_be_empty, IsWordOfOne}
use Rattle.lvl_grammar.proofs.Orders.{first_put, empty_back, of_one-append}
use Rattle.gds_library.specs.Values.{drawings}

-- whether the list is a word of one of the orders
abbrev accepts : List Order → List ℕ → Bool
accepts [] [] = false
accepts (a ∷ rs) [] = can_be_empty a || accepts rs []
accepts rs (k ∷ w) = accepts (flat_map (λ a. after_first a k) rs) w

empty_at : (a : Order) (rs : List Order) (b : Bool) → can_be_empty a ≡ b → can_be_empty a || accepts rs [] ≡ true
    → (accepts rs [] ≡ true → IsWordOfOne rs []) → IsWord a [] ⊎ IsWordOfOne rs []
empty_at a rs true t e h = inl (empty_back a t)
empty_at a rs false t e h = inr (h (rw t at e))

one_empty : (rs : List Order) → accepts rs [] ≡ true → IsWordOfOne rs []
one_empty [] e = cc
one_empty (a ∷ rs) e = empty_at a rs (can_be_empty a) refl e (one_empty rs)

put_back : (rs : List Order) (k : ℕ) (w : List ℕ) → IsWordOfOne (flat_map (λ a. after_first a k) rs) w
    → IsWordOfOne rs (k ∷ w)
put_back [] k w h = absurd h
put_back (a ∷ rs) k w h = elim (of_one-append (after_first a k) (flat_map (λ a. after_first a k) rs) w h) [
  | inl x ↦ inl (first_put a k w x)
  | inr y ↦ inr (put_back rs k w y)
]

-- a list that is accepted is a word
pub accepted : (rs : List Order) (w : List ℕ) → accepts rs w ≡ true → IsWordOfOne rs w
accepted rs [] e = one_empty rs e
accepted rs (k ∷ w) e = put_back rs k w (accepted (flat_map (λ a. after_first a k) rs) w e)

text_with_angle : IsWordOfOne (an_element ∷ []) (0x0C ∷ 0x0D ∷ 0x16 ∷ 0x0F ∷ 0x1A ∷ 0x1C ∷ 0x10 ∷ 0x19 ∷ 0x11 ∷ [])
text_with_angle = accepted (an_element ∷ []) (0x0C ∷ 0x0D ∷ 0x16 ∷ 0x0F ∷ 0x1A ∷ 0x1C ∷ 0x10 ∷ 0x19 ∷ 0x11 ∷ []) refl

array_with_magnification : IsWordOfOne (an_element ∷ []) (0x0B ∷ 0x12 ∷ 0x1A ∷ 0x1B ∷ 0x13 ∷ 0x10 ∷ 0x11 ∷ [])
array_with_magnification = accepted (an_element ∷ []) (0x0B ∷ 0x12 ∷ 0x1A ∷ 0x1B ∷ 0x13 ∷ 0x10 ∷ 0x11 ∷ []) refl

no_angle_alone : accepts (an_element ∷ []) (0x0A ∷ 0x12 ∷ 0x1C ∷ []) ≡ false
no_angle_alone = refl

abbrev pub rec : ℕ → ℕ → List ℕ → Rec
rec k d p = record { kind = k; data_type = d; payload = p }

-- a structure with a path with square ends, a reference that is reflected and turned, and a text
abbrev elements : List Rec
elements =
    rec 0x05 2 [] ∷ rec 0x06 6 (0x41 ∷ 0x42 ∷ []) ∷ rec 0x09 0 [] ∷ rec 0x0D 2 (0 ∷ 3 ∷ []) ∷ rec 0x0E 2
    (0 ∷ 4 ∷ []) ∷ rec 0x21 2 (0 ∷ 2 ∷ []) ∷ rec 0x0F 3 (0 ∷ 0 ∷ 0 ∷ 6 ∷ [])
    ∷ rec 0x10 3 (0 ∷ 0 ∷ 0 ∷ 0 ∷ 0 ∷ 0 ∷ 0 ∷ 0 ∷ 0 ∷ 0 ∷ 0 ∷ 10 ∷ 0 ∷ 0 ∷ 0 ∷ 0 ∷ []) ∷ rec 0x11 0 []
    ∷ rec 0x0A 0 [] ∷ rec 0x12 6 (0x43 ∷ 0 ∷ []) ∷ rec 0x1A 1 (0x80 ∷ 0 ∷ []) ∷ rec 0x1C 5
    (0x42 ∷ 0x5A ∷ 0 ∷ 0 ∷ 0 ∷ 0 ∷ 0 ∷ 0 ∷ []) ∷ rec 0x10 3 (0xFF ∷ 0xFF ∷ 0xFF ∷ 0xFF ∷ 0 ∷ 0 ∷ 0 ∷ 7 ∷ []) ∷ rec
    0x11 0 []
    ∷ rec 0x0C 0 [] ∷ rec 0x0D 2 (0 ∷ 1 ∷ []) ∷ rec 0x16 2 (0 ∷ 0 ∷ []) ∷ rec 0x10 3
    (0 ∷ 0 ∷ 0 ∷ 0 ∷ 0 ∷ 0 ∷ 0 ∷ 0 ∷ []) ∷ rec 0x19 6 [] ∷ rec 0x11 0 [] ∷ rec 0x07 0 [] ∷ []

elements_drawn : drawings elements ≡ record {
  name = 0x41 ∷ 0x42 ∷ [];
  shapes = record {
    layer = record { layer = 3; datatype = 4 };
    figure = path (record { x = pos 0; y = pos 0 } ∷ record { x = pos 10; y = pos 0 } ∷ [])
        (record { half = 3; start = 3; end = 3 });
    shifts = record { x = pos 0; y = pos 0 } ∷ [];
  } ∷ [];
  references = record {
    cell = 0x43 ∷ [];
    flip = true;
    turn = R90;
    at = record { x = negsuc 0; y = pos 7 };
    shifts = record { x = pos 0; y = pos 0 } ∷ [];
  } ∷ [];
} ∷ []
elements_drawn = refl
