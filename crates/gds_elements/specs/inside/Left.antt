-- What may still come in an element, by the next record.
use Rattle.std.specs.Prelude.{◌≡◌, ◌≢◌, ℕ, zero, suc, List, [], ◌∷◌}
use Rattle.lvl_grammar.specs.Order.{Order, nothing, next, one}
use Rattle.gds_elements.specs.Types.{endel}
use Rattle.gds_elements.specs.declared.order.Next.{Next}
use Rattle.gds_elements.specs.declared.order.Next.TheVariants.{Goes, Ends, Nowhere}

-- an order without its first part
abbrev pub tail : Order → Order
tail (next a b) = b
tail a = nothing

-- an order without its first n parts
abbrev pub rest : ℕ → Order → Order
rest zero a = a
rest (suc n) a = rest n (tail a)

-- what may still come after a record, by what it leads to
abbrev pub left_after : {P : Type 0} → (P → Order) → Next P → List Order
left_after left (Goes p) = left p ∷ []
left_after left Ends = one endel ∷ []
left_after left Nowhere = []

-- only a record of type j is the last before ENDEL
abbrev pub EndsBy : {P : Type 0} → ℕ → ℕ → Next P → Type 0
EndsBy j k (Goes p) = k ≢ j
EndsBy j k Ends = k ≡ j
EndsBy j k Nowhere = Unit {0}
