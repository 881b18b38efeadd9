-- Two flat layouts, walked Layer by Layer while an area grows.
use Rattle.std.proofs.Common.{inl, inr, List}
use Rattle.lvl_flat.specs.Sheet.{PlainSheet}
use Rattle.lvl_compare.proofs.After.{IsWalked}
use Rattle.lvl_changed.specs.declared.area.Area.{Area}
use Rattle.lvl_changed.specs.inside.Shapes.{LayerAlike}
use Rattle.lvl_changed.specs.inside.Areas.{Grows}

-- layouts that cover the same outside of an area do so outside of a larger one
pub walked_wider : (v w : Area) (a b us vs : List PlainSheet) → Grows v w → IsWalked (LayerAlike v a b) us vs
    → IsWalked (LayerAlike w a b) us vs
walked_wider v w a b us vs wide walked l =
    elim (walked l) [ inl x ↦ inl (λ s out. x s (λ has. out (wide.has l s has))) | inr y ↦ inr y ]
