-- Lists of points that are moved.
use Rattle.std.proofs.Common.{List, map, subst}
use Rattle.std.specs.Prelude.{All}
use Rattle.std.proofs.lemmas.List.{get_or-map, length-map}

-- a property of all that f gives, as one of what it is given
pub All-unmap : {X Y : Type 0} (P : Y → Type 0) (f : X → Y) (xs : List X) → All P (map f xs) → All (λ x. P (f x)) xs
All-unmap P f xs h = λ i d lt. subst P (get_or-map f xs i d (f d) lt) (h i (f d) (rw (length-map xs f) lt))
