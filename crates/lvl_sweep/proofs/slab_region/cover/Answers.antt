use Rattle.std.proofs.Common.{◌≡◌, Bool, ◌||◌, List, [], ◌∷◌, map, refl, sym, ◌∙◌, ap}
use Rattle.std.specs.List.{list_any}
use Rattle.lvl_sweep.specs.Slab.{slab_covers}
use Rattle.lvl_sweep.specs.Bands.{slab_of}
use Rattle.lvl_sweep.proofs.slab_region.cover.Goals as goal

list_any-map : {A B : Type 0} (p : B → Bool) (f : A → B) (xs : List A)
    → list_any p (map f xs) ≡ list_any (λ x. p (f x)) xs
list_any-map p f [] = refl
list_any-map p f (x ∷ xs) = ap (λ r. p (f x) || r) (list_any-map p f xs)

pub returns : goal.returns
returns c = c.some_has.ensures ∙ sym (list_any-map (slab_covers c.args.square) slab_of c.args.bands.now)
