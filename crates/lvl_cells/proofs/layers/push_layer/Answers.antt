use Rattle.std.proofs.Common.{[], ◌∷◌, All, Contains, subst, sym}
use Rattle.std.proofs.lemmas.Result.{on_ok_weaker}
use Rattle.std.proofs.lemmas.List.Elements.{All-contains_itself}
use Rattle.lvl_cells.proofs.Listing.{still_among}
use Rattle.lvl_cells.proofs.layers.push_layer.Goals as goal

pub returns-then-eq-clause-kept : goal.returns-then-eq-clause-kept
returns-then-eq-clause-kept c = All-contains_itself c.args.layers.now.items

pub returns-clause-kept : goal.returns-clause-kept
returns-clause-kept c =
    on_ok_weaker c.push_item.result
    (λ is.
    subst (λ ls. All (Contains ls) c.args.layers.now.items) (sym is)
    (still_among c.args.layers.now.items (c.args.layer ∷ []))) c.push_item.ensures.added
