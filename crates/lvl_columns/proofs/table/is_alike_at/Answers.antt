use Rattle.std.proofs.Common.{get_or, [], refl, subst}
use Rattle.std.proofs.lemmas.List.{get_or_default}
use Rattle.lvl_grid.specs.Winding.{Covers}
use Rattle.lvl_columns.proofs.table.is_alike_at.Goals as goal

pub returns-in-Some : goal.returns-in-Some
returns-in-Some c = λ t s a.
    let others = c.args.others.now in
    let below = c.in-Some.ensures.inside.0 refl in (
      c.args.i,
      get_or others c.args.i [],
      below,
      get_or_default others c.args.i (get_or others c.args.i []) [] below,
      subst (λ ring. Covers ring s) c.in-Some.ensures.value ((c.are_alike.ensures t s).0 a),
    )
