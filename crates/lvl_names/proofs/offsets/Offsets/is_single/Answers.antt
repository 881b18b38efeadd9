use Rattle.std.proofs.Common.{length, sym, ap, ◌∙◌}
use Rattle.std.proofs.lemmas.Bool.Decides.{Decides-eqb}
use Rattle.lvl_names.proofs.Lattices.{one_is}
use Rattle.lvl_names.proofs.offsets.Offsets.is_single.Goals as goal

pub returns : goal.returns
returns c =
    let decides = Decides-eqb c.len.result 1 in (
      λ t. one_is c.args.self.now c.len.ensures.zero_first (sym c.len.ensures.count ∙ decides.0 t),
      λ e. decides.1 (c.len.ensures.count ∙ ap length e),
    )
