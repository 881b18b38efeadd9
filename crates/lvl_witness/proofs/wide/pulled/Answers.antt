use Rattle.std.proofs.Common.{◌≡◌, ap, sym, ◌∙◌}
use Rattle.lvl_grid.specs.declared.map.Map.{Map}
use Rattle.lvl_witness.specs.inside.Wide.{as_square, turned_back, reflected_back}
use Rattle.lvl_witness.proofs.Pulling.{square_before, pulls_back}
use Rattle.lvl_witness.proofs.wide.pulled.Goals as goal

pub returns-clause-square : goal.returns-clause-square
returns-clause-square c =
    let m : Map = c.args.map.now in
    let same : as_square c.reflected_back.result ≡ square_before m c.args.square =
    c.reflected_back.ensures.square
    ∙ ap (reflected_back m.flip) (c.turned_back.ensures.square ∙ ap (turned_back m.turn) c.taken_back.ensures.square) in
    λ t. (
      λ e. (pulls_back m t c.args.square).0 e ∙ sym same,
      λ e. (pulls_back m t c.args.square).1 (e ∙ same),
    )
