use Rattle.std.proofs.Common.{length, sym, ap, ◌∙◌}
use Rattle.std.proofs.lemmas.List.{length-map}
use Rattle.lvl_cells.specs.inside.Spans.{shape_in}
use Rattle.lvl_cells.proofs.shape_lists.ShapeLists.len.Goals as goal

pub returns : goal.returns
returns c =
    c.len.ensures
    ∙ (c.self.inside.spans.ok.0
    ∙ (sym (length-map c.self.inside.spans.items
    (shape_in c.self.inside.rings c.self.inside.moves.items c.self.inside.shifts.items))
    ∙ ap length c.self.view_is))
