use Rattle.std.proofs.Common.{◌<◌, length, arith, ap}
use Rattle.lvl_cells.specs.Cells.{PlainShape, Rings}
use Rattle.lvl_cells.proofs.Spanned.{in_spans, span_read}
use Rattle.lvl_cells.proofs.shape_lists.ShapeLists.layer.Goals as goal

pub index-requires : goal.index-requires
index-requires c =
    let there : c.args.i < length c.self.inside.spans.items = in_spans _ _ _ _ _ c.args.i c.self.view_is c.requires in
    omega (arith, there, c.self.inside.spans.ok.0)

pub returns : goal.returns
returns c =
    ap (λ (h : PlainShape Rings). h.layer)
    (span_read _ _ _ _ _ c.args.i c.index.result.now c.self.invariant c.self.view_is c.requires c.index.ensures).shape
