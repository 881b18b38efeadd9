use Rattle.std.proofs.Common.{◌<◌, length, arith, sym, ◌∙◌, ap}
use Rattle.lvl_cells.specs.Cells.{PlainShape, Rings}
use Rattle.lvl_cells.specs.declared.shape_lists.Span.{Span}
use Rattle.lvl_cells.specs.inside.Spans.{displaced}
use Rattle.lvl_cells.proofs.Spanned.{SpanOf, in_spans, span_read, figure_length}
use Rattle.lvl_cells.proofs.shape_lists.ShapeLists.ring_count.Goals as goal

pub index-span-requires : goal.index-span-requires
index-span-requires c =
    let there : c.args.i < length c.self.inside.spans.items = in_spans _ _ _ _ _ c.args.i c.self.view_is c.requires in
    omega (arith, there, c.self.inside.spans.ok.0)

pub overflow_sub-result : goal.overflow_sub-result
overflow_sub-result c =
    (span_read _ _ _ _ _ c.args.i c.index-span.result.now c.self.invariant c.self.view_is c.requires
    c.index-span.ensures).is.stretch.order

pub returns : goal.returns
returns c =
    let s : Span = c.index-span.result.now in
    let span : SpanOf c.args.self.now c.self.inside.rings c.self.inside.moves.items c.self.inside.shifts.items c.args.i
    s =
    span_read _ _ _ _ _ c.args.i s c.self.invariant c.self.view_is c.requires c.index-span.ensures in
    sym (figure_length c.self.inside.rings s.begin s.end (displaced c.self.inside.moves.items s.moved)
    span.is.stretch.order span.is.stretch.inside)
    ∙ ap (λ (h : PlainShape Rings). length h.figure) span.shape
