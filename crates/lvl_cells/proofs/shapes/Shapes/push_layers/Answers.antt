use Rattle.std.proofs.Common.{◌<◌, List, All, Contains, take, length, subst, arith}
use Rattle.std.proofs.lemmas.List.{take_all}
use Rattle.std.proofs.lemmas.List.Elements.{All-contains_itself, All-more}
use Rattle.lvl_names.specs.declared.layer.Layer.{Layer}
use Rattle.lvl_cells.specs.Cells.{PlainShape, Rings, shape_at}
use Rattle.lvl_cells.proofs.Listing.{among, among_those}
use Rattle.lvl_cells.proofs.shapes.Shapes.push_layers.Goals as goal

pub loop-i-init : goal.loop-i-init
loop-i-init c = record {
  kept = All-contains_itself c.args.layers.now.items;
  added = λ k d lt. absurd (omega (arith, lt));
}

pub loop-i-preserved : goal.loop-i-preserved
loop-i-preserved c =
    let shapes : List (PlainShape Rings) = c.args.self.now in
    let i = c.loop-i.i in
    let before : List Layer = c.loop-i.layers.items in
    let now : List Layer = c.push_layer.new.layers.items in
    let there : i < length shapes = omega (arith, c.loop-i-test.true, c.len-i-end.ensures) in
    let wider : All (Contains now) before = c.in_ok-push_layer.ensures.kept in
    let last : Contains now (shape_at shapes i).layer =
    subst (Contains now) c.layer.ensures c.in_ok-push_layer.ensures.added in
    record {
      kept = among_those c.args.layers.now.items before now c.loop-i.invariant.kept wider;
      added =
          All-more (λ (h : PlainShape Rings). Contains now h.layer) shapes i _ there
          (among before now (take i shapes) wider c.loop-i.invariant.added) last;
    }

pub returns-clause-added : goal.returns-clause-added
returns-clause-added c =
    subst (All (λ (h : PlainShape Rings). Contains c.loop-i.layers.items h.layer))
    (take_all c.loop-i.i c.args.self.now (omega (arith, c.loop-i-test.false, c.len-i-end.ensures)))
    c.loop-i.invariant.added
