use Rattle.lvl_changed.proofs.Growing.{both_grow}
use Rattle.std.proofs.lemmas.Result.{on_ok_weaker}
use Rattle.lvl_changed.proofs.Drawn.{array_drawn}
use Rattle.lvl_changed.proofs.area.Area.hold_array.Goals as goal

pub returns-clause-held : goal.returns-clause-held
returns-clause-held c =
    on_ok_weaker c.hold_array.result
    (λ held layer s out covers.
    held layer s (λ h. out (
      array_drawn c.args.view.now.pairs c.args.library.now.cells c.args.array.now c.add_drawn.new.layers
          (c.in_ok-add_drawn.ensures.added c.args.library.now.cells c.requires) layer s covers,
      h,
    )) covers)
    c.hold_array.ensures.held

pub returns-clause-kept : goal.returns-clause-kept
returns-clause-kept c =
    on_ok_weaker c.hold_array.result (λ kept. both_grow _ _ c.in_ok-add_drawn.ensures.kept kept)
    c.hold_array.ensures.kept
