use Rattle.std.proofs.lemmas.Result.{on_ok_weaker}
use Rattle.lvl_grid.specs.Clip.{IsInWindow}
use Rattle.lvl_grid.specs.Winding.{Covers}
use Rattle.lvl_simplify.proofs.Joining.{any_pushed, rows_more, rest_more}
use Rattle.lvl_simplify.proofs.stacked.part_rectangle.Goals as goal

pub returns-in-Some : goal.returns-in-Some
returns-in-Some c = λ s.
    rows_more
    (any_pushed (λ window. IsInWindow window s) c.args.windows.now.items c.push.new.self.items c.in-Some.window
    c.in_ok-push.ensures.items) (c.in-Some.ensures s)

pub returns : goal.returns
returns c =
    on_ok_weaker c.push-2.result
    (λ e s. rest_more (any_pushed (λ ring. Covers ring s) c.args.rest.now c.push-2.new.self c.args.ring.now e))
    c.push-2.ensures.ok
