use Rattle.std.proofs.Common.{◌++◌, ◌∷◌, [], List, ap, ◌∙◌}
use Rattle.lvl_changed.specs.declared.arrays.Array.{Array}
use Rattle.lvl_changed.proofs.Arraying.{array_added}
use Rattle.lvl_changed.proofs.Rowing.{rows_added}
use Rattle.lvl_changed.proofs.rows.add_split.Goals as goal

pub returns-in_ok-append-in-Some : goal.returns-in_ok-append-in-Some
returns-in_ok-append-in-Some c =
    let both = rw c.in-Some.is at c.in_ok-rows.ensures in
    rows_added c.args.all.now.items c.in-Some.rows.items c.append.new.self.items c.args.array.now
    c.in_ok-append-in-Some.ensures.items both

pub returns-in_ok-push-in-None : goal.returns-in_ok-push-in-None
returns-in_ok-push-in-None c = λ cells l s.
    let old : List Array = c.args.all.now.items in
    array_added cells [] old c.push.new.self.items c.args.array.now l s
    (c.in_ok-push-in-None.ensures.items ∙ ap (λ (a : Array). old ++ a ∷ []) c.in_ok-copied-in-None.ensures)
