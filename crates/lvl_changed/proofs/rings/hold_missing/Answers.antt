use Rattle.std.proofs.Common.{◌<◌, ◌≤◌, [], List, length, sym, subst, arith}
use Rattle.lvl_grid.specs.declared.point.Point.{Point}
use Rattle.lvl_grid.specs.declared.point.Square.{Square}
use Rattle.lvl_grid.specs.Winding.{Covers, SomeCovers}
use Rattle.lvl_grid.proofs.Anyone.{some_contained}
use Rattle.lvl_changed.specs.declared.windows.Windows.{Windows}
use Rattle.lvl_changed.specs.inside.Windows.{Has}
use Rattle.lvl_changed.proofs.Missing.{into_all, into_more, widens_to}
use Rattle.lvl_changed.proofs.Widening.{widens_itself}
use Rattle.lvl_changed.proofs.rings.hold_missing.Goals.{then-not-has_ring+in_ok-hold, else-not-has_ring}
use Rattle.lvl_changed.proofs.rings.hold_missing.Goals as goal

abbrev At : Square → List Point → Type 0
At s ring = Covers ring s

pub loop-i-preserved : goal.loop-i-preserved
loop-i-preserved c =
    let rings : List (List Point) = c.args.rings.now in
    let others : List (List Point) = c.args.others.now in
    let low : c.loop-i.i < length rings = omega (arith, c.loop-i-test.true, c.len-i-end.ensures) in
    elim c.if-not-has_ring.branch [
      | then-not-has_ring+in_ok-hold w ↦
          record {
            held =
                into_more At rings c.loop-i.i [] c.ring-ring.result.now (SomeCovers others) (Has c.loop-i.windows)
                (Has w.hold.new.self) (Has c.if-not-has_ring.windows) low c.ring-ring.ensures.value
                (λ s h. subst (λ (v : Windows). Has v s) (sym w.windows-is) h) w.in_ok-hold.ensures.kept.has
                c.loop-i.invariant.held
                (λ s out covers. absurd (out (w.in_ok-hold.ensures.held s (w.box_of.ensures s covers))));
            kept =
                widens_to c.args.windows.now c.loop-i.windows w.hold.new.self c.if-not-has_ring.windows
                c.loop-i.invariant.kept w.in_ok-hold.ensures.kept w.windows-is;
          }
      | else-not-has_ring w ↦
          record {
            held =
                into_more At rings c.loop-i.i [] c.ring-ring.result.now (SomeCovers others) (Has c.loop-i.windows)
                (Has c.loop-i.windows) (Has c.if-not-has_ring.windows) low c.ring-ring.ensures.value
                (λ s h. subst (λ (v : Windows). Has v s) (sym w.windows-is) h) (λ s h. h) c.loop-i.invariant.held
                (λ s out covers. some_contained (At s) others c.ring-ring.result.now
                (c.has_ring.ensures w.if-not-has_ring.false) covers);
            kept =
                widens_to c.args.windows.now c.loop-i.windows c.loop-i.windows c.if-not-has_ring.windows
                c.loop-i.invariant.kept (widens_itself c.loop-i.windows) w.windows-is;
          }
    ]

pub returns-clause-held : goal.returns-clause-held
returns-clause-held c =
    let rings : List (List Point) = c.args.rings.now in
    let long : length rings ≤ c.loop-i.i = omega (arith, c.loop-i-test.false, c.len-i-end.ensures) in
    into_all At rings c.loop-i.i (SomeCovers c.args.others.now) (Has c.loop-i.windows) long c.loop-i.invariant.held
