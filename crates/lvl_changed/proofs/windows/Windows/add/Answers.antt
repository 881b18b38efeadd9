use Rattle.std.proofs.Common.{◌<◌, inl, length, refl, arith}
use Rattle.lvl_changed.specs.declared.windows.Windows.{Windows}
use Rattle.lvl_changed.proofs.Widening.{added_has, joined_has, widens_itself}
use Rattle.lvl_changed.proofs.windows.Windows.add.Goals as goal

pub loop-i-preserved : goal.loop-i-preserved
loop-i-preserved c = λ s h.
    let from : Windows = c.loop-i.self in
    let to : Windows = record { list = c.swap_remove-other.new.self; most = from.most; anywhere = from.anywhere } in
    let low : c.in-Some.i < length from.list.items = omega (arith, c.in-Some.ensures, from.list.ok.0) in
    joined_has from to c.loop-i.whole c.swap_remove-other.result c.joined-whole.result c.in-Some.i low
    c.swap_remove-other.ensures.value refl c.swap_remove-other.ensures.items c.joined-whole.ensures s
    (c.loop-i.invariant s h)

pub returns-clause-kept : goal.returns-clause-kept
returns-clause-kept c = record {
  has = λ s h.
      let from : Windows = c.loop-i.self in
      let to : Windows = record { list = c.push.new.self; most = from.most; anywhere = from.anywhere } in
      added_has from to c.loop-i.whole refl c.in_ok-push.ensures.items s (c.loop-i.invariant s (inl h));
}

pub returns-then-has_no_square-clause-held : goal.returns-then-has_no_square-clause-held
returns-then-has_no_square-clause-held c = λ s h. absurd (c.has_no_square.ensures c.if-has_no_square.true s h)

pub returns-then-has_no_square-clause-kept : goal.returns-then-has_no_square-clause-kept
returns-then-has_no_square-clause-kept c = widens_itself c.args.self.now
