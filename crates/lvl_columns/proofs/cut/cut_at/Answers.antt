use Rattle.lvl_columns.proofs.cut.cut_at.Goals as goal

pub returns-then-is_inner : goal.returns-then-is_inner
returns-then-is_inner c = rw (c.points.ensures, c.points-2.ensures) at (c.is_inner.ensures c.if-is_inner.true)
