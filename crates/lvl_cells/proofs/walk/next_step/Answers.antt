use Rattle.std.proofs.Common.{◌∙◌, length, refl, sym, arith}
use Rattle.lvl_cells.specs.declared.walk.Mark.TheVariants.{New, Open, Done}
use Rattle.lvl_cells.specs.inside.Walking.{IsArc}
use Rattle.lvl_cells.proofs.Walks.{arc_within, marked}
use Rattle.lvl_cells.proofs.walk.next_step.Goals as goal

pub returns-then-visit-len : goal.returns-then-visit-len
returns-then-visit-len c = (c.row-row.result, c.row-row.ensures, omega (arith, c.if-visit-len.true, c.len.ensures))

pub returns-in-New : goal.returns-in-New
returns-in-New c =
    let next = c.in-Some.next in
    let arc : IsArc c.args.targets.now c.args.visit.cell c.args.visit.done next =
    (c.row-row.result, c.row-row.ensures, sym c.get.ensures ∙ c.in-Some.is) in (
      arc,
      marked c.args.marks.now next New New
          (arc_within c.args.targets.now (length c.args.marks.now) c.args.visit.cell c.args.visit.done next
          c.requires.targets arc) c.in-New.is,
    )

pub returns-in-Open : goal.returns-in-Open
returns-in-Open c =
    let next = c.in-Some.next in
    let arc : IsArc c.args.targets.now c.args.visit.cell c.args.visit.done next =
    (c.row-row.result, c.row-row.ensures, sym c.get.ensures ∙ c.in-Some.is) in (
      arc,
      marked c.args.marks.now next New Open
          (arc_within c.args.targets.now (length c.args.marks.now) c.args.visit.cell c.args.visit.done next
          c.requires.targets arc) c.in-Open.is,
    )

pub returns-in-Done : goal.returns-in-Done
returns-in-Done c =
    let next = c.in-Some.next in
    let arc : IsArc c.args.targets.now c.args.visit.cell c.args.visit.done next =
    (c.row-row.result, c.row-row.ensures, sym c.get.ensures ∙ c.in-Some.is) in (
      next,
      refl,
      arc,
      marked c.args.marks.now next New Done
          (arc_within c.args.targets.now (length c.args.marks.now) c.args.visit.cell c.args.visit.done next
          c.requires.targets arc) c.in-Done.is,
    )
