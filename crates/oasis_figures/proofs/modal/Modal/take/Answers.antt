use Rattle.std.proofs.Common.{sym, subst}
use Rattle.oasis_records.specs.declared.record.Record.{Record}
use Rattle.oasis_figures.specs.inside.Taking.{Takes}
use Rattle.oasis_figures.proofs.modal.Modal.take.Goals as goal

taken_rectangle : (c : goal.After-take_rectangle)
    → Takes c.args.ignore c.args.self.now c.args.next.now c.take_rectangle.result c.take_rectangle.new.self
taken_rectangle c =
    subst (λ (r : Record). Takes c.args.ignore c.args.self.now r c.take_rectangle.result c.take_rectangle.new.self)
    (sym c.in-Rectangle.is) (c.take_rectangle.ensures c.args.ignore)

pub returns-in-Rectangle-clause-drawn : goal.returns-in-Rectangle-clause-drawn
returns-in-Rectangle-clause-drawn c = (taken_rectangle c).drawn

pub returns-in-Rectangle-clause-places : goal.returns-in-Rectangle-clause-places
returns-in-Rectangle-clause-places c = (taken_rectangle c).places

pub returns-in-Rectangle-clause-kept : goal.returns-in-Rectangle-clause-kept
returns-in-Rectangle-clause-kept c = (taken_rectangle c).kept

pub returns-in-Rectangle-clause-refused : goal.returns-in-Rectangle-clause-refused
returns-in-Rectangle-clause-refused c = (taken_rectangle c).refused

pub returns-in-Rectangle-clause-same : goal.returns-in-Rectangle-clause-same
returns-in-Rectangle-clause-same c = (taken_rectangle c).same

taken_placement : (c : goal.After-take_placement)
    → Takes c.args.ignore c.args.self.now c.args.next.now c.take_placement.result c.take_placement.new.self
taken_placement c =
    subst (λ (r : Record). Takes c.args.ignore c.args.self.now r c.take_placement.result c.take_placement.new.self)
    (sym c.in-Placement.is) (c.take_placement.ensures c.args.ignore)

pub returns-in-Placement-clause-drawn : goal.returns-in-Placement-clause-drawn
returns-in-Placement-clause-drawn c = (taken_placement c).drawn

pub returns-in-Placement-clause-places : goal.returns-in-Placement-clause-places
returns-in-Placement-clause-places c = (taken_placement c).places

pub returns-in-Placement-clause-kept : goal.returns-in-Placement-clause-kept
returns-in-Placement-clause-kept c = (taken_placement c).kept

pub returns-in-Placement-clause-refused : goal.returns-in-Placement-clause-refused
returns-in-Placement-clause-refused c = (taken_placement c).refused

pub returns-in-Placement-clause-same : goal.returns-in-Placement-clause-same
returns-in-Placement-clause-same c = (taken_placement c).same
