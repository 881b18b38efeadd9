use Rattle.std.proofs.Common.{◌↔◌, Bool, IsTrue, subst, sym}
use Rattle.gds_elements.specs.Rec.{an_end}
use Rattle.gds_elements.specs.Rules.{InOrder}
use Rattle.gds_elements.proofs.Ending.{ends_drawn}
use Rattle.gds_elements.proofs.element.Element.may_end.Goals as goal

pub returns : goal.returns
returns c = λ piece h.
    subst (λ (t : Bool). IsTrue t ↔ InOrder piece an_end) (sym c.is_some.ensures)
    (ends_drawn c.args.self.now.state c.args.self.now.drawn piece h)
