use Rattle.std.proofs.lemmas.Result.{on_ok_weaker}
use Rattle.lvl_changed.proofs.Adding.{alone_added, partner_added}
use Rattle.lvl_changed.proofs.references.Partners.push.Goals as goal

pub returns-in_default-clause-added : goal.returns-in_default-clause-added
returns-in_default-clause-added c = λ pair found l s out.
    alone_added pair c.args.self.now.placed c.args.self.now.alone.items c.push.new.self.items c.args.array l s
    c.in_ok-push.ensures.items

pub returns-clause-added : goal.returns-clause-added
returns-clause-added c =
    on_ok_weaker c.push-2.result
    (λ adds pair found.
    partner_added pair c.args.self.now.placed c.push-2.new.self c.args.self.now.alone.items c.args.array c.in-Some.cell
    c.args.found.now c.hold_places.new.self c.in-Some.is found c.in_ok-hold_places.ensures.held adds)
    c.push-2.ensures
