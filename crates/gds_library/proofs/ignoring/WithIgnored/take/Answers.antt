use Rattle.std.proofs.Common.{◌∙◌, refl, sym}
use Rattle.gds_elements.specs.inside.Reading.{record_of}
use Rattle.gds_library.proofs.ignoring.WithIgnored.take.Goals as goal

pub returns-then-is_passed-clause-takes : goal.returns-then-is_passed-clause-takes
returns-then-is_passed-clause-takes c = λ rs d h.
    c.pass.ensures.takes rs (record_of c.args.kind d c.args.payload.now) refl
    (sym (c.is_passed.ensures d) ∙ c.if-is_passed.true) h

pub returns-else-is_passed-clause-takes : goal.returns-else-is_passed-clause-takes
returns-else-is_passed-clause-takes c = λ rs d h.
    c.take_essential.ensures.takes rs d (sym (c.is_passed.ensures d) ∙ c.if-is_passed.false) h
