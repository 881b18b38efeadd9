use Rattle.std.proofs.Common.{drop, refl, sym, ◌∙◌, ap, subst, Err}
use Rattle.lvl_refusal.specs.declared.Cause.TheVariants.{Breach}
use Rattle.oasis_values.specs.Input.{input_profile, input_offset, input_reader}
use Rattle.oasis_values.specs.Reads.{bytes_had}
use Rattle.oasis_values.specs.declared.fault.ValueFault.{ValueFault}
use Rattle.oasis_stream.specs.inside.Refuses.{RefusesAt}
use Rattle.oasis_stream.specs.declared.fault.OasisKind.TheVariants.{Value}
use Rattle.oasis_stream.proofs.Ending.{byte_refuses, after_refuses, whole_file}
use Rattle.oasis_stream.proofs.Seen.{law_seen}
use Rattle.oasis_library.proofs.Ends.{truncated_is, other_fault}
use Rattle.oasis_library.proofs.read.read_nothing.Goals as goal

pub returns-in-Ok-clause-refused : goal.returns-in-Ok-clause-refused
returns-in-Ok-clause-refused g c =
    rw (c.refuse.ensures, c.offset-offset.ensures) (λ xs to. byte_refuses
    (input_profile c.args.input.now) xs to c.in-Ok.field-0 c.requires refl to.holds
    c.in-Ok.ensures.reads)

pub returns-then-is_truncated-clause-whole : goal.returns-then-is_truncated-clause-whole
returns-then-is_truncated-clause-whole g c = λ xs to.
    let p = rw (truncated_is c.in-Err.fault (sym c.is_truncated.ensures ∙ c.if-is_truncated.true))
    at c.in-Err.ensures.reads in
    whole_file (input_profile c.args.input.now) xs (input_offset c.args.input.now) to to.holds
    (p.answers c.requires (drop (input_offset c.args.input.now) xs) to.left_is)

pub returns-else-is_truncated-clause-refused : goal.returns-else-is_truncated-clause-refused
returns-else-is_truncated-clause-refused g c = rw c.refuse-in-Err.ensures (λ xs to.
    let p = c.in-Err.ensures.reads in
    let at = input_offset c.args.input.now in
    subst (λ i. RefusesAt (input_profile c.args.input.now) xs (g.R.Read.remaining (input_reader c.byte.new.self)) i
    (Value c.in-Err.fault))
    (sym c.offset-offset.ensures)
    (after_refuses (input_profile c.args.input.now) xs at (bytes_had c.args.input.now c.byte.new.self) to c.in-Err.fault
    (other_fault c.in-Err.fault (sym c.is_truncated.ensures ∙ c.if-is_truncated.false))
    (λ e. p.fresh c.requires (ap (λ (f : ValueFault). Err (Breach f)) e)) (law_seen (drop at xs) p to.left_is)
    (p.answers c.requires (drop at xs) to.left_is)))
