use Rattle.std.proofs.Common.{refl}
use Rattle.oasis_values.proofs.Reading.{reads_nothing, reads_refused}
use Rattle.oasis_values.proofs.input.Input.known.Goals as goal

pub returns-in-Some : goal.returns-in-Some
returns-in-Some g c = rw c.in-Some.is (record { reads = reads_nothing c.in-Some.value c.if-self.false; found = refl })

pub returns-in-None : goal.returns-in-None
returns-in-None g c =
    rw c.in-None.is
    (record { reads = reads_refused c.args.rule c.if-self.false refl c.requires refl refl refl refl; found = tt })
