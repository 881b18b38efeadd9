use Rattle.std.proofs.Common.{refl}
use Rattle.lvl_io.proofs.Spelling.{breached_none}
use Rattle.oasis_values.specs.Numbers.{IsUnsigned}
use Rattle.oasis_values.proofs.Found.{reads_found, reads_stopped}
use Rattle.oasis_values.proofs.Integers.{unsigned_code}
use Rattle.oasis_values.proofs.input.Input.find_unsigned.Goals as goal

pub returns-in-Ok : goal.returns-in-Ok
returns-in-Ok g c = record {
  reads =
      reads_found g.R.Read.remaining g.R.Read.read_errors g.R.Read.lent IsUnsigned c.args.self.now _
      c.find_integer.new.ahead c.in-Ok.found.value c.in-Ok.found.len
      c.if-self.false c.if-self.false c.skip.ensures refl refl c.find_integer.ensures.bytes c.in-Ok.ensures.had.0
      c.in-Ok.ensures.had.1 c.in-Ok.ensures.finds c.in-Ok.ensures.errors c.find_integer.ensures.same;
  none = record { none = λ live xs k. tt };
  at = tt;
}

pub returns-in-Err : goal.returns-in-Err
returns-in-Err g c = record {
  reads =
      reads_stopped g.R.Read.remaining g.R.Read.read_errors g.R.Read.lent IsUnsigned c.args.self.now _ c.in-Err.fault
      c.if-self.false refl refl refl c.find_integer.ensures.bytes c.in-Err.ensures.finds.0 c.in-Err.ensures.finds.1
      c.in-Err.ensures.errors c.find_integer.ensures.same;
  none = record {
    none = λ live xs k rule x. let q = (c.in-Err.ensures.finds.1 xs k).breached rule in
        breached_none (IsUnsigned c.args.self.now.profile) xs q.count c.in-Err.fault x
        (unsigned_code.free c.args.self.now.profile) q.front;
  };
  at = refl;
}
