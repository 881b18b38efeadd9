use Rattle.std.proofs.Common.{refl}
use Rattle.lvl_io.proofs.Spelling.{breached_none}
use Rattle.oasis_values.specs.Numbers.{IsOneByte, IsByte}
use Rattle.oasis_values.proofs.Found.{reads_found, reads_stopped}
use Rattle.oasis_values.proofs.Integers.{byte_code}
use Rattle.oasis_values.proofs.input.Input.byte.Goals as goal

pub returns-in-Ok : goal.returns-in-Ok
returns-in-Ok g c = record {
  reads =
      reads_found g.R.Read.remaining g.R.Read.read_errors g.R.Read.lent IsByte c.args.self.now _
      c.find_byte.new.ahead c.in-Ok.found.value c.in-Ok.found.len
      c.if-self.false c.if-self.false c.skip.ensures refl refl c.find_byte.ensures.bytes c.in-Ok.ensures.had.0
      c.in-Ok.ensures.had.1 c.in-Ok.ensures.finds c.in-Ok.ensures.errors c.find_byte.ensures.same;
  none = record { none = λ live xs k. tt };
  at = tt;
}

pub returns-in-Err : goal.returns-in-Err
returns-in-Err g c = record {
  reads =
      reads_stopped g.R.Read.remaining g.R.Read.read_errors g.R.Read.lent IsByte c.args.self.now _ c.in-Err.fault
      c.if-self.false refl refl refl c.find_byte.ensures.bytes c.in-Err.ensures.finds.0 c.in-Err.ensures.finds.1
      c.in-Err.ensures.errors c.find_byte.ensures.same;
  none = record {
    none = λ live xs k rule x. let q = (c.in-Err.ensures.finds.1 xs k).breached rule in
        breached_none IsOneByte xs q.count c.in-Err.fault x (byte_code.free c.args.self.now.profile) q.front;
  };
  at = refl;
}
