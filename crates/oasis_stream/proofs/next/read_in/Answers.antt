use Rattle.std.proofs.Common.{sym}
use Rattle.oasis_stream.proofs.Typed.{next_unread, next_refused, next_typed}
use Rattle.oasis_stream.proofs.next.read_in.Goals as goal

pub returns-in-Err : goal.returns-in-Err
returns-in-Err g c = record { reads = λ rs h. next_unread c.args.inside rs c.in-Err.ensures.reads }

pub returns-in-Ok-type_of : goal.returns-in-Ok-type_of
returns-in-Ok-type_of g c =
    record {
      reads = λ rs h. next_typed c.args.inside rs c.in-Ok.id c.in-Ok-type_of.kind c.has_offsets_at_end.result
          (rw c.profile-profile.ensures at (sym (c.in-Ok-type_of.ensures rs h)))
          (c.has_offsets_at_end.ensures rs h) c.in-Ok.ensures.reads
          c.read_typed.ensures.reads;
    }

pub returns-in-Err-type_of : goal.returns-in-Err-type_of
returns-in-Err-type_of g c =
    record {
      reads = λ rs h. next_refused c.args.inside rs c.in-Ok.id c.in-Err-type_of.kind
          (rw c.profile-profile.ensures at (sym (c.in-Err-type_of.ensures rs h)))
          c.in-Ok.ensures.reads;
    }
