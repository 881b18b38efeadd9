use Rattle.std.proofs.Common.{ap, arith, get_or}
use Rattle.std.proofs.lemmas.Result.{err_from_is_err_and}
use Rattle.oasis_values.specs.Numbers.{IsOneByte}
use Rattle.oasis_values.proofs.Found.{stop_fails, stop_live, byte_front, byte_begun}
use Rattle.oasis_values.proofs.find.find_byte.Goals as goal

pub returns-in_err-want_more-clause-finds : goal.returns-in_err-want_more-clause-finds
returns-in_err-want_more-clause-finds g c =
    let p = err_from_is_err_and c.from_residual.result c.from_residual.ensures.1 in
    let stops = c.in_err-want_more.ensures.stops in
    rw (p.1, p.2) (
      stop_live c.in_err-want_more.field-0.0 stops.0,
      λ xs k. stop_fails IsOneByte 0 c.args.room _ xs
          c.in_err-want_more.field-0.0 (omega arith) stops.0 (stops.1 xs k) byte_begun,
    )

pub returns-clause-finds : goal.returns-clause-finds
returns-clause-finds g c = λ xs k.
    byte_front c.want_more.new.ahead _ xs _ (c.want_more.ensures.bytes xs k)
    (omega (arith, c.in_ok-want_more.ensures.had)) (ap (λ l. get_or l 0 0) c.ahead.ensures.value)
