use Rattle.std.proofs.Common.{inr}
use Rattle.lvl_columns.proofs.columns.first_of.Goals as goal

pub returns-then-is_found_in-clause-found : goal.returns-then-is_found_in-clause-found
returns-then-is_found_in-clause-found c = record {
  one = inr (c.is_found_in.ensures c.if-is_found_in.true);
  bound = λ s n. absurd n;
  least = rw c.in-Some.is at c.in_ok-left.ensures.least;
}
