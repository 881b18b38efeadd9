use Rattle.std.proofs.Common.{◌≡◌, ◌+◌, ◌-◌, suc, [], ◌∷◌, ◌++◌, sym, ap, ◌∙◌, arith}
use Rattle.std.proofs.lemmas.Result.{err_from_is_err_and}
use Rattle.oasis_values.specs.PointLists.{origin, last_of, closed, implied, if_any, start_of, IsNext}
use Rattle.oasis_values.proofs.Reading.{reads_seen_as, reads_seen_err}
use Rattle.oasis_values.proofs.Lists.{next_code, last_more}
use Rattle.oasis_values.proofs.Loops.{going_from, going_on, going_err, going_end, going_at}
use Rattle.oasis_values.proofs.input.Input.vertices.Goals as goal

pub loop-n-init : goal.loop-n-init
loop-n-init g c = record {
  read = [];
  going = going_at c.start_of-walk.ensures
      (going_from (IsNext c.args.kind) (λ w. w.at) c.args.count (start_of c.args.kind) c.args.self.now (omega arith)
      c.requires.live);
  points = c.push_reserved.ensures.items ∙ ap (λ l. l ++ (origin ∷ [])) c.in-Ok.ensures.items;
  last = ap (λ w. w.at) c.start_of-walk.ensures;
  len = c.push_reserved.ensures.len ∙ ap (λ k. k + 1) c.in-Ok.ensures.len ∙ omega arith;
  capacity = omega (arith, c.push_reserved.ensures.capacity, c.in-Ok.ensures.capacity);
}

pub loop-n-preserved : goal.loop-n-preserved
loop-n-preserved g c =
    let read = c.loop-n.invariant.read in
    let left : c.args.count - c.loop-n.n ≡ suc (c.args.count - (c.loop-n.n + 1)) =
    omega (arith, c.loop-n-test.true) in record {
      read = read ++ (c.in_ok-walk.walk.at ∷ []);
      going = going_on (c.args.count - (c.loop-n.n + 1)) c.loop-n.invariant.going left c.in_ok-walk.ensures.reads;
      points = c.push_reserved-in-loop-n.ensures.items
          ∙ ap (λ l. l ++ (c.in_ok-walk.walk.at ∷ [])) c.loop-n.invariant.points;
      last = sym (last_more origin read c.in_ok-walk.walk.at);
      len = c.push_reserved-in-loop-n.ensures.len ∙ ap (λ k. k + 1) c.loop-n.invariant.len;
      capacity = omega (arith, c.push_reserved-in-loop-n.ensures.capacity, c.loop-n.invariant.capacity);
    }

pub returns-in_err-walk : goal.returns-in_err-walk
returns-in_err-walk g c =
    let p = err_from_is_err_and c.from_residual.result c.from_residual.ensures.1 in
    let left : c.args.count - c.loop-n.n ≡ suc (c.args.count - (c.loop-n.n + 1)) = omega (arith, c.loop-n-test.true) in
    rw (p.1, p.2) (record {
      reads = reads_seen_err (closed c.args.purpose c.args.kind)
          (going_err (c.args.count - (c.loop-n.n + 1)) (next_code c.args.kind) c.loop-n.invariant.going left
          c.in_err-walk.ensures.reads);
    })

pub returns : goal.returns
returns g c =
    let read = c.loop-n.invariant.read in
    let corner : implied c.args.purpose c.args.kind (last_of origin read) ≡ c.implied.result =
    ap (implied c.args.purpose c.args.kind) (sym c.loop-n.invariant.last) ∙ sym c.implied.ensures in
    let is : closed c.args.purpose c.args.kind read ≡ c.close.new.points.items =
    ap (λ o. (origin ∷ read) ++ if_any o) corner
    ∙ ap (λ l. l ++ if_any c.implied.result) (sym c.loop-n.invariant.points) ∙ sym c.close.ensures in
    record {
      reads = reads_seen_as (closed c.args.purpose c.args.kind)
          (going_end c.loop-n.invariant.going (omega (arith, c.loop-n-test.false))) is;
    }
