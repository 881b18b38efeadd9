use Rattle.std.proofs.Common.{◌≤◌}
use Rattle.std.proofs.lemmas.Result.{err_from_is_err_and}
use Rattle.oasis_values.specs.Known.{Known}
use Rattle.oasis_values.specs.PointLists.{point_count, AreVertices}
use Rattle.oasis_values.specs.Spelling.{Then}
use Rattle.oasis_values.proofs.Reading.{reads_err, reads_then}
use Rattle.oasis_values.proofs.Lists.{after_count_code, vertices_code, some_has}
use Rattle.oasis_values.specs.declared.fault.ValueFault.TheVariants.{PointCount}
use Rattle.oasis_values.proofs.input.Input.list_of.Goals as goal

pub vertices-requires-clause-few : goal.vertices-requires-clause-few
vertices-requires-clause-few g c =
    some_has c.point_count.result c.in_ok-count.count (λ n. n ≤ 65536) c.in_ok-count.ensures.found
    c.point_count.ensures.few

pub returns-in_err-number : goal.returns-in_err-number
returns-in_err-number g c =
    let p = err_from_is_err_and c.from_residual.result c.from_residual.ensures.1 in
    rw (p.1, p.2) (record {
      reads = reads_err
          (λ n. Then (Known (point_count c.args.purpose c.args.kind n) PointCount)
          (AreVertices c.args.purpose c.args.kind)) (after_count_code c.args.purpose c.args.kind)
          c.in_err-number.ensures.reads;
    })

pub returns-in_err-count : goal.returns-in_err-count
returns-in_err-count g c =
    let p = err_from_is_err_and c.from_residual-in_err-count.result c.from_residual-in_err-count.ensures.1 in
    let q = rw c.point_count.ensures.value at c.in_err-count.ensures.reads in
    rw (p.1, p.2) (record {
      reads = reads_then
          (λ n. Then (Known (point_count c.args.purpose c.args.kind n) PointCount)
          (AreVertices c.args.purpose c.args.kind)) c.in_ok-number.ensures.reads
          (reads_err (AreVertices c.args.purpose c.args.kind) (vertices_code c.args.purpose c.args.kind) q);
    })

pub returns : goal.returns
returns g c =
    let q = rw c.point_count.ensures.value at c.in_ok-count.ensures.reads in
    record {
      reads = reads_then (λ n. Then (Known (point_count c.args.purpose c.args.kind n) PointCount)
          (AreVertices c.args.purpose c.args.kind)) c.in_ok-number.ensures.reads
          (reads_then (AreVertices c.args.purpose c.args.kind) q c.vertices.ensures.reads);
    }
