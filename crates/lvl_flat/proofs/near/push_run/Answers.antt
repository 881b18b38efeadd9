use Rattle.std.proofs.Common.{◌*◌, ◌++◌, ◌∙◌, sym, ap, arith}
use Rattle.lvl_flat.specs.inside.Near.{run_at}
use Rattle.lvl_flat.proofs.Replacing.{beside_ends, may_be_same, run_of_one, stretch_is}
use Rattle.lvl_flat.proofs.near.push_run.Goals as goal

pub returns-clause-added : goal.returns-clause-added
returns-clause-added c = record {
  part = _;
  added =
      c.in_ok-push_points.ensures
      ∙ ap (λ ps. c.args.points.now.items ++ ps)
      (stretch_is c.args.ring.now c.args.k (c.args.k * 128) c.min.result (omega arith)
      (omega (arith, c.min.ensures, c.saturating_add.ensures))
      (λ short. omega (arith, short, c.min.ensures, c.saturating_add.ensures, c.len-len.ensures, c.len-len.type_inv))
      ∙ sym (run_of_one c.args.ring.now c.args.k));
  may_be = may_be_same c.args.map.now c.args.shift c.args.window.now _;
}

pub returns-in-Some-ends_of-clause-added : goal.returns-in-Some-ends_of-clause-added
returns-in-Some-ends_of-clause-added c = record {
  part = c.in-Some-ends_of.ends;
  added = c.in_ok-extend_from_slice.ensures.items;
  may_be =
      beside_ends c.args.map.now c.args.shift c.args.window.now c.in-Some.ensures.box
      (run_at c.args.ring.now c.args.k c.in-Some.end) c.in-Some-ends_of.ends c.in-Some.ensures.beside
      c.in-Some.ensures.all c.in-Some-ends_of.ensures;
}
