use Rattle.std.proofs.Common.{◌∙◌, sym, ap, subst, ℕ, Option}
use Rattle.std.specs.Option.{option_or}
use Rattle.lvl_grid.specs.Turn.{FitsPoint}
use Rattle.oasis_figures.proofs.Rectangles.{AreValues, resolved}
use Rattle.oasis_figures.specs.declared.rectangle.Resolved.{Resolved}
use Rattle.oasis_figures.proofs.modal.Modal.resolve_rectangle.Goals as goal

pub returns-clause-ok : goal.returns-clause-ok
returns-clause-ok c = λ earlier s.
    let v : Resolved = record {
      layer = c.in-Some.layer;
      datatype = c.in-Some-or.datatype;
      width =
          c.in-Some-or-2.width;
      height = c.in-Some-or-3.height;
      on = c.in-Some-layer_of.on;
      low = c.in-Some-moved.low;
      high = c.in-Some-offset.high;
    } in
    let a : AreValues c.args.self.now c.args.rectangle.now v.layer v.datatype v.width v.height = record {
      layer = sym c.in-Some.ensures;
      datatype = sym c.in-Some-or.ensures;
      width = sym c.in-Some-or-2.ensures;
      height = sym (c.in-Some-or-3.ensures ∙ ap (λ (o : Option ℕ). option_or o c.args.self.now.height)
          c.height_of.ensures);
    } in
    resolved c.args.self.now earlier c.args.rectangle.now v s a (sym c.is_known.ensures ∙ c.if-not-is_known.false)
    c.in-Some-layer_of.ensures.0 c.in-Some-layer_of.ensures.1
    (subst FitsPoint (sym c.in-Some-moved.ensures.1) c.in-Some-moved.ensures.0) c.in-Some-moved.ensures.1
    (subst FitsPoint (sym c.in-Some-offset.ensures.1) c.in-Some-offset.ensures.0) c.in-Some-offset.ensures.1
