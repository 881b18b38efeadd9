use Rattle.std.proofs.Common.{refl, sym, map}
use Rattle.lvl_grid.specs.Turn.{shifted}
use Rattle.lvl_refusal.specs.declared.Cause.TheVariants.{Breach}
use Rattle.oasis_figures.specs.Modal.{modal, polygon_set, repetition_set}
use Rattle.oasis_figures.specs.inside.Polygons.{a_polygon}
use Rattle.oasis_figures.proofs.Figures.{list_kept, repetition_kept}
use Rattle.oasis_figures.proofs.Polygons.{read_after, ring_refused, polygon_none, polygon_drawn}
use Rattle.oasis_figures.proofs.Taking.{takes_refused}
use Rattle.oasis_figures.proofs.modal.Modal.take_polygon.Goals as goal

pub returns-in_err-ring : goal.returns-in_err-ring
returns-in_err-ring c = λ ignore.
    let m = c.args.self.now in
    let p = c.args.polygon in
    let v = c.in_ok-values.values in
    let list = c.listed-points in
    let qs = map (shifted v.at) c.known.result.now in
    let read = read_after m p v list.result c.known.result.now qs c.in_ok-values.ensures.ok list.ensures
    c.known.ensures refl in
    let refusal = c.in_err-ring.field-0.0 in
    let refused = ring_refused ignore m p v qs refusal read c.in_err-ring.ensures.refused in
    takes_refused ignore m (a_polygon p) c.from_residual-in_err-ring.result refusal c.from_residual-in_err-ring.ensures
    refused

pub returns : goal.returns
returns c = λ ignore.
    let m = c.args.self.now in
    let p = c.args.polygon in
    let v = c.in_ok-values.values in
    let list = c.listed-points in
    let qs = map (shifted v.at) c.known.result.now in
    let read = read_after m p v list.result c.known.result.now qs c.in_ok-values.ensures.ok list.ensures
    c.known.ensures refl in
    let ring = c.in_ok-ring.ensures in
    record {
      drawn = λ earlier s. polygon_drawn earlier p v qs c.in_ok-ring.ring (read earlier s) ring.value;
      places = λ earlier s. tt;
      kept = λ earlier s.
          let a = (read earlier s).values in
          let set = modal polygon_set earlier in
          let shifts = modal repetition_set earlier in
          record {
            relative = s.relative;
            placed = s.placed;
            drawn = sym a.at;
            cell = s.cell;
            layer = sym a.layer;
            datatype = sym a.datatype;
            width = s.width;
            height = s.height;
            polygon = list_kept p.points set list.result m.polygon c.take.result c.or.result list.ensures
                c.take.ensures.value c.or.ensures s.polygon;
            half_width = s.half_width;
            path = s.path;
            start = s.start;
            end = s.end;
            repetition = repetition_kept p.position.repetition shifts m.repetition c.take-2.result c.after.result
                c.take-2.ensures.value c.after.ensures s.repetition;
            repeated = c.is_some-self.ensures;
            single = s.single;
          };
      none = λ earlier s. polygon_none ignore earlier p v qs (read earlier s) ring.fit ring.ring;
      refused = tt;
      same = tt;
    }

pub returns-in_err-values : goal.returns-in_err-values
returns-in_err-values c = λ ignore.
    takes_refused ignore c.args.self.now (a_polygon c.args.polygon) c.from_residual.result
    (Breach c.in_err-values.field-0.0) c.from_residual.ensures (c.in_err-values.ensures.err ignore)
