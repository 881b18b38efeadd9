use Rattle.std.proofs.Common.{◌≡◌, ◌∙◌, List, Some, Err, refl, sym, subst, map}
use Rattle.std.specs.Prelude.{All}
use Rattle.lvl_grid.specs.Turn.{FitsPoint, shifted}
use Rattle.lvl_grid.specs.declared.point.Point.{Point}
use Rattle.lvl_refusal.specs.declared.Cause.TheVariants.{Breach}
use Rattle.oasis_figures.specs.Modal.{modal, path_set, repetition_set}
use Rattle.oasis_figures.specs.declared.rule.FigureRule.TheVariants.{Extension}
use Rattle.oasis_figures.specs.inside.Extents.{reaches}
use Rattle.oasis_figures.specs.inside.Paths.{a_path}
use Rattle.oasis_figures.proofs.Bands.{read_after, vertices_refused, extension_refused, bands_refused, has_reaches}
use Rattle.oasis_figures.proofs.Bands.{path_none, path_drawn}
use Rattle.oasis_figures.proofs.Figures.{list_kept, repetition_kept}
use Rattle.oasis_figures.proofs.Taking.{takes_refused}
use Rattle.oasis_figures.proofs.modal.Modal.take_path.Goals as goal

pub returns-in_err-stroke : goal.returns-in_err-stroke
returns-in_err-stroke c =
    takes_refused c.args.ignore c.args.self.now (a_path c.args.path) c.from_residual.result
    (Breach c.in_err-stroke.field-0.0) c.from_residual.ensures (c.in_err-stroke.ensures.err c.args.ignore)

pub returns-in_err-vertices : goal.returns-in_err-vertices
returns-in_err-vertices c =
    let m = c.args.self.now in
    let p = c.args.path in
    let v = c.in_ok-stroke.field-0 in
    let list = c.listed-points in
    let qs = map (shifted v.at) c.known.result.now in
    let read = read_after m p v list.result c.known.result.now qs c.in_ok-stroke.ensures.ok list.ensures
    c.known.ensures refl in
    let refusal = c.in_err-vertices.field-0.0 in
    let refused = vertices_refused c.args.ignore m p v qs refusal read c.in_err-vertices.ensures.refused in
    takes_refused c.args.ignore m (a_path p) c.from_residual-in_err-vertices.result refusal
    c.from_residual-in_err-vertices.ensures
    refused

pub returns-in_default : goal.returns-in_default
returns-in_default c =
    let m = c.args.self.now in
    let p = c.args.path in
    let v = c.in_ok-stroke.field-0 in
    let list = c.listed-points in
    let qs = map (shifted v.at) c.known.result.now in
    let read = read_after m p v list.result c.known.result.now qs c.in_ok-stroke.ensures.ok list.ensures
    c.known.ensures refl in
    let refused = extension_refused c.args.ignore m p v qs read c.in_ok-vertices.ensures.fit
    (sym c.reaches.ensures ∙ c.in_default.is) in
    takes_refused c.args.ignore m (a_path p) (Err (Breach Extension)) (Breach Extension) (refl, refl) refused

pub returns-in_err-rings : goal.returns-in_err-rings
returns-in_err-rings c =
    let m = c.args.self.now in
    let p = c.args.path in
    let v = c.in_ok-stroke.field-0 in
    let list = c.listed-points in
    let qs = c.in_ok-vertices.vertices.items in
    let moved : qs ≡ map (shifted v.at) c.known.result.now = c.in_ok-vertices.ensures.value in
    let read = read_after m p v list.result c.known.result.now qs c.in_ok-stroke.ensures.ok list.ensures
    c.known.ensures moved in
    let fit = subst (λ (ps : List Point). All FitsPoint ps) (sym moved) c.in_ok-vertices.ensures.fit in
    let x = c.in-Some.start in
    let y = c.in-Some.end in
    let refusal = c.in_err-rings.field-0.0 in
    let refused = bands_refused c.args.ignore m p v qs x y refusal read fit (sym c.reaches.ensures ∙ c.in-Some.is)
    c.in_err-rings.ensures.refused in
    takes_refused c.args.ignore m (a_path p) c.from_residual-in_err-rings.result refusal
    c.from_residual-in_err-rings.ensures refused

pub returns : goal.returns
returns c =
    let m = c.args.self.now in
    let p = c.args.path in
    let v = c.in_ok-stroke.field-0 in
    let list = c.listed-points in
    let qs = c.in_ok-vertices.vertices.items in
    let moved : qs ≡ map (shifted v.at) c.known.result.now = c.in_ok-vertices.ensures.value in
    let read = read_after m p v list.result c.known.result.now qs c.in_ok-stroke.ensures.ok list.ensures
    c.known.ensures moved in
    let fit = subst (λ (ps : List Point). All FitsPoint ps) (sym moved) c.in_ok-vertices.ensures.fit in
    let x = c.in-Some.start in
    let y = c.in-Some.end in
    let both : reaches v.stroke.start v.stroke.end ≡ Some (x, y) = sym c.reaches.ensures ∙ c.in-Some.is in
    let rings = c.in_ok-rings.ensures in
    record {
      drawn = λ earlier s.
          let a = read earlier s in
          path_drawn earlier p v qs c.in_ok-rings.rings x y a (has_reaches earlier p v x y a.values both) rings.value;
      places = λ earlier s. tt;
      kept = λ earlier s.
          let a = (read earlier s).values in
          let h = has_reaches earlier p v x y a both in
          let set = modal path_set earlier in
          let shifts = modal repetition_set earlier in
          record {
            relative = s.relative;
            placed = s.placed;
            drawn = sym a.at;
            cell = s.cell;
            layer = sym a.layer;
            datatype = sym a.datatype;
            width = s.width;
            height = s.height;
            polygon = s.polygon;
            half_width = sym a.half;
            path = list_kept p.points set list.result m.path c.take.result c.or.result list.ensures
                c.take.ensures.value
                c.or.ensures s.path;
            start = sym h.start;
            end = sym h.end;
            repetition = repetition_kept p.position.repetition shifts m.repetition c.take-2.result c.after.result
                c.take-2.ensures.value c.after.ensures s.repetition;
            repeated = c.is_some-self.ensures;
            single = s.single;
          };
      none = λ earlier s.
          let a = read earlier s in
          path_none c.args.ignore earlier p v qs x y a fit (has_reaches earlier p v x y a.values both) rings.path;
      refused = tt;
      same = tt;
    }
