use Rattle.std.proofs.Common.{List, refl, sym, subst}
use Rattle.oasis_records.specs.declared.record.Record.{Record}
use Rattle.oasis_library.specs.inside.Holds.{Holds}
use Rattle.oasis_stream.specs.Order.{names_in}
use Rattle.oasis_stream.specs.Rules.{since_cell, KeepsRules}
use Rattle.oasis_library.proofs.Growing.{is_other}
use Rattle.oasis_library.proofs.Holding.{cell_goes, cell_keeps, other_goes, name_ok, figure_ok}
use Rattle.oasis_library.proofs.reading.Reading.take.Goals as goal

pub returns-in-Cell-clause-kept : goal.returns-in-Cell-clause-kept
returns-in-Cell-clause-kept c = λ rs h.
    cell_goes c.args.self.now _ rs c.args.next.now c.in-Cell.name c.in-Cell.is h c.pass.ensures
    (name_ok c.take.result c.of_name.result c.in_ok-of_name.field-0 c.of_name.ensures c.in_ok-of_name.was
    c.take.ensures.kept (names_in rs) h.names)
    c.new.ensures c.in_ok-begin.ensures c.pass-2.ensures.unit c.pass-2.ensures.validation

pub returns-in-Cell-clause-none : goal.returns-in-Cell-clause-none
returns-in-Cell-clause-none c = λ rs h. subst (KeepsRules c.args.profile rs) (sym c.in-Cell.is)
    (cell_keeps c.args.profile rs c.in-Cell.name)

pub add-requires : goal.add-requires
add-requires c =
    let w = c.requires in (
      since_cell w.0,
      c.args.next.now,
      (figure_ok c.args.profile.ignore c.args.self.now.modal c.take-2.new.self c.args.next.now c.take-2.result
          c.of_figure.result
          c.in_ok-drawn.drawn c.of_figure.ensures c.in_ok-drawn.was
          (record {
            drawn = c.take-2.ensures.drawn;
            places = c.take-2.ensures.places;
            kept = c.take-2.ensures.kept;
            none = c.take-2.ensures.none;
          }) (since_cell w.0) w.1.modal).0,
    )

pub returns : goal.returns
returns c =
    let holds = λ (rs : List Record) (h : Holds c.args.self.now rs).
    figure_ok c.args.profile.ignore c.args.self.now.modal c.take-2.new.self c.args.next.now c.take-2.result
    c.of_figure.result c.in_ok-drawn.drawn
    c.of_figure.ensures c.in_ok-drawn.was
    (record {
      drawn = c.take-2.ensures.drawn;
      places = c.take-2.ensures.places;
      kept = c.take-2.ensures.kept;
      none = c.take-2.ensures.none;
    }) (since_cell rs) h.modal in
    record {
      refused = tt;
      kept = λ rs h.
          other_goes c.args.self.now _ rs c.args.next.now (is_other c.args.next.now c.in_default.not-Cell) h c.pass.ensures
          (name_ok c.take.result c.of_name.result c.in_ok-of_name.field-0 c.of_name.ensures c.in_ok-of_name.was
          c.take.ensures.kept (names_in rs) h.names)
          (holds rs h).0.stands (c.in_ok-add.ensures (since_cell rs) c.args.next.now (holds rs h).0) c.pass-2.ensures.unit
          c.pass-2.ensures.validation;
      none = λ rs h. (
        name_ok c.take.result c.of_name.result c.in_ok-of_name.field-0 c.of_name.ensures c.in_ok-of_name.was
            c.take.ensures.none (names_in rs) h.names,
        (holds rs h).1,
      );
      room = refl;
    }
