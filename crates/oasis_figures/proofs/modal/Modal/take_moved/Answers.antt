use Rattle.std.proofs.Common.{sym, subst}
use Rattle.oasis_records.specs.declared.record.Record.{Record}
use Rattle.oasis_figures.specs.inside.Taking.{Takes}
use Rattle.oasis_figures.proofs.modal.Modal.take_moved.Goals as goal

pub returns-in-Rectangle : goal.returns-in-Rectangle
returns-in-Rectangle c =
    subst (λ (r : Record). Takes c.args.ignore c.args.self.now r c.take_rectangle.result c.take_rectangle.new.self) (sym c.in-Rectangle.is)
    (c.take_rectangle.ensures c.args.ignore)

pub returns-in-Polygon : goal.returns-in-Polygon
returns-in-Polygon c =
    subst (λ (r : Record). Takes c.args.ignore c.args.self.now r c.take_polygon.result c.take_polygon.new.self) (sym c.in-Polygon.is)
    (c.take_polygon.ensures c.args.ignore)

pub returns-in-Path : goal.returns-in-Path
returns-in-Path c =
    subst (λ (r : Record). Takes c.args.ignore c.args.self.now r c.take_path.result c.take_path.new.self) (sym c.in-Path.is)
    (c.take_path.ensures)

pub returns-in-Placement : goal.returns-in-Placement
returns-in-Placement c =
    subst (λ (r : Record). Takes c.args.ignore c.args.self.now r c.take_placement.result c.take_placement.new.self) (sym c.in-Placement.is)
    (c.take_placement.ensures c.args.ignore)

pub returns-in-Text : goal.returns-in-Text
returns-in-Text c =
    subst (λ (r : Record). Takes c.args.ignore c.args.self.now r c.take_text.result c.take_text.new.self) (sym c.in-Text.is)
    (c.take_text.ensures c.args.ignore)

pub returns-in-XyAbsolute : goal.returns-in-XyAbsolute
returns-in-XyAbsolute c =
    subst (λ (r : Record). Takes c.args.ignore c.args.self.now r c.take_mode.result c.take_mode.new.self) (sym c.in-XyAbsolute.is)
    (c.take_mode.ensures c.args.ignore)

pub returns-in-XyRelative : goal.returns-in-XyRelative
returns-in-XyRelative c =
    subst (λ (r : Record). Takes c.args.ignore c.args.self.now r c.take_mode-in-XyRelative.result c.take_mode-in-XyRelative.new.self) (sym c.in-XyRelative.is)
    (c.take_mode-in-XyRelative.ensures c.args.ignore)

pub returns-in_default : goal.returns-in_default
returns-in_default c = c.take_other.ensures c.args.ignore
