-- A text breaches no rule that is tested after its variables.
use Rattle.std.proofs.Common.{List, arith}
use Rattle.std.specs.Prelude.{Option}
use Rattle.lvl_profile.specs.declared.ignore.Ignore.{Ignore}
use Rattle.oasis_values.specs.declared.repetition.Repetition.{Repetition}
use Rattle.oasis_records.specs.declared.record.Record.{Record}
use Rattle.oasis_figures.specs.declared.rule.FigureRule.TheVariants.{Undefined, Layer as WideLayer, OutOfRange}
use Rattle.oasis_figures.specs.declared.rule.FigureRule.TheVariants.{Magnification, Angle, Extension, Oblique, Path}
use Rattle.oasis_figures.specs.inside.Taking.{a_text}
use Rattle.oasis_figures.proofs.Defined.{BreaksNoLater}

pub no_later : (ignore : Ignore) (earlier : List Record) (r : Option Repetition)
    → BreaksNoLater ignore earlier (a_text r)
no_later ignore earlier r (Undefined v) lt b = omega (arith, lt)
no_later ignore earlier r WideLayer lt b = b
no_later ignore earlier r OutOfRange lt b = b
no_later ignore earlier r Magnification lt b = b
no_later ignore earlier r Angle lt b = b
no_later ignore earlier r Extension lt b = b
no_later ignore earlier r Oblique lt b = b
no_later ignore earlier r (Path f) lt b = b
