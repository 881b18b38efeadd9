-- Results with rules of names or of figures, as results with rules of the file.
use Rattle.std.specs.Prelude.{Result, Ok, Err}
use Rattle.lvl_refusal.specs.declared.Cause.{Cause}
use Rattle.lvl_refusal.specs.declared.Cause.TheVariants.{Breach, OutOfMemory}
use Rattle.oasis_figures.specs.declared.rule.FigureRule.{FigureRule}
use Rattle.oasis_stream.specs.declared.fault.NameRule.{NameRule}
use Rattle.oasis_stream.specs.declared.fault.OasisKind.{OasisKind}
use Rattle.oasis_stream.specs.declared.fault.OasisKind.TheVariants.{Name, Figure}

abbrev pub of_name : {A : Type 0} → Result A (Cause NameRule) → Result A (Cause OasisKind)
of_name (Ok x) = Ok x
of_name (Err (Breach k)) = Err (Breach (Name k))
of_name (Err OutOfMemory) = Err OutOfMemory

abbrev pub of_figure : {A : Type 0} → Result A (Cause FigureRule) → Result A (Cause OasisKind)
of_figure (Ok x) = Ok x
of_figure (Err (Breach k)) = Err (Breach (Figure k))
of_figure (Err OutOfMemory) = Err OutOfMemory
