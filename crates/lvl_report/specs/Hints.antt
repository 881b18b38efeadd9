-- What would mend a refusal: to ignore more, to lift limits, to read compressed blocks, or to use another program (own
-- rule).
use Rattle.std.specs.Prelude.{ℕ, ◌==◌, ◌&&◌, not, nat_lt, if◌then◌else◌, Bool, true, false, List, [], ◌∷◌, Option, Some, None}
use Rattle.std.specs.Prelude.{◌≡◌, Result, Ok, Err, is_ok, option_map}
use Rattle.lvl_cells.specs.declared.fault.CellFault.TheVariants.{TooManyPlacements, TooManyRings}
use Rattle.lvl_cells.specs.declared.fault.CellFault.{CellFault}
use Rattle.lvl_path.specs.declared.fault.PathFault.TheVariants.{RepeatedPoint}
use Rattle.lvl_profile.specs.Limits.{large}
use Rattle.lvl_profile.specs.declared.ignore.Ignore.{Ignore}
use Rattle.lvl_profile.specs.declared.limits.Limits.{Limits}
use Rattle.lvl_profile.specs.declared.profile.Profile.{Profile}
use Rattle.gds_records.specs.Table.{is_ignored}
use Rattle.gds_records.specs.declared.fault.RecordFault.{RecordFault}
use Rattle.gds_records.specs.declared.fault.RecordFault.TheVariants.{BadLength, BadDataType, UnknownRecord}
use Rattle.gds_records.specs.declared.fault.RecordFault.TheVariants.{TooLong as RecordTooLong}
use Rattle.gds_elements.specs.declared.fault.ElementRule.TheVariants.{Path as GdsPath, Repetition}
use Rattle.gds_elements.specs.declared.fault.Misplaced.TheVariants.{Unsupported as UnsupportedType}
use Rattle.gds_library.specs.declared.fault.GdsKind.{GdsKind}
use Rattle.gds_library.specs.declared.fault.GdsKind.TheVariants.{Record as GdsRecord, Misplaced, Element}
use Rattle.gds_library.specs.declared.fault.GdsKind.TheVariants.{TooManyCells as TooManyStructures}
use Rattle.oasis_values.specs.declared.fault.ValueFault.TheVariants.{IntegerTooLarge, RepetitionSize, TooLong}
use Rattle.oasis_records.specs.Records.{record_type}
use Rattle.oasis_records.specs.declared.fault.RecordRule.TheVariants.{Unsupported as UnsupportedId}
use Rattle.oasis_figures.specs.declared.rule.FigureRule.TheVariants.{Path as OasisPath}
use Rattle.oasis_blocks.specs.declared.fault.BlockRule.TheVariants.{TooLong as BlockTooLong}
use Rattle.oasis_stream.specs.declared.fault.OasisKind.{OasisKind}
use Rattle.oasis_stream.specs.declared.fault.OasisKind.TheVariants.{Block, Figure, Value, Record, TooManyCells}
use Rattle.oasis_library.specs.declared.fault.OasisFault.TheVariants.{At, Unresolved}
use Rattle.lvl.specs.declared.layout.FileFault.{FileFault}
use Rattle.lvl.specs.declared.layout.FileFault.TheVariants.{Gds, Oasis}
use Rattle.lvl.specs.declared.verdict.Refusal.{Refusal}
use Rattle.lvl.specs.declared.verdict.Refusal.TheVariants.{File, Cells}
use Rattle.lvl.specs.declared.question.Answer.{Answer}
use Rattle.lvl_report.specs.Writing.{shown_status, status_of}
use Rattle.lvl_report.specs.declared.status.Status.{Status}
use Rattle.lvl_report.specs.Beside.{IsLineOf, IsLineOfOne}
use Rattle.lvl_report.specs.declared.outcome.Outcome.{Outcome}
use Rattle.lvl_report.specs.declared.hint.Hint.{Hint}
use Rattle.lvl_report.specs.declared.hint.Hint.TheVariants.{Foreign, IgnoreMore, LiftLimits, ReadBlocks}

-- whether records of the kind for which a GDSII file is refused, or points that equal the one before, are read under
-- the profile
abbrev pub reads_record : Profile → GdsKind → Bool
reads_record profile (Misplaced (UnsupportedType kind)) = is_ignored profile.ignore kind
reads_record profile (Element (GdsPath RepeatedPoint)) = profile.ignore.points
reads_record profile kind = false

-- whether records of the kind for which an OASIS file is refused, integers of more bytes, or points that equal the one
-- before, are read under the profile
abbrev pub reads_spelling : Profile → OasisKind → Bool
reads_spelling profile (Value IntegerTooLarge) = profile.ignore.padding
reads_spelling profile (Record (UnsupportedId id)) = is_ok (record_type profile id)
reads_spelling profile (Figure (OasisPath RepeatedPoint)) = profile.ignore.points
reads_spelling profile kind = false

-- whether that for which a file of either format is refused is read under the profile
abbrev pub is_read_by : Profile → FileFault → Bool
is_read_by profile (Gds fault) = reads_record profile fault.kind
is_read_by profile (Oasis (At offset kind)) = reads_spelling profile kind
is_read_by profile (Oasis (Unresolved number)) = false

-- the sets with one more word than `given`, in the order of the words
abbrev pub with_one_more : Ignore → List Ignore
with_one_more given =
    record given { properties = true } ∷ record given { texts = true } ∷ record given { names = true }
    ∷ record given { padding = true } ∷ record given { points = true } ∷ []

-- the first of the sets with which these are read, if nothing else is changed
abbrev pub first_that_reads : Profile → FileFault → List Ignore → Option Ignore
first_that_reads given fault [] = None
first_that_reads given fault (more ∷ others) =
    if is_read_by (record given { ignore = more }) fault then Some more else first_that_reads given fault others

-- what to ignore so that they are read; None if they are read already, or if no word would change that. The value or
-- the place of the one that is refused may still breach a rule
abbrev pub to_ignore : Profile → FileFault → Option Ignore
to_ignore given fault =
    if is_read_by given fault then None else first_that_reads given fault (with_one_more given.ignore)

-- whether a GDSII file is refused by a limit that is lower than the one for whole chips
abbrev pub lifts_gds : Limits → GdsKind → Bool
lifts_gds given (GdsRecord RecordTooLong) = nat_lt given.file large.file
lifts_gds given (Element Repetition) = nat_lt given.array large.array
lifts_gds given TooManyStructures = nat_lt given.cells large.cells
lifts_gds given kind = false

-- whether an OASIS file is refused by a limit that is lower than the one for whole chips
abbrev pub lifts_oasis : Limits → OasisKind → Bool
lifts_oasis given (Value TooLong) = nat_lt given.file large.file
lifts_oasis given (Block BlockTooLong) = nat_lt given.file large.file
lifts_oasis given (Value RepetitionSize) = nat_lt given.placed large.placed
lifts_oasis given TooManyCells = nat_lt given.cells large.cells
lifts_oasis given kind = false

-- whether a file of either format is refused by a limit that is lower than the one for whole chips
abbrev pub lifts_file : Limits → FileFault → Bool
lifts_file given (Gds fault) = lifts_gds given fault.kind
lifts_file given (Oasis (At offset kind)) = lifts_oasis given kind
lifts_file given (Oasis (Unresolved number)) = false

-- whether a library is refused by such a limit
abbrev pub lifts_cells : Limits → CellFault → Bool
lifts_cells given TooManyPlacements = nat_lt given.placed large.placed
lifts_cells given TooManyRings = nat_lt given.placed large.placed
lifts_cells given fault = false

-- whether the fault is one of the header of a record, other than that the input ends
abbrev pub is_headless : RecordFault → Bool
is_headless BadLength = true
is_headless BadDataType = true
is_headless UnknownRecord = true
is_headless fault = false

-- the id of a CBLOCK (SEMI P39, "CBLOCK record")
abbrev pub cblock : ℕ
cblock = 34

-- a file whose first record has a faulty header is perhaps of another format
abbrev pub of_first : ℕ → GdsKind → Option Hint
of_first offset (GdsRecord fault) = if (offset == 0) && is_headless fault then Some Foreign else None
of_first offset kind = None

-- an OASIS file with a CBLOCK, if blocks aren't read
abbrev pub of_block : Profile → OasisKind → Option Hint
of_block given (Record (UnsupportedId id)) = if (id == cblock) && not given.unpack then Some ReadBlocks else None
of_block given kind = None

-- a hint at a file or a part of it that is packed
abbrev pub of_packed : Profile → FileFault → Option Hint
of_packed given (Gds fault) = of_first fault.offset fault.kind
of_packed given (Oasis (At offset kind)) = of_block given kind
of_packed given (Oasis (Unresolved number)) = None

-- the hint to ignore more if there is one, else the other hint
abbrev pub ignore_or : Option Ignore → Option Hint → Option Hint
ignore_or (Some more) other = Some (IgnoreMore more)
ignore_or None other = other

-- the hint for a file that is refused
abbrev pub hint_of_file : Profile → FileFault → Option Hint
hint_of_file given fault =
    if lifts_file given.limits fault then Some LiftLimits else ignore_or (to_ignore given fault) (of_packed given fault)

-- the hint if a file is refused
abbrev pub hint_of : Profile → Refusal → Option Hint
hint_of given (File side fault) = hint_of_file given fault
hint_of given (Cells side r) = if lifts_cells given.limits r.fault then Some LiftLimits else None
hint_of given refusal = None

-- how a run ends: its status, the hint of a refusal, and the line that is said beside the answer
pub record IsEnd (status : Status) (hint : Option Hint) (Line : Option (List ℕ) → Type 0) (o : Outcome) : Type 0 where
  pub status_is : o.status ≡ status
  pub hint_is : o.hint ≡ hint
  pub line_is : Line (option_map (λ text. text.items) o.line)

-- the hint of an answer: that of a refusal
abbrev pub hint_in : {X : Type 0} → Profile → Result X Refusal → Option Hint
hint_in given (Ok x) = None
hint_in given (Err refusal) = hint_of given refusal

-- how a run on two files ends
abbrev pub IsOutcomeOf : Profile → Result Answer Refusal → Outcome → Type 0
IsOutcomeOf given answer = IsEnd (status_of answer) (hint_in given answer) (IsLineOf answer)

-- how a run on a single file ends
abbrev pub IsShownOutcome : {X : Type 0} → Profile → Result X Refusal → Outcome → Type 0
IsShownOutcome given answer = IsEnd (shown_status answer) (hint_in given answer) (IsLineOfOne answer)
