-- The command line of the program, as `clap` reads it, and what its words mean (own rule).
use Rattle.std.specs.Prelude.{◌≡◌, ◌⊎◌, ◌&&◌, ◌||◌, Bool, not, true, false, List, [], length, map, nat_lt, codes, count_by}
use Rattle.std.specs.Prelude.{Option, Some, None, option_map}
use Rattle.std.specs.Option.{option_map_or}
use Rattle.std.specs.Str.{bytes_eq}
use Rattle.std.specs.String.{string_bytes}
use Rattle.clap.specs.Walk.{Row, Rule, Text, all_of, first_of}
use Rattle.clap.specs.Values.{kind_of}
use Rattle.clap.specs.Kinds.{IsAmong}
use Rattle.clap.specs.Faults.{fault_of}
use Rattle.clap.specs.Simple.{App, new_app, new_rule, subcommand_of, with_rule, with_subcommand}
use Rattle.clap.specs.declared.error.Error.{Error}
use Rattle.clap.specs.declared.error.kind.ErrorKind.TheVariants.{ArgumentConflict}
use Rattle.clap.specs.declared.builder.action.ArgAction.TheVariants.{Append, SetTrue}
use Rattle.lvl_line.specs.declared.job.Job.{Job}
use Rattle.lvl_line.specs.declared.job.Job.TheVariants as job
use Rattle.lvl_line.specs.declared.job.LineFault.{LineFault}
use Rattle.lvl_line.specs.declared.job.LineFault.TheVariants as fault

-- a file, which must be given
abbrev pub file_rule : Text → Rule
file_rule id = record (new_rule id) { required = true }

-- files, of which at least one must be given
abbrev pub files_rule : Text → Rule
files_rule id = record (new_rule id) { required = true; action = Some Append }

-- an option with one value
abbrev pub option_rule : Text → Rule
option_rule id = record (new_rule id) { long = Some id; value_names = 1 }

-- an option with no value
abbrev pub flag_rule : Text → Rule
flag_rule id = record (new_rule id) { long = Some id; action = Some SetTrue }

-- `compare A B [--top-a NAME] [--top-b NAME] [--map PAIRS] [--window RANGES] [--ignore WORDS] [--large]
-- [--unpack] [--why] [--units]`
abbrev pub compare_app : App
compare_app = with_rule (with_rule (with_rule (with_rule (with_rule (with_rule (with_rule (with_rule (with_rule
    (with_rule (with_rule (new_app (codes "compare"))
    (file_rule (codes "A"))) (file_rule (codes "B")))
    (option_rule (codes "top-a"))) (option_rule (codes "top-b")))
    (option_rule (codes "map"))) (option_rule (codes "window"))) (option_rule (codes "ignore")))
    (flag_rule (codes "large"))) (flag_rule (codes "unpack"))) (flag_rule (codes "why"))) (flag_rule (codes "units"))

-- `show A [--top NAME] [--ignore WORDS] [--large] [--unpack]`
abbrev pub show_app : App
show_app = with_rule (with_rule (with_rule (with_rule (with_rule (new_app (codes "show")) (file_rule (codes "A")))
    (option_rule (codes "top"))) (option_rule (codes "ignore")))
    (flag_rule (codes "large"))) (flag_rule (codes "unpack"))

-- `digest A.. [--top NAME] [--ignore WORDS] [--large] [--unpack] [--list] [--check] [--quiet]`
abbrev pub digest_app : App
digest_app = with_rule (with_rule (with_rule (with_rule (with_rule (with_rule (with_rule (with_rule
    (new_app (codes "digest")) (files_rule (codes "A")))
    (option_rule (codes "top"))) (option_rule (codes "ignore"))) (flag_rule (codes "large")))
    (flag_rule (codes "unpack"))) (flag_rule (codes "list"))) (flag_rule (codes "check"))) (flag_rule (codes "quiet"))

-- `cells A [--ignore WORDS] [--large] [--unpack]`
abbrev pub cells_app : App
cells_app = with_rule (with_rule (with_rule (with_rule (new_app (codes "cells")) (file_rule (codes "A")))
    (option_rule (codes "ignore"))) (flag_rule (codes "large"))) (flag_rule (codes "unpack"))

-- a subcommand with `[--progress] [--no-progress]` too, which no job depends on
abbrev pub watched_app : App → App
watched_app app = with_rule (with_rule app (flag_rule (codes "progress"))) (flag_rule (codes "no-progress"))

-- the line without subcommands
abbrev pub plain_line : App
plain_line = new_app (codes "lvl")

-- the whole line: one of the four subcommands
abbrev pub line : App
line = with_subcommand (with_subcommand (with_subcommand (with_subcommand (record plain_line {
  top = record plain_line.top { has_version = true; subcommand_required = true };
}) (watched_app compare_app).top) (watched_app show_app).top) (watched_app digest_app).top) (watched_app cells_app).top

-- whether the option with no value is given: `clap` then gives it the text `true`
abbrev pub is_set : Text → List Row → Bool
is_set id rows = option_map_or (λ text. bytes_eq text (codes "true")) (first_of id rows) false

-- whether the name of a file is that of standard input
abbrev pub is_input_name : Text → Bool
is_input_name name = bytes_eq name (codes "-")

-- whether the file of an argument is standard input
abbrev pub is_input : Text → List Row → Bool
is_input id rows = option_map_or is_input_name (first_of id rows) false

-- whether both files of `compare` are standard input
abbrev pub is_compared_twice : List Row → Bool
is_compared_twice rows = is_input (codes "A") rows && is_input (codes "B") rows

-- whether several of the files of an argument are standard input
abbrev pub is_listed_twice : Text → List Row → Bool
is_listed_twice id rows = option_map_or (λ values. nat_lt 1 (count_by is_input_name values)) (all_of id rows) false

-- whether the argument has several values
abbrev pub is_several : Text → List Row → Bool
is_several id rows = option_map_or (λ values. nat_lt 1 (length values)) (all_of id rows) false

-- whether the options of `digest` don't go together: `--list` with `--check`, `--quiet` without `--check`, several files
-- without `--list`, or standard input several times
abbrev pub is_misplaced : List Row → Bool
is_misplaced rows =
    (is_set (codes "list") rows && is_set (codes "check") rows)
    || ((is_set (codes "quiet") rows && not (is_set (codes "check") rows))
    || ((not (is_set (codes "list") rows) && is_several (codes "A") rows)
    || is_listed_twice (codes "A") rows))

-- the words are those of `digest`, and its options don't go together, or those of `compare`, and both files are standard
-- input
abbrev pub IsMisplaced : Option (Text × List Row) → Type 0
IsMisplaced (Some (name, rows)) =
    ((name ≡ codes "digest") × (is_misplaced rows ≡ true))
    ⊎ ((name ≡ codes "compare") × (is_compared_twice rows ≡ true))
IsMisplaced None = ⊥

-- the job has the values that `clap` finds in the words, under the subcommand of that name
abbrev pub IsNamed : Job → Option (Text × List Row) → Type 0
IsNamed (job.Compare first second top_a top_b layers window ignored large unpack why units) (Some (name, rows)) =
    (name ≡ codes "compare")
    × (is_compared_twice rows ≡ false)
    × (first_of (codes "A") rows ≡ Some (string_bytes first))
    × (first_of (codes "B") rows ≡ Some (string_bytes second))
    × (first_of (codes "top-a") rows ≡ option_map string_bytes top_a)
    × (first_of (codes "top-b") rows ≡ option_map string_bytes top_b)
    × (first_of (codes "map") rows ≡ option_map string_bytes layers)
    × (first_of (codes "window") rows ≡ option_map string_bytes window)
    × (first_of (codes "ignore") rows ≡ option_map string_bytes ignored)
    × (is_set (codes "large") rows ≡ large)
    × (is_set (codes "unpack") rows ≡ unpack)
    × (is_set (codes "why") rows ≡ why)
    × (is_set (codes "units") rows ≡ units)
IsNamed (job.Show file top ignored large unpack) (Some (name, rows)) =
    (name ≡ codes "show")
    × (first_of (codes "A") rows ≡ Some (string_bytes file))
    × (first_of (codes "top") rows ≡ option_map string_bytes top)
    × (first_of (codes "ignore") rows ≡ option_map string_bytes ignored)
    × (is_set (codes "large") rows ≡ large)
    × (is_set (codes "unpack") rows ≡ unpack)
IsNamed (job.Cells file ignored large unpack) (Some (name, rows)) =
    (name ≡ codes "cells")
    × (first_of (codes "A") rows ≡ Some (string_bytes file))
    × (first_of (codes "ignore") rows ≡ option_map string_bytes ignored)
    × (is_set (codes "large") rows ≡ large)
    × (is_set (codes "unpack") rows ≡ unpack)
IsNamed (job.Digest file top ignored large unpack) (Some (name, rows)) =
    (name ≡ codes "digest")
    × (is_misplaced rows ≡ false)
    × (is_set (codes "list") rows ≡ false)
    × (is_set (codes "check") rows ≡ false)
    × (first_of (codes "A") rows ≡ Some (string_bytes file))
    × (first_of (codes "top") rows ≡ option_map string_bytes top)
    × (first_of (codes "ignore") rows ≡ option_map string_bytes ignored)
    × (is_set (codes "large") rows ≡ large)
    × (is_set (codes "unpack") rows ≡ unpack)
IsNamed (job.List files top ignored large unpack) (Some (name, rows)) =
    (name ≡ codes "digest")
    × (is_misplaced rows ≡ false)
    × (is_set (codes "list") rows ≡ true)
    × (all_of (codes "A") rows ≡ Some (map string_bytes files.items))
    × (first_of (codes "top") rows ≡ option_map string_bytes top)
    × (first_of (codes "ignore") rows ≡ option_map string_bytes ignored)
    × (is_set (codes "large") rows ≡ large)
    × (is_set (codes "unpack") rows ≡ unpack)
IsNamed (job.Check list quiet top ignored large unpack) (Some (name, rows)) =
    (name ≡ codes "digest")
    × (is_misplaced rows ≡ false)
    × (is_set (codes "list") rows ≡ false)
    × (is_set (codes "check") rows ≡ true)
    × (first_of (codes "A") rows ≡ Some (string_bytes list))
    × (is_set (codes "quiet") rows ≡ quiet)
    × (first_of (codes "top") rows ≡ option_map string_bytes top)
    × (first_of (codes "ignore") rows ≡ option_map string_bytes ignored)
    × (is_set (codes "large") rows ≡ large)
    × (is_set (codes "unpack") rows ≡ unpack)
IsNamed _ None = ⊥

-- the words mean the job, by `clap`
abbrev pub IsJob : List Text → Job → Type 0
IsJob words j = IsNamed j (subcommand_of line words)

-- `clap` finds no fault in the words, but they don't go together; the error is one of a conflict
abbrev pub IsConflict : List Text → Error → Type 0
IsConflict words e =
    (fault_of line words ≡ []) × IsMisplaced (subcommand_of line words) × (kind_of e ≡ ArgumentConflict)

-- the error is one that `clap` has for these words, or that of a conflict; out of memory is always possible
abbrev pub IsRefusal : List Text → LineFault → Type 0
IsRefusal words (fault.Words e) = IsAmong (kind_of e) (fault_of line words) ⊎ IsConflict words e
IsRefusal words fault.OutOfMemory = Unit {0}
