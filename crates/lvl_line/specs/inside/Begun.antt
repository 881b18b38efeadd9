-- Parts of the command line while it is described to `clap`.
use Rattle.std.specs.Prelude.{codes, true}
use Rattle.clap.specs.Simple.{App, new_app, with_rule, with_subcommand}
use Rattle.lvl_line.specs.Line.{compare_app, digest_app, file_rule, files_rule, flag_rule, option_rule, plain_line}
use Rattle.lvl_line.specs.Line.{show_app, watched_app}

-- `compare` with its files and the options that name their tops
abbrev pub tops_app : App
tops_app = with_rule (with_rule (with_rule (with_rule (new_app (codes "compare"))
    (file_rule (codes "A"))) (file_rule (codes "B")))
    (option_rule (codes "top-a"))) (option_rule (codes "top-b"))

-- `digest` with its files and the options that hold for each
abbrev pub several_app : App
several_app = with_rule (with_rule (with_rule (with_rule (with_rule (new_app (codes "digest")) (files_rule (codes "A")))
    (option_rule (codes "top"))) (option_rule (codes "ignore")))
    (flag_rule (codes "large"))) (flag_rule (codes "unpack"))

-- a line with the subcommand `compare` only
abbrev pub comparing_line : App
comparing_line = with_subcommand (record plain_line {
  top = record plain_line.top { has_version = true; subcommand_required = true };
}) (watched_app compare_app).top

-- the line with the subcommands `compare`, `show` and `digest`
abbrev pub hashing_line : App
hashing_line =
    with_subcommand (with_subcommand comparing_line (watched_app show_app).top) (watched_app digest_app).top
