-- What `clap` finds in a line without a fault.
use Rattle.std.proofs.Common.{◌≡◌, ◌&&◌, ◌||◌, ℕ, Bool, cond, true, false, not, refl, subst, List, [], ◌∷◌, Option, ◌⊎◌, sym}
use Rattle.std.proofs.Common.{Result, Ok, Err, IfErr}
use Rattle.std.proofs.Common.{Some, None, inl, inr, is_some, codes, option_map}
use Rattle.std.specs.Prelude.{slice_get}
use Rattle.std.specs.Option.{option_map_or}
use Rattle.std.specs.List.{fold, list_any}
use Rattle.std.specs.Str.{bytes_eq}
use Rattle.std.proofs.lemmas.Slice.Eq.{bytes_eq-Decides}
use Rattle.clap.specs.Lexer.{long_of, short_of}
use Rattle.clap.specs.Walk.{Held, Names, Outcome, Row, Rule, Step, Text, Waiting, Walk, after_flag, after_step}
use Rattle.clap.specs.Walk.{answers_to, arg_by_index, done, idle, long_or_other, next, nothing_held, option, plain}
use Rattle.clap.specs.Walk.{plain_word, positional, refused, rows_after, short_or_plain, stop_after, subcommand}
use Rattle.clap.specs.Walk.{subcommand_met, subcommand_or_other, to_positional, trailing, value, waits, walk_from}
use Rattle.clap.specs.Walk.{walked, walked_from, word_met, bundle, long_met, arg_by_long}
use Rattle.clap.specs.Simple.{Shape, built, entered, label_of, names_of, argument_words, rows_at, subcommand_of}
use Rattle.clap.specs.Kinds.{check_kinds, or_else}
use Rattle.clap.specs.Takes.{is_given}
use Rattle.clap.specs.Faults.{entered_fault, fault_of, level_fault, other_fault, step_fault, turn_fault, walk_fault}
use Rattle.clap.specs.Faults.{word_fault}
use Rattle.clap.specs.declared.error.kind.ErrorKind.TheVariants as kind
use Rattle.lvl_line.specs.Line.{line, IsMisplaced, IsRefusal}
use Rattle.lvl_line.specs.declared.job.Job.{Job}
use Rattle.lvl_line.specs.declared.job.LineFault.{LineFault}
use Rattle.lvl_line.specs.declared.job.LineFault.TheVariants as fault
use Rattle.lvl_line.specs.inside.Given.{HasValue, IsConflictFault, IsJobOf}
use Rattle.lvl_line.proofs.Values.{HaveValues, WantValues, given_has_first, have_finished, neither}

-- ---- a level that ends without a fault

no_check : (x : Bool) → check_kinds false false x ≡ [] → x ≡ false
no_check true e = cc
no_check false e = refl

-- the last checks, if nothing except an argument can be missing
unmissed : (helps given required negates x : Bool) → helps ≡ false → required ≡ false → negates ≡ false
    → check_kinds (helps && given) required (not (negates && false) && x) ≡ [] → x ≡ false
unmissed helps given required negates x h r n e = no_check x (rw (h, r, n) at e)

abbrev pub misses : List Rule → List Row → Bool
misses rules rows = list_any (λ a. a.required && not (is_given a.id rows)) rules

-- its rows have values, and no required argument is missing
level_gives : (s : Shape) (words : List Text) → WantValues s.rules → s.arg_required_else_help ≡ false
    → s.subcommand_required ≡ false
    → s.subcommand_negates_reqs ≡ false → level_fault s [] nothing_held words false [] ≡ []
    → HaveValues (rows_after s.rules [] words) × (misses s.rules (rows_after s.rules [] words) ≡ false)
level_gives s words wants helps required negates none =
    let walked_well = neither _ _ none in
    let settled_well = neither _ _ walked_well.1 in
    let checked = neither _ _ settled_well.1 in (
      have_finished s words wants walked_well.0 settled_well.0,
      unmissed s.arg_required_else_help _ s.subcommand_required s.subcommand_negates_reqs
          (misses s.rules (rows_after s.rules [] words)) helps required negates checked.1,
    )

given_one : (a b : Bool) → (not a || b) ≡ false → (a ≡ true) × (b ≡ false)
given_one true b e = (refl, e)
given_one false b e = cc

-- ---- `help` ends a walk with a fault

abbrev help : Text
help = codes "help"

abbrev IsNotHelp : Step → Type 0
IsNotHelp (subcommand name) = bytes_eq name help ≡ false
IsNotHelp _ = Unit {0}

abbrev StopsAtNone : Option (Text × List Text) → Type 0
StopsAtNone o = option_map_or (λ p. bytes_eq p.0 help) o false ≡ false

plain_no_help : (c : List Rule) (waiting : Waiting) (word : Text) (h : Held) → IsNotHelp (plain_word c waiting word h).1
plain_no_help c (option id) word h = tt {0}
plain_no_help c idle word h = tt {0}
plain_no_help c positional word h = tt {0}

after_no_help : (c : List Rule) (waiting : Waiting) (word : Text) (h : Held) (o : Outcome)
    → IsNotHelp (after_flag c waiting word h o).1
after_no_help c waiting word h done = tt {0}
after_no_help c waiting word h (waits id) = tt {0}
after_no_help c waiting word h plain = plain_no_help c waiting word h
after_no_help c waiting word h refused = plain_no_help c waiting word h

flag_no_help : (c : List Rule) (waiting : Waiting) (word : Text) (o : Option (Text × Option Text)) (h : Held)
    → IsNotHelp (long_or_other c waiting word o h).1
flag_no_help c waiting word (Some p) h =
    after_no_help c waiting word (long_met c (arg_by_long c p.0) p.1 h).0 (long_met c (arg_by_long c p.0) p.1 h).1
flag_no_help c waiting word None h = go (short_of word)
  where
    go : (o : Option Text) → IsNotHelp (short_or_plain c waiting word o h).1
    go None = plain_no_help c waiting word h
    go (Some flags) = after_no_help c waiting word (bundle c flags h).0 (bundle c flags h).1

module _ (s : Shape) (names : Names) (enabled : s.disable_help_subcommand ≡ false) where
  no_help_named : (name word : Text) (h : Held) → other_fault s (Some name) word h ≡ [] → bytes_eq name help ≡ false
  no_help_named name word h none = go (bytes_eq name help) (rw enabled at none)
    where
      go : (b : Bool) → cond (b && true) (kind.DisplayHelp ∷ kind.InvalidSubcommand ∷ []) [] ≡ [] → b ≡ false
      go true e = cc
      go false e = refl

  word_no_help : (is_trailing : Bool) (waiting : Waiting) (position : ℕ) (word : Text) (h : Held)
      → word_fault s names is_trailing waiting word h ≡ []
      → IsNotHelp (word_met s.rules names is_trailing waiting position word h).1
  word_no_help true waiting position word h none = tt {0}
  word_no_help false waiting position word h none = go (subcommand_met names waiting word) none
    where
      dashes : (b : Bool)
          → IsNotHelp (cond b (h, trailing position) (long_or_other s.rules waiting word (long_of word) h)).1
      dashes true = tt {0}
      dashes false = flag_no_help s.rules waiting word (long_of word) h

      go : (o : Option Text) → other_fault s o word h ≡ []
          → IsNotHelp (subcommand_or_other s.rules o waiting position word h).1
      go (Some name) e = no_help_named name word h e
      go None e = dashes (bytes_eq word (45 ∷ 45 ∷ []))

  step_no_help : (word : Text) (v : Walk) (h : Held) (step : Step) → IsNotHelp step → StopsAtNone v.stopped
      → StopsAtNone (after_step s.rules word v h step).stopped
  step_no_help word v h (next waiting) fine stop = stop
  step_no_help word v h (trailing position) fine stop = stop
  step_no_help word v h (subcommand name) fine stop = fine
  step_no_help word v h value fine stop = go (arg_by_index s.rules v.position)
    where
      go : (o : Option Rule) → StopsAtNone (to_positional s.rules o word v h).stopped
      go None = stop
      go (Some a) = refl

  turn_no_help : (v : Walk) (word : Text) → turn_fault s names v word ≡ [] → StopsAtNone v.stopped
      → StopsAtNone (walked s.rules names v word).stopped
  unfolding walked
  turn_no_help v word none stop = go v.stopped none stop
    where
      go : (o : Option (Text × List Text))
          → cond (is_some o) [] (or_else (word_fault s names v.is_trailing v.waiting word v.held)
          (step_fault s v.position (word_met s.rules names v.is_trailing v.waiting v.position word v.held).0
          (word_met s.rules names v.is_trailing v.waiting v.position word v.held).1)) ≡ []
          → StopsAtNone o → StopsAtNone (walked_from s.rules names o v word).stopped
      go (Some p) e fine = fine
      go None e fine =
          step_no_help word v _ _ (word_no_help v.is_trailing v.waiting v.position word v.held (neither _ _ e).0) stop

  walk_no_help : (words : List Text) (v : Walk) → walk_fault s names v words ≡ [] → StopsAtNone v.stopped
      → StopsAtNone (fold (walked s.rules names) v words).stopped
  unfolding walk_fault
  walk_no_help [] v none stop = stop
  walk_no_help (word ∷ rest) v none stop =
      let parts = neither _ _ none in
      walk_no_help rest (walked s.rules names v word) parts.1 (turn_no_help v word parts.0 stop)

-- ---- the line

abbrev compare : Shape
compare = option_map_or (λ s. s) (slice_get (built line).subs 0) (built line).top

abbrev show : Shape
show = option_map_or (λ s. s) (slice_get (built line).subs 1) (built line).top

abbrev digest : Shape
digest = option_map_or (λ s. s) (slice_get (built line).subs 2) (built line).top

abbrev cells : Shape
cells = option_map_or (λ s. s) (slice_get (built line).subs 3) (built line).top

compare_gives : (rows : List Row) → HaveValues rows → misses compare.rules rows ≡ false
    → HasValue (codes "A") rows × HasValue (codes "B") rows
compare_gives rows have none =
    let first = given_one (is_given (codes "A") rows) _ none in
    let second = given_one (is_given (codes "B") rows) _ first.1 in
    (given_has_first (codes "A") rows have first.0, given_has_first (codes "B") rows have second.0)

one_gives : (rows : List Row) → HaveValues rows → misses show.rules rows ≡ false → HasValue (codes "A") rows
one_gives rows have none = given_has_first (codes "A") rows have (given_one (is_given (codes "A") rows) _ none).0

digest_gives : (rows : List Row) → HaveValues rows → misses digest.rules rows ≡ false → HasValue (codes "A") rows
digest_gives rows have none = given_has_first (codes "A") rows have (given_one (is_given (codes "A") rows) _ none).0

cells_gives : (rows : List Row) → HaveValues rows → misses cells.rules rows ≡ false → HasValue (codes "A") rows
cells_gives rows have none = given_has_first (codes "A") rows have (given_one (is_given (codes "A") rows) _ none).0

abbrev IsAJob : Option (Text × List Row) → Type 0
IsAJob None = Unit {0}
IsAJob (Some p) = IsJobOf p.0 p.1

job_named : (name own : Text) (rows found : List Row)
    → ◌≡◌ {A = Option (Text × List Row)} (Some (own, found)) (Some (name, rows)) → IsJobOf own found → IsJobOf name rows
job_named name own rows found e is = subst IsAJob e is

abbrev helping : Bool → Option Shape
helping h = cond (h || false) (slice_get (built line).subs 4) None

-- the subcommand whose name is the first that answers
abbrev found_by : Bool → Bool → Bool → Bool → Bool → Option Shape
found_by a b d e h =
    cond a (Some compare) (cond b (Some show) (cond d (Some digest) (cond e (Some cells) (helping h))))

at_subcommand : (p : Text × List Text) (name : Text) (rows : List Row) → bytes_eq p.0 help ≡ false
    → entered_fault (built line) (Some p) ≡ []
    → entered (built line) (Some p) ≡ Some (name, rows) → IsJobOf name rows
at_subcommand p name rows other =
    go (answers_to p.0 (label_of compare)) (answers_to p.0 (label_of show)) (answers_to p.0 (label_of digest))
    (answers_to p.0 (label_of cells)) (bytes_eq help p.0) refl
  where
    no_help : bytes_eq help p.0 ≡ true → ⊥
    no_help e =
        let same : help ≡ p.0 = (bytes_eq-Decides help p.0).0 e in
        let bad : bytes_eq help help ≡ false = rw (← same) at other in
        cc

    go : (a b d e h : Bool) → bytes_eq help p.0 ≡ h
        → option_map_or (λ (s : Shape). level_fault s [] nothing_held p.1 false []) (found_by a b d e h) [] ≡ []
        → option_map (λ (s : Shape). rows_at s p.1) (found_by a b d e h) ≡ Some (name, rows)
        → IsJobOf name rows
    go true b d e h is none found =
        let given = level_gives compare p.1 refl refl refl refl none in
        job_named name (codes "compare") rows (rows_after compare.rules [] p.1) found
        (inl (refl, (compare_gives _ given.0 given.1).0, (compare_gives _ given.0 given.1).1))
    go false true d e h is none found =
        let given = level_gives show p.1 refl refl refl refl none in
        job_named name (codes "show") rows (rows_after show.rules [] p.1) found
        (inr (inl (refl, one_gives _ given.0 given.1)))
    go false false true e h is none found =
        let given = level_gives digest p.1 refl refl refl refl none in
        job_named name (codes "digest") rows (rows_after digest.rules [] p.1) found
        (inr (inr (inl (refl, digest_gives _ given.0 given.1))))
    go false false false true h is none found =
        let given = level_gives cells p.1 refl refl refl refl none in
        job_named name (codes "cells") rows (rows_after cells.rules [] p.1) found
        (inr (inr (inr (refl, cells_gives _ given.0 given.1))))
    go false false false false true is none found = absurd (no_help is)
    go false false false false false is none found = cc

at_stop : (o : Option (Text × List Text)) (name : Text) (rows : List Row) → StopsAtNone o
    → entered_fault (built line) o ≡ []
    → entered (built line) o ≡ Some (name, rows) → IsJobOf name rows
at_stop None name rows fine none found = cc
at_stop (Some p) name rows fine none found = at_subcommand p name rows fine none found

-- a line in which `clap` finds no fault has a subcommand and its files
pub line_gives : (words : List Text) (name : Text) (rows : List Row) → fault_of line words ≡ []
    → subcommand_of line words ≡ Some (name, rows) → IsJobOf name rows
line_gives words name rows none found =
    let top = (built line).top in
    let outer = neither _ _ none in
    let inner = neither _ _ outer.1 in
    at_stop (stop_after top.rules (names_of (built line)) (argument_words line words)) name rows
    (walk_no_help top (names_of (built line)) refl (argument_words line words) (walk_from nothing_held) outer.0 refl)
    inner.0 found

module _ {X A B : Type 0} (f : X → A) (g : X → B) where
  abbrev pub both_of : X → A × B
  both_of x = (f x, g x)

  -- a pair, by its halves
  pub pair_of : (o : Option X) (n : A) (r : B) → Some n ≡ option_map f o
      → Some r ≡ option_map (λ (p : A × B). p.1) (option_map both_of o)
      → ◌≡◌ {A = Option (A × B)} (option_map both_of o) (Some (n, r))
  pair_of None n r e h = cc
  pair_of (Some x) n r e h = cc

-- ---- options that don't go together

-- a fault of the job of a line is one of the line
pub conflict_refused : (words : List Text) (r : Result Job LineFault) (met : Option (Text × List Row))
    → fault_of line words ≡ [] → subcommand_of line words ≡ met
    → IfErr r (λ f. (f ≡ fault.OutOfMemory) ⊎ (IsMisplaced met × IsConflictFault f)) → IfErr r (IsRefusal words)
conflict_refused words (Ok job) met none found h = tt
conflict_refused words (Err f) met none found (inl memory) = subst (IsRefusal words) (sym memory) (tt {0})
conflict_refused words (Err (fault.Words e)) met none found (inr h) =
    inr (none, subst IsMisplaced (sym found) h.0, h.1)
conflict_refused words (Err fault.OutOfMemory) met none found (inr h) = absurd h.1

-- and if `clap` takes the line, its options don't go together
pub conflict_taken : (words : List Text) (r : Result Job LineFault) (met : Option (Text × List Row))
    → subcommand_of line words ≡ met
    → IfErr r (λ f. (f ≡ fault.OutOfMemory) ⊎ (IsMisplaced met × IsConflictFault f))
    → IfErr r (λ f. (f ≡ fault.OutOfMemory) ⊎ IsMisplaced (subcommand_of line words))
conflict_taken words (Ok job) met found h = tt
conflict_taken words (Err f) met found (inl memory) = inl memory
conflict_taken words (Err f) met found (inr h) = inr (subst IsMisplaced (sym found) h.0)
