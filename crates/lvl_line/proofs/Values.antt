-- If a level of a parse ends without a fault, each argument that was given has a value.
use Rattle.std.proofs.Common.{◌≡◌, ◌∙◌, ◌<◌, ◌+◌, min, ◌&&◌, ◌||◌, ◌⊎◌, ℕ, Bool, cond, true, false, zero, suc, refl}
use Rattle.std.proofs.Common.{sym, ap, arith, List, [], ◌∷◌, ◌++◌, length, drop, Option, Some, None, inl, inr, is_some}
use Rattle.std.proofs.Common.{ltb-true}
use Rattle.std.specs.Prelude.{encode_utf8, slice_get, nat_lt, option_and_then}
use Rattle.std.specs.Option.{option_map_or}
use Rattle.std.specs.List.{find, fold, list_all, list_any}
use Rattle.std.specs.Str.{bytes_eq, chars}
use Rattle.std.proofs.lemmas.List.{length-append}
use Rattle.std.proofs.lemmas.Bool.{and_parts}
use Rattle.clap.specs.Lexer.{long_of, short_of}
use Rattle.clap.specs.Values.{is_request}
use Rattle.clap.specs.Facts.{explicit_source, unwrap_or_range}
use Rattle.clap.specs.Matches.{count_text}
use Rattle.clap.specs.Walk.{Held, Names, Outcome, Row, Rule, Step, Text, Waiting, Walk, action_of, after_flag}
use Rattle.clap.specs.Walk.{after_step, arg_by_id, arg_by_index, arg_by_long, arg_by_short, at_row, attached_value}
use Rattle.clap.specs.Walk.{bundle, bundle_met, bundle_step, count_of, counted, default_rows, done, finished, first_of}
use Rattle.clap.specs.Walk.{flag_met, is_pending, long_met, long_or_other, more_values, new_count, next, nothing_held}
use Rattle.clap.specs.Walk.{option, option_met, option_word, plain, plain_word, positional, idle, reacted, reading_by}
use Rattle.clap.specs.Walk.{refused, settled, settled_rows, short_met, short_or_plain, subcommand, subcommand_met}
use Rattle.clap.specs.Walk.{subcommand_or_other, takes_several, takes_values, to_positional, trailing, used, used_as}
use Rattle.clap.specs.Walk.{used_by_id, value, values_or_missing, waits, walk, walk_from, walked, walked_from}
use Rattle.clap.specs.Walk.{with_count, with_default, with_values, without, word_met}
use Rattle.clap.specs.Simple.{Shape}
use Rattle.clap.specs.Kinds.{Kinds, or_else, range_kinds}
use Rattle.clap.specs.Takes.{is_given}
use Rattle.clap.specs.Faults.{bundle_fault, bundle_step_fault, flag_word_fault, flags_fault, long_fault, option_fault}
use Rattle.clap.specs.Faults.{other_fault, positional_fault, react_fault, settle_fault, short_fault, step_fault}
use Rattle.clap.specs.Faults.{stray_fault, turn_fault, use_fault, walk_fault, word_fault}
use Rattle.clap.specs.declared.builder.action.ArgAction.{ArgAction}
use Rattle.clap.specs.declared.builder.action.ArgAction.TheVariants as action
use Rattle.clap.specs.declared.parser.matches.ValueSource.{ValueSource}
use Rattle.clap.specs.declared.parser.matches.ValueSource.TheVariants.{DefaultValue, CommandLine}
use Rattle.clap.specs.declared.builder.value_parser.Reading.{Reading}
use Rattle.clap.specs.declared.error.kind.ErrorKind.TheVariants as kind

-- ---- rows, each with a value

abbrev pub HaveValues : List Row → Type 0
HaveValues [] = Unit {0}
HaveValues (r ∷ rs) = (0 < length r.values) × HaveValues rs

have_append : (xs ys : List Row) → HaveValues xs → HaveValues ys → HaveValues (xs ++ ys)
have_append [] ys h k = k
have_append (x ∷ xs) ys h k = (h.0, have_append xs ys h.1 k)

have_at_row : (id : Text) (change : Row → List Row) (missing rows : List Row)
    → ((r : Row) → 0 < length r.values → HaveValues (change r))
    → HaveValues missing → HaveValues rows → HaveValues (at_row id change missing rows)
have_at_row id change missing [] changed m h = m
have_at_row id change missing (r ∷ rs) changed m h =
    go (bytes_eq r.id id) (have_at_row id change missing rs changed m h.1)
  where
    go : (b : Bool) → HaveValues (at_row id change missing rs)
        → HaveValues (cond b (change r ++ rs) (r ∷ at_row id change missing rs))
    go true rest = have_append (change r) rs (changed r h.0) h.1
    go false rest = (h.0, rest)

have_without : (id : Text) (rows : List Row) → HaveValues rows → HaveValues (without id rows)
have_without id rows h = have_at_row id (λ r. []) [] rows (λ r lt. tt {0}) (tt {0}) h

have_with_values : (id : Text) (how : Reading) (s : ValueSource) (values : List Text) (rows : List Row)
    → 0 < length values → HaveValues rows
    → HaveValues (with_values id how s values rows)
have_with_values id how s values rows lt h =
    have_at_row id (more_values s values) _ rows (λ r some. (omega (arith, length-append r.values values), tt {0}))
    (lt, tt {0}) h

have_with_count : (id : Text) (how : Reading) (s : ValueSource) (n : ℕ) (rows : List Row) → HaveValues rows
    → HaveValues (with_count id how s n rows)
have_with_count id how s n rows h =
    have_at_row id (new_count s n) _ rows
    (λ r some. (omega (arith, length-append r.values (count_text n ∷ [])), tt {0})) (omega arith, tt {0}) h

-- ---- one use of an argument

-- a use of the argument asks for help or the version, or needs at least one value, or has values that stand for none
abbrev pub wants_value : Rule → Bool
wants_value a =
    is_request (action_of a) || (nat_lt 0 (unwrap_or_range a.range).start_inclusive || nat_lt 0 (length a.missing))

abbrev pub WantValues : List Rule → Type 0
WantValues c = list_all wants_value c ≡ true

pub neither : (a b : Kinds) → or_else a b ≡ [] → (a ≡ []) × (b ≡ [])
neither [] b e = (refl, e)
neither (k ∷ ks) b e = cc

either : (a b : Bool) → (a || b) ≡ true → (a ≡ true) ⊎ (b ≡ true)
either true b e = inl refl
either false b e = inr e

-- if at least one value is needed and there is no fault, there is one
given_some : (least most : ℕ) (values : List Text) → nat_lt 0 least ≡ true → range_kinds least most (length values) ≡ []
    → 0 < length values
given_some least most [] some none = absurd (go (nat_lt 0 least) some none)
  where
    go : (b : Bool) → b ≡ true → range_kinds least most 0 ≡ [] → ⊥
    go b t e =
        let bad : kind.InvalidValue ∷ [] ≡ [] = rw some at e in
        cc
given_some least most (v ∷ vs) some none = omega arith

same_values : (a : Rule) (values : List Text) → 0 < length values → values_or_missing a values ≡ values
same_values a [] lt = absurd (omega arith)
same_values a (v ∷ vs) lt = refl

have_counted : (id : Text) (how : Reading) (values : List Text) (rows : List Row) → HaveValues rows
    → HaveValues (counted id how values rows)
have_counted id how [] rows h =
    have_with_count id how CommandLine (min (count_of id rows + 1) 255) (without id rows) (have_without id rows h)
have_counted id how (v ∷ vs) rows h =
    have_with_values id how CommandLine (v ∷ vs) (without id rows) (omega arith) (have_without id rows h)

have_used_as : (x : ArgAction) (id : Text) (how : Reading) (values : List Text) (rows : List Row)
    → (is_request x ≡ true) ⊎ (0 < length values)
    → HaveValues rows → HaveValues (used_as x id how values rows)
have_used_as action.Set id how values rows (inl e) h = cc
have_used_as action.Set id how values rows (inr lt) h =
    have_with_values id how CommandLine values (without id rows) lt (have_without id rows h)
have_used_as action.SetTrue id how values rows (inl e) h = cc
have_used_as action.SetTrue id how values rows (inr lt) h =
    have_with_values id how CommandLine values (without id rows) lt (have_without id rows h)
have_used_as action.SetFalse id how values rows (inl e) h = cc
have_used_as action.SetFalse id how values rows (inr lt) h =
    have_with_values id how CommandLine values (without id rows) lt (have_without id rows h)
have_used_as action.Append id how values rows (inl e) h = cc
have_used_as action.Append id how values rows (inr lt) h = have_with_values id how CommandLine values rows lt h
have_used_as action.Count id how values rows some h = have_counted id how values rows h
have_used_as action.Help id how values rows some h = h
have_used_as action.HelpShort id how values rows some h = h
have_used_as action.HelpLong id how values rows some h = h
have_used_as action.Version id how values rows some h = h

have_used : (again : Bool) (a : Rule) (values : List Text) (rows : List Row) → wants_value a ≡ true
    → use_fault again a values rows ≡ [] → HaveValues rows
    → HaveValues (used a values rows)
have_used again a values rows wants none h =
    have_used_as (action_of a) a.id (reading_by a) (values_or_missing a values) rows (some (either _ _ wants)) h
  where
    stands : (vs : List Text) → 0 < length a.missing → 0 < length (values_or_missing a vs)
    stands [] lt = lt
    stands (v ∷ vs) lt = omega arith

    least : (nat_lt 0 (unwrap_or_range a.range).start_inclusive ≡ true) ⊎ (nat_lt 0 (length a.missing) ≡ true)
        → 0 < length (values_or_missing a values)
    least (inl e) =
        let lt = given_some _ _ values e (neither _ _ none).0 in
        rw (same_values a values lt) lt
    least (inr e) = stands values (ltb-true 0 (length a.missing) e)

    some : (is_request (action_of a) ≡ true)
        ⊎ ((nat_lt 0 (unwrap_or_range a.range).start_inclusive || nat_lt 0 (length a.missing)) ≡ true)
        → (is_request (action_of a) ≡ true) ⊎ (0 < length (values_or_missing a values))
    some (inl e) = inl e
    some (inr e) = inr (least (either _ _ e))

-- ---- the walk

found_wants : (p : Rule → Bool) (c : List Rule) (a : Rule) → WantValues c → find p c ≡ Some a → wants_value a ≡ true
found_wants p [] a w e = cc
found_wants p (x ∷ xs) a w e = go (p x) (found_wants p xs a (and_parts _ _ w).1) e
  where
    go : (b : Bool) → (find p xs ≡ Some a → wants_value a ≡ true) → cond b (Some x) (find p xs) ≡ Some a
        → wants_value a ≡ true
    go true rest same = ap (λ (o : Option Rule). option_map_or wants_value o true) (sym same) ∙ (and_parts _ _ w).0
    go false rest same = rest same

module _ (c : List Rule) (again : Bool) (w : WantValues c) where
  have_settled : (h : Held) → settle_fault c again h ≡ [] → HaveValues h.rows → HaveValues (settled c h).rows
  have_settled h none have = go h.pending none
    where
      one : (p : Text × List Text) (o : Option Rule) → arg_by_id c p.0 ≡ o
          → option_map_or (λ a. use_fault again a p.1 h.rows) o [] ≡ []
          → HaveValues (used_by_id o p.1 h.rows)
      one p None found e = have
      one p (Some a) found e = have_used again a p.1 h.rows (found_wants _ c a w found) e have

      go : (o : Option (Text × List Text))
          → option_map_or (λ p. option_map_or (λ a. use_fault again a p.1 h.rows) (arg_by_id c p.0) []) o [] ≡ []
          → HaveValues (settled_rows c o h.rows)
      go None e = have
      go (Some p) e = one p (arg_by_id c p.0) refl e

  have_reacted : (a : Rule) (values : List Text) (h : Held) → wants_value a ≡ true → react_fault c again a values h ≡ []
      → HaveValues h.rows
      → HaveValues (reacted c a values h).rows
  have_reacted a values h wants none have =
      let parts = neither _ _ none in
      have_used again a values (settled c h).rows wants parts.1 (have_settled h parts.0 have)

  have_option : (a : Rule) (v : Option Text) (h : Held) → wants_value a ≡ true → option_fault c again a v h ≡ []
      → HaveValues h.rows
      → HaveValues (option_met c a v h).0.rows
  have_option a (Some v) h wants none have = have_reacted a (v ∷ []) h wants none have
  have_option a None h wants none have = have_settled h none have

  have_flag : (a : Rule) (v : Option Text) (h : Held) → wants_value a ≡ true
      → cond (is_some v) (kind.TooManyValues ∷ []) (react_fault c again a [] h) ≡ []
      → HaveValues h.rows → HaveValues (flag_met c a v h).0.rows
  have_flag a (Some v) h wants none have = have
  have_flag a None h wants none have = have_reacted a [] h wants none have

  have_long : (o : Option Rule) (name : Text) (v : Option Text) (h : Held) → arg_by_long c name ≡ o
      → long_fault c again o v h ≡ [] → HaveValues h.rows
      → HaveValues (long_met c o v h).0.rows
  have_long None name v h found none have = have
  have_long (Some a) name v h found none have = go (takes_values a) none
    where
      wants : wants_value a ≡ true
      wants = found_wants _ c a w found

      go : (b : Bool)
          → cond b (option_fault c again a v h)
          (cond (is_some v) (kind.TooManyValues ∷ []) (react_fault c again a [] h)) ≡ []
          → HaveValues (cond b (option_met c a v h) (flag_met c a v h)).0.rows
      go true e = have_option a v h wants e have
      go false e = have_flag a v h wants e have

  have_short : (o : Option Rule) (x : ℕ) (rest : Text) (h : Held) (next_met : Held → Held × Outcome)
      (next_fault : Held → Kinds) → arg_by_short c x ≡ o
      → ((k : Held) → next_fault k ≡ [] → HaveValues k.rows → HaveValues (next_met k).0.rows)
      → short_fault c again o rest h next_fault ≡ [] → HaveValues h.rows
      → HaveValues (short_met c o rest h next_met).0.rows
  have_short None x rest h next_met next_fault found more none have = have
  have_short (Some a) x rest h next_met next_fault found more none have = go (takes_values a) none
    where
      wants : wants_value a ≡ true
      wants = found_wants _ c a w found

      go : (b : Bool)
          → cond b (option_fault c again a (attached_value rest) h)
          (or_else (react_fault c again a [] h) (next_fault (reacted c a [] h))) ≡ []
          → HaveValues (cond b (option_met c a (attached_value rest) h) (next_met (reacted c a [] h))).0.rows
      go true e = have_option a (attached_value rest) h wants e have
      go false e =
          let parts = neither _ _ e in
          more (reacted c a [] h) parts.1 (have_reacted a [] h wants parts.0 have)

  have_bundle_met : (k : ℕ) (flags : Text) (skip : ℕ) (so_far : Outcome) (h : Held)
      → flags_fault c again k flags skip h ≡ [] → HaveValues h.rows
      → HaveValues (bundle_met c k flags skip so_far h).0.rows
  unfolding bundle_met flags_fault
  have_bundle_met zero flags skip so_far h none have = have
  have_bundle_met (suc k) flags skip so_far h none have = go (slice_get (chars flags) 0) skip (have_bundle_met k) none
    where
      go : (o : Option ℕ) (n : ℕ)
          → ((flags : Text) (skip : ℕ) (so_far : Outcome) (j : Held) → flags_fault c again k flags skip j ≡ []
          → HaveValues j.rows
          → HaveValues (bundle_met c k flags skip so_far j).0.rows)
          → bundle_step_fault c again o flags n h (flags_fault c again k) ≡ []
          → HaveValues (bundle_step c o flags n so_far h (bundle_met c k)).0.rows
      go None n more e = have
      go (Some x) zero more e =
          let rest = drop (length (encode_utf8 x)) flags in
          have_short (arg_by_short c x) x rest h (bundle_met c k rest 0 done) (flags_fault c again k rest 0) refl
          (more rest 0 done) e have
      go (Some x) (suc n) more e = more (drop (length (encode_utf8 x)) flags) n so_far h e have

  option_rows : (o : Option Rule) (id word : Text) (h : Held) → (option_word o id word h).0.rows ≡ h.rows
  option_rows None id word h = refl
  option_rows (Some a) id word h = refl

  plain_rows : (waiting : Waiting) (word : Text) (h : Held) → (plain_word c waiting word h).0.rows ≡ h.rows
  plain_rows (option id) word h = option_rows (arg_by_id c id) id word h
  plain_rows idle word h = refl
  plain_rows positional word h = refl

  after_rows : (waiting : Waiting) (word : Text) (h : Held) (o : Outcome)
      → (after_flag c waiting word h o).0.rows ≡ h.rows
  after_rows waiting word h done = refl
  after_rows waiting word h (waits id) = refl
  after_rows waiting word h plain = plain_rows waiting word h
  after_rows waiting word h refused = plain_rows waiting word h

  have_flag_word : (waiting : Waiting) (word : Text) (o : Option (Text × Option Text)) (h : Held) → long_of word ≡ o
      → flag_word_fault c again o word h ≡ []
      → HaveValues h.rows → HaveValues (long_or_other c waiting word o h).0.rows
  have_flag_word waiting word (Some p) h is none have =
      rw (after_rows waiting word (long_met c (arg_by_long c p.0) p.1 h).0 (long_met c (arg_by_long c p.0) p.1 h).1)
      (have_long (arg_by_long c p.0) p.0 p.1 h refl none have)
  have_flag_word waiting word None h is none have = go (short_of word) none
    where
      go : (o : Option Text) → option_map_or (λ flags. bundle_fault c again flags h) o [] ≡ []
          → HaveValues (short_or_plain c waiting word o h).0.rows
      go None e = rw (plain_rows waiting word h) have
      go (Some flags) e =
          rw (after_rows waiting word (bundle c flags h).0 (bundle c flags h).1)
          (have_bundle_met (length flags) flags h.skip plain (record h { skip = 0 }) e have)

  have_positional : (o : Option Rule) (word : Text) (v : Walk) (h : Held) (s : Shape)
      → option_map_or (λ a. positional_fault c again a h) o (stray_fault s) ≡ [] → HaveValues h.rows
      → HaveValues (to_positional c o word v h).held.rows
  have_positional None word v h s none have = have
  have_positional (Some a) word v h s none have = go (is_pending a h.pending && takes_several a) none
    where
      go : (b : Bool) → cond b [] (settle_fault c again h) ≡ [] → HaveValues (cond b h (settled c h)).rows
      go true e = have
      go false e = have_settled h e have

-- ---- a level

module _ (s : Shape) (names : Names) (w : WantValues s.rules) where
  have_word : (is_trailing : Bool) (waiting : Waiting) (position : ℕ) (word : Text) (h : Held)
      → word_fault s names is_trailing waiting word h ≡ []
      → HaveValues h.rows → HaveValues (word_met s.rules names is_trailing waiting position word h).0.rows
  have_word true waiting position word h none have = have
  have_word false waiting position word h none have = go (subcommand_met names waiting word) none
    where
      dashes : (b : Bool) → cond b [] (flag_word_fault s.rules s.args_override_self (long_of word) word h) ≡ []
          → HaveValues (cond b (h, trailing position) (long_or_other s.rules waiting word (long_of word) h)).0.rows
      dashes true e = have
      dashes false e = have_flag_word s.rules s.args_override_self w waiting word (long_of word) h refl e have

      go : (o : Option Text) → other_fault s o word h ≡ []
          → HaveValues (subcommand_or_other s.rules o waiting position word h).0.rows
      go (Some name) e = have
      go None e = dashes (bytes_eq word (45 ∷ 45 ∷ [])) e

  have_step : (word : Text) (v : Walk) (h : Held) (step : Step) → step_fault s v.position h step ≡ []
      → HaveValues h.rows
      → HaveValues (after_step s.rules word v h step).held.rows
  have_step word v h (next waiting) none have = have
  have_step word v h (trailing position) none have = have
  have_step word v h (subcommand name) none have = have
  have_step word v h value none have =
      have_positional s.rules s.args_override_self w (arg_by_index s.rules v.position) word v h s none have

  have_turn : (v : Walk) (word : Text) → turn_fault s names v word ≡ [] → HaveValues v.held.rows
      → HaveValues (walked s.rules names v word).held.rows
  unfolding walked
  have_turn v word none have = go v.stopped none
    where
      go : (o : Option (Text × List Text))
          → cond (is_some o) [] (or_else (word_fault s names v.is_trailing v.waiting word v.held)
          (step_fault s v.position (word_met s.rules names v.is_trailing v.waiting v.position word v.held).0
          (word_met s.rules names v.is_trailing v.waiting v.position word v.held).1)) ≡ []
          → HaveValues (walked_from s.rules names o v word).held.rows
      go (Some p) e = have
      go None e =
          let parts = neither _ _ e in
          have_step word v _ _ parts.1 (have_word v.is_trailing v.waiting v.position word v.held parts.0 have)

  have_walk : (words : List Text) (v : Walk) → walk_fault s names v words ≡ [] → HaveValues v.held.rows
      → HaveValues (fold (walked s.rules names) v words).held.rows
  unfolding walk_fault
  have_walk [] v none have = have
  have_walk (word ∷ rest) v none have =
      let parts = neither _ _ none in
      have_walk rest (walked s.rules names v word) parts.1 (have_turn v word parts.0 have)

-- ---- after the walk

have_default : (rows : List Row) (a : Rule) → HaveValues rows → HaveValues (with_default rows a)
have_default rows a have = go (list_any (λ r. bytes_eq r.id a.id) rows) a.defaults
  where
    go : (b : Bool) (values : List Text) → HaveValues (cond b rows (default_rows a.id (reading_by a) values rows))
    go true values = have
    go false [] = have
    go false (v ∷ vs) = have_with_values a.id (reading_by a) DefaultValue (v ∷ vs) rows (omega arith) have

have_defaults : (c : List Rule) (rows : List Row) → HaveValues rows → HaveValues (fold with_default rows c)
have_defaults [] rows have = have
have_defaults (a ∷ rest) rows have = have_defaults rest (with_default rows a) (have_default rows a have)

-- the rows at the end of a level have values
pub have_finished : (s : Shape) (words : List Text) → WantValues s.rules
    → walk_fault s [] (walk_from nothing_held) words ≡ []
    → settle_fault s.rules s.args_override_self (walk s.rules [] nothing_held words).held ≡ []
    → HaveValues (finished s.rules (walk s.rules [] nothing_held words).held)
have_finished s words w none end =
    have_defaults s.rules _ (have_settled s.rules s.args_override_self w (walk s.rules [] nothing_held words).held end
    (have_walk s [] w words (walk_from nothing_held) none tt))

-- an argument that was given has a first value
pub given_has_first : (id : Text) (rows : List Row) → HaveValues rows → is_given id rows ≡ true
    → is_some (first_of id rows) ≡ true
given_has_first id [] have given = cc
given_has_first id (r ∷ rs) have given = go (bytes_eq r.id id) (given_has_first id rs have.1) given
  where
    first : (values : List Text) → 0 < length values → is_some (slice_get values 0) ≡ true
    first [] lt = absurd (omega arith)
    first (v ∷ vs) lt = refl

    go : (b : Bool) → (is_given id rs ≡ true → is_some (first_of id rs) ≡ true)
        → option_map_or (λ (x : Row). explicit_source x.source) (cond b (Some r) (find (λ x. bytes_eq x.id id) rs))
        false ≡ true
        → is_some (option_and_then (λ (x : Row). slice_get x.values 0)
        (cond b (Some r) (find (λ x. bytes_eq x.id id) rs))) ≡ true
    go true rest e = first r.values have.0
    go false rest e = rest e
