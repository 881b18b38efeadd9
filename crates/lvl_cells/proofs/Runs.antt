-- Rows of runs: the target at an index, one more target, and one more row.
use Rattle.std.proofs.Common.{◌≡◌, ◌<◌, ◌≤◌, ◌+◌, ◌-◌, ℕ, zero, suc, List, [], ◌∷◌, ◌++◌, map, length, get_or, set}
use Rattle.std.proofs.Common.{take, drop, replicate, Some, refl, sym, ap, ◌∙◌, subst, arith, append_assoc}
use Rattle.std.specs.List.{slice_get}
use Rattle.std.specs.Option.{option_map}
use Rattle.std.proofs.lemmas.List.{append-nil, length-append, length-replicate, replicate_more, set-append_right}
use Rattle.std.proofs.lemmas.List.{get_or-append_right, map-append}
use Rattle.std.proofs.lemmas.List.Elements.{All-push, All-get_or}
use Rattle.std.proofs.lemmas.Option.{slice_get-map, slice_get-get_or}
use Rattle.std.proofs.Math.ListN.{length-map}
use Rattle.lvl_grid.specs.Pieces.{cut_from, begin_of}
use Rattle.lvl_grid.proofs.Pieces.{rising-push, cut-push, cut-length, cut-at, piece_bounds}
use Rattle.lvl_cells.specs.declared.rows.Run.{Run}
use Rattle.lvl_cells.specs.inside.Rows.{spread, Rises, spread_rows, AreRows, HasRow}

-- the end of the last run, or `start` if there is none
abbrev pub end_of : ℕ → List Run → ℕ
end_of start [] = start
end_of start (run ∷ runs) = end_of run.end runs

pub spread_long : (start : ℕ) (runs : List Run) → Rises start runs
    → length (spread start runs) + start ≡ end_of start runs
spread_long start [] h = omega arith
spread_long start (run ∷ runs) h =
    let n : ℕ = run.end - start in
    omega (
      arith,
      length-append (replicate n run.target) (spread run.end runs),
      length-replicate n run.target,
      spread_long run.end runs h.1,
      h.0,
    )

-- the end of the last run
pub end_none : (start : ℕ) (runs : List Run) → length runs ≡ 0 → end_of start runs ≡ start
end_none start [] h = refl
end_none start (run ∷ runs) h = absurd (omega (arith, h))

pub end_last : (start : ℕ) (runs : List Run) (k : ℕ) (d : Run) → length runs ≡ suc k
    → end_of start runs ≡ (get_or runs k d).end
end_last start [] k d h = absurd (omega (arith, h))
end_last start (run ∷ []) zero d h = refl
end_last start (run ∷ []) (suc k) d h = absurd (omega (arith, h))
end_last start (run ∷ next ∷ runs) zero d h = absurd (omega (arith, h))
end_last start (run ∷ next ∷ runs) (suc k) d h = end_last run.end (next ∷ runs) k d (omega (arith, h))

replicated : (n t : ℕ) (ys : List ℕ) (i : ℕ) → i < n → slice_get (replicate n t ++ ys) i ≡ Some t
replicated zero t ys i h = absurd (omega (arith, h))
replicated (suc n) t ys zero h = refl
replicated (suc n) t ys (suc i) h = replicated n t ys i (omega (arith, h))

past_replicated : (n t : ℕ) (ys : List ℕ) (i : ℕ) → slice_get (replicate n t ++ ys) (n + i) ≡ slice_get ys i
past_replicated zero t ys i = let e : 0 + i ≡ i = omega arith in rw e refl
past_replicated (suc n) t ys i = let e : suc n + i ≡ suc (n + i) = omega arith in rw e (past_replicated n t ys i)

-- the target of reference j is that of the first run that ends after it
pub target_at : (start : ℕ) (runs : List Run) (j k : ℕ) → Rises start runs → start ≤ j
    → ((i : ℕ) (d : Run) → i < k → (get_or runs i d).end ≤ j)
    → ((d : Run) → k < length runs → j < (get_or runs k d).end)
    → slice_get (spread start runs) (j - start) ≡ option_map (λ r. r.target) (slice_get runs k)
target_at start [] j k rises low before at = refl
target_at start (run ∷ runs) j zero rises low before at =
    replicated (run.end - start) run.target (spread run.end runs) (j - start)
    (omega (arith, at run (omega arith), low))
target_at start (run ∷ runs) j (suc k) rises low before at =
    let past : run.end ≤ j = before zero run (omega arith) in
    let split : j - start ≡ (run.end - start) + (j - run.end) = omega (arith, past, rises.0) in
    rw split (past_replicated (run.end - start) run.target (spread run.end runs) (j - run.end)
    ∙ target_at run.end runs j k rises.1 past (λ i d h. before (suc i) d (omega (arith, h)))
    (λ d h. at d (omega (arith, h))))

rises_to : (start : ℕ) (runs : List Run) (j : ℕ) (d : Run) → Rises start runs → j < length runs
    → start ≤ (get_or runs j d).end
rises_to start [] j d h lt = absurd (omega (arith, lt))
rises_to start (run ∷ runs) zero d h lt = h.0
rises_to start (run ∷ runs) (suc j) d h lt = omega (arith, h.0, rises_to run.end runs j d h.1 (omega (arith, lt)))

-- the target of reference j is that of a run that ends after it, if the run before doesn't
pub target_in : (start : ℕ) (runs : List Run) (j k : ℕ) (d : Run) → Rises start runs → start ≤ j → k < length runs
    → ((i : ℕ) → suc i ≡ k → (get_or runs i d).end ≤ j) → j < (get_or runs k d).end
    → slice_get (spread start runs) (j - start) ≡ option_map (λ r. r.target) (slice_get runs k)
target_in start [] j k d rises low lt before at = absurd (omega (arith, lt))
target_in start (run ∷ runs) j zero d rises low lt before at =
    replicated (run.end - start) run.target (spread run.end runs) (j - start) (omega (arith, at, low))
target_in start (run ∷ runs) j (suc zero) d rises low lt before at =
    let past : run.end ≤ j = before zero refl in
    let split : j - start ≡ (run.end - start) + (j - run.end) = omega (arith, past, rises.0) in
    rw split (past_replicated (run.end - start) run.target (spread run.end runs) (j - run.end)
    ∙ target_in run.end runs j zero d rises.1 past (omega (arith, lt)) (λ i h. absurd (omega (arith, h))) at)
target_in start (run ∷ runs) j (suc (suc k)) d rises low lt before at =
    let last : (get_or runs k d).end ≤ j = before (suc k) refl in
    let past : run.end ≤ j = omega (arith, last, rises_to run.end runs k d rises.1 (omega (arith, lt))) in
    let split : j - start ≡ (run.end - start) + (j - run.end) = omega (arith, past, rises.0) in
    rw split (past_replicated (run.end - start) run.target (spread run.end runs) (j - run.end)
    ∙ target_in run.end runs j (suc k) d rises.1 past (omega (arith, lt)) (λ i h. before (suc i) (ap suc h)) at)

pub rises_sorted : (start : ℕ) (runs : List Run) → Rises start runs → (i j : ℕ) (d : Run) → i ≤ j → j < length runs
    → (get_or runs i d).end ≤ (get_or runs j d).end
rises_sorted start [] h i j d le lt = absurd (omega (arith, lt))
rises_sorted start (run ∷ runs) h zero zero d le lt = omega arith
rises_sorted start (run ∷ runs) h zero (suc j) d le lt = rises_to run.end runs j d h.1 (omega (arith, lt))
rises_sorted start (run ∷ runs) h (suc i) zero d le lt = absurd (omega (arith, le))
rises_sorted start (run ∷ runs) h (suc i) (suc j) d le lt =
    rises_sorted run.end runs h.1 i j d (omega (arith, le)) (omega (arith, lt))

-- one more run
rises-push : (start : ℕ) (runs : List Run) (r : Run) → Rises start runs → end_of start runs ≤ r.end
    → Rises start (runs ++ r ∷ [])
rises-push start [] r h le = (le, tt)
rises-push start (run ∷ runs) r h le = (h.0, rises-push run.end runs r h.1 le)

spread-push : (start : ℕ) (runs : List Run) (r : Run) → Rises start runs → r.end ≡ end_of start runs + 1
    → spread start (runs ++ r ∷ []) ≡ spread start runs ++ r.target ∷ []
spread-push start [] r h e = let one : r.end - start ≡ 1 = omega (arith, e) in rw one refl
spread-push start (run ∷ runs) r h e =
    let first : List ℕ = replicate (run.end - start) run.target in
    ap (λ ts. first ++ ts) (spread-push run.end runs r h.1 e)
    ∙ sym (append_assoc first (spread run.end runs) (r.target ∷ []))

-- a longer last run
rises-last : (start : ℕ) (runs : List Run) (k : ℕ) (r : Run) → Rises start runs → length runs ≡ suc k
    → end_of start runs ≤ r.end → Rises start (set runs k r)
rises-last start [] k r h long le = absurd (omega (arith, long))
rises-last start (run ∷ []) zero r h long le = (omega (arith, h.0, le), tt)
rises-last start (run ∷ []) (suc k) r h long le = absurd (omega (arith, long))
rises-last start (run ∷ next ∷ runs) zero r h long le = absurd (omega (arith, long))
rises-last start (run ∷ next ∷ runs) (suc k) r h long le =
    (h.0, rises-last run.end (next ∷ runs) k r h.1 (omega (arith, long)) le)

spread-last : (start : ℕ) (runs : List Run) (k : ℕ) (r : Run) → Rises start runs → length runs ≡ suc k
    → r.end ≡ end_of start runs + 1 → (get_or runs k r).target ≡ r.target
    → spread start (set runs k r) ≡ spread start runs ++ r.target ∷ []
spread-last start [] k r h long e same = absurd (omega (arith, long))
spread-last start (run ∷ []) zero r h long e same =
    let n : ℕ = run.end - start in
    let more : r.end - start ≡ n + 1 = omega (arith, e, h.0) in
    rw (more, same, append-nil (replicate n r.target)) (append-nil (replicate (n + 1) r.target)
    ∙ sym (replicate_more n r.target))
spread-last start (run ∷ []) (suc k) r h long e same = absurd (omega (arith, long))
spread-last start (run ∷ next ∷ runs) zero r h long e same = absurd (omega (arith, long))
spread-last start (run ∷ next ∷ runs) (suc k) r h long e same =
    let first : List ℕ = replicate (run.end - start) run.target in
    ap (λ ts. first ++ ts) (spread-last run.end (next ∷ runs) k r h.1 (omega (arith, long)) e same)
    ∙ sym (append_assoc first (spread run.end (next ∷ runs)) (r.target ∷ []))

-- one more target, in a run of its own
pub row_pushed : (front runs : List Run) (targets : List ℕ) (r : Run) → HasRow front runs targets
    → r.end ≡ length targets + 1 → HasRow front (runs ++ r ∷ []) (targets ++ r.target ∷ [])
row_pushed front runs targets r h e =
    let long : length targets ≡ end_of 0 h.row =
    omega (arith, spread_long 0 h.row h.rises, ap length h.targets_are) in
    record {
      row = h.row ++ r ∷ [];
      is = ap (λ rs. rs ++ r ∷ []) h.is ∙ append_assoc front h.row (r ∷ []);
      rises = rises-push 0 h.row r h.rises (omega (arith, e, long));
      targets_are =
          spread-push 0 h.row r h.rises (omega (arith, e, long)) ∙ ap (λ ts. ts ++ r.target ∷ []) h.targets_are;
    }

-- one more target, in the last run
pub row_lengthened : (front runs : List Run) (targets : List ℕ) (k : ℕ) (r : Run) → HasRow front runs targets
    → r.end ≡ length targets + 1 → length runs ≡ suc k → length front ≤ k → (get_or runs k r).target ≡ r.target
    → HasRow front (set runs k r) (targets ++ r.target ∷ [])
row_lengthened front runs targets k r h e all some same =
    let long : length targets ≡ end_of 0 h.row =
    omega (arith, spread_long 0 h.row h.rises, ap length h.targets_are) in
    let at : ℕ = k - length front in
    let row_long : length h.row ≡ suc at = omega (arith, ap length h.is, length-append front h.row, all, some) in
    let here : get_or runs k r ≡ get_or h.row at r =
    ap (λ rs. get_or rs k r) h.is ∙ get_or-append_right front h.row (length front) k r refl some in
    let same_there : (get_or h.row at r).target ≡ r.target = sym (ap (λ (q : Run). q.target) here) ∙ same in
    record {
      row = set h.row at r;
      is = ap (λ rs. set rs k r) h.is ∙ set-append_right front h.row (length front) k r refl some;
      rises = rises-last 0 h.row at r h.rises row_long (omega (arith, e, long));
      targets_are =
          spread-last 0 h.row at r h.rises row_long (omega (arith, e, long)) same_there
          ∙ ap (λ ts. ts ++ r.target ∷ []) h.targets_are;
    }

-- one more row
pub rows_more : (ends : List ℕ) (old new : List Run) (targets : List ℕ) → AreRows ends old → HasRow old new targets
    → AreRows (ends ++ length new ∷ []) new
    × (spread_rows (ends ++ length new ∷ []) new ≡ spread_rows ends old ++ targets ∷ [])
rows_more ends old new targets h row =
    let size : length new ≡ length old + length row.row = ap length row.is ∙ length-append old row.row in
    let cut : cut_from 0 (ends ++ length new ∷ []) new ≡ cut_from 0 ends old ++ row.row ∷ [] =
    ap (cut_from 0 (ends ++ length new ∷ [])) row.is
    ∙ cut-push 0 ends old row.row (length new) h.rising size in (
      record {
        rising = rising-push 0 ends (length old) (length new) h.rising (omega (arith, size));
        rows = rw cut (All-push (Rises 0) (cut_from 0 ends old) row.row h.rows row.rises);
      },
      ap (map (spread 0)) cut
          ∙ (map-append (spread 0) (cut_from 0 ends old) (row.row ∷ [])
          ∙ ap (λ ts. spread_rows ends old ++ ts ∷ []) row.targets_are),
    )

-- there are as many rows as ends
pub spread_rows_long : (ends : List ℕ) (runs : List Run) → length (spread_rows ends runs) ≡ length ends
spread_rows_long ends runs = length-map (cut_from 0 ends runs) (spread 0) ∙ cut-length 0 ends runs

-- the runs of row i, by their bounds
pub record RowAt (ends : List ℕ) (runs : List Run) (i start end : ℕ) : Type 0 where
  pub rising : start ≤ end
  pub inside : end ≤ length runs
  pub rises : Rises 0 (take (end - start) (drop start runs))
  pub value : slice_get (spread_rows ends runs) i ≡ Some (spread 0 (take (end - start) (drop start runs)))

pub row_read : (ends : List ℕ) (runs : List Run) (i start end : ℕ) → i < length ends → AreRows ends runs
    → start ≡ begin_of 0 ends i → end ≡ get_or ends i end → RowAt ends runs i start end
row_read ends runs i start end low h s e =
    let cut : List (List Run) = cut_from 0 ends runs in
    let there : i < length cut = omega (arith, low, cut-length 0 ends runs) in
    let bounds = piece_bounds 0 ends (length runs) i end h.rising low in
    let row : List Run = take (end - start) (drop start runs) in
    let is : get_or cut i [] ≡ row =
    cut-at 0 ends runs i end [] low
    ∙ (ap (λ z. take (z - begin_of 0 ends i) (drop (begin_of 0 ends i) runs)) (sym e)
    ∙ ap (λ z. take (end - z) (drop z runs)) (sym s)) in
    record {
      rising = omega (arith, bounds.0, s, e);
      inside = omega (arith, bounds.1, e);
      rises = subst (Rises 0) is (All-get_or (Rises 0) cut i [] there h.rows);
      value =
          slice_get-map (spread 0) cut i
          ∙ (ap (option_map (spread 0)) (slice_get-get_or cut i [] there) ∙ ap (λ rs. Some (spread 0 rs)) is);
    }
