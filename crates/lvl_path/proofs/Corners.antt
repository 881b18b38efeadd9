-- The runs of a path up to an index, one corner after another.
use Rattle.std.proofs.Common.{◌≡◌, ◌<◌, ◌+◌, ◌-◌, ℕ, true, false, cond, List, [], ◌∷◌, ◌++◌, length, filter, refl, ap}
use Rattle.std.proofs.Common.{sym, subst, ◌∙◌, arith, zero, suc, add-one, Any, inl, inr}
use Rattle.lvl_grid.proofs.Anyone.{Any-push}
use Rattle.std.proofs.lemmas.List.Elements.{filter-append}
use Rattle.std.specs.List.{range_with_len}
use Rattle.std.proofs.lemmas.List.{append-nil}
use Rattle.lvl_grid.specs.declared.point.Point.{Point}
use Rattle.lvl_grid.specs.Winding.{last_or, path_edges}
use Rattle.lvl_path.specs.declared.band.Reach.{Reach}
use Rattle.lvl_path.specs.declared.fault.PathFault.{PathFault}
use Rattle.lvl_path.specs.declared.fault.PathFault.TheVariants.{OutOfRange}
use Rattle.lvl_refusal.specs.declared.Cause.{Cause}
use Rattle.lvl_refusal.specs.declared.Cause.TheVariants.{Breach, OutOfMemory}
use Rattle.lvl_refusal.specs.Refused.{Says}
use Rattle.lvl_path.specs.Bands.{FitsBand}
use Rattle.lvl_path.specs.Runs.{is_corner, run_band, HasFault}

-- the corners before index k, and the runs that end at them
abbrev pub corners_to : List Point → ℕ → List ℕ
corners_to ps k = filter (is_corner ps) (range_with_len 1 (k - 1))

abbrev pub runs_to : List Point → ℕ → List (ℕ × ℕ)
runs_to ps k = path_edges 0 (corners_to ps k)

-- the run that hasn't ended at index k begins at index `from`
pub record IsAtCorner (ps : List Point) (k from : ℕ) : Type 0 where
  pub last : from ≡ last_or 0 (corners_to ps k)
  pub before : from < k

range_more : (a n : ℕ) → range_with_len a (n + 1) ≡ range_with_len a n ++ (a + n) ∷ []
range_more a zero = ap (λ k. k ∷ []) (omega arith)
range_more a (suc n) =
    ap (range_with_len a) (add-one (suc n))
    ∙ ap (λ ks. a ∷ ks) (ap (range_with_len (a + 1)) (sym (add-one n))
    ∙ (range_more (a + 1) n ∙ ap (λ k. range_with_len (a + 1) n ++ k ∷ []) (omega arith)))

path_edges-push : {A : Type 0} (p x : A) (xs : List A)
    → path_edges p (xs ++ x ∷ []) ≡ path_edges p xs ++ (last_or p xs, x) ∷ []
path_edges-push p x [] = refl
path_edges-push p x (y ∷ ys) = ap (λ es. (p, y) ∷ es) (path_edges-push y x ys)

last_or-push : {A : Type 0} (p x : A) (xs : List A) → last_or p (xs ++ x ∷ []) ≡ x
last_or-push p x [] = refl
last_or-push p x (y ∷ ys) = last_or-push y x ys

corners_next : (ps : List Point) (k : ℕ) → 0 < k → corners_to ps (k + 1) ≡ corners_to ps k ++ cond (is_corner ps k)
    (k ∷ []) []
corners_next ps k h =
    let there : k + 1 - 1 ≡ (k - 1) + 1 = omega arith in
    let here : 1 + (k - 1) ≡ k = omega arith in
    let range : range_with_len 1 (k + 1 - 1) ≡ range_with_len 1 (k - 1) ++ k ∷ [] = ap (range_with_len 1) there
    ∙ (range_more 1 (k - 1) ∙ ap (λ j. range_with_len 1 (k - 1) ++ j ∷ []) here) in
    ap (filter (is_corner ps)) range ∙ filter-append (is_corner ps) (range_with_len 1 (k - 1)) (k ∷ [])

corner_added : (ps : List Point) (k : ℕ) → 0 < k → is_corner ps k ≡ true
    → corners_to ps (k + 1) ≡ corners_to ps k ++ k ∷ []
corner_added ps k h c = corners_next ps k h ∙ ap (λ t. corners_to ps k ++ cond t (k ∷ []) []) c

no_corner_added : (ps : List Point) (k : ℕ) → 0 < k → is_corner ps k ≡ false → corners_to ps (k + 1) ≡ corners_to ps k
no_corner_added ps k h c =
    corners_next ps k h ∙ (ap (λ t. corners_to ps k ++ cond t (k ∷ []) []) c ∙ append-nil (corners_to ps k))

-- a corner ends a run
pub at_corner : (ps : List Point) (k from : ℕ) → 0 < k → is_corner ps k ≡ true → IsAtCorner ps k from
    → IsAtCorner ps (k + 1) k
at_corner ps k from h c at =
    record {
      last = sym (ap (last_or 0) (corner_added ps k h c) ∙ last_or-push 0 k (corners_to ps k));
      before = omega arith;
    }

pub runs_at_corner : (ps : List Point) (k from : ℕ) → 0 < k → is_corner ps k ≡ true → IsAtCorner ps k from
    → runs_to ps (k + 1) ≡ runs_to ps k ++ (from, k) ∷ []
runs_at_corner ps k from h c at =
    ap (path_edges 0) (corner_added ps k h c)
    ∙ (path_edges-push 0 k (corners_to ps k) ∙ ap (λ p. runs_to ps k ++ (p, k) ∷ []) (sym at.last))

-- any other point doesn't
pub at_no_corner : (ps : List Point) (k from : ℕ) → 0 < k → is_corner ps k ≡ false → IsAtCorner ps k from
    → IsAtCorner ps (k + 1) from
at_no_corner ps k from h c at =
    record { last = at.last ∙ sym (ap (last_or 0) (no_corner_added ps k h c)); before = omega (arith, at.before) }

pub runs_at_no_corner : (ps : List Point) (k : ℕ) → 0 < k → is_corner ps k ≡ false → runs_to ps (k + 1) ≡ runs_to ps k
runs_at_no_corner ps k h c = ap (path_edges 0) (no_corner_added ps k h c)

grown : (P : ℕ × ℕ → Type 0) (ps : List Point) (k : ℕ) → 0 < k → Any P (runs_to ps k) → Any P (runs_to ps (k + 1))
grown P ps k h a =
    elim (is_corner ps k) as (λ t. is_corner ps k ≡ t → Any P (runs_to ps (k + 1))) [
      | true ↦
          λ c. subst (Any P) (sym (ap (path_edges 0) (corner_added ps k h c) ∙ path_edges-push 0 k (corners_to ps k)))
          ((Any-push P (runs_to ps k) (last_or 0 (corners_to ps k), k)).1 (inl a))
      | false ↦ λ c. subst (Any P) (sym (runs_at_no_corner ps k h c)) a
    ] refl

-- a run that ended before some index is a run of the path
pub Any-grown : (P : ℕ × ℕ → Type 0) (ps : List Point) (k n : ℕ) → 0 < k → Any P (runs_to ps k)
    → Any P (runs_to ps (k + n))
Any-grown P ps k zero h a = subst (λ (m : ℕ). Any P (runs_to ps m)) (omega arith) a
Any-grown P ps k (suc n) h a =
    subst (λ (m : ℕ). Any P (runs_to ps m)) (omega arith) (grown P ps (k + n) (omega arith) (Any-grown P ps k n h a))

-- if the band of such a run is out of range, that of some run of the path is
pub far_run : (ps : List Point) (w : Reach) (k from : ℕ) → 0 < k → k < length ps
    → runs_to ps (k + 1) ≡ runs_to ps k ++ (from, k) ∷ []
    → ¬ FitsBand (run_band ps w (from, k)) → HasFault ps w OutOfRange
far_run ps w k from h there more out =
    let P : ℕ × ℕ → Type 0 = λ run. ¬ FitsBand (run_band ps w run) in
    let here : Any P (runs_to ps (k + 1)) = subst (Any P) (sym more) ((Any-push P (runs_to ps k) (from, k)).1 (inr out))
    in
    subst (λ (n : ℕ). Any P (runs_to ps n)) (omega arith) (Any-grown P ps (k + 1) (length ps - (k + 1)) (omega arith)
    here)

-- a refusal of such a band is a refusal of the path
pub far_refusal : (ps : List Point) (w : Reach) (k from : ℕ) → 0 < k → k < length ps
    → runs_to ps (k + 1) ≡ runs_to ps k ++ (from, k) ∷ []
    → (refusal : Cause PathFault) → Says refusal (λ fault. (fault ≡ OutOfRange)
    × ¬ FitsBand (run_band ps w (from, k)))
    → Says refusal (λ fault. (fault ≡ OutOfRange) × HasFault ps w fault)
far_refusal ps w k from h there more (Breach fault) (is, out) =
    (is, subst (HasFault ps w) (sym is) (far_run ps w k from h there more out))
far_refusal ps w k from h there more OutOfMemory out = tt
