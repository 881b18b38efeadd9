-- Points of a path that equal the point before.
use Rattle.std.proofs.Common.{◌≡◌, ◌<◌, ◌+◌, ◌-◌, ◌∙◌, ℕ, zero, suc, Bool, true, false, List, [], ◌∷◌, length}
use Rattle.std.proofs.Common.{refl, sym, ap, subst, arith, cond, Result, Ok, Err, IfOk}
use Rattle.std.specs.declared.alloc.Global.{Global}
use Rattle.std.specs.declared.vec.Vec.{Vec}
use Rattle.std.proofs.lemmas.Bool.Decides.{Decides-int_eq, Decides-and}
use Rattle.std.specs.Prelude.{ℤ, if◌then◌else◌, ◌&&◌}
use Rattle.std.specs.Ordering.{int_eq}
use Rattle.std.specs.List.{dedup, dedup_from}
use Rattle.lvl_grid.specs.declared.point.Point.{Point}
use Rattle.lvl_path.specs.declared.band.Reach.{Reach}
use Rattle.lvl_path.specs.declared.fault.PathFault.{PathFault}
use Rattle.lvl_path.specs.declared.fault.PathFault.TheVariants.{NoWidth, FewPoints, Oblique, RepeatedPoint, TurnsBack}
use Rattle.lvl_path.specs.declared.fault.PathFault.TheVariants.{ShortRun, OutOfRange}
use Rattle.lvl_path.specs.Runs.{point, path_rings, SomeStep, HasFault, IsLowestFault, IsPath, number}
use Rattle.lvl_path.specs.Repeats.{same_point, from_point, without_repeats, asked}

deduped_from : (p : Point) (qs : List Point) → dedup_from same_point p qs ≡ from_point p qs
deduped_from p [] = refl
deduped_from p (q ∷ qs) =
    ap (λ (rest : List Point). cond (same_point q p) rest (p ∷ dedup_from same_point q qs)) (deduped_from p qs)
    ∙ ap (λ (rest : List Point). cond (same_point q p) (from_point p qs) (p ∷ rest)) (deduped_from q qs)

-- the standard library's word says the same
pub deduped : (ps : List Point) → dedup same_point ps ≡ without_repeats ps
deduped [] = refl
deduped (p ∷ ps) = deduped_from p ps

abbrev pub IsRepeated : List Point → Type 0
IsRepeated ps = SomeStep (λ p q. p ≡ q) ps

same_is : (p q : Point) → same_point q p ≡ true → p ≡ q
same_is p q h =
    let both = (Decides-and (int_eq q.x p.x) (int_eq q.y p.y) (Decides-int_eq q.x p.x) (Decides-int_eq q.y p.y)).0 h in
    let of : (x y : ℤ) → Point = λ x y. record { x = x; y = y } in
    ap (λ (z : ℤ). of z p.y) (sym both.0) ∙ ap (of q.x) (sym both.1)

untrue : false ≡ true → ⊥
untrue h = cc

not_true : (b : Bool) → ¬ (b ≡ true) → b ≡ false
not_true true n = absurd (n refl)
not_true false n = refl

further : (p : Point) (ps : List Point) → IsRepeated ps → IsRepeated (p ∷ ps)
further p ps (zero, l, m, e) = absurd (omega (arith, l))
further p ps (suc j, l, m, e) =
    let k : suc j - 1 ≡ j = omega arith in
    let n : suc (suc j) - 1 ≡ suc j = omega arith in (
      suc (suc j),
      omega arith,
      omega (arith, m),
      subst (λ (i : ℕ). point (p ∷ ps) i ≡ point ps (suc j)) (sym n)
          (subst (λ (i : ℕ). point ps i ≡ point ps (suc j)) k e),
    )

kept_from : (p : Point) (qs : List Point) → ¬ IsRepeated (p ∷ qs) → from_point p qs ≡ p ∷ qs
kept_from p [] n = refl
kept_from p (q ∷ qs) n =
    let differ : same_point q p ≡ false =
    not_true (same_point q p) (λ h. n (1, omega arith, omega arith, same_is p q h)) in
    ap (λ (b : Bool). if b then from_point p qs else p ∷ from_point q qs) differ
    ∙ ap (λ (rest : List Point). p ∷ rest) (kept_from q qs (λ h. n (further p (q ∷ qs) h)))

-- without a repeated point nothing is left out
pub none_left_out : (ps : List Point) → ¬ IsRepeated ps → without_repeats ps ≡ ps
none_left_out [] n = refl
none_left_out (p ∷ ps) n = kept_from p ps n

-- the rings of the bands of the points that were asked are those of the points without repeats
pub rings_asked : {E : Type 0} (ignored : Bool) (ps qs : List Point) (w : Reach)
    (r : Result (Vec (List Point) Global) E)
    → qs ≡ asked ignored ps → IfOk r (λ rings. rings.items ≡ path_rings qs w) → IfOk r (λ _. IsPath qs w)
    → IfOk r (λ rings. rings.items ≡ path_rings (without_repeats ps) w)
rings_asked true ps qs w (Ok rings) e are good = are ∙ ap (λ (l : List Point). path_rings l w) e
rings_asked false ps qs w (Ok rings) e are good =
    are
    ∙ ap (λ (l : List Point). path_rings l w)
    (e ∙ sym (none_left_out ps (subst (λ (l : List Point). ¬ IsRepeated l) e (good RepeatedPoint))))
rings_asked ignored ps qs w (Err x) e are good = tt

-- the points have no fault if they have none of lowest number
no_fault_below : (ps : List Point) (w : Reach) → ((f : PathFault) → ¬ IsLowestFault ps w f) → (n : ℕ) (f : PathFault)
    → number f < n → ¬ HasFault ps w f
no_fault_below ps w none zero f l h = omega (arith, l)
no_fault_below ps w none (suc n) f l h =
    none f (record { breached = h; lowest = λ g m k. no_fault_below ps w none n g (omega (arith, l, m)) k })

pub no_fault : (ps : List Point) (w : Reach) → ((f : PathFault) → ¬ IsLowestFault ps w f) → IsPath ps w
no_fault ps w none f = no_fault_below ps w none (number f + 1) f (omega arith)

-- a path of which repeats are refused has no fault if they are ignored
pub fault_grows : (less more : Bool) → (less ≡ true → more ≡ true) → (ps : List Point) (w : Reach)
    → ((f : PathFault) → ¬ IsLowestFault (asked less ps) w f) → (f : PathFault) → ¬ IsLowestFault (asked more ps) w f
fault_grows true true within ps w none f b = none f b
fault_grows true false within ps w none f b = absurd (untrue (within refl))
fault_grows false false within ps w none f b = none f b
fault_grows false true within ps w none f b =
    none f (subst (λ (l : List Point). IsLowestFault l w f) (none_left_out ps (no_fault ps w none RepeatedPoint)) b)
