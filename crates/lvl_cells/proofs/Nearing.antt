-- Each step of a walk leaves less work.
use Rattle.std.proofs.Common.{◌≡◌, ◌≢◌, ℕ, zero, suc, ◌+◌, ◌-◌, ◌*◌, ◌<◌, ◌≤◌, List, [], ◌∷◌, ◌++◌, length, get_or, set}
use Rattle.std.proofs.Common.{sum_by, ⊎_elim, Option, Some, None, refl, sym, ap, ◌∙◌, subst, arith}
use Rattle.std.specs.List.{slice_get}
use Rattle.std.specs.Option.{option_map_or}
use Rattle.std.proofs.Math.Nat.{mul-le-mul_left}
use Rattle.std.proofs.lemmas.List.{length-append}
use Rattle.std.proofs.lemmas.List.Sums.{get_or-le-sum_by}
use Rattle.std.proofs.lemmas.Option.{slice_get_within, get_or_from_slice_get}
use Rattle.lvl_cells.specs.declared.walk.Visit.{Visit}
use Rattle.lvl_cells.specs.declared.walk.Mark.{Mark}
use Rattle.lvl_cells.specs.declared.walk.Mark.TheVariants.{New, Open, Done}
use Rattle.lvl_cells.specs.inside.Walking.{IsArc, NoneBecomesNew, new_count, left_at, work_left}
use Rattle.lvl_cells.proofs.Indexes.{push_last}
use Rattle.lvl_cells.proofs.Walks.{set_there, set_elsewhere, same_or_not}

abbrev references : List (List ℕ) → ℕ
references targets = sum_by (λ ts. length ts) targets

abbrev is_new : Mark → ℕ
is_new New = 1
is_new Open = 0
is_new Done = 0

new_count-cons : (m : Mark) (ms : List Mark) → new_count (m ∷ ms) ≡ is_new m + new_count ms
new_count-cons New ms = omega arith
new_count-cons Open ms = omega arith
new_count-cons Done ms = omega arith

new_count-set : (ms : List Mark) (b : ℕ) (o m : Mark) → slice_get ms b ≡ Some o
    → new_count (set ms b m) + is_new o ≡ new_count ms + is_new m
new_count-set [] b o m h = cc
new_count-set (x ∷ xs) zero o m h =
    let same : x ≡ o = cc in omega (arith, new_count-cons m xs, new_count-cons x xs, ap is_new same)
new_count-set (x ∷ xs) (suc b) o m h =
    omega (arith, new_count-cons x (set xs b m), new_count-cons x xs, new_count-set xs b o m h)

left_most : (targets : List (List ℕ)) (o : Option Visit) → left_at targets o ≤ references targets
left_most targets None = omega arith
left_most targets (Some v) =
    elim (slice_get targets v.cell)
    as (λ t. slice_get targets v.cell ≡ t → option_map_or (λ ts. length ts - v.done) t 0 ≤ references targets) [
      | None ↦ λ e. omega arith
      | Some ts ↦ λ e.
          let long : List ℕ → ℕ = λ u. length u in
          let at : get_or targets v.cell ts ≡ ts = get_or_from_slice_get targets v.cell ts ts e in
          omega (arith, get_or-le-sum_by long targets v.cell ts (slice_get_within targets v.cell ts e), ap long at)
    ] refl

fewer : (x y b l m : ℕ) → suc x ≤ y → l < b → x * b + l < y * b + m
fewer x y b l m h k = omega (arith, mul-le-mul_left b h)

pub last_at : (front : List Visit) (v : Visit) → slice_get (front ++ v ∷ []) (length (front ++ v ∷ []) - 1) ≡ Some v
last_at front v =
    let e : length (front ++ v ∷ []) - 1 ≡ length front = omega (arith, length-append front (v ∷ [])) in
    rw e (push_last front v)

pub nearer_into : (targets : List (List ℕ)) (marks : List Mark) (path : List Visit) (w : Visit) (b : ℕ)
    → slice_get marks b ≡ Some New
    → work_left targets (set marks b Open) (path ++ w ∷ []) < work_left targets marks path
nearer_into targets marks path w b new =
    let count : new_count (set marks b Open) + 1 ≡ new_count marks + 0 = new_count-set marks b New Open new in
    let longer : length (path ++ w ∷ []) ≡ length path + 1 = length-append path (w ∷ []) in
    fewer (2 * new_count (set marks b Open) + length (path ++ w ∷ [])) (2 * new_count marks + length path)
    (1 + references targets) (left_at targets (slice_get (path ++ w ∷ []) (length (path ++ w ∷ []) - 1)))
    (left_at targets (slice_get path (length path - 1)))
    (omega (arith, count, longer))
    (omega (arith, left_most targets (slice_get (path ++ w ∷ []) (length (path ++ w ∷ []) - 1))))

pub nearer_out : (targets : List (List ℕ)) (marks : List Mark) (front : List Visit) (v : Visit)
    → slice_get marks v.cell ≡ Some Open
    → work_left targets (set marks v.cell Done) front < work_left targets marks (front ++ v ∷ [])
nearer_out targets marks front v is =
    let path : List Visit = front ++ v ∷ [] in
    let count : new_count (set marks v.cell Done) + 0 ≡ new_count marks + 0 = new_count-set marks v.cell Open Done is in
    fewer (2 * new_count (set marks v.cell Done) + length front) (2 * new_count marks + length path)
    (1 + references targets) (left_at targets (slice_get front (length front - 1)))
    (left_at targets (slice_get path (length path - 1)))
    (omega (arith, count, length-append front (v ∷ [])))
    (omega (arith, left_most targets (slice_get front (length front - 1))))

pub nearer_past : (targets : List (List ℕ)) (marks : List Mark) (front : List Visit) (v : Visit) (b : ℕ)
    → IsArc targets v.cell v.done b
    → work_left targets marks (front ++ (record { cell = v.cell; done = v.done + 1 }) ∷ [])
    < work_left targets marks (front ++ v ∷ [])
nearer_past targets marks front v b arc =
    let next : Visit = record { cell = v.cell; done = v.done + 1 } in
    let long : length (front ++ next ∷ []) ≡ length (front ++ v ∷ []) =
    length-append front (next ∷ []) ∙ sym (length-append front (v ∷ [])) in
    let here : left_at targets (Some v) ≡ length arc.0 - v.done =
    ap (λ (o : Option (List ℕ)). option_map_or (λ ts. length ts - v.done) o 0) arc.1 in
    let there : left_at targets (Some next) ≡ length arc.0 - (v.done + 1) =
    ap (λ (o : Option (List ℕ)). option_map_or (λ ts. length ts - (v.done + 1)) o 0) arc.1 in
    let some : v.done < length arc.0 = slice_get_within arc.0 v.done b arc.2 in
    let old : left_at targets (slice_get (front ++ v ∷ []) (length (front ++ v ∷ []) - 1))
    ≡ length arc.0 - v.done =
    ap (left_at targets) (last_at front v) ∙ here in
    let new : left_at targets (slice_get (front ++ next ∷ []) (length (front ++ next ∷ []) - 1))
    ≡ length arc.0 - (v.done + 1) =
    ap (left_at targets) (last_at front next) ∙ there in
    let all : ℕ = 1 + references targets in
    let same : (2 * new_count marks + length (front ++ next ∷ [])) * all
    ≡ (2 * new_count marks + length (front ++ v ∷ [])) * all =
    ap (λ n. (2 * new_count marks + n) * all) long in
    omega (arith, same, old, new, some)

-- a cell whose mark is set isn't new
pub goes_on : (marks : List Mark) (b : ℕ) (o m : Mark) → slice_get marks b ≡ Some o → m ≢ New
    → NoneBecomesNew marks (set marks b m)
goes_on marks b o m at other k h =
    ⊎_elim (λ e. let now : slice_get (set marks b m) b ≡ Some m = set_there marks b o m at in
    let new : slice_get (set marks b m) b ≡ Some New = subst (λ q. slice_get (set marks b m) q ≡ Some New) e h in
    absurd (other (let s : Some m ≡ Some New = sym now ∙ new in cc)))
    (λ n. sym (set_elsewhere marks b k m n) ∙ h) (same_or_not k b)
