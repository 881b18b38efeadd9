-- Each step of a walk keeps its invariant.
use Rattle.std.proofs.Common.{◌≡◌, ◌≢◌, ℕ, zero, suc, ◌+◌, ◌<◌, ◌≤◌, true, false, ◌||◌, List, [], ◌∷◌, ◌++◌, map}
use Rattle.std.proofs.Common.{length, get_or, set, ◌⊎◌, inl, inr, ⊎_elim, ◌↔◌, Some, All, Contains, refl, sym, ap, ◌∙◌}
use Rattle.std.proofs.Common.{subst, arith}
use Rattle.std.specs.List.{slice_get, IsDistinct, list_any}
use Rattle.std.specs.Bool.{nat_eq}
use Rattle.std.specs.Cmp.{nat_eq_equiv}
use Rattle.std.proofs.lemmas.Map.Keys.{IsDistinct-push, IsDistinct-from_apart, apart_from_distinct}
use Rattle.std.proofs.lemmas.List.{map-append, length-append}
use Rattle.std.proofs.lemmas.List.Elements.{All-contains}
use Rattle.std.proofs.lemmas.Option.{slice_get_within, slice_get-get_or, get_or_from_slice_get}
use Rattle.std.proofs.Math.ListN.{length-set}
use Rattle.std.proofs.lemmas.Bool.Decides.{Decides-eqb}
use Rattle.lvl_cells.specs.declared.walk.Visit.{Visit}
use Rattle.lvl_cells.specs.declared.walk.Mark.{Mark}
use Rattle.lvl_cells.specs.declared.walk.Mark.TheVariants.{New, Open, Done}
use Rattle.lvl_cells.specs.inside.Walking.{IsArc, IsWalk, EachTargetWithin}
use Rattle.lvl_names.proofs.Elements.{contains_at, at_contains}
use Rattle.lvl_cells.proofs.Indexes.{push_front, push_last, push_cases}
use Rattle.lvl_cells.proofs.Sequences.{one_answer}

pub same_or_not : (a b : ℕ) → (a ≡ b) ⊎ (a ≢ b)
same_or_not zero zero = inl refl
same_or_not zero (suc b) = inr (λ e. cc)
same_or_not (suc a) zero = inr (λ e. cc)
same_or_not (suc a) (suc b) = ⊎_elim (λ e. inl (ap suc e)) (λ n. inr (λ e. n (omega (arith, e)))) (same_or_not a b)

-- if no cell before index n is new, and the cell at n isn't, then none before n + 1 is
pub seen_next : (marks : List Mark) (n : ℕ) → ((k : ℕ) → k < n → slice_get marks k ≡ Some New → ⊥)
    → (slice_get marks n ≡ Some New → ⊥) → (k : ℕ) → k < n + 1 → slice_get marks k ≡ Some New → ⊥
seen_next marks n before here k low h =
    ⊎_elim (λ e. here (subst (λ q. slice_get marks q ≡ Some New) e h))
    (λ apart. before k (omega (arith, low, apart)) h) (same_or_not k n)

-- if no cell before the last index is new, none is
pub none_left : (marks : List Mark) (n : ℕ) → length marks ≤ n
    → ((k : ℕ) → k < n → slice_get marks k ≡ Some New → ⊥) → (k : ℕ) → slice_get marks k ≡ Some New → ⊥
none_left marks n past before k h = before k (omega (arith, past, slice_get_within marks k New h)) h

pub set_there : {X : Type 0} (xs : List X) (b : ℕ) (x y : X) → slice_get xs b ≡ Some x
    → slice_get (set xs b y) b ≡ Some y
set_there [] b x y h = cc
set_there (z ∷ zs) zero x y h = refl
set_there (z ∷ zs) (suc b) x y h = set_there zs b x y h

pub set_elsewhere : {X : Type 0} (xs : List X) (b k : ℕ) (y : X) → k ≢ b → slice_get (set xs b y) k ≡ slice_get xs k
set_elsewhere [] b k y n = refl
set_elsewhere (z ∷ zs) zero zero y n = absurd (n refl)
set_elsewhere (z ∷ zs) zero (suc k) y n = refl
set_elsewhere (z ∷ zs) (suc b) zero y n = refl
set_elsewhere (z ∷ zs) (suc b) (suc k) y n = set_elsewhere zs b k y (λ e. n (ap suc e))

pub contains_push : {X : Type 0} (xs : List X) (y x : X) → Contains (xs ++ y ∷ []) x → Contains xs x ⊎ (y ≡ x)
contains_push xs y x h =
    let at = at_contains (xs ++ y ∷ []) x h in
    ⊎_elim (λ e. inl (contains_at xs at.0 x e)) (λ e. inr e.1) (push_cases xs y at.0 x at.1)

pub contains_front : {X : Type 0} (xs : List X) (y x : X) → Contains xs x → Contains (xs ++ y ∷ []) x
contains_front xs y x h = let at = at_contains xs x h in contains_at (xs ++ y ∷ []) at.0 x (push_front xs y at.0 x at.1)

pub contains_last : {X : Type 0} (xs : List X) (y : X) → Contains (xs ++ y ∷ []) y
contains_last xs y = contains_at (xs ++ y ∷ []) (length xs) y (push_last xs y)

-- if the cells with a mark are those of a list, they are still so after one more cell gets the mark and is appended
marked_more : (marks : List Mark) (xs : List ℕ) (b : ℕ) (o m : Mark) → slice_get marks b ≡ Some o
    → ((k : ℕ) → (slice_get marks k ≡ Some m) ↔ Contains xs k) → (k : ℕ)
    → (slice_get (set marks b m) k ≡ Some m) ↔ Contains (xs ++ b ∷ []) k
marked_more marks xs b o m at h k =
    ⊎_elim (λ e. (λ t. rw e (contains_last xs b), λ t. rw e (set_there marks b o m at)))
    (λ n. (
      λ t. contains_front xs b k ((h k).0 (sym (set_elsewhere marks b k m n) ∙ t)),
      λ t. set_elsewhere marks b k m n ∙ (h k).1 (⊎_elim (λ c. c) (λ e. absurd (n (sym e))) (contains_push xs b k t)),
    )) (same_or_not k b)

-- and after a cell without the mark gets another one
marked_same : (marks : List Mark) (xs : List ℕ) (b : ℕ) (o m w : Mark) → slice_get marks b ≡ Some o → o ≢ m → w ≢ m
    → ((k : ℕ) → (slice_get marks k ≡ Some m) ↔ Contains xs k) → (k : ℕ)
    → (slice_get (set marks b w) k ≡ Some m) ↔ Contains xs k
marked_same marks xs b o m w at unlike other h k =
    ⊎_elim (λ e. (
      λ t. let now : slice_get (set marks b w) b ≡ Some w = set_there marks b o w at in
          let old : slice_get (set marks b w) b ≡ Some m = subst (λ q. slice_get (set marks b w) q ≡ Some m) e t in
          absurd (other (let s : Some w ≡ Some m = sym now ∙ old in cc)),
      λ t. let was : slice_get marks b ≡ Some m = subst (λ q. slice_get marks q ≡ Some m) e ((h k).1 t) in
          absurd (unlike (let s : Some o ≡ Some m = sym at ∙ was in cc)),
    ))
    (λ n. (λ t. (h k).0 (sym (set_elsewhere marks b k w n) ∙ t), λ t. set_elsewhere marks b k w n ∙ (h k).1 t))
    (same_or_not k b)

absent_number : (xs : List ℕ) (y : ℕ) → (Contains xs y → ⊥) → list_any (nat_eq y) xs ≡ false
absent_number [] y h = refl
absent_number (x ∷ xs) y h =
    elim (nat_eq y x) as (λ t. nat_eq y x ≡ t → (t || list_any (nat_eq y) xs) ≡ false) [
      | true ↦ λ e. absurd (h (contains_at (x ∷ xs) zero y (ap Some (sym ((Decides-eqb y x).0 e)))))
      | false ↦ λ e. absent_number xs y (λ k. let at = at_contains xs y k in h (contains_at (x ∷ xs) (suc at.0) y at.1))
    ] refl

-- the walk goes into a new cell
pub walk_into : (targets : List (List ℕ)) (marks : List Mark) (front : List Visit) (v : Visit) (b : ℕ)
    (finished : List ℕ) → IsWalk targets marks (front ++ v ∷ []) finished → IsArc targets v.cell v.done b
    → slice_get marks b ≡ Some New
    → IsWalk targets (set marks b Open) ((front ++ v ∷ []) ++ (record { cell = b; done = 0 }) ∷ []) finished
walk_into targets marks front v b finished w arc new =
    let path : List Visit = front ++ v ∷ [] in
    let next : Visit = record { cell = b; done = 0 } in
    let cell_of : Visit → ℕ = λ q. q.cell in
    let cells : map cell_of (path ++ next ∷ []) ≡ map cell_of path ++ b ∷ [] = map-append cell_of path (next ∷ []) in
    let fresh : Contains (map cell_of path) b → ⊥ =
    λ c. let open_b : slice_get marks b ≡ Some Open = (w.open_ones b).1 c in
    let s : Some New ≡ Some Open = sym new ∙ open_b in cc in
    record {
      long = length-set marks b Open ∙ w.long;
      open_ones =
          subst (λ (l : List ℕ). (k : ℕ) → (slice_get (set marks b Open) k ≡ Some Open) ↔ Contains l k) (sym cells)
          (marked_more marks (map cell_of path) b New Open new w.open_ones);
      done_ones = marked_same marks finished b New Done Open new (λ e. cc) (λ e. cc) w.done_ones;
      apart =
          subst (IsDistinct nat_eq) (sym cells)
          (IsDistinct-push nat_eq_equiv (map cell_of path) b w.apart (absent_number (map cell_of path) b fresh));
      once = w.once;
      arcs =
          λ k p q hp hq.
          ⊎_elim (λ at. ⊎_elim (λ ap_. w.arcs k p q ap_ at)
          (λ e. absurd (omega (arith, e.0, slice_get_within path (k + 1) q at))) (push_cases path next k p hp))
          (λ e.
          let last : slice_get path k ≡ Some p =
          ⊎_elim (λ x. x) (λ x. absurd (omega (arith, e.0, x.0))) (push_cases path next k p hp) in
          let top : v ≡ p =
          ⊎_elim (λ x. absurd (omega (arith, e.0, slice_get_within front k p x, length-append front (v ∷ []))))
          (λ x. x.1) (push_cases front v k p last) in
          subst (λ (r : Visit). IsArc targets p.cell p.done r.cell) e.1
          (subst (λ (r : Visit). IsArc targets r.cell r.done b) top arc)) (push_cases path next (k + 1) q hq);
      later =
          λ k r j c at lt arc_c. ⊎_elim (λ x. w.later k r j c x lt arc_c)
          (λ x. let none : r.done ≡ 0 = ap (λ (q : Visit). q.done) (sym x.1) in absurd (omega (arith, lt, none)))
          (push_cases path next k r at);
      falls = w.falls;
    }

-- a reference leads to one cell
arc_once : (targets : List (List ℕ)) (a j b c : ℕ) → IsArc targets a j b → IsArc targets a j c → b ≡ c
arc_once targets a j b c h k =
    let same : h.0 ≡ k.0 = (let e : Some h.0 ≡ Some k.0 = sym h.1 ∙ k.1 in cc) in
    let both : Some b ≡ Some c = sym h.2 ∙ (ap (λ (ts : List ℕ). slice_get ts j) same ∙ k.2) in cc

-- the walk passes a reference to a finished cell
pub walk_past : (targets : List (List ℕ)) (marks : List Mark) (front : List Visit) (v : Visit) (b : ℕ)
    (finished : List ℕ) → IsWalk targets marks (front ++ v ∷ []) finished → IsArc targets v.cell v.done b
    → slice_get marks b ≡ Some Done
    → IsWalk targets marks (front ++ (record { cell = v.cell; done = v.done + 1 }) ∷ []) finished
walk_past targets marks front v b finished w arc is_done =
    let after : Visit = record { cell = v.cell; done = v.done + 1 } in
    let cell_of : Visit → ℕ = λ q. q.cell in
    let cells : map cell_of (front ++ v ∷ []) ≡ map cell_of (front ++ after ∷ []) =
    map-append cell_of front (v ∷ []) ∙ sym (map-append cell_of front (after ∷ [])) in
    record {
      long = w.long;
      open_ones = subst (λ (l : List ℕ). (k : ℕ) → (slice_get marks k ≡ Some Open) ↔ Contains l k) cells w.open_ones;
      done_ones = w.done_ones;
      apart = subst (IsDistinct nat_eq) cells w.apart;
      once = w.once;
      arcs =
          λ k p q hp hq.
          let low : k + 1 ≤ length front =
          ⊎_elim (λ x. let lt : k + 1 < length front = slice_get_within front (k + 1) q x in omega (arith, lt))
          (λ x. omega (arith, x.0)) (push_cases front after (k + 1) q hq) in
          let first : slice_get front k ≡ Some p =
          ⊎_elim (λ x. x) (λ x. absurd (omega (arith, x.0, low))) (push_cases front after k p hp) in
          ⊎_elim (λ x. w.arcs k p q (push_front front v k p first) (push_front front v (k + 1) q x))
          (λ x.
          let old : slice_get (front ++ v ∷ []) (k + 1) ≡ Some v =
          subst (λ n. slice_get (front ++ v ∷ []) n ≡ Some v) (sym x.0) (push_last front v) in
          let to : v.cell ≡ q.cell = ap cell_of x.1 in
          subst (λ c. IsArc targets p.cell p.done c) to (w.arcs k p v (push_front front v k p first) old))
          (push_cases front after (k + 1) q hq);
      later =
          λ k r j c at lt arc_c.
          ⊎_elim (λ x. w.later k r j c (push_front front v k r x) lt arc_c)
          (λ x.
          let cell : r.cell ≡ v.cell = ap cell_of (sym x.1) in
          let count : r.done ≡ v.done + 1 = ap (λ (q : Visit). q.done) (sym x.1) in
          let here : IsArc targets v.cell j c = subst (λ a. IsArc targets a j c) cell arc_c in
          let below : j ≤ v.done = omega (arith, lt, count) in
          ⊎_elim (λ e. subst (Contains finished)
          (arc_once targets v.cell v.done b c arc (subst (λ i. IsArc targets v.cell i c) e here))
          ((w.done_ones b).0 is_done))
          (λ n. let less : j < v.done = omega (arith, below, n) in
          w.later (length front) v j c (push_last front v) less here) (same_or_not j v.done))
          (push_cases front after k r at);
      falls = w.falls;
    }

distinct_apart : (xs : List ℕ) (y : ℕ) → IsDistinct nat_eq (xs ++ y ∷ []) → Contains xs y → ⊥
distinct_apart xs y d h =
    let at = at_contains xs y h in
    let lt : at.0 < length xs = slice_get_within xs at.0 y at.1 in
    let no_same =
    apart_from_distinct nat_eq (xs ++ y ∷ []) at.0 (length xs) y d lt (omega (arith, length-append xs (y ∷ []))) in
    let first : get_or (xs ++ y ∷ []) at.0 y ≡ y =
    get_or_from_slice_get (xs ++ y ∷ []) at.0 y y (push_front xs y at.0 y at.1) in
    let last : get_or (xs ++ y ∷ []) (length xs) y ≡ y =
    get_or_from_slice_get (xs ++ y ∷ []) (length xs) y y (push_last xs y) in
    let yes : nat_eq y y ≡ true = (Decides-eqb y y).1 refl in
    let no_y : nat_eq y y ≡ false = rw (first, last) at no_same in
    cc

distinct_front : (xs : List ℕ) (y : ℕ) → IsDistinct nat_eq (xs ++ y ∷ []) → IsDistinct nat_eq xs
distinct_front xs y d =
    IsDistinct-from_apart nat_eq xs (λ i j e lt le.
    let ai : get_or (xs ++ y ∷ []) i e ≡ get_or xs i e =
    get_or_from_slice_get (xs ++ y ∷ []) i (get_or xs i e) e
    (push_front xs y i (get_or xs i e) (slice_get-get_or xs i e (omega (arith, lt, le)))) in
    let aj : get_or (xs ++ y ∷ []) j e ≡ get_or xs j e =
    get_or_from_slice_get (xs ++ y ∷ []) j (get_or xs j e) e
    (push_front xs y j (get_or xs j e) (slice_get-get_or xs j e le)) in
    rw (ai, aj) at
    (apart_from_distinct nat_eq (xs ++ y ∷ []) i j e d lt (omega (arith, le, length-append xs (y ∷ [])))))

-- the walk leaves a cell whose references were all followed
pub walk_out : (targets : List (List ℕ)) (marks : List Mark) (front : List Visit) (v : Visit) (finished : List ℕ)
    (ts : List ℕ) → IsWalk targets marks (front ++ v ∷ []) finished → slice_get targets v.cell ≡ Some ts
    → length ts ≤ v.done
    → IsWalk targets (set marks v.cell Done) front (finished ++ v.cell ∷ [])
walk_out targets marks front v finished ts w at all =
    let path : List Visit = front ++ v ∷ [] in
    let cell_of : Visit → ℕ = λ q. q.cell in
    let cells : map cell_of path ≡ map cell_of front ++ v.cell ∷ [] = map-append cell_of front (v ∷ []) in
    let opened : (k : ℕ) → (slice_get marks k ≡ Some Open) ↔ Contains (map cell_of front ++ v.cell ∷ []) k =
    subst (λ (l : List ℕ). (k : ℕ) → (slice_get marks k ≡ Some Open) ↔ Contains l k) cells w.open_ones in
    let spread : IsDistinct nat_eq (map cell_of front ++ v.cell ∷ []) = subst (IsDistinct nat_eq) cells w.apart in
    let was : slice_get marks v.cell ≡ Some Open = (opened v.cell).1 (contains_last (map cell_of front) v.cell) in
    let fresh : Contains finished v.cell → ⊥ =
    λ c. let s : Some Open ≡ Some Done = sym was ∙ (w.done_ones v.cell).1 c in cc in
    record {
      long = length-set marks v.cell Done ∙ w.long;
      open_ones =
          λ k.
          ⊎_elim (λ e. (
            λ t.
                let now : slice_get (set marks v.cell Done) v.cell ≡ Some Done = set_there marks v.cell Open Done was in
                let old : slice_get (set marks v.cell Done) v.cell ≡ Some Open =
                subst (λ q. slice_get (set marks v.cell Done) q ≡ Some Open) e t in
                absurd (let s : Some Done ≡ Some Open = sym now ∙ old in cc),
            λ t. absurd (distinct_apart (map cell_of front) v.cell spread (subst (Contains (map cell_of front)) e t)),
          ))
          (λ n. (
            λ t. ⊎_elim (λ c. c) (λ e. absurd (n (sym e))) (contains_push (map cell_of front) v.cell k
                ((opened k).0 (sym (set_elsewhere marks v.cell k Done n) ∙ t))),
            λ t. set_elsewhere marks v.cell k Done n ∙ (opened k).1 (contains_front (map cell_of front) v.cell k t),
          )) (same_or_not k v.cell);
      done_ones = marked_more marks finished v.cell Open Done was w.done_ones;
      apart = distinct_front (map cell_of front) v.cell spread;
      once = IsDistinct-push nat_eq_equiv finished v.cell w.once (absent_number finished v.cell fresh);
      arcs = λ k p q hp hq. w.arcs k p q (push_front front v k p hp) (push_front front v (k + 1) q hq);
      later =
          λ k r j c h lt arc. contains_front finished v.cell c (w.later k r j c (push_front front v k r h) lt arc);
      falls =
          λ i k j b h arc.
          ⊎_elim (λ x. let r = w.falls i k j b x arc in (r.0, r.1, push_front finished v.cell r.0 b r.2))
          (λ x.
          let here : IsArc targets v.cell j b = subst (λ a. IsArc targets a j b) (sym x.1) arc in
          let row : ts ≡ here.0 = one_answer at here.1 in
          let in_row : j < length here.0 = slice_get_within here.0 j b here.2 in
          let in_ts : j < length ts = subst (λ (u : List ℕ). j < length u) (sym row) in_row in
          let c = w.later (length front) v j b (push_last front v) (omega (arith, in_ts, all)) here in
          let p = at_contains finished b c in
          (p.0, omega (arith, x.0, slice_get_within finished p.0 b p.1), push_front finished v.cell p.0 b p.1))
          (push_cases finished v.cell i k h);
    }

pub arc_within : (targets : List (List ℕ)) (n a j b : ℕ) → EachTargetWithin targets n → IsArc targets a j b
    → b < n
arc_within targets n a j b all arc =
    let row : All (λ c. c < n) arc.0 =
    All-contains (λ (ts : List ℕ). All (λ c. c < n) ts) targets arc.0 all
    (contains_at targets a arc.0 arc.1) in
    All-contains (λ (c : ℕ). c < n) arc.0 b row (contains_at arc.0 j b arc.2)

pub marked : (marks : List Mark) (b : ℕ) (d m : Mark) → b < length marks → get_or marks b d ≡ m
    → slice_get marks b ≡ Some m
marked marks b d m h e = slice_get-get_or marks b d h ∙ ap Some e

-- the last cell on the path is open
pub last_open : (targets : List (List ℕ)) (marks : List Mark) (front : List Visit) (v : Visit) (finished : List ℕ)
    → IsWalk targets marks (front ++ v ∷ []) finished → slice_get marks v.cell ≡ Some Open
last_open targets marks front v finished w =
    let cell_of : Visit → ℕ = λ q. q.cell in
    let cells : map cell_of (front ++ v ∷ []) ≡ map cell_of front ++ v.cell ∷ [] = map-append cell_of front (v ∷ []) in
    (w.open_ones v.cell).1 (subst (λ (l : List ℕ). Contains l v.cell) (sym cells)
    (contains_last (map cell_of front) v.cell))

one_apart : (b : ℕ) → IsDistinct nat_eq (b ∷ [])
one_apart b = IsDistinct-from_apart nat_eq (b ∷ []) (λ i j d lt le. absurd (omega arith))

-- the walk begins at a new root
pub walk_begin : (targets : List (List ℕ)) (marks : List Mark) (root : ℕ) (finished : List ℕ)
    → IsWalk targets marks [] finished → slice_get marks root ≡ Some New
    → IsWalk targets (set marks root Open) ((record { cell = root; done = 0 }) ∷ []) finished
walk_begin targets marks root finished w new =
    let first : Visit = record { cell = root; done = 0 } in
    record {
      long = length-set marks root Open ∙ w.long;
      open_ones = marked_more marks [] root New Open new w.open_ones;
      done_ones = marked_same marks finished root New Done Open new (λ e. cc) (λ e. cc) w.done_ones;
      apart = one_apart root;
      once = w.once;
      arcs = λ k p q hp hq. absurd (omega (arith, slice_get_within (first ∷ []) (k + 1) q hq));
      later =
          λ k v j b at lt arc.
          let none : v.done ≡ 0 =
          ⊎_elim (λ x. absurd (omega (arith, slice_get_within [] k v x)))
          (λ x. ap (λ (q : Visit). q.done) (sym x.1)) (push_cases [] first k v at) in
          absurd (omega (arith, lt, none));
      falls = w.falls;
    }

-- if the path is empty, no cell is open
pub none_open : (targets : List (List ℕ)) (marks : List Mark) (finished : List ℕ) (k : ℕ)
    → IsWalk targets marks [] finished → slice_get marks k ≡ Some Open → ⊥
none_open targets marks finished k w h = let c = (w.open_ones k).0 h in absurd (omega (arith, c.1))
