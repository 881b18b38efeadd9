-- Closed lists of points, and the ring of the points without the last.
use Rattle.std.proofs.Common.{◌≡◌, ◌&&◌, ◌<◌, ◌≤◌, Bool, true, false, not, List, [], ◌∷◌, ◌++◌, All, length, get_or}
use Rattle.std.proofs.Common.{refl, sym, ◌∙◌, subst, arith}
use Rattle.std.proofs.Common.{int_eq, Some, ap, ℤ}
use Rattle.std.proofs.lemmas.Bool.Decides.{Decides-int_eq, Decides-and}
use Rattle.std.proofs.lemmas.List.Elements.{All-push, All-head, All-tail, All-pop, All-cons}
use Rattle.lvl_grid.specs.declared.point.Point.{Point}
use Rattle.lvl_grid.specs.Winding.{IsStraight, path_edges, last_or, edges}
use Rattle.lvl_grid.specs.Faults.{IsFaultOf}
use Rattle.lvl_grid.specs.declared.ring.RingFault.{RingFault}
use Rattle.lvl_grid.specs.declared.ring.RingFault.TheVariants.{TooFew, Oblique}
use Rattle.gds_elements.specs.Rules.{IsClosed, steps}

last_or-snoc : (p : Point) (qs : List Point) (z : Point) → last_or p (qs ++ z ∷ []) ≡ z
last_or-snoc p [] z = refl
last_or-snoc p (q ∷ qs) z = last_or-snoc q qs z

path_edges-snoc : (p : Point) (qs : List Point) (z : Point)
    → path_edges p (qs ++ z ∷ []) ≡ path_edges p qs ++ (last_or p qs, z) ∷ []
path_edges-snoc p [] z = refl
path_edges-snoc p (q ∷ qs) z = ap (λ l. (p, q) ∷ l) (path_edges-snoc q qs z)

-- in a closed list the last point is the first
pub closed_last : (ps qs : List Point) (z d : Point) → ps ≡ qs ++ z ∷ [] → 0 < length qs → IsClosed ps
    → z ≡ get_or qs 0 d
closed_last ps [] z d e h c = absurd (omega arith)
closed_last ps (q ∷ qs) z d e h c = sym (last_or-snoc q qs z) ∙ subst IsClosed e c

pub last_closed : (ps qs : List Point) (z d : Point) → ps ≡ qs ++ z ∷ [] → 0 < length qs → z ≡ get_or qs 0 d
    → IsClosed ps
last_closed ps [] z d e h c = absurd (omega arith)
last_closed ps (q ∷ qs) z d e h c = subst IsClosed (sym e) (last_or-snoc q qs z ∙ c)

pub straight_steps : (ps qs : List Point) (z d : Point) → ps ≡ qs ++ z ∷ [] → 0 < length qs → z ≡ get_or qs 0 d
    → All IsStraight (edges qs) → All IsStraight (steps ps)
straight_steps ps [] z d e h c s = absurd (omega arith)
straight_steps ps (q ∷ qs) z d e h c s =
    let all : All IsStraight (path_edges q qs ++ (last_or q qs, q) ∷ []) = All-push IsStraight (path_edges q qs)
    (last_or q qs, q) (All-tail IsStraight (last_or q qs, q) (path_edges q qs) s)
    (All-head IsStraight (last_or q qs, q) (path_edges q qs) s) in
    let to : path_edges q (qs ++ z ∷ []) ≡ path_edges q qs ++ (last_or q qs, q) ∷ [] = path_edges-snoc q qs z
    ∙ ap (λ (i : Point). path_edges q qs ++ (last_or q qs, i) ∷ []) c in
    subst (λ l. All IsStraight (steps l)) (sym e) (subst (All IsStraight) (sym to) all)

pub straight_edges : (ps qs : List Point) (z d : Point) → ps ≡ qs ++ z ∷ [] → 0 < length qs → z ≡ get_or qs 0 d
    → All IsStraight (steps ps) → All IsStraight (edges qs)
straight_edges ps [] z d e h c s = absurd (omega arith)
straight_edges ps (q ∷ qs) z d e h c s =
    let to : path_edges q (qs ++ z ∷ []) ≡ path_edges q qs ++ (last_or q qs, q) ∷ [] = path_edges-snoc q qs z
    ∙ ap (λ (i : Point). path_edges q qs ++ (last_or q qs, i) ∷ []) c in
    let all : All IsStraight (path_edges q qs ++ (last_or q qs, q) ∷ []) =
    subst (All IsStraight) to (subst (λ l. All IsStraight (steps l)) e s) in
    let p = All-pop IsStraight (path_edges q qs ++ (last_or q qs, q) ∷ []) (path_edges q qs) (Some (last_or q qs, q))
    refl all in
    All-cons IsStraight (last_or q qs, q) (path_edges q qs) p.1 p.0

not_true : (t : Bool) → not t ≡ true → t ≡ true → ⊥
not_true true h e = cc
not_true false h e = cc

not_false : (t : Bool) → not t ≡ false → t ≡ true
not_false true h = refl
not_false false h = cc

pub point_ne : (a b : Point) → not (int_eq a.x b.x && int_eq a.y b.y) ≡ true → a ≡ b → ⊥
point_ne a b h e =
    let d = Decides-and (int_eq a.x b.x) (int_eq a.y b.y) (Decides-int_eq a.x b.x) (Decides-int_eq a.y b.y) in
    not_true (int_eq a.x b.x && int_eq a.y b.y) h (d.1 (ap (λ (p : Point). p.x) e, ap (λ (p : Point). p.y) e))

pub point_eq : (a b : Point) → not (int_eq a.x b.x && int_eq a.y b.y) ≡ false → a ≡ b
point_eq a b h =
    let d = Decides-and (int_eq a.x b.x) (int_eq a.y b.y) (Decides-int_eq a.x b.x) (Decides-int_eq a.y b.y) in
    let both = d.0 (not_false (int_eq a.x b.x && int_eq a.y b.y) h) in
    ap (λ (i : ℤ). let p : Point = record { x = i; y = a.y } in p) both.0 ∙ ap (λ (i : ℤ). let p : Point =
    record { x = b.x; y = i } in p) both.1

pub no_fault : (qs : List Point) (f : RingFault) → IsFaultOf qs f → 3 ≤ length qs → All IsStraight (edges qs) → ⊥
no_fault qs TooFew h n s = absurd (omega (arith, h, n))
no_fault qs Oblique h n s = h.1 s
