-- Rings of teeth, one for each vertical edge.
use Rattle.std.proofs.Common.{◌≡◌, ◌+◌, ℕ, ℤ, pos, ◌-ℤ◌, ◌+ℤ◌, ◌≤ℤ◌, cond}
use Rattle.std.proofs.Common.{List, [], ◌∷◌, ◌++◌, sym, ap, ◌∙◌, refl, arith}
use Rattle.std.proofs.Common.{append_assoc, count_by}
use Rattle.std.proofs.lemmas.Int.{ints}
use Rattle.lvl_grid.specs.declared.point.Point.{Point}
use Rattle.lvl_grid.specs.declared.point.Square.{Square}
use Rattle.lvl_grid.specs.Winding.{Edge, path_edges, last_or, goes_up, goes_down, winding}
use Rattle.lvl_grid.proofs.Turning.{count-cons}
use Rattle.lvl_simplify.specs.declared.redraw.Upright.{Upright}
use Rattle.lvl_simplify.specs.Redraw.{winds, winding_by, tooth}
use Rattle.lvl_simplify.proofs.Turns.{net}
use Rattle.lvl_simplify.proofs.Redrawing.{edge_winds, no_height, not_right, more_first, winding_pushed}

abbrev pub no_upright : Upright
no_upright = record { x = pos 0; from = pos 0; to = pos 0 }

-- the winding of a path at a square, edge by edge
abbrev pub path_winding : Square → Point → List Point → ℤ
path_winding s p [] = pos 0
path_winding s p (q ∷ qs) = winds s p.x p.y q.y +ℤ path_winding s q qs

net_numbers : (edge rest : ℤ) (u d u' d' b c : ℕ) → u ≡ b + u' → d ≡ c + d' → pos b -ℤ pos c ≡ edge
    → pos u' -ℤ pos d' ≡ rest → pos u -ℤ pos d ≡ edge +ℤ rest
net_numbers edge rest u d u' d' b c e f g h = omega (arith, ints, e, f, g, h)

net_path : (s : Square) (p : Point) (qs : List Point) → net s (path_edges p qs) ≡ path_winding s p qs
net_path s p [] = refl
net_path s p (q ∷ qs) =
    let e : Edge = (p, q) in
    let rest : List Edge = path_edges q qs in
    net_numbers (winds s p.x p.y q.y) (path_winding s q qs) (count_by (goes_up s) (e ∷ rest))
    (count_by (goes_down s) (e ∷ rest)) (count_by (goes_up s) rest) (count_by (goes_down s) rest)
    (cond (goes_up s e) 1 0) (cond (goes_down s e) 1 0) (count-cons (goes_up s) e rest)
    (count-cons (goes_down s) e rest) (edge_winds s p q) (net_path s q qs)

path_more : (s : Square) (p : Point) (qs rs : List Point)
    → path_winding s p (qs ++ rs) ≡ path_winding s p qs +ℤ path_winding s (last_or p qs) rs
path_more s p [] rs = zero_first (path_winding s p rs)
  where
    zero_first : (z : ℤ) → z ≡ pos 0 +ℤ z
    zero_first z = omega (arith, ints)
path_more s p (q ∷ qs) rs =
    more_first (winds s p.x p.y q.y) (path_winding s q (qs ++ rs)) (path_winding s q qs)
    (path_winding s (last_or q qs) rs) (path_more s q qs rs)

last_more : (p : Point) (qs rs : List Point) → last_or p (qs ++ rs) ≡ last_or (last_or p qs) rs
last_more p [] rs = refl
last_more p (q ∷ qs) rs = last_more q qs rs

-- a tooth has the winding of its edge
tooth_winds : (s : Square) (left : ℤ) (p : Point) (u : Upright) → p.x ≡ left → left ≤ℤ s.x
    → path_winding s p (tooth left u) ≡ winds s u.x u.from u.to
tooth_winds s left p u e le =
    numbers (winds s p.x p.y u.from) (winds s left u.from u.from) (winds s u.x u.from u.to) (winds s u.x u.to u.to)
    (not_right s p.x p.y u.from (rw e le)) (no_height s left u.from) (no_height s u.x u.to)
  where
    numbers : (a b c d : ℤ) → a ≡ pos 0 → b ≡ pos 0 → d ≡ pos 0 → a +ℤ (b +ℤ (c +ℤ (d +ℤ pos 0))) ≡ c
    numbers a b c d e f g = omega (arith, ints, e, f, g)

-- four items appended one after another
pub four_pushed : {X : Type 0} (old one two three four : List X) (a b c d : X) → one ≡ old ++ a ∷ []
    → two ≡ one ++ b ∷ [] → three ≡ two ++ c ∷ [] → four ≡ three ++ d ∷ [] → four ≡ old ++ a ∷ b ∷ c ∷ d ∷ []
four_pushed old one two three four a b c d e f g h =
    h
    ∙ (ap (λ ys. ys ++ d ∷ []) g
    ∙ (append_assoc two (c ∷ []) (d ∷ [])
    ∙ (ap (λ ys. ys ++ c ∷ d ∷ []) f
    ∙ (append_assoc one (b ∷ []) (c ∷ d ∷ [])
    ∙ (ap (λ ys. ys ++ b ∷ c ∷ d ∷ []) e ∙ append_assoc old (a ∷ []) (b ∷ c ∷ d ∷ []))))))

-- the points of teeth from an abscissa have the winding of the edges, and end at that abscissa
pub record Teeth (left : ℤ) (us : List Upright) (points : List Point) : Type 0 where
  pub wind : (s : Square) → left ≤ℤ s.x → (p : Point) → p.x ≡ left → path_winding s p points ≡ winding_by s us
  pub last : (p : Point) → p.x ≡ left → (last_or p points).x ≡ left

pub no_teeth : (left : ℤ) (points : List Point) → points ≡ [] → Teeth left [] points
no_teeth left points e = rw e (record { wind = λ s le p at. refl; last = λ p at. at })

pub teeth_more : (left : ℤ) (us more : List Upright) (u : Upright) (old new : List Point) → more ≡ us ++ u ∷ []
    → new ≡ old ++ tooth left u → Teeth left us old → Teeth left more new
teeth_more left us more u old new e f h =
    rw (e, f) (record {
      wind = λ s le p at.
          path_more s p old (tooth left u)
          ∙ (both (h.wind s le p at) (tooth_winds s left (last_or p old) u (h.last p at) le)
          ∙ sym (winding_pushed s us u));
      last = λ p at. rw (last_more p old (tooth left u)) refl;
    })
  where
    both : {a b c d : ℤ} → a ≡ b → c ≡ d → a +ℤ c ≡ b +ℤ d
    both {a} {b} {c} {d} e f = ap (λ z. z +ℤ c) e ∙ ap (λ z. b +ℤ z) f

-- as a closed ring they have the same winding
pub teeth_wind : (s : Square) (left : ℤ) (us : List Upright) (points : List Point) → left ≤ℤ s.x
    → Teeth left us points → winding points s ≡ winding_by s us
teeth_wind s left us [] le h = h.wind s le (record { x = left; y = pos 0 }) refl
teeth_wind s left us (p ∷ ps) le h =
    net_path s (last_or p ps) (p ∷ ps) ∙ h.wind s le (last_or p ps) (h.last (record { x = left; y = pos 0 }) refl)
