-- The shapes of a cell as they are stored if they are few: the one at an index, and one more.
use Rattle.std.proofs.Common.{◌≡◌, ◌<◌, ◌+◌, ℕ, get_or, List, [], ◌∷◌, ◌++◌, map, length, All}
use Rattle.std.proofs.Common.{refl, sym, ap, arith, subst, ◌∙◌}
use Rattle.std.proofs.lemmas.List.{get_or-map, length-append, length-map, map-append}
use Rattle.std.proofs.lemmas.List.Elements.{All-get_or, All-head, All-push, All-tail, All-weaker}
use Rattle.lvl_grid.specs.declared.point.Point.{Point}
use Rattle.lvl_grid.specs.Turn.{shifted}
use Rattle.lvl_cells.specs.declared.few_shapes.FewSpan.{FewSpan}
use Rattle.lvl_cells.specs.declared.few_shapes.KeptRing.{KeptRing}
use Rattle.lvl_cells.specs.Cells.{PlainShape, Rings, shape_at}
use Rattle.lvl_cells.specs.inside.Few.{few_shape_in, IsFewSpan, IsKeptRing}
use Rattle.lvl_cells.specs.inside.Outlines.{outline, stretch_in}
use Rattle.lvl_cells.specs.inside.Spans.{numbered, IsMovable, IsPrefixOf, HasNumber}
use Rattle.lvl_cells.proofs.Outlined.{stretch_appended}
use Rattle.lvl_cells.proofs.Spanned.{stretch_same, number_same, no_fewer}

-- the shapes of the spans
abbrev pub few_in : List Point → List (List Point) → List FewSpan → List (PlainShape Rings)
few_in points kept spans = map (few_shape_in points kept) spans

abbrev pub AreFewSpans : List Point → List (List Point) → List FewSpan → Type 0
AreFewSpans points kept spans = All (IsFewSpan points kept) spans

pub in_few : (points : List Point) (kept : List (List Point)) (spans : List FewSpan) (shapes : List (PlainShape Rings))
    (i : ℕ) → few_in points kept spans ≡ shapes → i < length shapes → i < length spans
in_few points kept spans shapes i e h = omega (arith, h, ap length e, length-map spans (few_shape_in points kept))

-- the span at an index means the shape at that index
pub record FewSpanOf (shapes : List (PlainShape Rings)) (points : List Point) (kept : List (List Point)) (i : ℕ)
    (s : FewSpan) : Type 0 where
  pub is : IsFewSpan points kept s
  pub shape : few_shape_in points kept s ≡ shape_at shapes i

pub few_read : (points : List Point) (kept : List (List Point)) (spans : List FewSpan)
    (shapes : List (PlainShape Rings)) (i : ℕ) (s : FewSpan)
    → AreFewSpans points kept spans → few_in points kept spans ≡ shapes → i < length shapes
    → s ≡ get_or spans i s → FewSpanOf shapes points kept i s
few_read points kept spans shapes i s h e l is =
    let there : i < length spans = in_few points kept spans shapes i e l in
    let of : FewSpan → PlainShape Rings = few_shape_in points kept in
    record {
      is = subst (IsFewSpan points kept) (sym is) (All-get_or (IsFewSpan points kept) spans i s there h);
      shape = ap of is ∙ (sym (get_or-map of spans i s _ there) ∙ ap (λ hs. shape_at hs i) e);
    }

-- a span stays valid and means the same shape after more points and lists are kept
record IsStill (points points' : List Point) (kept kept' : List (List Point)) (s : FewSpan) : Type 0 where
  pub is : IsFewSpan points' kept' s
  pub same : few_shape_in points' kept' s ≡ few_shape_in points kept s

span_same : (points points' : List Point) (kept kept' : List (List Point)) (s : FewSpan)
    → IsPrefixOf points points' → IsPrefixOf kept kept' → IsFewSpan points kept s
    → IsStill points points' kept kept' s
span_same points points' kept kept' s on more h =
    let ring : outline (stretch_in points' s.begin s.end) s.along_y
    ≡ outline (stretch_in points s.begin s.end) s.along_y =
    ap (λ ps. outline ps s.along_y) (stretch_same points points' s.begin s.end on h.order h.inside) in
    let shifts : numbered kept' s.shifts ≡ numbered kept s.shifts =
    number_same _ kept kept' s.shifts [] more h.shifts in
    record {
      is = record {
        order = h.order;
        inside = omega (arith, h.inside, no_fewer points points' on);
        movable = rw ring h.movable;
        shifts = omega (arith, h.shifts, no_fewer kept kept' more);
      };
      same = rw (ring, shifts) refl;
    }

shapes_same : (points points' : List Point) (kept kept' : List (List Point)) (spans : List FewSpan)
    → IsPrefixOf points points' → IsPrefixOf kept kept' → AreFewSpans points kept spans
    → few_in points' kept' spans ≡ few_in points kept spans
shapes_same points points' kept kept' [] on more h = refl
shapes_same points points' kept kept' (s ∷ spans) on more h =
    rw (
      (span_same points points' kept kept' s on more (All-head (IsFewSpan points kept) s spans h)).same,
      shapes_same points points' kept kept' spans on more (All-tail (IsFewSpan points kept) s spans h),
    ) refl

-- the spans stay valid after more points and lists are kept
pub still : (points points' : List Point) (kept kept' : List (List Point)) (spans : List FewSpan)
    → IsPrefixOf points points' → IsPrefixOf kept kept' → AreFewSpans points kept spans
    → AreFewSpans points' kept' spans
still points points' kept kept' spans on more h =
    All-weaker {X = FewSpan} (IsFewSpan points kept) (IsFewSpan points' kept')
    (λ s is. (span_same points points' kept kept' s on more is).is) spans h

-- after a refusal the shapes are as before
pub refused : (points points' : List Point) (kept kept' : List (List Point)) (spans : List FewSpan)
    (shapes : List (PlainShape Rings))
    → IsPrefixOf points points' → IsPrefixOf kept kept' → AreFewSpans points kept spans
    → few_in points kept spans ≡ shapes → few_in points' kept' spans ≡ shapes
refused points points' kept kept' spans shapes on more h e =
    shapes_same points points' kept kept' spans on more h ∙ e

-- one more shape, appended
pub record AreMore (points' : List Point) (kept' : List (List Point)) (spans : List FewSpan) (s : FewSpan)
    (ring shifts : List Point) (shapes : List (PlainShape Rings)) : Type 0 where
  pub are : AreFewSpans points' kept' (spans ++ s ∷ [])
  pub is : few_in points' kept' (spans ++ s ∷ [])
      ≡ shapes ++ record { layer = s.layer; figure = ring ∷ []; shifts = shifts } ∷ []

pub one_more : (points points' : List Point) (kept kept' : List (List Point)) (spans : List FewSpan) (s : FewSpan)
    (k : KeptRing) (ring shifts : List Point) (shapes : List (PlainShape Rings))
    → IsPrefixOf points points' → IsPrefixOf kept kept' → AreFewSpans points kept spans
    → few_in points kept spans ≡ shapes → s.begin ≡ k.begin → s.end ≡ k.end → s.along_y ≡ k.along_y → s.by ≡ k.by
    → IsKeptRing points' k ring → HasNumber kept' s.shifts shifts
    → AreMore points' kept' spans s ring shifts shapes
one_more points points' kept kept' spans s k ring shifts shapes on more h e b d y by is n =
    let drawn : map (shifted s.by) (outline (stretch_in points' s.begin s.end) s.along_y) ≡ ring =
    rw (b, d, y, by) is.is in
    let last : few_shape_in points' kept' s ≡ record { layer = s.layer; figure = ring ∷ []; shifts = shifts } =
    rw (drawn, n.is) refl in
    record {
      are =
          All-push (IsFewSpan points' kept') spans s (still points points' kept kept' spans on more h)
          (record {
            order = rw (b, d) is.order;
            inside = rw d is.inside;
            movable = rw (b, d, y, by) is.movable;
            shifts = n.within;
          });
      is =
          map-append (few_shape_in points' kept') spans (s ∷ [])
          ∙ (ap (λ hs. hs ++ few_shape_in points' kept' s ∷ [])
          (refused points points' kept kept' spans shapes on more h e)
          ∙ ap (λ h. shapes ++ h ∷ []) last);
    }

-- points that are appended are a ring, moved
pub appended : (points more ring : List Point) (k : KeptRing) → IsMovable k.by (outline more k.along_y)
    → map (shifted k.by) (outline more k.along_y) ≡ ring → k.begin ≡ length points → k.end ≡ length points + length more
    → IsKeptRing (points ++ more) k ring
appended points more ring k is drawn b e =
    let those : stretch_in (points ++ more) k.begin k.end ≡ more = stretch_appended points more k.begin k.end b e in
    record {
      order = omega (arith, b, e);
      inside = omega (arith, e, length-append points more);
      movable = rw those is;
      is = rw those drawn;
    }
