-- The shapes of a cell as they are stored: the one at an index, and one more.
use Rattle.std.proofs.Common.{◌≡◌, ◌≢◌, ◌≤◌, ◌<◌, ◌-◌, ◌+◌, ◌^◌, ℕ, zero, suc, get_or, List, [], ◌∷◌, ◌++◌, take, drop}
use Rattle.std.proofs.Common.{map}
use Rattle.std.proofs.Common.{length, All, inl, inr, Result, Ok, Err, OnErr, refl, sym, ap, arith, subst, ◌∙◌}
use Rattle.std.proofs.lemmas.List.{drop-append-le, drop_at, get_or_default, get_or-map, get_or-take, get_or-drop}
use Rattle.std.proofs.lemmas.List.{length-drop, length-append, length-map, length-take-le, map-append, same_lists}
use Rattle.std.proofs.lemmas.List.{take-append-drop, take-append-le, take_all}
use Rattle.std.proofs.lemmas.Option.{get_or_from_slice_get}
use Rattle.std.proofs.lemmas.List.Elements.{All-from_get_or, All-get_or, All-head, All-push, All-tail, All-weaker}
use Rattle.lvl_grid.specs.declared.point.Point.{Point}
use Rattle.lvl_grid.specs.Turn.{FitsPoint, shifted}
use Rattle.lvl_names.specs.Shifts.{one_place}
use Rattle.lvl_cells.specs.declared.shape_lists.Span.{Span}
use Rattle.lvl_cells.specs.declared.shared.KeptFigure.{KeptFigure}
use Rattle.lvl_cells.specs.Cells.{PlainShape, Rings, shape_at}
use Rattle.lvl_cells.specs.inside.Spans.{numbered, displaced, origin, figure_in, shape_in, FitsMoved, IsAgain}
use Rattle.lvl_cells.proofs.Indexes.{push_last}
use Rattle.lvl_cells.proofs.Moving.{unmoved_rings}
use Rattle.lvl_cells.specs.inside.Spans.{IsFigure, IsSpan, IsPrefixOf, HasNumber, HasMove}

-- the shapes of the spans
abbrev pub shapes_in : Rings → List Point → List (List Point) → List Span → List (PlainShape Rings)
shapes_in rings moves kept spans = map (shape_in rings moves kept) spans

abbrev pub AreSpans : Rings → List Point → List (List Point) → List Span → Type 0
AreSpans rings moves kept spans = All (IsSpan rings moves kept) spans

pub in_spans : (rings : Rings) (moves : List Point) (kept : List (List Point)) (spans : List Span)
    (shapes : List (PlainShape Rings)) (i : ℕ)
    → shapes_in rings moves kept spans ≡ shapes → i < length shapes → i < length spans
in_spans rings moves kept spans shapes i e h =
    omega (arith, h, ap length e, length-map spans (shape_in rings moves kept))

-- the span at an index means the shape at that index
pub record SpanOf (shapes : List (PlainShape Rings)) (rings : Rings) (moves : List Point) (kept : List (List Point))
    (i : ℕ) (s : Span) : Type 0 where
  pub is : IsSpan rings moves kept s
  pub shape : shape_in rings moves kept s ≡ shape_at shapes i

pub span_read : (rings : Rings) (moves : List Point) (kept : List (List Point)) (spans : List Span)
    (shapes : List (PlainShape Rings)) (i : ℕ) (s : Span)
    → AreSpans rings moves kept spans → shapes_in rings moves kept spans ≡ shapes → i < length shapes
    → s ≡ get_or spans i s → SpanOf shapes rings moves kept i s
span_read rings moves kept spans shapes i s h e l is =
    let there : i < length spans = in_spans rings moves kept spans shapes i e l in
    let of : Span → PlainShape Rings = shape_in rings moves kept in
    record {
      is = subst (IsSpan rings moves kept) (sym is) (All-get_or (IsSpan rings moves kept) spans i s there h);
      shape = ap of is ∙ (sym (get_or-map of spans i s _ there) ∙ ap (λ hs. shape_at hs i) e);
    }

pub shifts_read : (rings : Rings) (moves : List Point) (kept : List (List Point)) (spans : List Span)
    (shapes : List (PlainShape Rings)) (i : ℕ) (s : Span)
    → AreSpans rings moves kept spans → shapes_in rings moves kept spans ≡ shapes → i < length shapes
    → s ≡ get_or spans i s → (s.shifts < length kept + 1) × (numbered kept s.shifts ≡ (shape_at shapes i).shifts)
shifts_read rings moves kept spans shapes i s h e l is =
    let span = span_read rings moves kept spans shapes i s h e l is in
    (span.is.shifts, ap (λ (g : PlainShape Rings). g.shifts) span.shape)

-- the item with a number that isn't 0
pub item_is : {X : Type 0} (first : X) (kept : List X) (n : ℕ) (d e : X) → n ≢ 0 → n < length kept + 1
    → get_or (first ∷ kept) n d ≡ get_or kept (n - 1) e
item_is first kept zero d e some h = absurd (some refl)
item_is first kept (suc n) d e some h =
    let low : n < length kept = omega (arith, h) in
    let at : suc n - 1 ≡ n = omega arith in
    rw at (get_or_default kept n d e low)

pub numbered_is : (kept : List (List Point)) (n : ℕ) (d : List Point) → n ≢ 0 → n < length kept + 1
    → numbered kept n ≡ get_or kept (n - 1) d
numbered_is kept n d some h = item_is one_place kept n [] d some h

-- the number of rings of a figure
pub figure_length : (rings : Rings) (begin end : ℕ) (by : Point) → begin ≤ end → end ≤ length rings
    → length (figure_in rings begin end by) ≡ end - begin
figure_length rings begin end by h k =
    length-map (take (end - begin) (drop begin rings)) (map (shifted by))
    ∙ length-take-le (end - begin) (drop begin rings) (omega (arith, length-drop begin rings, h, k))

ring_between : (rings : Rings) (begin end j : ℕ) → j < end - begin
    → get_or (take (end - begin) (drop begin rings)) j [] ≡ get_or rings (begin + j) []
ring_between rings begin end j h = get_or-take (end - begin) (drop begin rings) j [] h ∙ get_or-drop begin rings j []

-- a ring of a figure is a kept one, moved
pub ring_of_figure : (rings : Rings) (begin end j : ℕ) (by : Point) → begin ≤ end → end ≤ length rings
    → j < end - begin
    → get_or (figure_in rings begin end by) j [] ≡ map (shifted by) (get_or rings (begin + j) [])
ring_of_figure rings begin end j by h k low =
    let count : length (take (end - begin) (drop begin rings)) ≡ end - begin =
    length-take-le (end - begin) (drop begin rings) (omega (arith, length-drop begin rings, h, k)) in
    get_or-map (map (shifted by)) (take (end - begin) (drop begin rings)) j [] [] (omega (arith, low, count))
    ∙ ap (map (shifted by)) (ring_between rings begin end j low)

-- the index of a ring of a shape among all rings
pub record RingOf (shapes : List (PlainShape Rings)) (rings : Rings) (i j : ℕ) (s : Span) (by : Point)
    : Type 0 where
  pub before : (s.begin + j < s.end) × (s.end < 2 ^ 32)
  pub inside : s.begin + j < length rings
  pub value : map (shifted by) (get_or rings (s.begin + j) []) ≡ get_or (shape_at shapes i).figure j []
  pub fits : FitsMoved by (map (shifted by) (get_or rings (s.begin + j) []) ∷ [])

ring_read : (shapes : List (PlainShape Rings)) (rings : Rings) (moves : List Point) (kept : List (List Point))
    (i j : ℕ) (s : Span)
    → SpanOf shapes rings moves kept i s → j < length (shape_at shapes i).figure
    → RingOf shapes rings i j s (displaced moves s.moved)
ring_read shapes rings moves kept i j s h l =
    let by : Point = displaced moves s.moved in
    let figure = ap (λ (g : PlainShape Rings). g.figure) h.shape in
    let count = figure_length rings s.begin s.end by h.is.stretch.order h.is.stretch.inside in
    let low : j < s.end - s.begin = omega (arith, l, count, ap length figure) in
    let one = ring_of_figure rings s.begin s.end j by h.is.stretch.order h.is.stretch.inside low in
    record {
      before = (omega (arith, low), h.is.stretch.few);
      inside = omega (arith, low, h.is.stretch.inside);
      value = sym one ∙ ap (λ (rs : Rings). get_or rs j []) figure;
      fits =
          elim h.is.fits [
            | inl none ↦ inl none
            | inr fit ↦
                inr (All-push (All FitsPoint) [] (map (shifted by) (get_or rings (s.begin + j) []))
                (λ k d none. absurd (omega (arith, none)))
                (subst (All FitsPoint) one
                (All-get_or (All FitsPoint) (figure_in rings s.begin s.end by) j [] (omega (arith, low, count)) fit)))
          ];
    }

pub ring_from : (rings : Rings) (moves : List Point) (kept : List (List Point)) (spans : List Span)
    (shapes : List (PlainShape Rings)) (i j : ℕ) (s : Span)
    → AreSpans rings moves kept spans → shapes_in rings moves kept spans ≡ shapes → i < length shapes
    → s ≡ get_or spans i s → j < length (shape_at shapes i).figure
    → RingOf shapes rings i j s (displaced moves s.moved)
ring_from rings moves kept spans shapes i j s h e l is m =
    ring_read shapes rings moves kept i j s (span_read rings moves kept spans shapes i s h e l is) m

-- a list that begins with the old one is the old one and more
pub grown : {X : Type 0} (old new : List X) → IsPrefixOf old new → new ≡ old ++ drop (length old) new
grown old new g = sym (take-append-drop (length old) new) ∙ ap (λ xs. xs ++ drop (length old) new) g

pub stretch_same : {X : Type 0} (old new : List X) (begin end : ℕ) → IsPrefixOf old new → begin ≤ end → end ≤ length old
    → take (end - begin) (drop begin new) ≡ take (end - begin) (drop begin old)
stretch_same old new begin end g h k =
    let more = drop (length old) new in
    let fits : end - begin ≤ length (drop begin old) = omega (arith, length-drop begin old, h, k) in
    ap (λ rs. take (end - begin) (drop begin rs)) (grown old new g)
    ∙ (ap (take (end - begin)) (drop-append-le begin old more (omega (arith, h, k)))
    ∙ take-append-le (end - begin) (drop begin old) more fits)

-- a number has the same item after more items are kept
pub number_same : {X : Type 0} (first : X) (old new : List X) (n : ℕ) (d : X) → IsPrefixOf old new → n < length old + 1
    → get_or (first ∷ new) n d ≡ get_or (first ∷ old) n d
number_same first old new zero d g h = refl
number_same first old new (suc n) d g h =
    let low : n < length old = omega (arith, h) in
    sym (get_or-take (length old) new n d low) ∙ ap (λ ks. get_or ks n d) g

pub no_fewer : {X : Type 0} (old new : List X) → IsPrefixOf old new → length old ≤ length new
no_fewer old new g = omega (arith, ap length (grown old new g), length-append old (drop (length old) new))

-- the three lists of kept items begin with the old ones
pub record AllGoOn (rings rings' : Rings) (moves moves' : List Point) (kept kept' : List (List Point)) : Type 0 where
  pub rings_on : IsPrefixOf rings rings'
  pub moves_on : IsPrefixOf moves moves'
  pub kept_on : IsPrefixOf kept kept'

-- a span stays valid and means the same shape after more items are kept
record IsStill (rings rings' : Rings) (moves moves' : List Point) (kept kept' : List (List Point)) (s : Span)
    : Type 0 where
  pub is : IsSpan rings' moves' kept' s
  pub same : shape_in rings' moves' kept' s ≡ shape_in rings moves kept s

span_same : (rings rings' : Rings) (moves moves' : List Point) (kept kept' : List (List Point)) (s : Span)
    → AllGoOn rings rings' moves moves' kept kept' → IsSpan rings moves kept s
    → IsStill rings rings' moves moves' kept kept' s
span_same rings rings' moves moves' kept kept' s on h =
    let by : displaced moves' s.moved ≡ displaced moves s.moved =
    number_same origin moves moves' s.moved origin on.moves_on h.moved in
    let figure : figure_in rings' s.begin s.end (displaced moves' s.moved)
    ≡ figure_in rings s.begin s.end (displaced moves s.moved) =
    rw by (ap (map (map (shifted (displaced moves s.moved))))
    (stretch_same rings rings' s.begin s.end on.rings_on h.stretch.order h.stretch.inside)) in
    let shifts : numbered kept' s.shifts ≡ numbered kept s.shifts =
    number_same _ kept kept' s.shifts [] on.kept_on h.shifts in
    record {
      is = record {
        stretch = record {
          order = h.stretch.order;
          inside = omega (arith, h.stretch.inside, no_fewer rings rings' on.rings_on);
          few = h.stretch.few;
        };
        moved = omega (arith, h.moved, no_fewer moves moves' on.moves_on);
        shifts = omega (arith, h.shifts, no_fewer kept kept' on.kept_on);
        fits = rw (figure, by) h.fits;
      };
      same = rw (figure, shifts) refl;
    }

shapes_same : (rings rings' : Rings) (moves moves' : List Point) (kept kept' : List (List Point)) (spans : List Span)
    → AllGoOn rings rings' moves moves' kept kept' → AreSpans rings moves kept spans
    → shapes_in rings' moves' kept' spans ≡ shapes_in rings moves kept spans
shapes_same rings rings' moves moves' kept kept' [] on h = refl
shapes_same rings rings' moves moves' kept kept' (s ∷ spans) on h =
    rw (
      (span_same rings rings' moves moves' kept kept' s on (All-head (IsSpan rings moves kept) s spans h)).same,
      shapes_same rings rings' moves moves' kept kept' spans on (All-tail (IsSpan rings moves kept) s spans h),
    ) refl

-- the shapes stay the same after more items are kept
pub still : (rings rings' : Rings) (moves moves' : List Point) (kept kept' : List (List Point)) (spans : List Span)
    → AllGoOn rings rings' moves moves' kept kept' → AreSpans rings moves kept spans
    → AreSpans rings' moves' kept' spans
still rings rings' moves moves' kept kept' spans on h =
    All-weaker {X = Span} (IsSpan rings moves kept) (IsSpan rings' moves' kept')
    (λ s is. (span_same rings rings' moves moves' kept kept' s on is).is) spans h

-- after a refusal the shapes are as before
pub refused : (rings rings' : Rings) (moves moves' : List Point) (kept kept' : List (List Point)) (spans : List Span)
    (shapes : List (PlainShape Rings))
    → AllGoOn rings rings' moves moves' kept kept' → AreSpans rings moves kept spans
    → shapes_in rings moves kept spans ≡ shapes → shapes_in rings' moves' kept' spans ≡ shapes
refused rings rings' moves moves' kept kept' spans shapes on h e =
    shapes_same rings rings' moves moves' kept kept' spans on h ∙ e

-- one more shape, appended
pub record AreMore (rings' : Rings) (moves' : List Point) (kept' : List (List Point)) (spans : List Span) (s : Span)
    (figure : Rings) (shifts : List Point) (shapes : List (PlainShape Rings)) : Type 0 where
  pub are : AreSpans rings' moves' kept' (spans ++ s ∷ [])
  pub is : shapes_in rings' moves' kept' (spans ++ s ∷ [])
      ≡ shapes ++ record { layer = s.layer; figure = figure; shifts = shifts } ∷ []

pub one_more : (rings rings' : Rings) (moves moves' : List Point) (kept kept' : List (List Point)) (spans : List Span)
    (s : Span) (f : KeptFigure) (figure : Rings) (shifts : List Point) (shapes : List (PlainShape Rings))
    → AllGoOn rings rings' moves moves' kept kept' → AreSpans rings moves kept spans
    → shapes_in rings moves kept spans ≡ shapes → s.begin ≡ f.begin → s.end ≡ f.end
    → IsFigure rings' f figure → HasMove moves' s.moved f.by → HasNumber kept' s.shifts shifts
    → AreMore rings' moves' kept' spans s figure shifts shapes
one_more rings rings' moves moves' kept kept' spans s f figure shifts shapes on h e b d is by n =
    let drawn : figure_in rings' s.begin s.end (displaced moves' s.moved) ≡ figure = rw (b, d, by.is) is.is in
    let last : shape_in rings' moves' kept' s ≡ record { layer = s.layer; figure = figure; shifts = shifts } =
    rw (drawn, n.is) refl in
    record {
      are =
          All-push (IsSpan rings' moves' kept') spans s (still rings rings' moves moves' kept kept' spans on h)
          (record {
            stretch = record { order = rw (b, d) is.order; inside = rw d is.inside; few = rw d is.few };
            moved = by.within;
            shifts = n.within;
            fits = rw (drawn, by.is) is.fits;
          });
      is =
          map-append (shape_in rings' moves' kept') spans (s ∷ [])
          ∙ (ap (λ hs. hs ++ shape_in rings' moves' kept' s ∷ [])
          (refused rings rings' moves moves' kept kept' spans shapes on h e)
          ∙ ap (λ h. shapes ++ h ∷ []) last);
    }

-- the rings with an index from one up to another, moved, are a figure
pub again : (rings figure : Rings) (f : KeptFigure) → f.begin ≤ f.end → f.end ≤ length rings → f.end < 2 ^ 32
    → f.end - f.begin ≡ length figure
    → ((i : ℕ) → i < length figure → IsAgain (get_or rings (f.begin + i) []) f.by (get_or figure i []))
    → IsFigure rings f figure
again rings figure f order inside few count each =
    let long = figure_length rings f.begin f.end f.by order inside in
    record {
      order = order;
      inside = inside;
      few = few;
      is =
          same_lists (figure_in rings f.begin f.end f.by) figure (long ∙ count)
          (λ k d within.
          let low : k < length figure = omega (arith, within, long, count) in
          get_or_default (figure_in rings f.begin f.end f.by) k d [] within
          ∙ (ring_of_figure rings f.begin f.end k f.by order inside (omega (arith, low, count))
          ∙ ((each k low).is ∙ get_or_default figure k [] d low)));
      fits =
          inr (All-from_get_or (All FitsPoint) figure [] (λ i low. (each i low).fits));
    }

-- rings that are appended are a figure that isn't moved
pub added : (rings more : Rings) (f : KeptFigure) → f.begin ≡ length rings → f.end ≡ length rings + length more
    → f.end < 2 ^ 32 → f.by ≡ origin → IsFigure (rings ++ more) f more
added rings more f b e few by =
    let all : length more ≤ f.end - f.begin = omega (arith, b, e) in
    let those : take (f.end - f.begin) (drop f.begin (rings ++ more)) ≡ more =
    ap (take (f.end - f.begin)) (drop_at rings more f.begin (sym b)) ∙ take_all (f.end - f.begin) more all in
    record {
      order = omega (arith, b, e);
      inside = omega (arith, e, length-append rings more);
      few = few;
      is = rw (those, by) (unmoved_rings more);
      fits = inl by;
    }

pub goes_on_same : {X : Type 0} (xs : List X) → IsPrefixOf xs xs
goes_on_same xs = take_all (length xs) xs (omega arith)

pub goes_on_more : {X : Type 0} (xs more : List X) → IsPrefixOf xs (xs ++ more)
goes_on_more xs more = take-append-le (length xs) xs more (omega arith) ∙ take_all (length xs) xs (omega arith)

-- the item that is appended has the number of all items
last_numbered : {X : Type 0} (first : X) (old : List X) (x d : X) (n : ℕ) → n ≡ length (old ++ x ∷ [])
    → get_or (first ∷ (old ++ x ∷ [])) n d ≡ x
last_numbered first old x d n e =
    let next : n ≡ suc (length old) = omega (arith, e, length-append old (x ∷ [])) in
    ap (λ k. get_or (first ∷ (old ++ x ∷ [])) k d) next
    ∙ get_or_from_slice_get (old ++ x ∷ []) (length old) x d (push_last old x)

pub last_move : (old new : List Point) (by : Point) (n : ℕ) → new ≡ old ++ by ∷ [] → n ≡ length new
    → HasMove new n by
last_move old new by n is e =
    subst (λ ms. HasMove ms n by) (sym is)
    (record {
      within = omega (arith, e, ap length is);
      is = last_numbered origin old by origin n (e ∙ ap length is);
    })

pub last_number : (old new : List (List Point)) (shifts : List Point) (n : ℕ) → new ≡ old ++ shifts ∷ []
    → n ≡ length new → HasNumber new n shifts
last_number old new shifts n is e =
    subst (λ ks. HasNumber ks n shifts) (sym is)
    (record {
      within = omega (arith, e, ap length is);
      is = last_numbered one_place old shifts [] n (e ∙ ap length is);
    })

pub always_err : {T E P : Type 0} (r : Result T E) → P → OnErr r P
always_err (Ok x) p = tt
always_err (Err x) p = p
