-- Strips that are hashed part by part.
use Rattle.std.proofs.Common.{◌≡◌, ◌^◌, ◌-◌, ◌↔◌, List, [], ◌++◌, ℤ, pos, negsuc, ◌+ℤ◌, ◌-ℤ◌}
use Rattle.std.proofs.Common.{◌<ℤ◌, ◌≤ℤ◌, int_le, int_lt, inl, inr, Contains, Option, None, Some, IsTrue, refl, sym, ◌∙◌, subst}
use Rattle.std.proofs.Common.{arith}
use Rattle.std.proofs.lemmas.Bool.{and_from}
use Rattle.std.proofs.lemmas.Int.{ints}
use Rattle.std.proofs.lemmas.List.{append-nil, append_assoc}
use Rattle.std.proofs.lemmas.List.Elements.{All-append, All-nil}
use Rattle.lvl_grid.specs.declared.point.Square.{Square}
use Rattle.lvl_grid.specs.declared.point.Window.{Window}
use Rattle.lvl_grid.specs.Clip.{IsInWindow}
use Rattle.lvl_grid.specs.Winding.{SomeCovers}
use Rattle.lvl_names.specs.declared.layer.Layer.{Layer}
use Rattle.lvl_cells.specs.Checks.{Settled}
use Rattle.lvl_flat.specs.Flattened.{IsFlattenedWithin}
use Rattle.lvl_flat.specs.Sheet.{PlainSheet}
use Rattle.lvl_flat.specs.Sheets.{rings_on}
use Rattle.lvl_corners.specs.declared.corner.Corner.{Corner}
use Rattle.lvl_corners.specs.declared.digest.LayerHash.{LayerHash}
use Rattle.lvl_corners.specs.declared.span.Span.{Span}
use Rattle.lvl_corners.specs.Corners.{FitsCorner}
use Rattle.lvl_corners.specs.Digests.{HasHashed}
use Rattle.lvl_corners.specs.Gathered.{AreGathered, AreMoreGathered, IsLowered}
use Rattle.lvl_corners.specs.Parts.{only, AreCornersAt}
use Rattle.lvl_corners.specs.Spans.{AreCornersIn}
use Rattle.lvl_corners.proofs.Gathered.{corners_left, corners_of_both, gathered_all, gathered_left, gathered_more}
use Rattle.lvl_corners.proofs.Gathered.{gathered_none, more_lower}
use Rattle.lvl_corners.proofs.Parts.{AreParts, corners_at_all, corners_of_parts, no_corners_at}
use Rattle.lvl_corners.proofs.Spans.{corners_same, le_test}
use Rattle.lvl.specs.Hashes.{around, below_at, between, rows_around, stop_of, up_to, CoversIn, HasAll, HasRows}
use Rattle.lvl.specs.Hashes.{InStrip, IsCleared, IsGathering, IsPartPushed, IsPushedOf, IsRightPushed, IsStripPushed}
use Rattle.lvl.specs.Hashes.{IsUnder}
use Rattle.lvl.proofs.Hashing.{below_left, covers_within, left_below, lt_of, lt_test, saturated_from, saturated_to}
use Rattle.lvl.proofs.Hashing.{stop_is_end, stop_is_next}

-- a strip has the rows of its window
strip_rows : (s : Settled) (w : Window) (x end : ℤ) → HasAll s w → HasRows s (around w x end)
strip_rows s w x end all layer q covers =
    let there = all layer q covers in
    (there.y_from, there.y_below)

-- nothing is below a window, and nothing is in it if it has no rows
pub gathering_none : (s : Settled) (w : Window) (x end : ℤ) (h : LayerHash) → h.right.items ≡ []
    → IsGathering s w x end (below_at w.y0 w.y1) h h
gathering_none s w x end h none =
    let o : Option ℤ = below_at w.y0 w.y1 in
    let P : Square → Type 0 = InStrip s w x end o h.layer in
    let empty : (q : Square) → P q → ⊥ = λ q under.
    let there = under.1.0 in
    let low = there.y_from in
    let lt = left_below w.y0 w.y1 q.y there.y_below under.0 in
    absurd (omega (arith, ints, low, lt)) in
    record {
      layer = refl;
      corners = [];
      are = no_corners_at P x (up_to o) empty;
      fits = All-nil FitsCorner;
      hashes = λ before held. subst (HasHashed h) (sym (append-nil before)) held;
      gathered = gathered_none P x end (up_to o) h none empty;
    }

-- what a part adds to what the top covers below it
pub rows_parts : (s : Settled) (layers : List Layer) (w : Window) (f : List PlainSheet) (layer : Layer) (y end : ℤ)
    → HasRows s w → negsuc (2 ^ 63 - 1) ≤ℤ w.y0 → y ≤ℤ pos (2 ^ 63 - 1) → Contains layers layer → y <ℤ end
    → IsFlattenedWithin s layers (rows_around w y end) f
    → AreParts (IsUnder (below_at end w.y1) (CoversIn s w layer)) (IsUnder (Some y) (CoversIn s w layer))
    (SomeCovers (rings_on layer f)) y
rows_parts s layers w f layer y end all low high listed further flat =
    let covers = covers_within s layers (rows_around w y end) f flat layer in
    record {
      low = λ q. (
        λ l.
            let lt = lt_of q.y y l.0 in
            (lt, (below_left end w.y1 q.y (omega (arith, ints, lt, further)), l.1)),
        λ both. (lt_test q.y y both.0, both.1.1),
      );
      high = λ q. (
        λ r.
            let c = (covers q).0 r in
            let rows = c.0.1 in
            let y_from = rows.y_from in
            let least = saturated_from (y -ℤ pos 1) (omega (arith, ints, high)) in
            let inside : IsInWindow w q = record {
              x_from = rows.x_from;
              x_below = rows.x_below;
              y_from = (all layer q c.1).0;
              y_below = (all layer q c.1).1;
            } in
            (omega (arith, ints, y_from, least), (below_left end w.y1 q.y rows.y_below, (inside, c.1))),
        λ both.
            let there = both.1.1.0 in
            let y_from = there.y_from in
            let ge = both.0 in
            let y_low : negsuc (2 ^ 63 - 1) ≤ℤ q.y = omega (arith, ints, low, y_from) in
            let rows : IsInWindow (rows_around w y end) q = record {
              x_from = there.x_from;
              x_below = there.x_below;
              y_from = saturated_to (y -ℤ pos 1) q.y ge y_low;
              y_below = left_below end w.y1 q.y there.y_below both.1.0;
            } in
            (covers q).1 ((listed, rows), both.1.1.1),
      );
    }

-- what is left of a lower end
strip_left : (s : Settled) (w : Window) (x end stop : ℤ) (o : Option ℤ) (layer : Layer) → stop ≤ℤ end → (q : Square)
    → InStrip s w x stop o layer q ↔ ((q.x <ℤ stop) × InStrip s w x end o layer q)
strip_left s w x end stop o layer lower q = (
  λ h.
      let there = h.1.0 in
      let lt = there.x_below in
      let inside : IsInWindow (around w x end) q = record {
        x_from = there.x_from;
        x_below = omega (arith, ints, lt, lower);
        y_from = there.y_from;
        y_below = there.y_below;
      } in
      (lt, (h.0, (inside, h.1.1))),
  λ both.
      let there = both.1.1.0 in
      let inside : IsInWindow (around w x stop) q = record {
        x_from = there.x_from;
        x_below = both.0;
        y_from = there.y_from;
        y_below = there.y_below;
      } in
      (both.1.0, (inside, both.1.1.1)),
)

-- squares up to x are left of a lower end
strip_near : (s : Settled) (w : Window) (x end stop : ℤ) (o : Option ℤ) (layer : Layer) → IsLowered x end stop
    → (q : Square) → InStrip s w x end o layer q → q.x ≤ℤ x → q.x <ℤ stop
strip_near s w x end stop o layer lower q h le = elim lower.1 [
  | inl right ↦ omega (arith, ints, le, right)
  | inr same ↦ let lt = h.1.0.x_below in omega (arith, ints, lt, same)
]

-- what is gathered up to a lower end
pub gathering_lower : (s : Settled) (w : Window) (x end stop : ℤ) (o : Option ℤ) (old new : LayerHash)
    → IsLowered x end stop → IsGathering s w x end o old new → IsGathering s w x stop o old new
gathering_lower s w x end stop o old new lower g =
    let P : Square → Type 0 = InStrip s w x end o old.layer in
    let Q : Square → Type 0 = InStrip s w x stop o old.layer in
    let left = strip_left s w x end stop o old.layer lower.0 in
    record {
      layer = g.layer;
      corners = g.corners;
      are = corners_left P Q x stop (up_to o) g.corners (strip_near s w x end stop o old.layer lower) left g.are;
      fits = g.fits;
      hashes = g.hashes;
      gathered = gathered_left P Q x end stop (up_to o) new lower.0 left g.gathered;
    }

-- one more part, up to an end that may be lower
pub gathering_more : (s : Settled) (layers : List Layer) (w : Window) (f : List PlainSheet) (x end stop y top : ℤ)
    → (old mid new : LayerHash) → HasAll s w → negsuc (2 ^ 63 - 1) ≤ℤ w.y0 → y ≤ℤ pos (2 ^ 63 - 1)
    → Contains layers old.layer → y <ℤ top → IsLowered x end stop
    → IsFlattenedWithin s layers (rows_around (around w x end) y top) f → IsGathering s w x end (Some y) old mid
    → IsPartPushed f x stop (record { from = Some y; below = below_at top w.y1 }) mid new
    → IsGathering s w x stop (below_at top w.y1) old new
gathering_more s layers w f x end stop y top old mid new all low high listed further lower flat r p =
    let o : Option ℤ = below_at top w.y1 in
    let rows : Span = record { from = Some y; below = o } in
    let P : Square → Type 0 = InStrip s w x end o old.layer in
    let L : Square → Type 0 = InStrip s w x end (Some y) old.layer in
    let U : Square → Type 0 = SomeCovers (rings_on old.layer f) in
    let Q : Square → Type 0 = InStrip s w x stop o old.layer in
    let parts : AreParts P L U y =
    rows_parts s layers (around w x end) f old.layer y top (strip_rows s w x end all) low high listed further flat in
    let are : AreCornersAt U x rows p.corners =
    subst (λ (layer : Layer). AreCornersAt (SomeCovers (rings_on layer f)) x rows p.corners) r.layer p.are in
    let more : AreMoreGathered U x stop rows mid new =
    subst (λ (layer : Layer). AreMoreGathered (SomeCovers (rings_on layer f)) x stop rows mid new) r.layer p.gathered in
    let corners : List Corner = r.corners ++ p.corners in
    let both : AreCornersAt P x (up_to o) corners =
    corners_of_parts P L U x (up_to o) y r.corners p.corners parts (below_left top w.y1 y further) r.are are in
    let gathered : AreGathered P x stop (up_to o) new =
    gathered_more P L U x end stop (up_to o) y mid new parts (below_left top w.y1 y further) lower.0 r.gathered more in
    let left = strip_left s w x end stop o old.layer lower.0 in
    record {
      layer = p.layer ∙ r.layer;
      corners = corners;
      are = corners_left P Q x stop (up_to o) corners (strip_near s w x end stop o old.layer lower) left both;
      fits = All-append FitsCorner r.corners p.corners r.fits p.fits;
      hashes = λ before held. subst (HasHashed new) (append_assoc before r.corners p.corners)
          (p.hashes (before ++ r.corners) (r.hashes before held));
      gathered = gathered_left P Q x stop stop (up_to o) new (omega (arith, ints)) left gathered;
    }

-- a part is gathered up to a lower end
pub part_lower : (f : List PlainSheet) (x end stop : ℤ) (rows : Span) (old new : LayerHash) → stop ≤ℤ end
    → IsPartPushed f x end rows old new → IsPartPushed f x stop rows old new
part_lower f x end stop rows old new lower p = record {
  layer = p.layer;
  corners = p.corners;
  are = p.are;
  fits = p.fits;
  hashes = p.hashes;
  gathered = more_lower (SomeCovers (rings_on old.layer f)) x end stop rows old new lower p.gathered;
}

-- when no rows are left, the corners at the abscissa are those of the strip there
strip_at : (s : Settled) (w : Window) (x end : ℤ) (old new : LayerHash) (g : IsGathering s w x end None old new)
    → AreCornersIn (CoversIn s (around w x end) old.layer) (only x) g.corners
strip_at s w x end old new g =
    let C : Square → Type 0 = CoversIn s (around w x end) old.layer in
    corners_same (IsUnder None C) C (only x) g.corners (λ q. (λ u. u.1, λ c. (refl, c)))
    (corners_at_all (IsUnder None C) x g.corners g.are)

-- a strip of one abscissa
pub strip_narrow : (s : Settled) (w : Window) (x end : ℤ) (old new : LayerHash) → end ≤ℤ (x +ℤ pos 1)
    → IsGathering s w x end None old new → IsStripPushed s w x end old new
strip_narrow s w x end old new narrow g =
    let C : Square → Type 0 = CoversIn s (around w x end) old.layer in
    subst (λ z. IsPushedOf C (between x z) old new) (sym (stop_is_next x end narrow)) (record {
      layer = g.layer;
      corners = g.corners;
      are = strip_at s w x end old new g;
      fits = g.fits;
      hashes = g.hashes;
    })

-- a strip of more, after what was gathered is taken
pub strip_wide : (s : Settled) (w : Window) (x end : ℤ) (old mid new : LayerHash) → (x +ℤ pos 1) <ℤ end
    → IsGathering s w x end None old mid → IsRightPushed (between (x +ℤ pos 1) end) mid new
    → IsStripPushed s w x end old new
strip_wide s w x end old mid new wide g p =
    let C : Square → Type 0 = CoversIn s (around w x end) old.layer in
    let covered = g.gathered.covered in
    let span : Span = between (x +ℤ pos 1) end in
    let right = p.taken covered (gathered_all (IsUnder None C) x end mid g.gathered) in
    let are : AreCornersIn C span right.0 =
    corners_same (λ q. IsTrue (covered q)) C span right.0
    (λ q. (λ t. ((g.gathered.is_covered q).0 t).1, λ c. (g.gathered.is_covered q).1 (refl, c))) right.1 in
    let inner = and_from (int_le x (x +ℤ pos 1)) (int_lt (x +ℤ pos 1) end) (le_test x (x +ℤ pos 1) (omega (arith, ints)))
    (lt_test (x +ℤ pos 1) end wide) in
    subst (λ z. IsPushedOf C (between x z) old new) (sym (stop_is_end x end (omega (arith, ints, wide)))) (record {
      layer = p.layer ∙ g.layer;
      corners = g.corners ++ right.0;
      are = corners_of_both C (between x end) (x +ℤ pos 1) g.corners right.0 inner (strip_at s w x end old mid g) are;
      fits = All-append FitsCorner g.corners right.0 g.fits right.2;
      hashes = λ before held. subst (HasHashed new) (append_assoc before g.corners right.0)
          (right.3 (before ++ g.corners) (g.hashes before held));
    })

-- a strip after what was gathered before is dropped
pub strip_cleared : (s : Settled) (w : Window) (x end : ℤ) (old mid new : LayerHash) → IsCleared old mid
    → IsStripPushed s w x end mid new → IsStripPushed s w x end old new
strip_cleared s w x end old mid new c p = record {
  layer = p.layer ∙ c.layer;
  corners = p.corners;
  are =
      subst (λ (layer : Layer). AreCornersIn (CoversIn s (around w x end) layer) (between x (stop_of x end)) p.corners)
      c.layer p.are;
  fits = p.fits;
  hashes = λ before held. p.hashes before (subst (HasHashed mid) (append-nil before) (c.hashes before held));
}
