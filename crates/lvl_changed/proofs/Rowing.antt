-- What rows of arrays cover.
use Rattle.std.proofs.Common.{◌≡◌, ◌↔◌, ◌<◌, ◌+◌, ◌++◌, ◌∷◌, [], ℕ, List, Any, Contains, take, length, get_or, pos}
use Rattle.std.proofs.Common.{inl, inr, refl, sym, ap, ◌∙◌, subst, arith}
use Rattle.std.proofs.lemmas.Bool.{cases_lt}
use Rattle.std.proofs.lemmas.Int.{ints}
use Rattle.lvl_grid.specs.declared.point.Point.{Point}
use Rattle.lvl_grid.specs.declared.point.Square.{Square}
use Rattle.lvl_grid.specs.declared.map.Map.{Map}
use Rattle.lvl_grid.specs.Turn.{shifted}
use Rattle.lvl_grid.proofs.Anyone.{some_contained, Any-map, Any-nil}
use Rattle.lvl_grid.proofs.Composing.{same_point}
use Rattle.lvl_names.specs.declared.layer.Layer.{Layer}
use Rattle.lvl_names.specs.Shifts.{steps, lattice}
use Rattle.lvl_cells.specs.Cells.{PlainCell, Rings, map_at}
use Rattle.lvl_changed.specs.declared.arrays.Array.{Array}
use Rattle.lvl_changed.specs.declared.lattices.Rows.{Rows}
use Rattle.lvl_changed.specs.declared.placements.Placement.{Placement}
use Rattle.lvl_changed.specs.inside.Arrays.{all_places, as_reference, each_place, every_place}
use Rattle.lvl_changed.specs.inside.Placements.{PlacedCover, PlacementCovers}
use Rattle.lvl_changed.specs.inside.Rows.{AddsRows, AreRowsOf, AreSplit, RowsCover, row_at, scaled}
use Rattle.lvl_changed.specs.declared.placed.Placed.{Placed}
use Rattle.lvl_changed.proofs.Arraying.{any_either, array_added, array_held, arrays_added, arrays_cover, arrays_more}
use Rattle.lvl_changed.proofs.Grid.{lattice_has, zero_times}
use Rattle.lvl_changed.proofs.Sums.{zero_point}

row_step : (a : Point) (i : ℕ) (b : Point) (j : ℕ) → shifted (scaled b j) (steps a i zero_point 0) ≡ steps a i b j
row_step a i b j =
    same_point _ _ (omega (arith, ints, zero_times (pos 0))) (omega (arith, ints, zero_times (pos 0)))

-- the rows of a lattice
pub rows_lattice : (shifts line : List Point) (a b : Point) (m n : ℕ) → 0 < m → shifts ≡ lattice a m b n
    → line ≡ lattice a m zero_point 1 → AreRowsOf shifts (record { line = line; up = b; count = n })
rows_lattice shifts line a b m n some is one e = (
  λ has.
      let on = (lattice_has a m b n e some).0 (subst (λ (es : List Point). Contains es e) is has) in
      let f : Point = steps a on.0 zero_point 0 in (
        on.1,
        on.3,
        (
          f,
          subst (λ (es : List Point). Contains es f) (sym one)
              ((lattice_has a m zero_point 1 f some).1 (on.0, 0, on.2, omega arith, refl)),
          row_step a on.0 b on.1 ∙ on.4,
        ),
      ),
  λ r.
      let f : Point = r.2.0 in
      let on = (lattice_has a m zero_point 1 f some).0 (subst (λ (es : List Point). Contains es f) one r.2.1) in
      let none : on.1 ≡ 0 = omega (arith, on.3) in
      let first : steps a on.0 zero_point 0 ≡ f = subst (λ k. steps a on.0 zero_point k ≡ f) none on.4 in
      let at : steps a on.0 b r.0 ≡ e =
      sym (row_step a on.0 b r.0) ∙ (ap (shifted (scaled b r.0)) first ∙ r.2.2) in
      subst (λ (es : List Point). Contains es e) (sym is)
      ((lattice_has a m b n e some).1 (on.0, r.0, on.2, r.1, at)),
)

-- a place of a row is a place of the array
place_is : (a : Array) (rows : Rows) (j : ℕ) (f : Point)
    → map_at (as_reference (row_at a rows j)) f ≡ map_at (as_reference a) (shifted (scaled rows.up j) f)
place_is a rows j f =
    let of : Point → Map = λ p. record { flip = a.by.flip; turn = a.by.turn; at = p } in
    ap of (same_point _ _ (omega (arith, ints)) (omega (arith, ints)))

-- an array covers what its rows do
pub rows_cover : (cells : List (PlainCell Rings)) (a : Array) (rows : Rows) → AreRowsOf a.shifts rows → (l : Layer)
    (s : Square) → PlacedCover cells (each_place a) l s ↔ RowsCover cells a rows rows.count l s
rows_cover cells a rows are l s =
    let P : Placement → Type 0 = PlacementCovers cells l s in
    let At : Map → Type 0 = λ m. let p : Placement = record { cell = a.cell; map = m } in P p in
    let mine : Point → Placement = λ e. record { cell = a.cell; map = map_at (as_reference a) e } in
    let row : ℕ → Point → Placement = λ j f. record { cell = a.cell; map = map_at (as_reference (row_at a rows j)) f } in (
      λ x.
          let at = (Any-map P mine a.shifts).0 x in
          let r = (are at.1).0 (at.0, at.2, at.3) in
          let same = place_is a rows r.0 r.2.0 ∙ ap (map_at (as_reference a)) r.2.2 in (
            r.0,
            r.1,
            (Any-map P (row r.0) rows.line).1
                (some_contained (λ d. P (row r.0 d)) rows.line r.2.0 r.2.1 (subst At (sym same) at.4)),
          ),
      λ r.
          let at = (Any-map P (row r.0) rows.line).0 r.2 in
          let e : Point = shifted (scaled rows.up r.0) at.1 in
          let there : Contains a.shifts e = (are e).1 (r.0, r.1, (at.1, (at.0, at.2, at.3), refl)) in
          (Any-map P mine a.shifts).1
          (some_contained (λ d. P (mine d)) a.shifts e there (subst At (place_is a rows r.0 at.1) at.4)),
    )

-- one more row
pub rows_more : (cells : List (PlainCell Rings)) (a : Array) (rows : Rows) (old new : List Array) (j : ℕ) (l : Layer)
    (s : Square) → new ≡ old ++ row_at a rows j ∷ []
    → PlacedCover cells (every_place old) l s ↔ RowsCover cells a rows j l s
    → PlacedCover cells (every_place new) l s ↔ RowsCover cells a rows (j + 1) l s
rows_more cells a rows old new j l s is before =
    let adds = array_added cells [] old new (row_at a rows j) l s is in (
      λ x. elim (adds.0 x) [
        | inl y ↦ let r = before.0 y in (r.0, omega (arith, r.1), r.2)
        | inr y ↦ (j, omega arith, y)
      ],
      λ r. elim (cases_lt r.0 j) [
        | inl lt ↦ adds.1 (inl (before.1 (r.0, lt, r.2)))
        | inr ge ↦
            let one : r.0 ≡ j = omega (arith, r.1) in
            adds.1 (inr (subst (λ k. PlacedCover cells (each_place (row_at a rows k)) l s) one r.2))
      ],
    )

pub rows_none : (cells : List (PlainCell Rings)) (a : Array) (rows : Rows) (l : Layer) (s : Square)
    → PlacedCover cells (every_place []) l s ↔ RowsCover cells a rows 0 l s
rows_none cells a rows l s =
    (λ x. absurd (Any-nil (PlacementCovers cells l s) x), λ r. absurd (let low : r.0 < 0 = r.1 in omega arith))

-- rows are added that cover what an array does
pub rows_added : (old more new : List Array) (a : Array) → new ≡ old ++ more
    → ((cells : List (PlainCell Rings)) (l : Layer) (s : Square)
    → PlacedCover cells (every_place more) l s ↔ PlacedCover cells (each_place a) l s)
    → AddsRows old new a
rows_added old more new a is both cells l s =
    let adds = arrays_added cells [] old more new l s is in (
      λ x. elim (adds.0 x) [ inl y ↦ inl y | inr y ↦ inr ((both cells l s).0 y) ],
      λ e. adds.1 (elim e [ inl y ↦ inl y | inr y ↦ inr ((both cells l s).1 y) ]),
    )

-- no arrays are split
pub split_none : (others : List Array) → AreSplit [] others []
split_none others = record {
  held = λ cells l s x. absurd (Any-nil (PlacementCovers cells l s) x);
  inside = λ cells l s x. x;
}

-- one more array, which is split
pub split_more : (as' others old new : List Array) (i : ℕ) (a : Array) → i < length as' → a ≡ get_or as' i a
    → AddsRows old new a → AreSplit (take i as') others old → AreSplit (take (i + 1) as') others new
split_more as' others old new i a low is adds before = record {
  held = λ cells l s x. elim ((arrays_more cells as' i a l s low is).0 x) [
    | inl y ↦ elim (before.held cells l s y) [ inl b ↦ inl ((adds cells l s).1 (inl b)) | inr b ↦ inr b ]
    | inr y ↦ inl ((adds cells l s).1 (inr y))
  ];
  inside = λ cells l s x. elim ((adds cells l s).0 x) [
    | inl y ↦ (arrays_more cells as' i a l s low is).1 (inl (before.inside cells l s y))
    | inr y ↦ (arrays_more cells as' i a l s low is).1 (inr y)
  ];
}

-- one more array that is among the others
pub split_among : (as' others old : List Array) (i : ℕ) (a : Array) → i < length as' → a ≡ get_or as' i a
    → Contains others a → AreSplit (take i as') others old → AreSplit (take (i + 1) as') others old
split_among as' others old i a low is has before = record {
  held = λ cells l s x. elim ((arrays_more cells as' i a l s low is).0 x) [
    | inl y ↦ before.held cells l s y
    | inr y ↦ inr (array_held cells others a l s has y)
  ];
  inside = λ cells l s x. (arrays_more cells as' i a l s low is).1 (inl (before.inside cells l s x));
}

-- what is placed covers the same with its arrays in another order
pub ordered_cover : (cells : List (PlainCell Rings)) (x y : Placed) (l : Layer) (s : Square)
    → y.singles.items ≡ x.singles.items → ((a : Array) → Contains x.arrays.items a ↔ Contains y.arrays.items a)
    → PlacedCover cells (all_places x) l s ↔ PlacedCover cells (all_places y) l s
ordered_cover cells x y l s same both =
    let P : Placement → Type 0 = PlacementCovers cells l s in
    let ours = any_either P x.singles.items (every_place x.arrays.items) in
    let theirs = any_either P y.singles.items (every_place y.arrays.items) in (
      λ c. theirs.1 (elim (ours.0 c) [
        | inl b ↦ inl (subst (λ ps. Any P ps) (sym same) b)
        | inr b ↦ inr (arrays_cover cells x.arrays.items y.arrays.items l s (λ a. (both a).0) b)
      ]),
      λ c. ours.1 (elim (theirs.0 c) [
        | inl b ↦ inl (subst (λ ps. Any P ps) same b)
        | inr b ↦ inr (arrays_cover cells y.arrays.items x.arrays.items l s (λ a. (both a).1) b)
      ]),
    )
