-- Counts, while the rings of shapes and of cells are added to them.
use Rattle.std.proofs.Common.{◌≡◌, ◌<◌, ◌≤◌, ◌+◌, ◌*◌, ◌^◌, ℕ, Bool, true, false, cond, List, [], ◌∷◌, length, get_or}
use Rattle.std.proofs.Common.{map, take, All, Contains, refl, sym, ap, ◌∙◌, arith}
use Rattle.std.proofs.Math.ListN.{length-map}
use Rattle.std.proofs.lemmas.List.{get_or-map}
use Rattle.std.proofs.lemmas.List.Sums.{sum_by_more, sum_by-take-le}
use Rattle.lvl_names.specs.declared.layer.Layer.{Layer}
use Rattle.lvl_names.specs.Layers.{ComesBefore, same_layer}
use Rattle.lvl_names.proofs.Layers.{same_is}
use Rattle.std.proofs.Math.Nat.{mul-le-mul_left}
use Rattle.lvl_cells.specs.Cells.{PlainShape, Rings, shape_at}
use Rattle.lvl_count.specs.declared.counts.LayerRings.{LayerRings}
use Rattle.lvl_count.specs.inside.Counts.{AreSorted, more, rings_on}
use Rattle.lvl_count.proofs.Listing.{pairs-map}
use Rattle.lvl_cells.proofs.Passing.{le_product}

abbrev pub layer_of : LayerRings → Layer
layer_of c = c.layer

abbrev of : Layer → ℕ → LayerRings
of l n = record { layer = l; rings = n }

-- if nothing is added, the counts stay the same
pub more_none : (f : Layer → ℕ) (counts : List LayerRings) → ((l : Layer) → f l ≡ 0) → counts ≡ map (more f) counts
more_none f [] none = refl
more_none f (c ∷ cs) none =
    let same : c.rings ≡ c.rings + f c.layer = omega (arith, none c.layer) in
    let head : c ≡ more f c = ap (of c.layer) same in
    ap (λ x. x ∷ cs) head ∙ ap (λ l. more f c ∷ l) (more_none f cs none)

-- two additions, one after the other, are one
pub more_more : (f g h : Layer → ℕ) (counts : List LayerRings) → ((l : Layer) → h l ≡ f l + g l)
    → map (more g) (map (more f) counts) ≡ map (more h) counts
more_more f g h [] sums = refl
more_more f g h (c ∷ cs) sums =
    let same : c.rings + f c.layer + g c.layer ≡ c.rings + h c.layer = omega (arith, sums c.layer) in
    let head : more g (more f c) ≡ more h c = ap (of c.layer) same in
    ap (λ x. x ∷ map (more g) (map (more f) cs)) head ∙ ap (λ l. more h c ∷ l) (more_more f g h cs sums)

pub layers_kept : (f : Layer → ℕ) (counts : List LayerRings) → map layer_of (map (more f) counts) ≡ map layer_of counts
layers_kept f [] = refl
layers_kept f (c ∷ cs) = ap (λ l. c.layer ∷ l) (layers_kept f cs)

pub sorted_kept : (f : Layer → ℕ) (counts : List LayerRings) → AreSorted counts → AreSorted (map (more f) counts)
sorted_kept f counts sorted = pairs-map (λ (a b : LayerRings). ComesBefore a.layer b.layer) (more f) counts sorted

-- the count at an index
pub at_more : (f : Layer → ℕ) (old new : List LayerRings) (k : ℕ) (d : LayerRings) → new ≡ map (more f) old
    → k < length new → (k < length old) × (get_or new k d ≡ more f (get_or old k d))
at_more f old new k d e within =
    let low : k < length old = omega (arith, within, ap length e, length-map old (more f)) in
    (low, ap (λ l. get_or l k d) e ∙ get_or-map (more f) old k d d low)

-- what a shape adds to the count of a Layer
abbrev shape_adds : Layer → PlainShape Rings → ℕ
shape_adds layer h = cond (same_layer h.layer layer) (length h.figure * length h.shifts) 0

pub shape_more : (layer : Layer) (shapes : List (PlainShape Rings)) (i : ℕ) → i < length shapes
    → rings_on layer (take (i + 1) shapes) ≡ rings_on layer (take i shapes) + shape_adds layer (shape_at shapes i)
shape_more layer shapes i low =
    sum_by_more (shape_adds layer) shapes i
    (record { layer = record { layer = 0; datatype = 0 }; figure = []; shifts = [] }) low

times_cond : (b : Bool) (t x : ℕ) → t * cond b x 0 ≡ cond b (t * x) 0
times_cond true t x = refl
times_cond false t x = omega arith

-- what one more shape adds
pub shape_added : (layer l : Layer) (shapes : List (PlainShape Rings)) (times i r s : ℕ) → i < length shapes
    → r ≡ length (shape_at shapes i).figure → s ≡ length (shape_at shapes i).shifts → layer ≡ (shape_at shapes i).layer
    → times * rings_on l (take (i + 1) shapes)
    ≡ times * rings_on l (take i shapes) + cond (same_layer layer l) (times * (r * s)) 0
shape_added layer l shapes times i r s low r_is s_is layer_is =
    let h = shape_at shapes i in
    let size : length h.figure * length h.shifts ≡ r * s =
    ap (λ x. x * length h.shifts) (sym r_is) ∙ ap (λ x. r * x) (sym s_is) in
    let one : shape_adds l h ≡ cond (same_layer layer l) (r * s) 0 =
    ap (λ x. cond (same_layer h.layer l) x 0) size ∙ ap (λ x. cond (same_layer x l) (r * s) 0) (sym layer_is) in
    let step : times * rings_on l (take (i + 1) shapes)
    ≡ times * (rings_on l (take i shapes) + cond (same_layer layer l) (r * s) 0) =
    ap (λ x. times * x) (shape_more l shapes i low ∙ ap (λ x. rings_on l (take i shapes) + x) one) in
    omega (arith, step, times_cond (same_layer layer l) times (r * s))

-- a shape has no more rings than all shapes together
pub shape_few : (old counts : List LayerRings) (layer : Layer) (shapes : List (PlainShape Rings)) (times i r s : ℕ)
    → i < length shapes → r ≡ length (shape_at shapes i).figure → s ≡ length (shape_at shapes i).shifts
    → layer ≡ (shape_at shapes i).layer → counts ≡ map (more (λ l. times * rings_on l (take i shapes))) old
    → All (λ c. c.rings + times * rings_on c.layer shapes < 2 ^ 64) old
    → All (λ c. c.layer ≡ layer → c.rings + times * (r * s) < 2 ^ 64) counts
shape_few old counts layer shapes times i r s low r_is s_is layer_is so_far few k d within here =
    let f : Layer → ℕ = λ l. times * rings_on l (take i shapes) in
    let at = at_more f old counts k d so_far within in
    let c : LayerRings = get_or old k d in
    let one : c.layer ≡ layer = ap layer_of (sym at.1) ∙ here in
    let rings : (get_or counts k d).rings ≡ c.rings + times * rings_on c.layer (take i shapes) =
    ap (λ (x : LayerRings). x.rings) at.1 in
    let added = shape_added layer c.layer shapes times i r s low r_is s_is layer_is in
    let full : cond (same_layer layer c.layer) (times * (r * s)) 0 ≡ times * (r * s) =
    ap (λ t. cond t (times * (r * s)) 0) (same_is layer c.layer (sym one)) in
    let part : times * rings_on c.layer (take (i + 1) shapes) ≤ times * rings_on c.layer shapes =
    mul-le-mul_left times (sum_by-take-le (shape_adds c.layer) shapes (i + 1)) in
    omega (arith, rings, added, full, part, few k d at.0)

-- so its rings are within the limit
pub product_few : (old counts : List LayerRings) (layer : Layer) (times n : ℕ) (f : Layer → ℕ)
    → counts ≡ map (more f) old → Contains (map (λ c. c.layer) old) layer → 0 < times
    → All (λ c. c.layer ≡ layer → c.rings + times * n < 2 ^ 64) counts
    → (n < 2 ^ 64) × (times * n < 2 ^ 64)
product_few old counts layer times n f so_far (k, within, is) placed few =
    let no : LayerRings = of layer 0 in
    let low : k < length old = omega (arith, within, length-map old layer_of) in
    let low_now : k < length counts = omega (arith, low, ap length so_far, length-map old (more f)) in
    let at = at_more f old counts k no so_far low_now in
    let here : (get_or counts k no).layer ≡ layer =
    ap layer_of at.1 ∙ (sym (get_or-map layer_of old k no layer low) ∙ is) in
    let most : (get_or counts k no).rings + times * n < 2 ^ 64 = few k no low_now here in
    (omega (arith, most, le_product n times placed), omega (arith, most))

pub shape_fits : (old counts : List LayerRings) (shapes : List (PlainShape Rings)) (times i r s : ℕ)
    → i < length shapes → r ≡ length (shape_at shapes i).figure → s ≡ length (shape_at shapes i).shifts
    → counts ≡ map (more (λ l. times * rings_on l (take i shapes))) old
    → All (λ h. Contains (map (λ c. c.layer) old) h.layer) shapes → 0 < times
    → All (λ c. c.rings + times * rings_on c.layer shapes < 2 ^ 64) old
    → (r * s < 2 ^ 64) × (times * (r * s) < 2 ^ 64)
shape_fits old counts shapes times i r s low r_is s_is so_far there placed few =
    let layer : Layer = (shape_at shapes i).layer in
    product_few old counts layer times (r * s) (λ l. times * rings_on l (take i shapes)) so_far (there i _ low) placed
    (shape_few old counts layer shapes times i r s low r_is s_is refl so_far few)
