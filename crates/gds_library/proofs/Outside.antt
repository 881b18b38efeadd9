-- Types of records outside of elements, and types whose value no rule of an element tests.
use Rattle.std.proofs.Common.{◌≡◌, ◌==◌, ◌||◌, ◌<◌, ℕ, true, false, Some, None, refl, arith}
use Rattle.std.proofs.lemmas.Bool.{or_parts}
use Rattle.gds_elements.specs.Types.{header, bgnlib, libname, units, endlib, bgnstr, strname, endstr, boundary, path}
use Rattle.gds_elements.specs.Types.{sref, aref, text, layer, datatype, width, xy, sname, colrow, strans, mag, angle}
use Rattle.gds_elements.specs.Types.{pathtype}
use Rattle.gds_elements.specs.Order.{opens}
use Rattle.gds_elements.specs.Rules.{IsKnown}
use Rattle.gds_elements.proofs.OneRule.{is_value}
use Rattle.lvl_grammar.proofs.Orders.{at_type, by_test}
use Rattle.gds_library.specs.Types.{fill}
use Rattle.gds_library.specs.inside.Stage.{after}
use Rattle.gds_library.specs.declared.stage.LibraryStage.{LibraryStage}
use Rattle.gds_library.specs.declared.stage.LibraryStage.TheVariants.{Header, BgnLib, LibName, Units, Structures}
use Rattle.gds_library.specs.declared.stage.LibraryStage.TheVariants.{StrName}
use Rattle.gds_library.specs.declared.stage.LibraryStage.TheVariants.{Elements, Fill}

pub record IsNoValue (k : ℕ) : Type 0 where
  pub layer : k == layer ≡ false
  pub datatype : k == datatype ≡ false
  pub width : k == width ≡ false
  pub xy : k == xy ≡ false
  pub sname : k == sname ≡ false
  pub colrow : k == colrow ≡ false
  pub strans : k == strans ≡ false
  pub mag : k == mag ≡ false
  pub angle : k == angle ≡ false
  pub pathtype : k == pathtype ≡ false

no_value : (k : ℕ) → is_value k ≡ false → IsNoValue k
no_value k e =
    let p9 =
    or_parts (((((((((k == layer) || (k == datatype)) || (k == width)) || (k == xy)) || (k == sname))
    || (k == colrow)) || (k == strans)) || (k == mag)) || (k == angle)) (k == pathtype) e in
    let p8 =
    or_parts ((((((((k == layer) || (k == datatype)) || (k == width)) || (k == xy)) || (k == sname))
    || (k == colrow)) || (k == strans)) || (k == mag)) (k == angle) p9.0 in
    let p7 =
    or_parts (((((((k == layer) || (k == datatype)) || (k == width)) || (k == xy)) || (k == sname))
    || (k == colrow)) || (k == strans)) (k == mag) p8.0 in
    let p6 = or_parts ((((((k == layer) || (k == datatype)) || (k == width)) || (k == xy)) || (k == sname))
    || (k == colrow)) (k == strans) p7.0 in
    let p5 = or_parts (((((k == layer) || (k == datatype)) || (k == width)) || (k == xy)) || (k == sname))
    (k == colrow) p6.0 in
    let p4 = or_parts ((((k == layer) || (k == datatype)) || (k == width)) || (k == xy)) (k == sname) p5.0 in
    let p3 = or_parts (((k == layer) || (k == datatype)) || (k == width)) (k == xy) p4.0 in
    let p2 = or_parts ((k == layer) || (k == datatype)) (k == width) p3.0 in
    let p1 = or_parts (k == layer) (k == datatype) p2.0 in
    record {
      layer = p1.0;
      datatype = p1.1;
      width = p2.1;
      xy = p3.1;
      sname = p4.1;
      colrow = p5.1;
      strans = p6.1;
      mag = p7.1;
      angle = p8.1;
      pathtype = p9.1;
    }

-- a type that opens no element, and whose value no rule of an element tests
pub record IsOutside (k : ℕ) : Type 0 where
  pub opens : opens k ≡ false
  pub value : is_value k ≡ false
  pub no_value : IsNoValue k

outside_by : (k : ℕ) → opens k ≡ false → is_value k ≡ false → IsOutside k
outside_by k o v = record { opens = o; value = v; no_value = no_value k v }

-- a property of the types that may come next
outside_one : (p q : LibraryStage) (k j : ℕ) → IsOutside j → (k == j ≡ false → after p k ≡ Some q → IsOutside k)
    → after p k ≡ Some q → IsOutside k
outside_one p q k j here there = by_test (λ i. after p i ≡ Some q → IsOutside i) k j (k == j) refl (λ e. here) there

pub outside_after : (p q : LibraryStage) (k : ℕ) → after p k ≡ Some q → IsOutside k
outside_after Header q k =
    outside_one Header q k header (outside_by header refl refl) (λ a e. (let z : None ≡ Some q = rw a at e in cc))
outside_after BgnLib q k =
    outside_one BgnLib q k bgnlib (outside_by bgnlib refl refl) (λ a e. (let z : None ≡ Some q = rw a at e in cc))
outside_after LibName q k =
    outside_one LibName q k libname (outside_by libname refl refl) (λ a e. (let z : None ≡ Some q = rw a at e in cc))
outside_after Units q k =
    outside_one Units q k units (outside_by units refl refl) (λ a e. (let z : None ≡ Some q = rw a at e in cc))
outside_after Structures q k =
    outside_one Structures q k endlib (outside_by endlib refl refl)
    (λ a e. outside_one Structures q k bgnstr (outside_by bgnstr refl refl)
    (λ b e'. (let z : None ≡ Some q = rw (a, b) at e' in cc)) e)
outside_after StrName q k =
    outside_one StrName q k strname (outside_by strname refl refl) (λ a e. (let z : None ≡ Some q = rw a at e in cc))
outside_after Elements q k =
    outside_one Elements q k endstr (outside_by endstr refl refl) (λ a e. (let z : None ≡ Some q = rw a at e in cc))
outside_after Fill q k =
    outside_one Fill q k fill (outside_by fill refl refl) (λ a e. (let z : None ≡ Some q = rw a at e in cc))

-- a type that may come next is known
known_one : (p q : LibraryStage) (k j : ℕ) → (j < 60 → IsKnown j)
    → (k == j ≡ false → k < 60 → after p k ≡ Some q → IsKnown k)
    → k < 60 → after p k ≡ Some q → IsKnown k
known_one p q k j here there =
    by_test (λ i. i < 60 → after p i ≡ Some q → IsKnown i) k j (k == j) refl (λ l e. here l) there

pub known_after : (p q : LibraryStage) (k : ℕ) → k < 60 → after p k ≡ Some q → IsKnown k
known_after Header q k = known_one Header q k header (λ _. refl) (λ a l e. (let z : None ≡ Some q = rw a at e in cc))
known_after BgnLib q k = known_one BgnLib q k bgnlib (λ _. refl) (λ a l e. (let z : None ≡ Some q = rw a at e in cc))
known_after LibName q k = known_one LibName q k libname (λ _. refl) (λ a l e. (let z : None ≡ Some q = rw a at e in cc))
known_after Units q k = known_one Units q k units (λ _. refl) (λ a l e. (let z : None ≡ Some q = rw a at e in cc))
known_after Structures q k =
    known_one Structures q k endlib (λ _. refl) (λ a l e. known_one Structures q k bgnstr (λ _. refl)
    (λ b l' e'. (let z : None ≡ Some q = rw (a, b) at e' in cc)) l e)
known_after StrName q k = known_one StrName q k strname (λ _. refl) (λ a l e. (let z : None ≡ Some q = rw a at e in cc))
known_after Elements q k =
    known_one Elements q k endstr (λ _. refl) (λ a l e. (let z : None ≡ Some q = rw a at e in cc))
known_after Fill q k =
    known_one Fill q k fill (λ l. absurd (omega arith)) (λ a l e. (let z : None ≡ Some q = rw a at e in cc))

-- a type that opens an element is known, and no rule of an element tests its value
pub record IsOpener (k : ℕ) : Type 0 where
  pub known : IsKnown k
  pub value : is_value k ≡ false
  pub strname : k == strname ≡ false
  pub bgnstr : k == bgnstr ≡ false

opener_by : (k : ℕ) → IsKnown k → is_value k ≡ false → k == strname ≡ false → k == bgnstr ≡ false → IsOpener k
opener_by k i v s b = record { known = i; value = v; strname = s; bgnstr = b }

opener_one : (k j : ℕ) → (opens j ≡ true → IsOpener j) → (k == j ≡ false → opens k ≡ true → IsOpener k) → opens k ≡ true
    → IsOpener k
opener_one k j = at_type (λ i. opens i ≡ true → IsOpener i) k j

pub opener_is : (k : ℕ) → opens k ≡ true → IsOpener k
opener_is k =
    opener_one k boundary (λ e. opener_by boundary refl refl refl refl)
    (λ a. opener_one k path (λ e. opener_by path refl refl refl refl)
    (λ b. opener_one k sref (λ e. opener_by sref refl refl refl refl)
    (λ c. opener_one k aref (λ e. opener_by aref refl refl refl refl)
    (λ d. opener_one k text (λ e. opener_by text refl refl refl refl)
    (λ f e. (let z : false ≡ true = rw (a, b, c, d, f) at e in cc))))))
