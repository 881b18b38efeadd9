-- Point lists: the laws of each spelling; the points as they are kept.
use Rattle.std.proofs.Common.{◌≡◌, ℕ, Bool, List, [], ◌∷◌, ◌++◌, refl, subst, IfSome}
use Rattle.std.specs.Prelude.{Option, Some, None}
use Rattle.lvl_grid.specs.declared.point.Point.{Point}
use Rattle.oasis_values.specs.Known.{among, Known}
use Rattle.oasis_values.specs.PointLists.{list_types, point_count, along, IsAlong, IsMore, IsStep, start_of, walked}
use Rattle.oasis_values.specs.PointLists.{IsNext, last_of, closed, AreVertices, IsListOf, IsPointList}
use Rattle.oasis_values.specs.Ranges.{sum}
use Rattle.oasis_values.specs.Spelling.{Then}
use Rattle.oasis_values.proofs.Codes.{IsCode, then_code, chain_code, known_code, seen_code}
use Rattle.oasis_values.proofs.Integers.{unsigned_code}
use Rattle.oasis_values.proofs.Values.{signed_code, two_delta_code, three_delta_code, g_delta_code}
use Rattle.oasis_values.specs.declared.fault.ValueFault.TheVariants.{PointListType, PointCount, OutOfRange}
use Rattle.oasis_values.specs.declared.point_list.ListType.{ListType}
use Rattle.oasis_values.specs.declared.point_list.ListType.TheVariants.{HorizontalFirst, VerticalFirst, Manhattan}
use Rattle.oasis_values.specs.declared.point_list.ListType.TheVariants.{Octangular, AllAngle, DoubleDelta}
use Rattle.oasis_values.specs.declared.point_list.Use.{Use}
use Rattle.oasis_values.specs.declared.point_list.Walk.{Walk}

along_code : (b : Bool) → IsCode (IsAlong b)
along_code b = seen_code (along b) signed_code

more_code : (p : Point) → IsCode (IsMore p)
more_code p = then_code g_delta_code (λ d. known_code (sum p d) OutOfRange)

step_code : (kind : ListType) (w : Walk) → IsCode (IsStep kind w)
step_code HorizontalFirst w = along_code w.along_x
step_code VerticalFirst w = along_code w.along_x
step_code Manhattan w = two_delta_code
step_code Octangular w = three_delta_code
step_code AllAngle w = g_delta_code
step_code DoubleDelta w = more_code w.by

pub next_code : (kind : ListType) (w : Walk) → IsCode (IsNext kind w)
next_code kind w = then_code (step_code kind w) (λ d. known_code (walked w d) OutOfRange)

pub vertices_code : (purpose : Use) (kind : ListType) (n : ℕ) → IsCode (AreVertices purpose kind n)
vertices_code purpose kind n =
    seen_code (closed purpose kind) (chain_code (λ w. w.at) n (start_of kind) (next_code kind))

pub after_count_code : (purpose : Use) (kind : ListType) (n : ℕ)
    → IsCode (Then (Known (point_count purpose kind n) PointCount) (AreVertices purpose kind))
after_count_code purpose kind n =
    then_code (known_code (point_count purpose kind n) PointCount) (vertices_code purpose kind)

pub list_of_code : (purpose : Use) (kind : ListType) → IsCode (IsListOf purpose kind)
list_of_code purpose kind = then_code unsigned_code (after_count_code purpose kind)

pub after_list_type_code : (purpose : Use) (n : ℕ)
    → IsCode (Then (Known (among 0 list_types n) PointListType) (IsListOf purpose))
after_list_type_code purpose n = then_code (known_code (among 0 list_types n) PointListType) (list_of_code purpose)

pub point_list_code : (purpose : Use) → IsCode (IsPointList purpose)
point_list_code purpose = then_code unsigned_code (after_list_type_code purpose)

pub last_more : (d : Point) (ps : List Point) (p : Point) → last_of d (ps ++ (p ∷ [])) ≡ p
last_more d [] p = refl
last_more d (q ∷ ps) p = last_more q ps p

-- a property of the value, if there is one
pub some_has : {A : Type 0} (o : Option A) (x : A) (P : A → Type 0) → o ≡ Some x → IfSome o P → P x
some_has None x P e h = absurd (let k : None ≡ Some x = e in cc)
some_has (Some y) x P e h = let k : y ≡ x = cc in subst P k h
