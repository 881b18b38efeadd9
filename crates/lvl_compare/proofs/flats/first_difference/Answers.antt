use Rattle.std.proofs.Common.{List, Option, None, Some}
use Rattle.std.specs.Prelude.{IfNone, IfSome}
use Rattle.std.proofs.lemmas.Result.{IfOk-weaker}
use Rattle.lvl_grid.specs.declared.point.Square.{Square}
use Rattle.lvl_names.specs.declared.layer.Layer.{Layer}
use Rattle.lvl_region.specs.declared.region.Side.{Side}
use Rattle.lvl_flat.specs.Sheet.{PlainSheet}
use Rattle.lvl_compare.specs.Flats.{AlikeIn, AlikeOn, IsFirstApart, IsFirstApartIn}
use Rattle.lvl_compare.proofs.flats.first_difference.Goals as goal

-- without a window, all squares are compared
alike_anywhere : (a b : List PlainSheet) (found : Option (Layer × Square × Side))
    → IfNone found ((l : Layer) → AlikeIn None a b l) → IfNone found ((l : Layer) → AlikeOn a b l)
alike_anywhere a b None h = λ l s. h l s tt
alike_anywhere a b (Some at) h = tt

apart_anywhere : (a b : List PlainSheet) (found : Option (Layer × Square × Side))
    → IfSome found (λ at. IsFirstApartIn None a b at.0 at.1 at.2) → IfSome found (λ at. IsFirstApart a b at.0 at.1 at.2)
apart_anywhere a b None h = tt
apart_anywhere a b (Some at) h = record {
  alone = h.alone;
  least_layer = λ l before s. h.least_layer l before s tt;
  least_square = λ s before. h.least_square s tt before;
}

pub returns-clause-same : goal.returns-clause-same
returns-clause-same c =
    IfOk-weaker c.first_difference_within.result _ _ (λ found h. alike_anywhere c.args.first.now c.args.second.now found h)
    c.first_difference_within.ensures.same

pub returns-clause-differ : goal.returns-clause-differ
returns-clause-differ c =
    IfOk-weaker c.first_difference_within.result _ _ (λ found h. apart_anywhere c.args.first.now c.args.second.now found h)
    c.first_difference_within.ensures.differ
