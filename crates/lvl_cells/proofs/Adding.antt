-- Weights added up, one cell of the order after another.
use Rattle.std.proofs.Common.{◌≡◌, ℕ, ◌+◌, ◌*◌, ◌<◌, ◌≤◌, List, length, get_or, take, sum_by, ap, arith}
use Rattle.std.specs.Option.{option_map_or}
use Rattle.std.proofs.lemmas.List.Sums.{sum_by_more, sum_by-take-le}
use Rattle.lvl_cells.specs.Cells.{PlainCell, Rings}
use Rattle.lvl_cells.specs.Checks.{Settled}
use Rattle.lvl_cells.specs.Soundness.{IsOrder}
use Rattle.lvl_cells.specs.Times.{at_place, AreTimes}
use Rattle.lvl_cells.specs.inside.Times.{placed_weight, IsAddedUp, HasMore}
use Rattle.lvl_cells.proofs.Passing.{cell_read}

-- what one more cell of the order adds
cell_adds : (w : PlainCell Rings → ℕ) (s : Settled) (times order : List ℕ) (cells : List (PlainCell Rings)) (i : ℕ)
    (c : PlainCell Rings) → IsOrder s.cells s.order → order ≡ s.order → cells ≡ s.cells → i < length order
    → c ≡ get_or cells (get_or order i 0) c
    → placed_weight w s.cells times (take (i + 1) order)
    ≡ placed_weight w s.cells times (take i order) + get_or times (get_or order i 0) 0 * w c
cell_adds w s times order cells i c sorted ordered celled low read =
    let k : ℕ = get_or order i 0 in
    let at = cell_read s order cells i c sorted ordered celled (omega (arith, low, ap length ordered)) read in
    let own : get_or times k 0 * at_place w s.cells k ≡ get_or times k 0 * w c =
    ap (λ o. get_or times k 0 * option_map_or w o 0) at.1 in
    omega (arith, own, sum_by_more (λ n. get_or times n 0 * at_place w s.cells n) order i 0 low)

-- one more cell of the order is added
pub one_more : (w : PlainCell Rings → ℕ) (s : Settled) (times order : List ℕ) (cells : List (PlainCell Rings))
    (i sum all most : ℕ) (c : PlainCell Rings) → IsOrder s.cells s.order → order ≡ s.order → cells ≡ s.cells
    → i < length order → c ≡ get_or cells (get_or order i 0) c
    → IsAddedUp w s.cells times (take i order) sum most → all ≡ sum + get_or times (get_or order i 0) 0 * w c
    → all ≤ most → IsAddedUp w s.cells times (take (i + 1) order) all most
one_more w s times order cells i sum all most c sorted ordered celled low read before is few = record {
  is = omega (arith, is, before.is, cell_adds w s times order cells i c sorted ordered celled low read);
  few = few;
}

-- if the sum gets too large, so is the sum over all chains
pub one_too_many : (w : PlainCell Rings → ℕ) (s : Settled) (times order : List ℕ) (cells : List (PlainCell Rings))
    (i sum most : ℕ) (c : PlainCell Rings) → AreTimes s times → IsOrder s.cells s.order → order ≡ s.order
    → cells ≡ s.cells → i < length order → c ≡ get_or cells (get_or order i 0) c
    → IsAddedUp w s.cells times (take i order) sum most → most < sum + get_or times (get_or order i 0) 0 * w c
    → HasMore w s most
one_too_many w s times order cells i sum most c t sorted ordered celled low read before many =
    let f : ℕ → ℕ = λ n. get_or times n 0 * at_place w s.cells n in
    let all : sum_by f order ≡ sum_by f s.order = ap (sum_by f) ordered in
    record {
      top = t.top;
      is_top = t.is_top;
      more =
          omega (
            arith,
            many,
            before.is,
            cell_adds w s times order cells i c sorted ordered celled low read,
            sum_by-take-le f order (i + 1),
            all,
            t.whole w,
          );
    }
