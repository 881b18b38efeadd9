use Rattle.std.proofs.Common.{◌≡◌, ◌-◌, ℕ, leb, leb-false, leb-true, List, get_or, subst, arith, rules}
use Rattle.std.specs.List.{slice_get}
use Rattle.std.specs.Option.{option_map}
use Rattle.std.proofs.lemmas.List.Sorted.{IsPartitionPoint-from_clause, IsPartitionedBy-leb}
use Rattle.lvl_cells.specs.declared.rows.Run.{Run}
use Rattle.lvl_cells.specs.inside.Rows.{spread}
use Rattle.lvl_cells.proofs.Runs.{rises_sorted, target_at}
use Rattle.lvl_cells.proofs.rows.run_of.Goals as goal

pub returns : goal.returns
returns c =
    let runs : List Run = c.args.runs.now in
    let j : ℕ = c.args.reference in
    let place : ℕ = c.partition_point.result in
    let parted = IsPartitionedBy-leb (λ (r : Run). r.end) runs j (rises_sorted 0 runs c.requires) in
    let point =
    IsPartitionPoint-from_clause (λ (r : Run). leb r.end j) runs place c.partition_point.ensures.partitioned parted
    (λ a r q k. search rules) in
    let offset : j - 0 ≡ j = omega arith in
    subst (λ n. slice_get (spread 0 runs) n ≡ option_map (λ (r : Run). r.target) (slice_get runs place)) offset
    (target_at 0 runs j place c.requires (omega arith)
    (λ i d h. leb-true (get_or runs i d).end j (point.0 i d (omega arith) h))
    (λ d h. leb-false (get_or runs place d).end j (point.1 place d (omega arith) h)))
