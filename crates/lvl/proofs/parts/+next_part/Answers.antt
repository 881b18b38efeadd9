use Rattle.std.proofs.Common.{◌≡◌, ℤ, inl, rules}
use Rattle.std.specs.Int.{w64}
use mir.Val.{to_z, of_z}
use Rattle.std.proofs.lemmas.Result.{IfOk-weaker}
use Rattle.lvl_corners.specs.Gathered.{IsLowered}
use Rattle.lvl_corners.proofs.Gathered.{lowered_both}
use Rattle.lvl.proofs.parts.+next_part.Goals as goal

-- the coordinate, as stored in 64 bits
abbrev kept : ℤ → ℤ
kept z = to_z w64 (of_z w64 z)

pub returns-then-width-gt1-clause-flat : goal.returns-then-width-gt1-clause-flat
returns-then-width-gt1-clause-flat t c =
    let from_is : kept c.args.from ≡ c.args.from = search rules in
    let y_is : kept c.args.y ≡ c.args.y = search rules in
    rw (from_is, y_is) at c.next_part.ensures.flat

pub returns-then-width-gt1-clause-lowered : goal.returns-then-width-gt1-clause-lowered
returns-then-width-gt1-clause-lowered t c =
    let from : ℤ = c.args.from in
    let half : ℤ = c.end_of-end.result in
    let from_is : kept from ≡ from = search rules in
    let end_is : kept c.args.end ≡ c.args.end = search rules in
    let half_is : kept half ≡ half = search rules in
    let first : IsLowered from c.args.end half =
    (rw end_is at c.end_of-end.ensures.inside, inl (rw from_is at c.end_of-end.ensures.further)) in
    IfOk-weaker c.next_part.result _ _ (λ part then. lowered_both from c.args.end half part.end first then)
    (rw (from_is, half_is) at c.next_part.ensures.lowered)

pub returns-then-width-gt1-clause-further : goal.returns-then-width-gt1-clause-further
returns-then-width-gt1-clause-further t c =
    let y_is : kept c.args.y ≡ c.args.y = search rules in
    rw y_is at c.next_part.ensures.further
