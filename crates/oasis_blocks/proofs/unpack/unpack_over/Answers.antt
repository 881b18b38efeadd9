use Rattle.std.proofs.Common.{◌∙◌, arith}
use Rattle.oasis_blocks.proofs.Pieces.{next_over}
use Rattle.oasis_blocks.proofs.unpack.unpack_over.Goals as goal

pub pieces-preserved : goal.pieces-preserved
pieces-preserved c =
    let i = c.pieces.invariant in
    let o = c.in-Ok.ensures in record {
      given = next_over c.pieces.bytes c.next_over.new.bytes c.pieces.at c.in-Ok.n _
          (omega (arith, o.bound.1, c.next_over.ensures.same)) c.next_over.ensures.front i.given o.gives;
      within = omega (arith, o.bound.1, c.next_over.ensures.same);
      same = c.next_over.ensures.same ∙ i.same;
    }
