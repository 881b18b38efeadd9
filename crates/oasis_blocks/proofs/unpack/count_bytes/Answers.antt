use Rattle.std.proofs.Common.{◌++◌, take, arith}
use Rattle.oasis_blocks.proofs.Pieces.{next_given, next_count}
use Rattle.oasis_blocks.proofs.unpack.count_bytes.Goals as goal

pub pieces-preserved : goal.pieces-preserved
pieces-preserved c =
    let i = c.pieces.invariant in
    let n = c.in-Ok.n in
    let buf = c.next_piece.new.buf in
    let size = next_count i.0 buf n c.in-Ok.ensures.bound.1 in (
      i.0 ++ take n buf,
      next_given i.0 buf n _ i.1 c.in-Ok.ensures.gives,
      omega (arith, size, i.2, c.in-Ok.ensures.bound.0),
    )
