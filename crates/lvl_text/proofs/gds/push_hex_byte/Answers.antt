use Rattle.std.proofs.Common.{◌<◌, false, arith}
use Rattle.std.proofs.lemmas.Fmt.{hex_byte}
use Rattle.lvl_text.proofs.gds.push_hex_byte.Goals as goal

pub returns : goal.returns
returns c =
    let small : c.args.byte < 256 = omega arith in
    rw (c.laid_out.ensures, c.in_radix.ensures, hex_byte false c.args.byte small) at c.write.ensures.bytes
