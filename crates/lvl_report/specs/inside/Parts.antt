-- The text of a digest in parts.
use Rattle.std.specs.Prelude.{ℕ, List, ◌++◌}
use Rattle.lvl_corners.specs.Masks.{mask_lines}
use Rattle.lvl_report.specs.declared.digest.Parts.{Parts}

-- the text of these parts
abbrev pub parts_text : Parts → List ℕ
parts_text p = p.before.items ++ (mask_lines p.layers.now ++ p.after.items)
