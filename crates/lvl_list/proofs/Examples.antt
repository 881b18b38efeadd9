-- Names and lines, computed by their definitions.
use Rattle.std.proofs.Common.{◌≡◌, true, false, codes, refl}
use Rattle.lvl_list.specs.List.{entry_text, is_digest, name_text}

plain_name : name_text (codes "chip.gds") ≡ codes "chip.gds"
plain_name = refl

escaped_name : name_text (codes "a\\b\n\r") ≡ codes "\\a\\\\b\\n\\r"
escaped_name = refl

plain_line : entry_text (codes "cfc0bc7fd8a84f10bc2892f2c74e75073d5463f896d47d97244a7b12a9635572") (codes "a b")
    ≡ codes "cfc0bc7fd8a84f10bc2892f2c74e75073d5463f896d47d97244a7b12a9635572  a b\n"
plain_line = refl

escaped_line : entry_text (codes "cfc0bc7fd8a84f10bc2892f2c74e75073d5463f896d47d97244a7b12a9635572") (codes "a\nb")
    ≡ codes "\\cfc0bc7fd8a84f10bc2892f2c74e75073d5463f896d47d97244a7b12a9635572  a\\nb\n"
escaped_line = refl

lower_case : is_digest (codes "cfc0bc7fd8a84f10bc2892f2c74e75073d5463f896d47d97244a7b12a9635572") ≡ true
lower_case = refl

upper_case : is_digest (codes "CFC0BC7FD8A84F10BC2892F2C74E75073D5463F896D47D97244A7B12A9635572") ≡ false
upper_case = refl

one_short : is_digest (codes "cfc0bc7fd8a84f10bc2892f2c74e75073d5463f896d47d97244a7b12a963557") ≡ false
one_short = refl
