use Rattle.lvl.proofs.strip.+next_strip.Given as goal

-- narrower strips are tried
abbrev pub decreases-next_strip : goal.decreases-next_strip
decreases-next_strip l = l.pace.width
