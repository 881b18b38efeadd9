-- What is inside a watched reader and an erasing writer, for contracts.
use Rattle.lvl_progress.specs.declared.erasing.Erasing.{Erasing}
use Rattle.lvl_progress.specs.declared.watched.Watched.{Watched}

abbrev pub watched_inner : {R T : Type 0} → Watched R T → R
watched_inner w = w.inner

abbrev pub erasing_inner : {W T : Type 0} → Erasing W T → W
erasing_inner e = e.inner
