use Rattle.std.proofs.Common.{◌≡◌, ◌++◌, map}
use Rattle.lvl_names.specs.declared.layer.Layer.{Layer}
use Rattle.lvl_view.specs.Views.{target_of}
use Rattle.lvl_flat.specs.Mapped.{mapped_on}
use Rattle.lvl_flat.specs.Sheets.{AreSorted, ContainsAll, rings_on}
use Rattle.lvl_flat.proofs.flat.Flat.mapped.Given as goal

-- the rings of the sheets so far are on the targets, and every target has its sheet
abbrev pub invariant-loop-sheet : goal.invariant-loop-sheet
invariant-loop-sheet l = record {
  rings : (layer : Layer) → rings_on layer l.mapped.items ≡ mapped_on l.fn.view.pairs layer l.yielded;
  sorted : AreSorted l.mapped.items;
  there : ContainsAll (map (λ s. s.layer) l.mapped.items) (map (λ s. target_of l.fn.view.pairs s.layer) l.fn.self);
  all : l.yielded ++ l.sheet-iterator.rest.items ≡ l.fn.self;
}
