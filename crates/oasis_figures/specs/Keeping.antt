-- The values of the modal variables after the records of a cell, the latest first.
use Rattle.std.specs.Prelude.{◌≡◌, Bool, false, pos, is_some, List, [], ◌∷◌, option_map}
use Rattle.lvl_names.specs.Shifts.{one_place}
use Rattle.oasis_records.specs.declared.record.Record.{Record}
use Rattle.oasis_figures.specs.Modal.{modal, cell_set, layer_set, datatype_set, width_set, height_set, polygon_set}
use Rattle.oasis_figures.specs.Modal.{half_width_set, path_set, start_set, end_set, repetition_set, repetition_of}
use Rattle.oasis_figures.specs.Modal.{is_relative, geometry, placement}
use Rattle.oasis_figures.specs.declared.modal.Modal.{Modal}

-- whether the latest record has a repetition
abbrev pub is_repeated : List Record → Bool
is_repeated [] = false
is_repeated (r ∷ earlier) = is_some (repetition_of r)

-- each variable has the value that the records give it
pub record StandsFor (m : Modal) (records : List Record) : Type 0 where
  pub relative : m.is_relative ≡ is_relative records
  pub placed : m.placement ≡ placement records
  pub drawn : m.geometry ≡ geometry records
  pub cell : m.cell ≡ modal cell_set records
  pub layer : m.layer ≡ modal layer_set records
  pub datatype : m.datatype ≡ modal datatype_set records
  pub width : m.width ≡ modal width_set records
  pub height : m.height ≡ modal height_set records
  pub polygon : option_map (λ v. v.items) m.polygon ≡ modal polygon_set records
  pub half_width : m.half_width ≡ modal half_width_set records
  pub path : option_map (λ v. v.items) m.path ≡ modal path_set records
  pub start : option_map pos m.start ≡ modal start_set records
  pub end : option_map pos m.end ≡ modal end_set records
  pub repetition : m.repetition ≡ modal repetition_set records
  pub repeated : m.is_repeated ≡ is_repeated records
  pub single : m.single ≡ one_place
