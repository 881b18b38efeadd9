-- The text of an answer in bytes (own rule): two heads and a verdict, and why; what is shown of a layout, its digest,
-- or a refusal.
use Rattle.std.specs.Prelude.{ℕ, ◌+◌, Bool, true, false, List, [], ◌∷◌, ◌++◌, flat_map, length, codes, decimal, Option, Some, None}
use Rattle.std.specs.Prelude.{Result, Ok, Err}
use Rattle.std.specs.Fmt.{signed_decimal}
use Rattle.lvl_grid.specs.declared.map.Map.{Map}
use Rattle.lvl_grid.specs.declared.map.Turn.{Turn}
use Rattle.lvl_grid.specs.declared.map.Turn.TheVariants.{R0, R90, R180, R270}
use Rattle.lvl_region.specs.declared.region.Side.{Side}
use Rattle.lvl_region.specs.declared.region.Side.TheVariants.{First, Second}
use Rattle.lvl.specs.declared.layout.Head.{Head}
use Rattle.lvl.specs.declared.layout.Head.TheVariants.{Gds, Oasis}
use Rattle.lvl.specs.declared.layout.FileFault.{FileFault}
use Rattle.lvl.specs.declared.layout.FileFault.TheVariants.{Gds as GdsFile, Oasis as OasisFile}
use Rattle.lvl.specs.declared.question.Answer.{Answer}
use Rattle.lvl.specs.declared.question.Judged.{Judged}
use Rattle.lvl.specs.declared.verdict.Verdict.{Verdict}
use Rattle.lvl.specs.declared.verdict.Verdict.TheVariants.{Same, Differ}
use Rattle.lvl.specs.declared.verdict.Refusal.{Refusal}
use Rattle.lvl.specs.declared.verdict.Refusal.TheVariants.{File, Cells, Flat, OutOfMemory}
use Rattle.lvl.specs.declared.cells.CellList.{CellList}
use Rattle.lvl.specs.declared.digested.Digested.{Digested}
use Rattle.lvl.specs.declared.digested.MaskDigest.{MaskDigest}
use Rattle.lvl.specs.declared.shown.Shown.{Shown}
use Rattle.lvl_corners.specs.Masks.{mask_lines}
use Rattle.lvl_why.specs.declared.why.NamedStep.{NamedStep}
use Rattle.lvl_why.specs.declared.why.Why.{Why}
use Rattle.lvl_witness.specs.declared.witness.PlacedRing.{PlacedRing}
use Rattle.lvl_count.specs.declared.counts.LayerRings.{LayerRings}
use Rattle.lvl_count.specs.declared.listed.ListedCell.{ListedCell}
use Rattle.lvl_text.specs.Faults.{spaced, cell_fault, flat_fault}
use Rattle.lvl_text.specs.Gds.{gds_fault, gds_head_text, hex}
use Rattle.lvl_text.specs.Oasis.{oasis_fault, oasis_head_text}

-- a text and one line feed
abbrev pub line : List ℕ → List ℕ
line text = text ++ 10 ∷ []

-- what a file says about itself
abbrev pub head_text : Head → List ℕ
head_text (Gds head) = gds_head_text head
head_text (Oasis head) = oasis_head_text head

-- the word for a side
abbrev pub side_text : Side → List ℕ
side_text First = codes "first"
side_text Second = codes "second"

-- the verdict; if it is a difference, with the Layer, the square and the side that covers it
abbrev pub verdict_text : Verdict → List ℕ
verdict_text Same = codes "same"
verdict_text (Differ layer square side) =
    codes "differ: layer " ++ decimal layer.layer ++ codes " datatype " ++ decimal layer.datatype
    ++ codes " square " ++ signed_decimal square.x ++ codes " " ++ signed_decimal square.y
    ++ codes " only in " ++ side_text side

-- why a file wasn't read: the format, the fault, and the offset
abbrev pub file_fault : FileFault → List ℕ
file_fault (GdsFile fault) = codes "gds " ++ gds_fault fault.kind ++ codes " at " ++ decimal fault.offset
file_fault (OasisFile fault) = codes "oasis " ++ oasis_fault fault

-- the side, the step and the fault; out of memory names neither a side nor a step
abbrev pub refusal_text : Refusal → List ℕ
refusal_text (File side fault) = codes "refused: " ++ side_text side ++ codes ": " ++ file_fault fault
refusal_text (Cells side r) = codes "refused: " ++ side_text side ++ codes ": cells " ++ cell_fault r.fault
refusal_text (Flat side fault) = codes "refused: " ++ side_text side ++ codes ": flat " ++ flat_fault fault
refusal_text OutOfMemory = codes "refused: out of memory"

-- the number of what has this index, counted from 1, and how many there are
abbrev pub of_all : ℕ → ℕ → List ℕ
of_all index all = decimal (index + 1) ++ codes " of " ++ decimal all

-- a turn in degrees
abbrev pub turn_text : Turn → List ℕ
turn_text R0 = codes "0"
turn_text R90 = codes "90"
turn_text R180 = codes "180"
turn_text R270 = codes "270"

-- whether a map reflects, as it is printed after its turn
abbrev pub flip_text : Bool → List ℕ
flip_text false = []
flip_text true = codes " flipped"

-- where a map puts the origin, and how it turns
abbrev pub map_text : Map → List ℕ
map_text m =
    codes ", at " ++ signed_decimal m.at.x ++ codes " " ++ signed_decimal m.at.y ++ codes " turned " ++ turn_text m.turn
    ++ flip_text m.flip

-- the reference of a step, the cell to which it refers, and the place
abbrev pub step_line : NamedStep → List ℕ
step_line n =
    line (codes "why: reference " ++ of_all n.step.reference n.step.references ++ codes " to" ++ spaced n.cell.items
    ++ codes ", place " ++ of_all n.step.place n.step.places ++ map_text n.step.map)

-- which ring of the last cell covers the square
abbrev pub ring_text : PlacedRing → List ℕ
ring_text p =
    codes "why: shape " ++ of_all p.shape p.shapes ++ codes ", place " ++ of_all p.place p.places ++ codes ", ring "
    ++ of_all p.ring p.rings ++ codes " on layer " ++ decimal p.layer.layer ++ codes " datatype "
    ++ decimal p.layer.datatype

-- the box of a ring: its least and its greatest coordinates
abbrev pub box_text : PlacedRing → List ℕ
box_text p =
    codes ", box " ++ signed_decimal p.low.x ++ codes " " ++ signed_decimal p.low.y ++ codes " "
    ++ signed_decimal p.high.x ++ codes " " ++ signed_decimal p.high.y

-- why a top covers a square: the top, a line for each reference of the chain, and the ring
abbrev pub why_text : Why → List ℕ
why_text w =
    line (codes "why: cell" ++ spaced w.top.items) ++ flat_map step_line w.steps.items
    ++ line (ring_text w.ring ++ box_text w.ring)

-- the lines of a reason, if there is one
abbrev pub reason_text : Option Why → List ℕ
reason_text None = []
reason_text (Some w) = why_text w

-- the text of an answer: both heads, the verdict, and its reason if there is one; nothing if the files weren't
-- compared
abbrev pub answer_text : Head → Head → Option Judged → List ℕ
answer_text first second None = []
answer_text first second (Some j) =
    line (codes "first: " ++ head_text first) ++ line (codes "second: " ++ head_text second)
    ++ line (verdict_text j.verdict) ++ reason_text j.why

-- the text of an answer or a refusal
abbrev pub text_of : Result Answer Refusal → List ℕ
text_of (Ok r) = answer_text r.first r.second r.judged
text_of (Err refusal) = line (refusal_text refusal)

-- the line of a Layer that is shown
abbrev pub layer_line : LayerRings → List ℕ
layer_line shown =
    line (codes "layer " ++ decimal shown.layer.layer ++ codes " datatype " ++ decimal shown.layer.datatype
    ++ codes " rings " ++ decimal shown.rings)

-- what a file says about itself, and the name of its top
abbrev pub front_text : Head → List ℕ → List ℕ
front_text head top = line (codes "file: " ++ head_text head) ++ line (codes "top:" ++ spaced top)

-- what is shown of a layout: its head, its top, the number of its cells, and a line for each Layer
abbrev pub shown_text : Shown → List ℕ
shown_text shown =
    front_text shown.head shown.top.items ++ line (codes "cells: " ++ decimal shown.cells)
    ++ flat_map layer_line shown.layers.items

-- the text of what is shown, or of a refusal
abbrev pub text_of_shown : Result Shown Refusal → List ℕ
text_of_shown (Ok shown) = shown_text shown
text_of_shown (Err refusal) = line (refusal_text refusal)

-- a cell to which no cell refers is marked
abbrev pub top_mark : Bool → List ℕ
top_mark false = []
top_mark true = codes " top"

-- the line of a cell that is listed
abbrev pub cell_line : ListedCell → List ℕ
cell_line c =
    line (codes "cell" ++ spaced c.name ++ codes " shapes " ++ decimal c.shapes ++ codes " references "
    ++ decimal c.references ++ top_mark c.is_top)

-- what is listed of a layout: its head, the number of its cells, and a line for each
abbrev pub list_text : CellList → List ℕ
list_text list =
    line (codes "file: " ++ head_text list.head) ++ line (codes "cells: " ++ decimal (length list.cells.items))
    ++ flat_map cell_line list.cells.items

-- the text of what is listed, or of a refusal
abbrev pub text_of_list : Result CellList Refusal → List ℕ
text_of_list (Ok list) = list_text list
text_of_list (Err refusal) = line (refusal_text refusal)

-- a line for each Layer that has a digest, and one with the SHA-256 of the mask, which is that of these lines
abbrev pub mask_text : MaskDigest → List ℕ
mask_text d = mask_lines d.layers.items ++ line (codes "mask sha256 " ++ hex d.sha256)

-- the text of a digest: what the file says about itself, the name of its top, and the lines of its mask
abbrev pub digested_text : Digested → List ℕ
digested_text d = front_text d.head d.top.items ++ mask_text d.mask

-- the text of a digest, or of a refusal
abbrev pub text_of_digested : Result Digested Refusal → List ℕ
text_of_digested (Ok d) = digested_text d
text_of_digested (Err refusal) = line (refusal_text refusal)
