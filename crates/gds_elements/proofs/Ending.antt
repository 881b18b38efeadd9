-- Where an element may end.
use Rattle.std.proofs.Common.{◌≡◌, ◌↔◌, true, false, IsTrue, List, [], Option, Some, None, is_some, refl, subst}
use Rattle.gds_elements.specs.Types.{endel}
use Rattle.lvl_grammar.specs.Order.{Order, one, nothing, Begins}
use Rattle.gds_elements.specs.Order.{an_element}
use Rattle.gds_elements.specs.Rec.{Rec, kinds, an_end}
use Rattle.gds_elements.specs.Rules.{InOrder}
use Rattle.gds_elements.specs.inside.Reading.{HasRead, IsAfter, IsAtEnd}
use Rattle.gds_elements.specs.declared.element.Drawn.{Drawn}
use Rattle.gds_elements.specs.declared.element.State.{State}
use Rattle.gds_elements.specs.declared.element.State.TheVariants.{Boundary, Path, Sref, Aref, Text}
use Rattle.gds_elements.specs.declared.boundary.BoundaryStage.{BoundaryStage}
use Rattle.gds_elements.specs.declared.boundary.BoundaryStage.TheVariants.{Layer}
use Rattle.gds_elements.specs.declared.path.PathStage.{PathStage}
use Rattle.gds_elements.specs.declared.path.PathStage.TheVariants.{Layer as PathLayer}
use Rattle.gds_elements.specs.declared.sref.SrefStage.{SrefStage}
use Rattle.gds_elements.specs.declared.sref.SrefStage.TheVariants.{Name as SrefName}
use Rattle.gds_elements.specs.declared.aref.ArefStage.{ArefStage}
use Rattle.gds_elements.specs.declared.aref.ArefStage.TheVariants.{Name as ArefName}
use Rattle.gds_elements.specs.declared.text.TextStage.{TextStage}
use Rattle.gds_elements.specs.declared.text.TextStage.TheVariants.{Layer as TextLayer}
use Rattle.gds_elements.specs.inside.Boundary.{left as boundary_left}
use Rattle.gds_elements.specs.inside.Path.{left as path_left}
use Rattle.gds_elements.specs.inside.Sref.{left as sref_left}
use Rattle.gds_elements.specs.inside.Aref.{left as aref_left}
use Rattle.gds_elements.specs.inside.Text.{left as text_left}
use Rattle.lvl_grammar.specs.inside.After.{LeadsTo, after_first}
use Rattle.lvl_grammar.proofs.Leads.{leads_nowhere}
use Rattle.gds_elements.proofs.Fields.{kinds-snoc}
use Rattle.gds_elements.proofs.Leads.{in_order}

-- if only ENDEL is missing, it may come
ends_there : (d : Drawn) (piece : List Rec) → IsAtEnd d piece → InOrder piece an_end
ends_there d piece h = in_order piece an_end (one endel) nothing h.leads refl

-- before no other record may it come
boundary_none : (p : BoundaryStage) → after_first (boundary_left p) endel ≡ []
boundary_none Layer = refl
boundary_none _ = refl

path_none : (p : PathStage) → after_first (path_left p) endel ≡ []
path_none PathLayer = refl
path_none _ = refl

sref_none : (p : SrefStage) → after_first (sref_left p) endel ≡ []
sref_none SrefName = refl
sref_none _ = refl

aref_none : (p : ArefStage) → after_first (aref_left p) endel ≡ []
aref_none ArefName = refl
aref_none _ = refl

text_none : (p : TextStage) → after_first (text_left p) endel ≡ []
text_none TextLayer = refl
text_none _ = refl

nowhere : (piece : List Rec) (a : Order) → LeadsTo an_element (kinds piece) a → after_first a endel ≡ []
    → InOrder piece an_end → ⊥
nowhere piece a h t g =
    leads_nowhere an_element (kinds piece) a endel h t (subst (Begins an_element) (kinds-snoc piece an_end) g)

-- if more is missing, it may not come
ends_nowhere : (s : State) (piece : List Rec) → HasRead s piece → InOrder piece an_end → ⊥
ends_nowhere (Boundary b) piece h = nowhere piece (boundary_left b.stage) h.leads (boundary_none b.stage)
ends_nowhere (Path p) piece h = nowhere piece (path_left p.stage) h.leads (path_none p.stage)
ends_nowhere (Sref s) piece h = nowhere piece (sref_left s.stage) h.leads (sref_none s.stage)
ends_nowhere (Aref a) piece h = nowhere piece (aref_left a.stage) h.leads (aref_none a.stage)
ends_nowhere (Text t) piece h = nowhere piece (text_left t.stage) h.leads (text_none t.stage)

-- ENDEL may come exactly if something is drawn
pub ends_drawn : (s : State) (o : Option Drawn) (piece : List Rec) → IsAfter HasRead s o piece
    → IsTrue (is_some o) ↔ InOrder piece an_end
ends_drawn s None piece h = (λ t. (let z : false ≡ true = t in cc), λ g. absurd (ends_nowhere s piece h g))
ends_drawn s (Some d) piece h = (λ t. ends_there d piece h, λ g. refl)
