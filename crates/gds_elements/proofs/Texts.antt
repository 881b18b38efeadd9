-- A text with one more record.
use Rattle.std.proofs.Common.{◌≡◌, ℕ, List, [], ◌∷◌, ◌++◌, map, Some, refl, sym, ap, subst}
use Rattle.gds_elements.specs.Types.{text}
use Rattle.gds_elements.specs.Types.{endel}
use Rattle.gds_elements.specs.Order.{an_element}
use Rattle.lvl_grammar.specs.Order.{one}
use Rattle.gds_elements.specs.Rec.{Rec, opener}
use Rattle.gds_elements.specs.Meaning.{shapes_by, references_by, in_rings}
use Rattle.gds_elements.specs.inside.Text.{left, IsTextRead}
use Rattle.lvl_grammar.specs.inside.After.{LeadsTo}
use Rattle.gds_elements.specs.inside.Reading.{IsAtEnd}
use Rattle.gds_elements.specs.declared.text.TextStage.{TextStage}
use Rattle.gds_elements.specs.declared.text.TextStage.TheVariants.{Layer}
use Rattle.gds_elements.specs.declared.text.Text.{Text}
use Rattle.gds_elements.specs.declared.element.Drawn.TheVariants.{Nothing}
use Rattle.lvl_grammar.specs.inside.After.{after_first}
use Rattle.gds_elements.proofs.Fields.{opener-snoc}
use Rattle.gds_elements.proofs.Leads.{leads_more, leads_first}

pub text_goes : (t t' : Text) (piece : List Rec) (r : Rec) → IsTextRead t piece
    → after_first (left t.stage) r.kind ≡ left t'.stage ∷ []
    → IsTextRead t' (piece ++ r ∷ [])
text_goes t t' piece r h a = record {
  opened = opener-snoc piece r text h.opened;
  leads = leads_more piece r (left t.stage) (left t'.stage) h.leads a;
}

pub text_ends : (t : Text) (piece : List Rec) (r : Rec) → IsTextRead t piece
    → after_first (left t.stage) r.kind ≡ one endel ∷ []
    → IsAtEnd Nothing (piece ++ r ∷ [])
text_ends t piece r h a =
    let new = piece ++ r ∷ [] in
    let o : opener new ≡ Some text = opener-snoc piece r text h.opened in
    record {
      opened = (text, o);
      leads = leads_more piece r (left t.stage) (one endel) h.leads a;
      drawn = record {
        shapes = sym (ap (λ q. map in_rings (shapes_by q new)) o);
        references = sym (ap (λ q. references_by q new) o);
      };
    }

-- the state after the TEXT record
pub text_opens : (t : Text) (r : Rec) → t.stage ≡ Layer → r.kind ≡ text → IsTextRead t (r ∷ [])
text_opens t r p e = record {
  opened = ap Some e;
  leads = subst (λ (k : ℕ). LeadsTo an_element (k ∷ []) (left t.stage)) (sym e)
      (subst (λ (i : TextStage). LeadsTo an_element (text ∷ []) (left i)) (sym p) (leads_first text (left Layer) refl));
}
