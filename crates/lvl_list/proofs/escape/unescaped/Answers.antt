use Rattle.std.proofs.Common.{◌≡◌, ◌==◌, ◌∙◌, ◌++◌, ℕ, Bool, true, false, cond, List, [], ◌∷◌, refl, sym, ap, append_assoc}
use Rattle.std.proofs.Common.{length, arith, eqb-true}
use Rattle.std.proofs.lemmas.List.{append-nil}
use Rattle.std.proofs.lemmas.Grind.{flat_map-append}
use Rattle.lvl_list.specs.List.{escaped, escaped_byte}
use Rattle.lvl_list.proofs.escape.unescaped.Goals as goal

-- one byte more of a name, and what it is written as
grows : (text name rest after more : List ℕ) (byte : ℕ) → text ≡ escaped name ++ rest
    → rest ≡ escaped_byte byte ++ after → more ≡ name ++ byte ∷ [] → text ≡ escaped more ++ after
grows text name rest after more byte parts first is =
    parts ∙ ap (λ l. escaped name ++ l) first ∙ sym (append_assoc (escaped name) (escaped_byte byte) after)
    ∙ ap (λ l. l ++ after) (sym (flat_map-append escaped_byte name (byte ∷ [])
    ∙ ap (λ l. escaped name ++ l) (append-nil (escaped_byte byte)))) ∙ ap (λ l. escaped l ++ after) (sym is)

empty : (l : List ℕ) → true ≡ (length l == 0) → l ≡ []
empty l e = go l (eqb-true (length l) 0 (sym e))
  where
    go : (l : List ℕ) → length l ≡ 0 → l ≡ []
    go [] e = refl
    go (x ∷ xs) e = absurd (omega arith)

not_empty : (l : List ℕ) → l ≡ [] → (length l == 0) ≡ false → ⊥
not_empty [] is e = cc
not_empty (x ∷ xs) is e = cc

nothing_written : (name : List ℕ) → [] ≡ escaped name → name ≡ []
nothing_written [] e = refl
nothing_written (b ∷ bs) e = go (b == 92) (b == 10) (b == 13) e
  where
    go : (x y z : Bool)
        → [] ≡ cond x (92 ∷ 92 ∷ []) (cond y (92 ∷ 110 ∷ []) (cond z (92 ∷ 114 ∷ []) (b ∷ []))) ++ escaped bs
        → b ∷ bs ≡ []
    go true y z e = cc
    go false true z e = cc
    go false false true e = cc
    go false false false e = cc

pub returns-in_default : goal.returns-in_default
returns-in_default c = λ name e. go (c.loop-rest.invariant.left name e).0 (c.loop-rest.invariant.left name e).1
  where
    go : (more : List ℕ) → c.loop-rest.rest.now ≡ escaped more → ⊥
    go [] is = not_empty c.loop-rest.rest.now is (sym c.is_empty.ensures ∙ c.loop-rest-test.true)
    go (b ∷ bs) is = c.in_default.ensures.exact b (escaped bs) is

pub loop-rest-preserved : goal.loop-rest-preserved
loop-rest-preserved c = record {
  spelled = grows _ _ _ _ _ c.in-Some.byte c.loop-rest.invariant.spelled c.in-Some.ensures.spelled c.in_ok-push.ensures.items;
  left = λ other e.
      let before = c.loop-rest.invariant.left other e in
      go other before.0 before.1 before.2;
}
  where
    go : (other more : List ℕ) → c.loop-rest.rest.now ≡ escaped more → other ≡ c.loop-rest.name.items ++ more
        → (later : List ℕ) × (c.in-Some.after.now ≡ escaped later) × (other ≡ c.push.new.self.items ++ later)
    go other [] is whole = absurd (not_empty c.loop-rest.rest.now is (sym c.is_empty.ensures ∙ c.loop-rest-test.true))
    go other (b ∷ bs) is whole =
        let next = c.in-Some.ensures.exact b (escaped bs) is in (
          bs,
          next.1,
          whole ∙ ap (λ x. c.loop-rest.name.items ++ x ∷ bs) (sym next.0)
              ∙ sym (append_assoc c.loop-rest.name.items (c.in-Some.byte ∷ []) bs)
              ∙ ap (λ l. l ++ bs) (sym c.in_ok-push.ensures.items),
        )

pub returns : goal.returns
returns c =
    let none : c.loop-rest.rest.now ≡ [] = empty c.loop-rest.rest.now (sym c.loop-rest-test.false ∙ c.is_empty.ensures) in (
      c.loop-rest.invariant.spelled ∙ ap (λ l. escaped c.loop-rest.name.items ++ l) none
          ∙ append-nil (escaped c.loop-rest.name.items),
      λ other e.
          let left = c.loop-rest.invariant.left other e in
          left.2 ∙ ap (λ l. c.loop-rest.name.items ++ l) (nothing_written left.0 (sym none ∙ left.1))
          ∙ append-nil c.loop-rest.name.items,
    )
