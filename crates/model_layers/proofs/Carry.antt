-- What operations on automata promise carries automata of expressions up.
use Rattle.std.proofs.Common.{◌≡◌, ◌⊎◌, ◌↔◌, inl, inr, ℕ, List, [], ◌∷◌, true, Contains, refl, sym, subst}
use Rattle.fast_fault.specs.declared.place.Pos.{Pos}
use Rattle.model_tree.specs.Label.{Label}
use Rattle.model_tree.specs.Tree.{LabelTree}
use Rattle.model_sta.specs.Operations.{Auto, Has, Alike, OfBoth, OfBothOrClasses, IsMadeOf, IsUnion, IsIntersection, IsDifference, IsComplement, IsMinimal}
use Rattle.model_grammar.specs.declared.Op1.TheVariants.{Complement, Minimize}
use Rattle.model_grammar.specs.declared.Op2.TheVariants.{Intersect, Union, Difference}
use Rattle.model_grammar.specs.Syntax.{X, one, two, Item}
use Rattle.model_meaning.specs.Meaning.{IsInLanguage}
use Rattle.model_run.specs.Parts.{meant, operands, joins_classes, IsOn, own_language, language_of_operand, of_classes}
use Rattle.model_layers.specs.Carries.{IsTyped, Carries, OperationsOnLanguagesCarry}
use Rattle.model_layers.proofs.Meanings.{union_is, intersection_is, difference_is, complement_is, minimize_is}
use Rattle.model_layers.proofs.Types.{union_on, intersection_on, difference_on, complement_on, minimize_on}
use Rattle.model_layers.proofs.Chosen.{first_of, second_of, both_ways, IsOfPart, as_part, of_state, of_some_classes}

module _ (items : List Item) (type : List ℕ) where
  abbrev Typed : LabelTree → Type 0
  Typed = IsTyped items type

  -- the start has the meaning of the expression itself
  pub of_start : (e : X) (c : Auto Label) (q : ℕ) → IsOn items e type → Alike Typed (Has c.rules c.start) (IsInLanguage items e) → q ≡ c.start → IsOfPart items type e (Has c.rules q)
  of_start e c q on means same = record {
    part = meant e;
    is = own_language e type on;
    alike = subst (λ s. Alike Typed (Has c.rules s) (IsInLanguage items e)) (sym same) means;
  }

  -- an automaton for an expression whose parts are told of each state but the start
  pub made : (e : X) (c : Auto Label) (Q : (LabelTree → Type 0) → Type 0) (P : LabelTree → Type 0) → IsOn items e type → IsMadeOf Typed Q c P → ((t : LabelTree) → Typed t → P t ↔ IsInLanguage items e t)
      → ((R : LabelTree → Type 0) → Q R → IsOfPart items type e R) → Carries items e type c
  made e c Q P on promised same each =
      let means = both_ways items type (Has c.rules c.start) P (IsInLanguage items e) promised.means same in
      record {
        is_on = on;
        in_range = promised.in_range;
        means = means;
        each_state = λ q low. as_part items type e (Has c.rules q) (elim (promised.each_state q low) [
          | inl start ↦ of_start e c q on means start
          | inr other ↦ each (Has c.rules q) other
        ]);
      }

  module _ (place : Pos) (x y : X) (a b : Auto Label) (p : Carries items x type a) (q : Carries items y type b) where
    -- states of both operands
    of_both : (e : X) → Contains (operands e) x → Contains (operands e) y → (R : LabelTree → Type 0) → OfBoth Typed a b R → IsOfPart items type e R
    of_both e at other R (inl left) = of_state items type x e a.rules R (λ d is. language_of_operand e x type d at is) p.each_state left
    of_both e at other R (inr right) = of_state items type y e b.rules R (λ d is. language_of_operand e y type d other is) q.each_state right

    -- or classes of these
    of_both_or_classes : (e : X) → joins_classes e ≡ true → IsOn items e type → Contains (operands e) x → Contains (operands e) y → (R : LabelTree → Type 0) → OfBothOrClasses Typed a b R → IsOfPart items type e R
    of_both_or_classes e joins on at other R (inl left) = of_both e at other R (inl left)
    of_both_or_classes e joins on at other R (inr (inl right)) = of_both e at other R (inr right)
    of_both_or_classes e joins on at other R (inr (inr classes)) =
        let d = of_some_classes items type (operands e) x y a.rules b.rules at other p.each_state q.each_state R classes in
        record { part = d.part; is = of_classes e type d.part joins on d.are; alike = d.alike }

    pub union_carries : (c : Auto Label) → IsUnion Typed a b c → Carries items (two Union place x y) type c
    union_carries c promised = made (two Union place x y) c (OfBoth Typed a b) (λ t. Has a.rules a.start t ⊎ Has b.rules b.start t) (union_on items place x y type p.is_on) promised
        (λ t typed. let is = union_is items place x y t in (
          λ h. is.0 (elim h [ inl k ↦ inl ((p.means t typed).0 k) | inr k ↦ inr ((q.means t typed).0 k) ]),
          λ h. elim (is.1 h) [ inl k ↦ inl ((p.means t typed).1 k) | inr k ↦ inr ((q.means t typed).1 k) ],
        ))
        (of_both (two Union place x y) (first_of x (y ∷ [])) (second_of x y))

    pub intersection_carries : (c : Auto Label) → IsIntersection Typed a b c → Carries items (two Intersect place x y) type c
    intersection_carries c promised = made (two Intersect place x y) c (OfBoth Typed a b) (λ t. Has a.rules a.start t × Has b.rules b.start t) (intersection_on items place x y type p.is_on) promised
        (λ t typed. let is = intersection_is items place x y t in (
          λ h. is.0 ((p.means t typed).0 h.0, (q.means t typed).0 h.1),
          λ h. (let both = is.1 h in ((p.means t typed).1 both.0, (q.means t typed).1 both.1)),
        ))
        (of_both (two Intersect place x y) (first_of x (y ∷ [])) (second_of x y))

    pub difference_carries : (c : Auto Label) → IsDifference Typed a b c → Carries items (two Difference place x y) type c
    difference_carries c promised =
        let on = difference_on items place x y type p.is_on in
        made (two Difference place x y) c (OfBothOrClasses Typed a b) (λ t. Has a.rules a.start t × ¬ (Has b.rules b.start t)) on promised
        (λ t typed. let is = difference_is items place x y t in (
          λ h. is.0 ((p.means t typed).0 h.0, λ inside. h.1 ((q.means t typed).1 inside)),
          λ h. (let both = is.1 h in ((p.means t typed).1 both.0, λ inside. both.1 ((q.means t typed).0 inside))),
        ))
        (of_both_or_classes (two Difference place x y) refl on (first_of x (y ∷ [])) (second_of x y))

  module _ (place : Pos) (x y : X) (a : Auto Label) (p : Carries items x type a) where
    pub complement_carries : (c : Auto Label) → IsComplement Typed a c → Carries items (one Complement place x) type c
    complement_carries c promised =
        let on = complement_on items place x y type p.is_on in
        made (one Complement place x) c (OfBothOrClasses Typed a a) (λ t. ¬ (Has a.rules a.start t)) on promised
        (λ t typed. let is = complement_is items place x y t in (λ h. is.0 (λ inside. h ((p.means t typed).1 inside)), λ h inside. is.1 h ((p.means t typed).0 inside)))
        (of_both_or_classes place x x a a p p (one Complement place x) refl on (first_of x []) (first_of x []))

    pub minimize_carries : (c : Auto Label) → IsMinimal Typed a c → Carries items (one Minimize place x) type c
    minimize_carries c promised =
        let on = minimize_on items place x y type p.is_on in
        made (one Minimize place x) c (OfBothOrClasses Typed a a) (Has a.rules a.start) on promised
        (λ t typed. let is = minimize_is items place x y t in (λ h. is.0 ((p.means t typed).0 h), λ h. (p.means t typed).1 (is.1 h)))
        (of_both_or_classes place x x a a p p (one Minimize place x) refl on (first_of x []) (first_of x []))

pub operations_carry : OperationsOnLanguagesCarry
operations_carry items place x y type = record {
  union = λ a b c p q. union_carries items type place x y a b p q c;
  intersect = λ a b c p q. intersection_carries items type place x y a b p q c;
  difference = λ a b c p q. difference_carries items type place x y a b p q c;
  complement = λ a c p. complement_carries items type place x y a p c;
  minimize = λ a c p. minimize_carries items type place x y a p c;
}
