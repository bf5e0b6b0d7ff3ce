-- States, lists of states and classes of them as languages of which expressions are made.
use Rattle.std.proofs.Common.{◌↔◌, inl, inr, ℕ, List, [], ◌∷◌, Contains, refl, arith}
use Rattle.model_tree.specs.Label.{Label}
use Rattle.model_tree.specs.Tree.{LabelTree}
use Rattle.model_sta.specs.Automaton.{Rule}
use Rattle.model_sta.specs.Sets.{Each}
use Rattle.model_sta.specs.Operations.{Class, Has, AreStates, HasAll, HasNone, IsClassOf, InClass, InOne, Alike, OfState, OfClasses}
use Rattle.model_grammar.specs.Syntax.{X, Item}
use Rattle.model_run.specs.Parts.{LanguagePart, class, joined, LanguageParts, no_parts, and_part, IsInPart, IsInAllParts, IsInNoPart, IsInSomePart, IsPart, ArePartsOf, no_more_parts, one_more_part, AreClassesOf, joined_classes, AreAllClasses, no_more_classes, one_more_class}
use Rattle.model_layers.specs.Carries.{IsTyped, AreParts}

pub first_of : {A : Type 0} (x : A) (xs : List A) → Contains (x ∷ xs) x
first_of x xs = (0, omega arith, refl)

pub second_of : {A : Type 0} (x y : A) → Contains (x ∷ y ∷ []) y
second_of x y = (1, omega arith, refl)

abbrev Automaton : Type 0
Automaton = List (List (Rule Label))

-- ---- parts one behind the other

abbrev behind : LanguageParts → LanguageParts → LanguageParts
behind no_parts es = es
behind (and_part d ds) es = and_part d (behind ds es)

module _ (items : List Item) where
  are_behind : (xs : List X) (type : List ℕ) (ds es : LanguageParts) → ArePartsOf items xs type ds → ArePartsOf items xs type es → ArePartsOf items xs type (behind ds es)
  are_behind xs type _ es (no_more_parts _ _) q = q
  are_behind xs type _ es (one_more_part _ _ x d ds at is rest) q = one_more_part xs type x d (behind ds es) at is (are_behind xs type ds es rest q)

  all_behind : (ds es : LanguageParts) (t : LabelTree) → (IsInAllParts items ds t × IsInAllParts items es t) ↔ IsInAllParts items (behind ds es) t
  all_behind no_parts es t = (λ h. h.1, λ h. (tt, h))
  all_behind (and_part d ds) es t = let later = all_behind ds es t in (λ h. (h.0.0, later.0 (h.0.1, h.1)), λ h. (let both = later.1 h.1 in ((h.0, both.0), both.1)))

  none_behind : (ds es : LanguageParts) (t : LabelTree) → (IsInNoPart items ds t × IsInNoPart items es t) ↔ IsInNoPart items (behind ds es) t
  none_behind no_parts es t = (λ h. h.1, λ h. (tt, h))
  none_behind (and_part d ds) es t = let later = none_behind ds es t in (λ h. (h.0.0, later.0 (h.0.1, h.1)), λ h. (let both = later.1 h.1 in ((h.0, both.0), both.1)))

  module _ (type : List ℕ) where
    abbrev Typed : LabelTree → Type 0
    Typed = IsTyped items type

    pub both_ways : (P Q R : LabelTree → Type 0) → Alike Typed P Q → Alike Typed Q R → Alike Typed P R
    both_ways P Q R f g t typed = (λ h. (g t typed).0 ((f t typed).0 h), λ h. (f t typed).1 ((g t typed).1 h))

    -- the language is a part of the expression
    pub record IsOfPart (e : X) (Q : LabelTree → Type 0) : Type 0 where
      pub part : LanguagePart
      pub is : IsPart items e type part
      pub alike : Alike Typed Q (IsInPart items part)

    pub as_part : (e : X) (Q : LabelTree → Type 0) → IsOfPart e Q → (d : LanguagePart) × IsPart items e type d × Alike Typed Q (IsInPart items d)
    as_part e Q p = (p.part, p.is, p.alike)

    -- a state's is one of another expression that has all of these parts
    pub of_state : (x e : X) (rules : Automaton) (Q : LabelTree → Type 0) → ((d : LanguagePart) → IsPart items x type d → IsPart items e type d) → AreParts items x type rules → OfState Typed rules Q → IsOfPart e Q
    of_state x e rules Q to parts (s, low, alike) =
        let d = parts s low in
        record { part = d.0; is = to d.0 d.1; alike = both_ways Q (Has rules s) (IsInPart items d.0) alike d.2 }

    -- ---- lists of states

    pub record Chosen (xs : List X) (rules : Automaton) (states : List ℕ) : Type 0 where
      pub parts : LanguageParts
      pub are : ArePartsOf items xs type parts
      pub all : Alike Typed (HasAll rules states) (IsInAllParts items parts)
      pub none : Alike Typed (HasNone rules states) (IsInNoPart items parts)

    pub chosen : (xs : List X) (x : X) (rules : Automaton) → Contains xs x → AreParts items x type rules → (states : List ℕ) → AreStates rules states → Chosen xs rules states
    chosen xs x rules at own [] low = record { parts = no_parts; are = no_more_parts xs type; all = λ t typed. (λ h. h, λ h. h); none = λ t typed. (λ h. h, λ h. h) }
    chosen xs x rules at own (s ∷ states) low =
        let first = own s low.0 in
        let later = chosen xs x rules at own states low.1 in
        record {
          parts = and_part first.0 later.parts;
          are = one_more_part xs type x first.0 later.parts at first.1 later.are;
          all = λ t typed. (λ h. ((first.2 t typed).0 h.0, (later.all t typed).0 h.1), λ h. ((first.2 t typed).1 h.0, (later.all t typed).1 h.1));
          none = λ t typed. (
            λ h. (λ inside. h.0 ((first.2 t typed).1 inside), (later.none t typed).0 h.1),
            λ h. (λ inside. h.0 ((first.2 t typed).0 inside), (later.none t typed).1 h.1),
          );
        }

    -- ---- classes of states of two automata

    module _ (xs : List X) (x y : X) (first second : Automaton) (at : Contains xs x) (other : Contains xs y) (own : AreParts items x type first) (its : AreParts items y type second) where
      record OneClass (k : Class) : Type 0 where
        inside : LanguageParts
        outside : LanguageParts
        are_inside : ArePartsOf items xs type inside
        are_outside : ArePartsOf items xs type outside
        same : Alike Typed (InClass first second k) (IsInPart items (class inside outside))

      one_class : (k : Class) → IsClassOf first second k → OneClass k
      one_class k low =
          let i = chosen xs x first at own k.inside low.0 in
          let o = chosen xs x first at own k.outside low.1 in
          let j = chosen xs y second other its k.other_inside low.2 in
          let p = chosen xs y second other its k.other_outside low.3 in
          record {
            inside = behind i.parts j.parts;
            outside = behind o.parts p.parts;
            are_inside = are_behind xs type i.parts j.parts i.are j.are;
            are_outside = are_behind xs type o.parts p.parts o.are p.are;
            same = λ t typed. (
              λ h. ((all_behind i.parts j.parts t).0 ((i.all t typed).0 h.0, (j.all t typed).0 h.2), (none_behind o.parts p.parts t).0 ((o.none t typed).0 h.1, (p.none t typed).0 h.3)),
              λ h. (let ins = (all_behind i.parts j.parts t).1 h.0 in let outs = (none_behind o.parts p.parts t).1 h.1 in
                  ((i.all t typed).1 ins.0, (o.none t typed).1 outs.0, (j.all t typed).1 ins.1, (p.none t typed).1 outs.1)),
            );
          }

      record AllClasses (classes : List Class) : Type 0 where
        parts : LanguageParts
        are : AreAllClasses items xs type parts
        same : Alike Typed (InOne first second classes) (IsInSomePart items parts)

      all_classes : (classes : List Class) → Each (IsClassOf first second) classes → AllClasses classes
      all_classes [] low = record { parts = no_parts; are = no_more_classes xs type; same = λ t typed. (λ h. h, λ h. h) }
      all_classes (k ∷ classes) low =
          let one = one_class k low.0 in
          let later = all_classes classes low.1 in
          record {
            parts = and_part (class one.inside one.outside) later.parts;
            are = one_more_class xs type one.inside one.outside later.parts one.are_inside one.are_outside later.are;
            same = λ t typed. (
              λ h. elim h [ inl here ↦ inl ((one.same t typed).0 here) | inr there ↦ inr ((later.same t typed).0 there) ],
              λ h. elim h [ inl here ↦ inl ((one.same t typed).1 here) | inr there ↦ inr ((later.same t typed).1 there) ],
            );
          }

      pub record AreOfClasses (Q : LabelTree → Type 0) : Type 0 where
        pub part : LanguagePart
        pub are : AreClassesOf items xs type part
        pub alike : Alike Typed Q (IsInPart items part)

      pub of_some_classes : (Q : LabelTree → Type 0) → OfClasses Typed first second Q → AreOfClasses Q
      of_some_classes Q (classes, low, same) =
          let all = all_classes classes low in
          record { part = joined all.parts; are = joined_classes xs type all.parts all.are; alike = both_ways Q (InOne first second classes) (IsInSomePart items all.parts) same all.same }
