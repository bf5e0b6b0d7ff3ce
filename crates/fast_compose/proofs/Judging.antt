-- A composition in an expression of an item is one of the item, and what it is made of is among what the item is judged by.
use Rattle.std.proofs.Common.{◌≡◌, inl, inr, ℕ, suc, true, false, List, [], ◌∷◌, ◌++◌, Option, Some, None, length, Contains, refl, sym, ap, subst, ◌∙◌}
use Rattle.std.proofs.lemmas.Bool.{or_left, or_right}
use Rattle.std.specs.Prelude.{is_some}
use Rattle.fast_fault.specs.declared.code.Code.TheVariants.{WrongKind}
use Rattle.fast_fault.specs.declared.place.Pos.{Pos}
use Rattle.model_program.specs.Syntax.{Name}
use Rattle.model_grammar.specs.declared.Op1.{Op1}
use Rattle.model_grammar.specs.declared.Op1.TheVariants.{Complement, Minimize, Domain, GetWitness}
use Rattle.model_grammar.specs.declared.Op2.{Op2}
use Rattle.model_grammar.specs.declared.Op2.TheVariants.{Intersect, Union, Difference, PreImage, Compose, Restrict, RestrictOut, Apply}
use Rattle.model_grammar.specs.Places.{nowhere}
use Rattle.model_grammar.specs.Syntax.{X, named, one, two, literal, Xs, no_x, and_x, Claim, equal, member, empty, type_check, Body, TreeItem, tree, DefItem, def, AssertItem, assertion, Item}
use Rattle.model_names.specs.Kinds.{Kind, language, transformation, a_tree, defined_kind, taken_by_one, taken_first, taken_second, declared_type, kind_of}
use Rattle.model_checks.specs.Failures.{is_empty}
use Rattle.model_checks.specs.Labels.{labels_failures}
use Rattle.model_checks.specs.Rules.{constructor_failures, label_count_failures, fields_of, type_name_failures}
use Rattle.model_checks.specs.Expressions.{place_of_x, count_xs, type_called, nesting_failures, expected_as, wanted_second, type_as, output_as, needs_be, x_failures, xs_failures, whole_failures}
use Rattle.model_checks.specs.Programs.{is_tree, name_again, claim_failures, body_failures}
use Rattle.model_checks.specs.Sound.{IsSound, StandsIn}
use Rattle.model_checks.proofs.Soundness.{empty_first, empty_second, passed}
use Rattle.model_run.specs.Parts.{operands}
use Rattle.model_run.specs.Items.{used_in, used_in_all, expressions_in, judged_empty, judged, has_classes, some_has_classes, tells_apart, TellsApart, by_expressions, IsComposedIn, IsComposedInOne, IsComposedInItem, in_expression}
use Rattle.model_layers.specs.Causes.{IsAmong}
use Rattle.model_layers.proofs.Wider.{are_among}
use Rattle.meaning_laws.proofs.Kinded.{kinded, kind_needed}
use Rattle.sta_theory.proofs.Lists.{append_member, first_in, later_in, in_left, in_right}
use Rattle.model_meaning.proofs.Members.{one_of, none_of}
use Rattle.fast_compose.specs.Composed.{stated}
use Rattle.fast_compose.proofs.Named.{def_whole}

module _ (x y : X) where
  mutual
    -- an expression with a composition tells trees apart
    pub composed_classes : (e : X) → IsComposedIn x y e → has_classes e ≡ true
    composed_classes (named n) c = absurd c
    composed_classes (one Complement place e) c = refl
    composed_classes (one Minimize place e) c = refl
    composed_classes (one GetWitness place e) c = refl
    composed_classes (one Domain place e) c = composed_classes e c
    composed_classes (two Difference place e f) c = refl
    composed_classes (two Compose place e f) c = refl
    composed_classes (two Intersect place e f) (inl c) = or_left (has_classes e) (has_classes f) (composed_classes e c)
    composed_classes (two Intersect place e f) (inr c) = or_right (has_classes e) (has_classes f) (composed_classes f c)
    composed_classes (two Union place e f) (inl c) = or_left (has_classes e) (has_classes f) (composed_classes e c)
    composed_classes (two Union place e f) (inr c) = or_right (has_classes e) (has_classes f) (composed_classes f c)
    composed_classes (two PreImage place e f) (inl c) = or_left (has_classes e) (has_classes f) (composed_classes e c)
    composed_classes (two PreImage place e f) (inr c) = or_right (has_classes e) (has_classes f) (composed_classes f c)
    composed_classes (two Restrict place e f) (inl c) = or_left (has_classes e) (has_classes f) (composed_classes e c)
    composed_classes (two Restrict place e f) (inr c) = or_right (has_classes e) (has_classes f) (composed_classes f c)
    composed_classes (two RestrictOut place e f) (inl c) = or_left (has_classes e) (has_classes f) (composed_classes e c)
    composed_classes (two RestrictOut place e f) (inr c) = or_right (has_classes e) (has_classes f) (composed_classes f c)
    composed_classes (two Apply place e f) (inl c) = or_left (has_classes e) (has_classes f) (composed_classes e c)
    composed_classes (two Apply place e f) (inr c) = or_right (has_classes e) (has_classes f) (composed_classes f c)
    composed_classes (literal name labels xs) c = composed_classes_in xs c

    composed_classes_in : (xs : Xs) → IsComposedInOne x y xs → some_has_classes xs ≡ true
    composed_classes_in no_x c = absurd c
    composed_classes_in (and_x e xs) (inl c) = or_left (has_classes e) (some_has_classes xs) (composed_classes e c)
    composed_classes_in (and_x e xs) (inr c) = or_right (has_classes e) (some_has_classes xs) (composed_classes_in xs c)

  mutual
    -- one in what a tree expression uses is one in the tree expression
    pub used_composed : (v e : X) → Contains (used_in v) e → IsComposedIn x y e → IsComposedIn x y v
    used_composed (named n) e at c = absurd (none_of e at)
    used_composed (one GetWitness place z) e at c = elim (one_of z e [] at) [ inl same ↦ subst (IsComposedIn x y) (sym same) c | inr none ↦ absurd (none_of e none) ]
    used_composed (one Complement place z) e at c = absurd (none_of e at)
    used_composed (one Minimize place z) e at c = absurd (none_of e at)
    used_composed (one Domain place z) e at c = absurd (none_of e at)
    used_composed (two Apply place f z) e at c = elim (one_of f e (used_in z) at) as (λ _. IsComposedIn x y (two Apply place f z)) [ inl same ↦ inl (subst (IsComposedIn x y) (sym same) c) | inr later ↦ inr (used_composed z e later c) ]
    used_composed (two Intersect place z w) e at c = absurd (none_of e at)
    used_composed (two Union place z w) e at c = absurd (none_of e at)
    used_composed (two Difference place z w) e at c = absurd (none_of e at)
    used_composed (two PreImage place z w) e at c = absurd (none_of e at)
    used_composed (two Compose place z w) e at c = absurd (none_of e at)
    used_composed (two Restrict place z w) e at c = absurd (none_of e at)
    used_composed (two RestrictOut place z w) e at c = absurd (none_of e at)
    used_composed (literal name labels xs) e at c = used_composed_in xs e at c

    used_composed_in : (xs : Xs) (e : X) → Contains (used_in_all xs) e → IsComposedIn x y e → IsComposedInOne x y xs
    used_composed_in no_x e at c = absurd (none_of e at)
    used_composed_in (and_x v xs) e at c = elim (append_member (used_in v) (used_in_all xs) e at) as (λ _. IsComposedInOne x y (and_x v xs)) [ inl here ↦ inl (used_composed v e here c) | inr there ↦ inr (used_composed_in xs e there c) ]

-- no operation takes a tree as its first operand, and only one as its second
one_takes : (op : Op1) → taken_by_one op ≡ a_tree → ⊥
one_takes Complement e = cc
one_takes Minimize e = cc
one_takes Domain e = cc
one_takes GetWitness e = cc

first_takes : (op : Op2) → taken_first op ≡ a_tree → ⊥
first_takes Intersect e = cc
first_takes Union e = cc
first_takes Difference e = cc
first_takes PreImage e = cc
first_takes Compose e = cc
first_takes Restrict e = cc
first_takes RestrictOut e = cc
first_takes Apply e = cc

kinds_same : (a b : Kind) → Some a ≡ Some b → a ≡ b
kinds_same a b e = cc

module _ (items : List Item) (whole : IsSound items) where
  -- nothing fails in an expression of a language or a transformation
  pub record IsWhole (e : X) : Type 0 where
    pub before : List Item
    pub around : ℕ
    pub expected : Option (List ℕ)
    pub fine : is_empty (x_failures items before around expected e) ≡ true
    pub no_tree : kind_of items e ≡ Some a_tree → ⊥

  -- nor in one of a tree
  record IsTreeWhole (e : X) : Type 0 where
    before : List Item
    around : ℕ
    expected : Option (List ℕ)
    fine : is_empty (x_failures items before around expected e) ≡ true
    kind : kind_of items e ≡ Some a_tree

  kind_by : (before : List Item) (around : ℕ) (expected type : Option (List ℕ)) (wanted : Kind) (e : X) → is_empty (x_failures items before around expected e) ≡ true → is_empty (needs_be items before type wanted e) ≡ true → kind_of items e ≡ Some wanted
  kind_by before around expected type wanted e fine be = (kind_needed items before wanted type e (kinded items whole before around expected e fine) be).0

  apart : (wanted : Kind) (e : X) → kind_of items e ≡ Some wanted → (wanted ≡ a_tree → ⊥) → kind_of items e ≡ Some a_tree → ⊥
  apart wanted e is other given = other (kinds_same wanted a_tree (sym is ∙ given))

  inner : (op : Op1) (place : Pos) (e : X) (before : List Item) (around : ℕ) (expected : Option (List ℕ)) → is_empty (x_failures items before around expected (one op place e)) ≡ true → IsWhole e
  inner op place e before around expected all =
      let fe = x_failures items before (suc around) None e in
      let be = needs_be items before None (taken_by_one op) e in
      let rest = empty_second (nesting_failures around place) (fe ++ be) all in
      let fine = empty_first fe be rest in
      record { before = before; around = suc around; expected = None; fine = fine; no_tree = apart (taken_by_one op) e (kind_by before (suc around) None None (taken_by_one op) e fine (empty_second fe be rest)) (one_takes op) }

  module _ (op : Op2) (place : Pos) (e f : X) (before : List Item) (around : ℕ) (expected : Option (List ℕ)) (all : is_empty (x_failures items before around expected (two op place e f)) ≡ true) where
    abbrev wanted : Option (List ℕ)
    wanted = wanted_second items before op e

    abbrev asked : Option (List ℕ)
    asked = expected_as (taken_second op) wanted

    inside : is_empty (x_failures items before (suc around) None e ++ (needs_be items before None (taken_first op) e ++ (x_failures items before (suc around) asked f ++ needs_be items before wanted (taken_second op) f))) ≡ true
    inside = empty_second (nesting_failures around place) _ all

    first_inner : IsWhole e
    first_inner =
        let fe = x_failures items before (suc around) None e in
        let be = needs_be items before None (taken_first op) e in
        let fine = empty_first fe _ inside in
        record { before = before; around = suc around; expected = None; fine = fine; no_tree = apart (taken_first op) e (kind_by before (suc around) None None (taken_first op) e fine (empty_first be _ (empty_second fe _ inside))) (first_takes op) }

    last : is_empty (x_failures items before (suc around) asked f ++ needs_be items before wanted (taken_second op) f) ≡ true
    last = empty_second (needs_be items before None (taken_first op) e) _ (empty_second (x_failures items before (suc around) None e) _ inside)

    second_fine : is_empty (x_failures items before (suc around) asked f) ≡ true
    second_fine = empty_first (x_failures items before (suc around) asked f) (needs_be items before wanted (taken_second op) f) last

    second_kind : kind_of items f ≡ Some (taken_second op)
    second_kind = kind_by before (suc around) asked wanted (taken_second op) f second_fine (empty_second (x_failures items before (suc around) asked f) (needs_be items before wanted (taken_second op) f) last)

    second_inner : (taken_second op ≡ a_tree → ⊥) → IsWhole f
    second_inner other = record { before = before; around = suc around; expected = asked; fine = second_fine; no_tree = apart (taken_second op) f second_kind other }

  module _ (x y : X) where
    up : (e z : X) → Contains (operands z) e → IsAmong items x e → IsAmong items x z
    up e z at among = (are_among items).further x e z among ((are_among items).operand z e at)

    first_up : (op : Op2) (place : Pos) (e f : X) → operands (two op place e f) ≡ e ∷ f ∷ [] → IsAmong items x e → IsAmong items x (two op place e f)
    first_up op place e f are among = up e (two op place e f) (subst (λ es. Contains es e) (sym are) (first_in e (f ∷ []))) among

    second_up : (op : Op2) (place : Pos) (e f : X) → operands (two op place e f) ≡ e ∷ f ∷ [] → IsAmong items x f → IsAmong items x (two op place e f)
    second_up op place e f are among = up f (two op place e f) (subst (λ es. Contains es f) (sym are) (later_in e f (f ∷ []) (first_in f []))) among

    -- the first part of a composition in an expression is among what that is made of
    composed_among : (e : X) → IsWhole e → IsComposedIn x y e → IsAmong items x e
    composed_among (named n) w c = absurd c
    composed_among (one op place e) w c = up e (one op place e) (first_in e []) (composed_among e (inner op place e w.before w.around w.expected w.fine) c)
    composed_among (two Compose place e f) w (inl own) = first_up Compose place e f refl (subst (λ z. IsAmong items x z) own.0 ((are_among items).same x))
    composed_among (two Compose place e f) w (inr (inl c)) = first_up Compose place e f refl (composed_among e (first_inner Compose place e f w.before w.around w.expected w.fine) c)
    composed_among (two Compose place e f) w (inr (inr c)) = second_up Compose place e f refl (composed_among f (second_inner Compose place e f w.before w.around w.expected w.fine (λ k. cc)) c)
    composed_among (two Intersect place e f) w (inl c) = first_up Intersect place e f refl (composed_among e (first_inner Intersect place e f w.before w.around w.expected w.fine) c)
    composed_among (two Intersect place e f) w (inr c) = second_up Intersect place e f refl (composed_among f (second_inner Intersect place e f w.before w.around w.expected w.fine (λ k. cc)) c)
    composed_among (two Union place e f) w (inl c) = first_up Union place e f refl (composed_among e (first_inner Union place e f w.before w.around w.expected w.fine) c)
    composed_among (two Union place e f) w (inr c) = second_up Union place e f refl (composed_among f (second_inner Union place e f w.before w.around w.expected w.fine (λ k. cc)) c)
    composed_among (two Difference place e f) w (inl c) = first_up Difference place e f refl (composed_among e (first_inner Difference place e f w.before w.around w.expected w.fine) c)
    composed_among (two Difference place e f) w (inr c) = second_up Difference place e f refl (composed_among f (second_inner Difference place e f w.before w.around w.expected w.fine (λ k. cc)) c)
    composed_among (two PreImage place e f) w (inl c) = first_up PreImage place e f refl (composed_among e (first_inner PreImage place e f w.before w.around w.expected w.fine) c)
    composed_among (two PreImage place e f) w (inr c) = second_up PreImage place e f refl (composed_among f (second_inner PreImage place e f w.before w.around w.expected w.fine (λ k. cc)) c)
    composed_among (two Restrict place e f) w (inl c) = first_up Restrict place e f refl (composed_among e (first_inner Restrict place e f w.before w.around w.expected w.fine) c)
    composed_among (two Restrict place e f) w (inr c) = second_up Restrict place e f refl (composed_among f (second_inner Restrict place e f w.before w.around w.expected w.fine (λ k. cc)) c)
    composed_among (two RestrictOut place e f) w (inl c) = first_up RestrictOut place e f refl (composed_among e (first_inner RestrictOut place e f w.before w.around w.expected w.fine) c)
    composed_among (two RestrictOut place e f) w (inr c) = second_up RestrictOut place e f refl (composed_among f (second_inner RestrictOut place e f w.before w.around w.expected w.fine (λ k. cc)) c)
    composed_among (two Apply place e f) w c = absurd (w.no_tree refl)
    composed_among (literal name labels xs) w c = absurd (w.no_tree refl)

    -- ---- in a tree expression

    -- the composition is in an expression that the tree expression uses
    record IsUsed (es : List X) : Type 0 where
      own : X
      there : Contains es own
      composed : IsComposedIn x y own
      among : IsAmong items x own

    used : (es : List X) (e : X) → Contains es e → IsWhole e → IsComposedIn x y e → IsUsed es
    used es e at w c = record { own = e; there = at; composed = c; among = composed_among e w c }

    among_more : (es fs : List X) → ((e : X) → Contains es e → Contains fs e) → IsUsed es → IsUsed fs
    among_more es fs to u = record { own = u.own; there = to u.own u.there; composed = u.composed; among = u.among }

    mutual
      used_by : (v : X) → IsTreeWhole v → IsComposedIn x y v → IsUsed (used_in v)
      used_by (named n) w c = absurd c
      used_by (one GetWitness place e) w c = used (e ∷ []) e (first_in e []) (inner GetWitness place e w.before w.around w.expected w.fine) c
      used_by (one Complement place e) w c = let no : Some language ≡ Some a_tree = w.kind in absurd (cc)
      used_by (one Minimize place e) w c = let no : Some language ≡ Some a_tree = w.kind in absurd (cc)
      used_by (one Domain place e) w c = let no : Some language ≡ Some a_tree = w.kind in absurd (cc)
      used_by (two Apply place f v) w (inl c) = used (f ∷ used_in v) f (first_in f (used_in v)) (first_inner Apply place f v w.before w.around w.expected w.fine) c
      used_by (two Apply place f v) w (inr c) =
          among_more (used_in v) (f ∷ used_in v) (λ e at. later_in f e (used_in v) at)
          (used_by v (record { before = w.before; around = suc w.around; expected = asked Apply place f v w.before w.around w.expected w.fine; fine = second_fine Apply place f v w.before w.around w.expected w.fine; kind = second_kind Apply place f v w.before w.around w.expected w.fine }) c)
      used_by (two Intersect place e f) w c = let no : Some language ≡ Some a_tree = w.kind in absurd (cc)
      used_by (two Union place e f) w c = let no : Some language ≡ Some a_tree = w.kind in absurd (cc)
      used_by (two Difference place e f) w c = let no : Some language ≡ Some a_tree = w.kind in absurd (cc)
      used_by (two PreImage place e f) w c = let no : Some language ≡ Some a_tree = w.kind in absurd (cc)
      used_by (two Compose place e f) w c = let no : Some transformation ≡ Some a_tree = w.kind in absurd (cc)
      used_by (two Restrict place e f) w c = let no : Some transformation ≡ Some a_tree = w.kind in absurd (cc)
      used_by (two RestrictOut place e f) w c = let no : Some transformation ≡ Some a_tree = w.kind in absurd (cc)
      used_by (literal name labels xs) w c =
          let called = type_called items w.before w.expected in
          let rest = empty_second (constructor_failures called name (count_xs xs)) _ w.fine in
          let later = empty_second (label_count_failures called name (length labels)) _ rest in
          used_by_all w.before w.around w.expected xs (empty_second (labels_failures (Some []) (fields_of called) labels) (xs_failures items w.before w.around w.expected xs) later) c

      used_by_all : (before : List Item) (around : ℕ) (type : Option (List ℕ)) (xs : Xs) → is_empty (xs_failures items before around type xs) ≡ true → IsComposedInOne x y xs → IsUsed (used_in_all xs)
      used_by_all before around type no_x fine c = absurd c
      used_by_all before around type (and_x v xs) fine (inl c) =
          let fv = x_failures items before around type v in
          let own = empty_first fv _ fine in
          let be = empty_first (needs_be items before type a_tree v) (xs_failures items before around type xs) (empty_second fv _ fine) in
          among_more (used_in v) (used_in v ++ used_in_all xs) (λ e at. in_left (used_in v) (used_in_all xs) e at)
          (used_by v (record { before = before; around = around; expected = type; fine = own; kind = kind_by before around type type a_tree v own be }) c)
      used_by_all before around type (and_x v xs) fine (inr c) =
          let rest = empty_second (needs_be items before type a_tree v) (xs_failures items before around type xs) (empty_second (x_failures items before around type v) _ fine) in
          among_more (used_in_all xs) (used_in v ++ used_in_all xs) (λ e at. in_right (used_in v) (used_in_all xs) e at) (used_by_all before around type xs rest c)

    -- ---- in an item

    -- it is one of the item, which tells trees apart, and its first part is among what the item is judged by
    pub record IsOfItem (body : Body) : Type 0 where
      pub composed : IsComposedInItem items x y body
      pub tells : TellsApart items body
      pub own : X
      pub judged_by : Contains (judged items body) own
      pub among : IsAmong items x own

    of_item : (body : Body) (e own : X) → Contains (expressions_in body) e → IsComposedIn x y e → tells_apart body ≡ true → Contains (judged items body) own → IsAmong items x own → IsOfItem body
    of_item body e own at c tells judged_by among = record { composed = in_expression body e at c; tells = by_expressions body tells; own = own; judged_by = judged_by; among = among }

    whole_of : (before : List Item) (type : Option (List ℕ)) (kind : Kind) (e : X) → is_empty (whole_failures items before type kind e) ≡ true → (kind ≡ a_tree → ⊥) → IsWhole e
    whole_of before type kind e all other =
        let fe = x_failures items before 0 (expected_as kind type) e in
        let be = needs_be items before type kind e in
        let fine = empty_first fe be all in
        record { before = before; around = 0; expected = expected_as kind type; fine = fine; no_tree = apart kind e (kind_by before 0 (expected_as kind type) type kind e fine (empty_second fe be all)) other }

    tree_of_whole : (before : List Item) (type : Option (List ℕ)) (e : X) → is_empty (whole_failures items before type a_tree e) ≡ true → IsTreeWhole e
    tree_of_whole before type e all =
        let fe = x_failures items before 0 (expected_as a_tree type) e in
        let be = needs_be items before type a_tree e in
        let fine = empty_first fe be all in
        record { before = before; around = 0; expected = expected_as a_tree type; fine = fine; kind = kind_by before 0 (expected_as a_tree type) type a_tree e fine (empty_second fe be all) }

    pub of_tree : (item : Item) (at : StandsIn items item) (t : TreeItem) → item.body ≡ tree t → IsComposedIn x y t.value → IsOfItem (tree t)
    of_tree item at t is c =
        let all = subst (λ b. is_empty (body_failures items at.before b) ≡ true) is (whole.each item at) in
        let w = tree_of_whole at.before (declared_type items t.of) t.value (empty_second (type_name_failures items t.of) _ (empty_second (name_again items at.before t.name) _ all)) in
        let u = used_by t.value w c in
        of_item (tree t) u.own u.own u.there u.composed (composed_classes x y t.value c) u.there u.among

    pub of_def : (item : Item) (at : StandsIn items item) (d : DefItem) → item.body ≡ def d → IsComposedIn x y d.value → IsOfItem (def d)
    of_def item at d is c =
        let w = whole_of at.before (declared_type items d.from) (defined_kind d.into) d.value (def_whole items whole item at d is) (no_tree_defined d.into) in
        of_item (def d) d.value d.value (first_in d.value []) c (or_right (is_some d.into) (has_classes d.value) (composed_classes x y d.value c)) (first_in d.value []) (composed_among d.value w c)
      where
        no_tree_defined : (into : Option Name) → defined_kind into ≡ a_tree → ⊥
        no_tree_defined None e = cc
        no_tree_defined (Some n) e = cc

    module _ (a : AssertItem) (before : List Item) where
      in_equal : (e f : X) → a.claim ≡ equal e f → is_empty (claim_failures items before (equal e f)) ≡ true → (z : X) → Contains (e ∷ f ∷ []) z → IsComposedIn x y z → IsOfItem (assertion a)
      in_equal e f is all z at c = subst IsOfItem (sym (ap (λ k. assertion (record { wanted = a.wanted; claim = k })) is)) (of_item (assertion (record { wanted = a.wanted; claim = equal e f })) z z at c refl at (composed_among z w c))
        where
          first : is_empty (whole_failures items before None language e) ≡ true
          first = empty_first (whole_failures items before None language e) _ all

          second : is_empty (whole_failures items before (type_as items before language e) language f) ≡ true
          second = empty_second (whole_failures items before None language e) _ all

          w : IsWhole z
          w = elim (one_of e z (f ∷ []) at) [
            | inl same ↦ subst IsWhole same (whole_of before None language e first (λ k. cc))
            | inr later ↦ elim (one_of f z [] later) [ inl same ↦ subst IsWhole same (whole_of before (type_as items before language e) language f second (λ k. cc)) | inr none ↦ absurd (none_of z none) ]
          ]

      in_member : (e f : X) → a.claim ≡ member e f → is_empty (claim_failures items before (member e f)) ≡ true → (z : X) → Contains (e ∷ f ∷ []) z → IsComposedIn x y z → IsOfItem (assertion a)
      in_member e f is all z at c = subst IsOfItem (sym (ap (λ k. assertion (record { wanted = a.wanted; claim = k })) is)) (elim (one_of e z (f ∷ []) at) [
        | inl same ↦ of_first (subst (IsComposedIn x y) (sym same) c)
        | inr later ↦ elim (one_of f z [] later) [ inl same ↦ of_second (subst (IsComposedIn x y) (sym same) c) | inr none ↦ absurd (none_of z none) ]
      ])
        where
          of_first : IsComposedIn x y e → IsOfItem (assertion (record { wanted = a.wanted; claim = member e f }))
          of_first own =
              let u = used_by e (tree_of_whole before (type_as items before language f) e (empty_second (whole_failures items before None language f) _ all)) own in
              let there = in_left (used_in e) (f ∷ []) u.own u.there in
              of_item (assertion (record { wanted = a.wanted; claim = member e f })) u.own u.own there u.composed (or_left (has_classes e) (has_classes f) (composed_classes x y e own)) there u.among

          of_second : IsComposedIn x y f → IsOfItem (assertion (record { wanted = a.wanted; claim = member e f }))
          of_second own =
              let there = in_right (used_in e) (f ∷ []) f (first_in f []) in
              let w = whole_of before None language f (empty_first (whole_failures items before None language f) _ all) (λ k. cc) in
              of_item (assertion (record { wanted = a.wanted; claim = member e f })) f f there own (or_right (has_classes e) (has_classes f) (composed_classes x y f own)) there (composed_among f w own)

      in_empty : (e : X) → a.claim ≡ empty e → is_empty (claim_failures items before (empty e)) ≡ true → IsComposedIn x y e → IsOfItem (assertion a)
      in_empty e is all c = subst IsOfItem (sym (ap (λ k. assertion (record { wanted = a.wanted; claim = k })) is)) (by (kind_of items e) refl)
        where
          body : Body
          body = assertion (record { wanted = a.wanted; claim = empty e })

          not_tree : (k : Option Kind) → is_tree k ≡ false → k ≡ Some a_tree → ⊥
          not_tree k none e = let bad : is_tree (Some a_tree) ≡ false = subst (λ z. is_tree z ≡ false) e none in cc

          w : IsWhole e
          w = record { before = before; around = 0; expected = None; fine = empty_first (x_failures items before 0 None e) _ all; no_tree = not_tree (kind_of items e) (passed (is_tree (kind_of items e)) WrongKind (place_of_x e) (empty_second (x_failures items before 0 None e) _ all)) }

          judged_as : (k : Option Kind) → kind_of items e ≡ k → (own : X) → judged_empty k e ≡ own → IsAmong items x own → IsOfItem body
          judged_as k kind own same among = of_item body e own (first_in e []) c refl (subst (λ z. Contains (z ∷ []) own) (sym (ap (λ o. judged_empty o e) kind ∙ same)) (first_in own [])) among

          by : (k : Option Kind) → kind_of items e ≡ k → IsOfItem body
          by None kind = judged_as None kind e refl (composed_among e w c)
          by (Some language) kind = judged_as (Some language) kind e refl (composed_among e w c)
          by (Some a_tree) kind = judged_as (Some a_tree) kind e refl (composed_among e w c)
          by (Some transformation) kind = judged_as (Some transformation) kind (one Domain nowhere e) refl (up e (one Domain nowhere e) (first_in e []) (composed_among e w c))

      in_check : (e f g : X) → a.claim ≡ type_check e f g → is_empty (claim_failures items before (type_check e f g)) ≡ true → (z : X) → Contains (e ∷ f ∷ g ∷ []) z → IsComposedIn x y z → IsOfItem (assertion a)
      in_check e f g is all z at c = subst IsOfItem (sym (ap (λ k. assertion (record { wanted = a.wanted; claim = k })) is)) (of_item body z judge at c refl (first_in judge []) among)
        where
          body : Body
          body = assertion (record { wanted = a.wanted; claim = type_check e f g })

          back : X
          back = two PreImage nowhere f (one Complement nowhere g)

          judge : X
          judge = two Intersect nowhere e back

          rest : is_empty (whole_failures items before (type_as items before language e) transformation f ++ whole_failures items before (output_as items before transformation f) language g) ≡ true
          rest = empty_second (whole_failures items before None language e) _ all

          of_e : IsComposedIn x y e → IsAmong items x judge
          of_e own = first_up Intersect nowhere e back refl (composed_among e (whole_of before None language e (empty_first (whole_failures items before None language e) _ all) (λ k. cc)) own)

          of_f : IsComposedIn x y f → IsAmong items x judge
          of_f own = second_up Intersect nowhere e back refl (first_up PreImage nowhere f (one Complement nowhere g) refl (composed_among f (whole_of before (type_as items before language e) transformation f (empty_first (whole_failures items before (type_as items before language e) transformation f) _ rest) (λ k. cc)) own))

          of_g : IsComposedIn x y g → IsAmong items x judge
          of_g own =
              let w = whole_of before (output_as items before transformation f) language g (empty_second (whole_failures items before (type_as items before language e) transformation f) _ rest) (λ k. cc) in
              second_up Intersect nowhere e back refl (second_up PreImage nowhere f (one Complement nowhere g) refl (up g (one Complement nowhere g) (first_in g []) (composed_among g w own)))

          among : IsAmong items x judge
          among = elim (one_of e z (f ∷ g ∷ []) at) [
            | inl same ↦ of_e (subst (IsComposedIn x y) (sym same) c)
            | inr later ↦ elim (one_of f z (g ∷ []) later) [
              | inl same ↦ of_f (subst (IsComposedIn x y) (sym same) c)
              | inr last ↦ elim (one_of g z [] last) [ inl same ↦ of_g (subst (IsComposedIn x y) (sym same) c) | inr none ↦ absurd (none_of z none) ]
            ]
          ]

      in_claim : (k : Claim) → a.claim ≡ k → is_empty (claim_failures items before k) ≡ true → (z : X) → Contains (stated k) z → IsComposedIn x y z → IsOfItem (assertion a)
      in_claim (equal e f) is all z at c = in_equal e f is all z at c
      in_claim (member e f) is all z at c = in_member e f is all z at c
      in_claim (empty e) is all z at c = in_empty e is all (elim (one_of e z [] at) [ inl same ↦ subst (IsComposedIn x y) (sym same) c | inr none ↦ absurd (none_of z none) ])
      in_claim (type_check e f g) is all z at c = in_check e f g is all z at c

    pub of_claim : (item : Item) (at : StandsIn items item) (a : AssertItem) → item.body ≡ assertion a → (z : X) → Contains (stated a.claim) z → IsComposedIn x y z → IsOfItem (assertion a)
    of_claim item at a is z there c =
        let all = subst (λ b. is_empty (body_failures items at.before b) ≡ true) is (whole.each item at) in
        in_claim a at.before a.claim refl all z there c
