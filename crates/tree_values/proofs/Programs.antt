-- What an item of a well-formed program brings to the evaluation of its trees, once the items before it are done.
use Rattle.meaning_laws.specs.Shapes.{have_tree_shapes, has_automaton_shape, has_tree_shape}
use Rattle.std.proofs.Common.{◌≡◌, ◌<◌, ◌++◌, ℕ, suc, Bool, true, false, ◌&&◌, not, cond, List, [], ◌∷◌, map, length, get_or, Option, Some, None, refl, sym, ap, subst, ◌∙◌, arith}
use Rattle.std.specs.Prelude.{◌==◌, is_some}
use Rattle.std.proofs.lemmas.Bool.{and_parts}
use Rattle.std.specs.Option.{option_map, option_map_or, option_and_then}
use Rattle.fast_fault.specs.declared.code.Code.TheVariants.{WrongRank}
use Rattle.fast_fault.specs.declared.place.Pos.{Pos}
use Rattle.model_tree.specs.Signature.{PlainConstructor}
use Rattle.model_program.specs.Syntax.{Name, CtorItem, TypeItem}
use Rattle.model_grammar.specs.declared.Op1.TheVariants.{Complement, Minimize, Domain, GetWitness}
use Rattle.model_grammar.specs.declared.Op2.TheVariants.{Intersect, Union, Difference, PreImage, Compose, Restrict, RestrictOut, Apply}
use Rattle.model_grammar.specs.Syntax.{Expr, X, named, one, two, literal, Xs, no_x, and_x, member, Body, sorts, TreeItem, tree, lang, trans, def, AssertItem, assertion, Item}
use Rattle.model_names.specs.Declared.{same_text, find_type, own_name, declares, find_item}
use Rattle.model_names.specs.Kinds.{language, transformation, a_tree, defined_kind, own_kind, own_type, declared_type, kind_of, type_of, output_of}
use Rattle.model_meaning.specs.Types.{rank_of, signature_of, signature_at, no_signature, input_of}
use Rattle.model_meaning.specs.Meaning.{signature_named}
use Rattle.model_meaning.specs.Outputs.{number_named}
use Rattle.model_meaning.proofs.Named.{input_type_of_name}
use Rattle.model_checks.specs.Failures.{is_empty}
use Rattle.model_checks.specs.Labels.{labels_failures}
use Rattle.model_checks.specs.Types.{find_ctor}
use Rattle.model_checks.specs.Rules.{differ, constructor_failures, label_count_failures, type_name_failures, fields_of}
use Rattle.model_checks.specs.Expressions.{is_known_later, nesting_failures, count_xs, type_called, type_as, needs_be, wanted_second, x_failures, xs_failures, whole_failures}
use Rattle.model_checks.specs.Programs.{name_again, body_failures, claim_failures}
use Rattle.model_checks.specs.Sound.{IsSound, StandsIn, IsSoundType}
use Rattle.model_checks.proofs.Soundness.{empty_first, empty_second, needed, same_from_test, not_false, is_there, found_passes}
use Rattle.model_checks.proofs.SoundParts.{has_ctor, HasType, has_type, declared_as}
use Rattle.model_checks.proofs.SoundWhole.{finds}
use Rattle.meaning_laws.proofs.Kinded.{kinded, kind_needed, named_kind, named_type, through}
use Rattle.meaning_laws.proofs.Known.{by_known, has_name}
use Rattle.meaning_laws.proofs.Valued.{not_other}
use Rattle.sta_theory.proofs.Lists.{first_in, later_in, in_left, in_right}
use Rattle.fast_eval.specs.declared.built.Built.{Built}
use Rattle.model_run.specs.Items.{used_in, used_in_all, AreComposable, AreAllComposable}
use Rattle.fast_eval.specs.Forms.{IsMadeOn, IsMadeFrom, AreKnown}
use Rattle.fast_eval.specs.Defined.{AreDefined}
use Rattle.fast_eval.proofs.Stepping.{find_in_front, found_there, some_same, known_of, trans_known_of}
use Rattle.fast_eval.proofs.Typing.{made_of_form, made_from_form}
use Rattle.meaning_laws.proofs.Rules.{has_rank}
use Rattle.tree_values.specs.declared.trees.Trees.{Trees}
use Rattle.tree_values.specs.Forms.{IsNodeOf, IsTreeOn, AreTreesOn, IsTreeKnown, AreTreesKnown}
use Rattle.tree_values.specs.Trees.{tree_at, ArePrinted}
use Rattle.fast_eval.proofs.TypeNames.{type_there, types_there}
use Rattle.tree_values.proofs.Closed.{closed_labels}

-- types that are known not to differ are one
one_type : (s t : List ℕ) (o : Option (List ℕ)) → o ≡ Some t → differ (Some s) o ≡ false → s ≡ t
one_type s t o is e = same_from_test s t (not_false (same_text s t) (subst (λ p. differ (Some s) p ≡ false) is e))

-- ---- constructors

abbrev plain_ctors : List CtorItem → List PlainConstructor
plain_ctors ctors = map (λ c. record { name = c.name.text; rank = rank_of c.rank }) ctors

abbrev the_names : List CtorItem → List (List ℕ)
the_names ctors = map (λ (c : PlainConstructor). c.name) (plain_ctors ctors)

abbrev the_ranks : List CtorItem → List ℕ
the_ranks ctors = map (λ (c : PlainConstructor). c.rank) (plain_ctors ctors)

-- a constructor that is found by its name has a number, at which its rank stands
record IsPlaced (ctors : List CtorItem) (name : List ℕ) (ctor : CtorItem) : Type 0 where
  number : ℕ
  found : number_named (the_names ctors) name ≡ Some number
  low : number < length (the_ranks ctors)
  rank : get_or (the_ranks ctors) number 0 ≡ rank_of ctor.rank

placed : (ctors : List CtorItem) (name : List ℕ) (ctor : CtorItem) → find_ctor ctors name ≡ Some ctor → IsPlaced ctors name ctor
placed [] name ctor e = absurd (cc)
placed (c ∷ ctors) name ctor e = by (same_text c.name.text name) refl e (placed ctors name ctor)
  where
    by : (b : Bool) → same_text c.name.text name ≡ b → cond b (Some c) (find_ctor ctors name) ≡ Some ctor → (find_ctor ctors name ≡ Some ctor → IsPlaced ctors name ctor) → IsPlaced (c ∷ ctors) name ctor
    by true own is later = record {
      number = 0;
      found = ap (λ b. cond b (Some 0) (option_map (λ n. suc n) (number_named (the_names ctors) name))) own;
      low = omega arith;
      rank = ap (λ (d : CtorItem). rank_of d.rank) (some_same is);
    }
    by false own is later =
        let p = later is in
        record {
          number = suc p.number;
          found = ap (λ b. cond b (Some 0) (option_map (λ n. suc n) (number_named (the_names ctors) name))) own ∙ ap (option_map (λ n. suc n)) p.found;
          low = omega (arith, p.low);
          rank = p.rank;
        }

module _ (items : List Item) (whole : IsSound items) where
  -- a literal of a declared type
  node_of : (type : List ℕ) (t : TypeItem) → find_type items type ≡ Some t → IsSoundType t → (name : Name) (labels : List Expr) (count : ℕ)
      → is_empty (constructor_failures (Some t) name count) ≡ true → is_empty (label_count_failures (Some t) name (length labels)) ≡ true → is_empty (labels_failures (Some []) (fields_of (Some t)) labels) ≡ true
      → IsNodeOf (signature_named items (Some type)) name.text labels count
  node_of type t found sound name labels count ctor many fine =
      let c = has_ctor t name count ctor in
      let p = placed t.ctors name.text c.ctor c.found in
      subst (λ s. IsNodeOf s name.text labels count) (sym (ap (λ o. option_map_or signature_of o no_signature) found)) (record {
        number = p.number;
        found = p.found;
        low = p.low;
        rank = has_rank count c.ctor.rank c.rank ∙ sym p.rank;
        closed = closed_labels t.fields labels sound.sorts (needed (length t.fields == length labels) WrongRank name.place many) fine;
      })

  -- ---- types

  -- the name of a tree
  module _ (n : Name) (item : Item) (found : find_item items n.text ≡ Some item) where
    tree_named : (body : Body) → item.body ≡ body → own_kind body ≡ Some a_tree → (t : TreeItem) × (item.body ≡ tree t)
    tree_named (sorts t) is kind = absurd (cc)
    tree_named (tree t) is kind = (t, is)
    tree_named (lang l) is kind = absurd (cc)
    tree_named (trans t) is kind = absurd (cc)
    tree_named (def d) is kind = by d.into kind
      where
        by : (o : Option Name) → Some (defined_kind o) ≡ Some a_tree → (t : TreeItem) × (item.body ≡ tree t)
        by None e = absurd (cc)
        by (Some m) e = absurd (cc)
    tree_named (assertion a) is kind = absurd (cc)

  tree_fine : (item : Item) (at : StandsIn items item) (t : TreeItem) → item.body ≡ tree t → is_empty (body_failures items at.before (tree t)) ≡ true
  tree_fine item at t is = subst (λ b. is_empty (body_failures items at.before b) ≡ true) is (whole.each item at)

  -- the type of a tree is declared
  pub tree_type : (item : Item) (at : StandsIn items item) (t : TreeItem) → item.body ≡ tree t → HasType items t.of
  tree_type item at t is = has_type items t.of (empty_first (type_name_failures items t.of) _ (empty_second (name_again items at.before t.name) _ (tree_fine item at t is)))

  named_on : (before : List Item) (around : ℕ) (type : List ℕ) (n : Name) → is_empty (x_failures items before around (Some type) (named n)) ≡ true → is_empty (needs_be items before (Some type) a_tree (named n)) ≡ true → IsTreeOn items type (named n)
  named_on before around type n fine be =
      let f = by_known items whole before n (find_item items n.text) refl fine in
      let own = kind_needed items before a_tree (Some type) (named n) (kinded items whole before around (Some type) (named n) fine) be in
      let is = tree_named n f.item f.found f.item.body refl (sym (named_kind items n f.item f.found) ∙ own.0) in
      let stands = (finds items).item n.text f.item f.found in
      let declared = declared_as items is.0.of (tree_type f.item stands is.0 is.1) in
      let type_is : type_of items (named n) ≡ Some is.0.of.text = named_type items n f.item f.found ∙ (ap (λ b. option_and_then (declared_type items) (own_type b)) is.1 ∙ declared) in
      let same = one_type type is.0.of.text (type_of items (named n)) type_is (not_other items whole before a_tree (Some type) (named n) own.0 be) in
      sym (ap (λ s. signature_named items (Some s)) same ∙ (ap (signature_named items) (sym type_is) ∙ input_type_of_name items n))

  found_on : (before : List Item) (around : ℕ) (type : List ℕ) (place : Pos) (x : X) → has_automaton_shape x ≡ true → AreComposable items x → is_empty (x_failures items before around (Some type) (one GetWitness place x)) ≡ true → is_empty (needs_be items before (Some type) a_tree (one GetWitness place x)) ≡ true
      → (is_empty (x_failures items before (suc around) None x) ≡ true) × IsMadeOn items type x
  found_on before around type place x form can fine be =
      let inner = empty_second (nesting_failures around place) (x_failures items before (suc around) None x ++ needs_be items before None language x) fine in
      let inside = empty_first (x_failures items before (suc around) None x) (needs_be items before None language x) inner in
      let own = kind_needed items before language None x (kinded items whole before (suc around) None x inside) (empty_second (x_failures items before (suc around) None x) (needs_be items before None language x) inner) in
      let given : type_of items (one GetWitness place x) ≡ Some own.1.0 = through language (kind_of items x) (type_of items x) own.0 ∙ own.1.1 in
      let same = one_type type own.1.0 (type_of items (one GetWitness place x)) given (not_other items whole before a_tree (Some type) (one GetWitness place x) refl be) in
      (inside, made_of_form items whole before (suc around) None x type form can inside (own.0, own.1.1 ∙ ap Some (sym same)))

  sound_of : (type : List ℕ) (t : TypeItem) → find_type items type ≡ Some t → IsSoundType t
  sound_of type t found = let s = (finds items).type type t found in whole.types s.0 t s.1 s.2

  -- a transformation that is applied to a tree
  record IsApplication (before : List Item) (around : ℕ) (type : List ℕ) (f x : X) : Type 0 where
    from : List ℕ
    made : IsMadeFrom items from type f
    fine : is_empty (x_failures items before (suc around) None f) ≡ true
    inside : is_empty (x_failures items before (suc around) (Some from) x) ≡ true
    be : is_empty (needs_be items before (Some from) a_tree x) ≡ true

  applied_on : (before : List Item) (around : ℕ) (type : List ℕ) (place : Pos) (f x : X) → has_automaton_shape f ≡ true → AreComposable items f → is_empty (x_failures items before around (Some type) (two Apply place f x)) ≡ true
      → is_empty (needs_be items before (Some type) a_tree (two Apply place f x)) ≡ true → IsApplication before around type f x
  applied_on before around type place f x form can fine be =
      let wanted = wanted_second items before Apply f in
      let ff = x_failures items before (suc around) None f in
      let bf = needs_be items before None transformation f in
      let fx = x_failures items before (suc around) wanted x in
      let bx = needs_be items before wanted a_tree x in
      let inner = empty_second (nesting_failures around place) (ff ++ (bf ++ (fx ++ bx))) fine in
      let fine_f = empty_first ff (bf ++ (fx ++ bx)) inner in
      let rest = empty_second ff (bf ++ (fx ++ bx)) inner in
      let last = empty_second bf (fx ++ bx) rest in
      let own = kind_needed items before transformation None f (kinded items whole before (suc around) None f fine_f) (empty_first bf (fx ++ bx) rest) in
      let wanted_is : wanted ≡ Some own.1.0 = through transformation (kind_of items f) (type_of items f) own.0 ∙ own.1.2 in
      let given : type_of items (two Apply place f x) ≡ Some own.1.1 = through transformation (kind_of items f) (output_of items f) own.0 ∙ own.1.3 in
      let same = one_type type own.1.1 (type_of items (two Apply place f x)) given (not_other items whole before a_tree (Some type) (two Apply place f x) refl be) in
      record {
        from = own.1.0;
        made = made_from_form items whole before (suc around) None f own.1.0 type form can fine_f (own.0, own.1.2, own.1.3 ∙ ap Some (sym same));
        fine = fine_f;
        inside = subst (λ o. is_empty (x_failures items before (suc around) o x) ≡ true) wanted_is (empty_first fx bx last);
        be = subst (λ o. is_empty (needs_be items before o a_tree x) ≡ true) wanted_is (empty_second fx bx last);
      }

  mutual
    -- an expression of a form that can be evaluated, of which a tree of a declared type is expected
    pub tree_on : (before : List Item) (around : ℕ) (type : List ℕ) (t : TypeItem) → find_type items type ≡ Some t → IsSoundType t → (x : X) → has_tree_shape x ≡ true → AreAllComposable items (used_in x)
        → is_empty (x_failures items before around (Some type) x) ≡ true → is_empty (needs_be items before (Some type) a_tree x) ≡ true → IsTreeOn items type x
    tree_on before around type t found sound (named n) form can fine be = named_on before around type n fine be
    tree_on before around type t found sound (one Complement place x) form can fine be = absurd (cc)
    tree_on before around type t found sound (one Minimize place x) form can fine be = absurd (cc)
    tree_on before around type t found sound (one Domain place x) form can fine be = absurd (cc)
    tree_on before around type t found sound (one GetWitness place x) form can fine be = (found_on before around type place x form (can x (first_in x [])) fine be).1
    tree_on before around type t found sound (two Apply place f x) form can fine be =
        let forms = and_parts (has_automaton_shape f) (has_tree_shape x) form in
        let a = applied_on before around type place f x forms.0 (can f (first_in f (used_in x))) fine be in
        let d = (types_there items a.from type f a.made).0 in
        (a.from, a.made, tree_on before (suc around) a.from d.item d.found (sound_of a.from d.item d.found) x forms.1 (λ e at. can e (later_in f e (used_in x) at)) a.inside a.be)
    tree_on before around type t found sound (two Intersect place x y) form can fine be = absurd (cc)
    tree_on before around type t found sound (two Union place x y) form can fine be = absurd (cc)
    tree_on before around type t found sound (two Difference place x y) form can fine be = absurd (cc)
    tree_on before around type t found sound (two PreImage place x y) form can fine be = absurd (cc)
    tree_on before around type t found sound (two Compose place x y) form can fine be = absurd (cc)
    tree_on before around type t found sound (two Restrict place x y) form can fine be = absurd (cc)
    tree_on before around type t found sound (two RestrictOut place x y) form can fine be = absurd (cc)
    tree_on before around type t found sound (literal name labels xs) form can fine be =
        let called : type_called items before (Some type) ≡ Some t = found in
        let all = subst (λ o. is_empty (constructor_failures o name (count_xs xs) ++ (label_count_failures o name (length labels) ++ (labels_failures (Some []) (fields_of o) labels ++ xs_failures items before around (Some type) xs))) ≡ true) called fine in
        let behind = empty_second (constructor_failures (Some t) name (count_xs xs)) _ all in
        let later = empty_second (label_count_failures (Some t) name (length labels)) _ behind in (
          ap is_some found,
          node_of type t found sound name labels (count_xs xs) (empty_first (constructor_failures (Some t) name (count_xs xs)) _ all) (empty_first (label_count_failures (Some t) name (length labels)) _ behind) (empty_first (labels_failures (Some []) (fields_of (Some t)) labels) _ later),
          trees_on before around type t found sound xs form can (empty_second (labels_failures (Some []) (fields_of (Some t)) labels) _ later),
        )

    trees_on : (before : List Item) (around : ℕ) (type : List ℕ) (t : TypeItem) → find_type items type ≡ Some t → IsSoundType t → (xs : Xs) → have_tree_shapes xs ≡ true → AreAllComposable items (used_in_all xs) → is_empty (xs_failures items before around (Some type) xs) ≡ true → AreTreesOn items type xs
    trees_on before around type t found sound no_x form can fine = tt
    trees_on before around type t found sound (and_x x xs) form can fine =
        let forms = and_parts (has_tree_shape x) (have_tree_shapes xs) form in
        let behind = empty_second (x_failures items before around (Some type) x) _ fine in (
          tree_on before around type t found sound x forms.0 (λ e at. can e (in_left (used_in x) (used_in_all xs) e at)) (empty_first (x_failures items before around (Some type) x) _ fine) (empty_first (needs_be items before (Some type) a_tree x) _ behind),
          trees_on before around type t found sound xs forms.1 (λ e at. can e (in_right (used_in x) (used_in_all xs) e at)) (empty_second (needs_be items before (Some type) a_tree x) _ behind),
        )

  -- ---- names

  module _ (b : Built) (trees : Trees) (before from : List Item) (split : items ≡ before ++ from) (defined : AreDefined b before) (printed : ArePrinted trees before) where
    named_known : (around : ℕ) (type : List ℕ) (n : Name) → is_empty (x_failures items before around (Some type) (named n)) ≡ true → is_empty (needs_be items before (Some type) a_tree (named n)) ≡ true → is_some (tree_at trees n.text) ≡ true
    named_known around type n fine be =
        let f = by_known items whole before n (find_item items n.text) refl fine in
        let own = kind_needed items before a_tree (Some type) (named n) (kinded items whole before around (Some type) (named n) fine) be in
        let is = tree_named n f.item f.found f.item.body refl (sym (named_kind items n f.item f.found) ∙ own.0) in
        let early = not_false (is_some (find_item before n.text)) (subst (λ body. (is_known_later body && not (is_some (find_item before n.text))) ≡ false) is.1 f.early) in
        let (first, at) = is_there (find_item before n.text) early in
        let whole_found : find_item items n.text ≡ Some first = ap (λ l. find_item l n.text) split ∙ find_in_front (declares n.text) before from first at in
        let same : first ≡ f.item = some_same (sym whole_found ∙ f.found) in
        let body_is = ap (λ (i : Item). i.body) same ∙ is.1 in
        let own_is = has_name n.text (own_name first.body) (found_passes (declares n.text) before first at) in
        let name_is : is.0.name.text ≡ n.text = ap (λ (m : Name). m.text) (some_same (sym (ap own_name body_is) ∙ own_is.1)) ∙ own_is.2 in
        subst (λ name. is_some (tree_at trees name) ≡ true) name_is (printed first is.0 (found_there (declares n.text) before first at) body_is)

    mutual
      pub tree_known : (around : ℕ) (type : List ℕ) (x : X) → has_tree_shape x ≡ true → AreAllComposable items (used_in x) → is_empty (x_failures items before around (Some type) x) ≡ true → is_empty (needs_be items before (Some type) a_tree x) ≡ true → IsTreeKnown items trees b x
      tree_known around type (named n) form can fine be = named_known around type n fine be
      tree_known around type (one Complement place x) form can fine be = absurd (cc)
      tree_known around type (one Minimize place x) form can fine be = absurd (cc)
      tree_known around type (one Domain place x) form can fine be = absurd (cc)
      tree_known around type (one GetWitness place x) form can fine be =
          let made = found_on before around type place x form (can x (first_in x [])) fine be in
          known_of items whole b before from split defined (suc around) None type x made.0 made.1
      tree_known around type (two Apply place f x) form can fine be =
          let forms = and_parts (has_automaton_shape f) (has_tree_shape x) form in
          let a = applied_on before around type place f x forms.0 (can f (first_in f (used_in x))) fine be in
          (trans_known_of items whole b before from split defined (suc around) None a.from type f a.fine a.made, tree_known (suc around) a.from x forms.1 (λ e at. can e (later_in f e (used_in x) at)) a.inside a.be)
      tree_known around type (two Intersect place x y) form can fine be = absurd (cc)
      tree_known around type (two Union place x y) form can fine be = absurd (cc)
      tree_known around type (two Difference place x y) form can fine be = absurd (cc)
      tree_known around type (two PreImage place x y) form can fine be = absurd (cc)
      tree_known around type (two Compose place x y) form can fine be = absurd (cc)
      tree_known around type (two Restrict place x y) form can fine be = absurd (cc)
      tree_known around type (two RestrictOut place x y) form can fine be = absurd (cc)
      tree_known around type (literal name labels xs) form can fine be =
          let o = type_called items before (Some type) in
          let behind = empty_second (constructor_failures o name (count_xs xs)) _ fine in
          let later = empty_second (label_count_failures o name (length labels)) _ behind in
          trees_known around type xs form can (empty_second (labels_failures (Some []) (fields_of o) labels) _ later)

      trees_known : (around : ℕ) (type : List ℕ) (xs : Xs) → have_tree_shapes xs ≡ true → AreAllComposable items (used_in_all xs) → is_empty (xs_failures items before around (Some type) xs) ≡ true → AreTreesKnown items trees b xs
      trees_known around type no_x form can fine = tt
      trees_known around type (and_x x xs) form can fine =
          let forms = and_parts (has_tree_shape x) (have_tree_shapes xs) form in
          let behind = empty_second (x_failures items before around (Some type) x) _ fine in (
            tree_known around type x forms.0 (λ e at. can e (in_left (used_in x) (used_in_all xs) e at)) (empty_first (x_failures items before around (Some type) x) _ fine) (empty_first (needs_be items before (Some type) a_tree x) _ behind),
            trees_known around type xs forms.1 (λ e at. can e (in_right (used_in x) (used_in_all xs) e at)) (empty_second (needs_be items before (Some type) a_tree x) _ behind),
          )

  -- ---- items

  -- what is so of the expression of a tree
  record IsCheckedTree (before : List Item) (type : List ℕ) (x : X) : Type 0 where
    pub inside : is_empty (x_failures items before 0 (Some type) x) ≡ true
    pub be : is_empty (needs_be items before (Some type) a_tree x) ≡ true

  checked_tree : (item : Item) (at : StandsIn items item) (t : TreeItem) → item.body ≡ tree t → IsCheckedTree at.before t.of.text t.value
  checked_tree item at t is =
      let fine = empty_second (type_name_failures items t.of) _ (empty_second (name_again items at.before t.name) _ (tree_fine item at t is)) in
      let own : is_empty (whole_failures items at.before (Some t.of.text) a_tree t.value) ≡ true = subst (λ o. is_empty (whole_failures items at.before o a_tree t.value) ≡ true) (declared_as items t.of (tree_type item at t is)) fine in
      record {
        inside = empty_first (x_failures items at.before 0 (Some t.of.text) t.value) (needs_be items at.before (Some t.of.text) a_tree t.value) own;
        be = empty_second (x_failures items at.before 0 (Some t.of.text) t.value) (needs_be items at.before (Some t.of.text) a_tree t.value) own;
      }

  -- the expression of a tree can be evaluated
  pub tree_made : (item : Item) (at : StandsIn items item) (t : TreeItem) → item.body ≡ tree t → has_tree_shape t.value ≡ true → AreAllComposable items (used_in t.value) → IsTreeOn items t.of.text t.value
  tree_made item at t is form can =
      let c = checked_tree item at t is in
      let h = tree_type item at t is in
      tree_on at.before 0 t.of.text h.type h.found (sound_of t.of.text h.type h.found) t.value form can c.inside c.be

  pub tree_is_known : (item : Item) (at : StandsIn items item) (t : TreeItem) → item.body ≡ tree t → has_tree_shape t.value ≡ true → AreAllComposable items (used_in t.value) → (b : Built) (trees : Trees) → AreDefined b at.before → ArePrinted trees at.before → IsTreeKnown items trees b t.value
  tree_is_known item at t is form can b trees defined printed =
      let c = checked_tree item at t is in
      tree_known b trees at.before (item ∷ at.behind) at.is defined printed 0 t.of.text t.value form can c.inside c.be

  -- the type by its name is the declared one
  pub type_by_name : (item : Item) (at : StandsIn items item) (t : TreeItem) → item.body ≡ tree t → input_of items t.name.text ≡ signature_named items (Some t.of.text)
  type_by_name item at t is =
      let found = whole.found_item item t.name at (ap own_name is) in
      ap (λ o. option_map_or (signature_at items) (option_and_then (λ (i : Item). own_type i.body) o) no_signature) found ∙ ap (λ b. option_map_or (signature_at items) (own_type b) no_signature) is

  -- ---- statements

  -- what is so of the sides of `in`
  record IsCheckedMember (before : List Item) (x y : X) : Type 0 where
    pub type : List ℕ
    pub language_inside : is_empty (x_failures items before 0 None y) ≡ true
    pub on : (kind_of items y ≡ Some language) × (type_of items y ≡ Some type)
    pub value : IsCheckedTree before type x

  checked_member : (before : List Item) (x y : X) → is_empty (claim_failures items before (member x y)) ≡ true → IsCheckedMember before x y
  checked_member before x y e =
      let wy = whole_failures items before None language y in
      let wanted = type_as items before language y in
      let wx = whole_failures items before wanted a_tree x in
      let fine_y = empty_first wy wx e in
      let in_y = empty_first (x_failures items before 0 None y) (needs_be items before None language y) fine_y in
      let own = kind_needed items before language None y (kinded items whole before 0 None y in_y) (empty_second (x_failures items before 0 None y) (needs_be items before None language y) fine_y) in
      let wanted_is : wanted ≡ Some own.1.0 = through language (kind_of items y) (type_of items y) own.0 ∙ own.1.1 in
      let fine_x : is_empty (whole_failures items before (Some own.1.0) a_tree x) ≡ true = subst (λ o. is_empty (whole_failures items before o a_tree x) ≡ true) wanted_is (empty_second wy wx e) in
      record {
        type = own.1.0;
        language_inside = in_y;
        on = (own.0, own.1.1);
        value = record {
          inside = empty_first (x_failures items before 0 (Some own.1.0) x) (needs_be items before (Some own.1.0) a_tree x) fine_x;
          be = empty_second (x_failures items before 0 (Some own.1.0) x) (needs_be items before (Some own.1.0) a_tree x) fine_x;
        };
      }

  -- the sides of `in` can be evaluated, and are of one type
  pub record AreSides (x y : X) : Type 0 where
    pub type : List ℕ
    pub right : IsMadeOn items type y
    pub left : IsTreeOn items type x

  member_fine : (item : Item) (at : StandsIn items item) (a : AssertItem) (x y : X) → item.body ≡ assertion a → a.claim ≡ member x y → is_empty (claim_failures items at.before (member x y)) ≡ true
  member_fine item at a x y is same = subst (λ c. is_empty (claim_failures items at.before c) ≡ true) same (subst (λ b. is_empty (body_failures items at.before b) ≡ true) is (whole.each item at))

  pub member_made : (item : Item) (at : StandsIn items item) (a : AssertItem) (x y : X) → item.body ≡ assertion a → a.claim ≡ member x y → has_tree_shape x ≡ true → has_automaton_shape y ≡ true → AreAllComposable items (used_in x) → AreComposable items y → AreSides x y
  member_made item at a x y is same form_x form_y can_x can_y =
      let c = checked_member at.before x y (member_fine item at a x y is same) in
      let made = made_of_form items whole at.before 0 None y c.type form_y can_y c.language_inside c.on in
      let d = type_there items c.type y made in
      record { type = c.type; right = made; left = tree_on at.before 0 c.type d.item d.found (sound_of c.type d.item d.found) x form_x can_x c.value.inside c.value.be }

  pub member_known : (item : Item) (at : StandsIn items item) (a : AssertItem) (x y : X) → item.body ≡ assertion a → a.claim ≡ member x y → has_tree_shape x ≡ true → has_automaton_shape y ≡ true → AreAllComposable items (used_in x) → AreComposable items y
      → (b : Built) (trees : Trees) → AreDefined b at.before → ArePrinted trees at.before → IsTreeKnown items trees b x × AreKnown items b y
  member_known item at a x y is same form_x form_y can_x can_y b trees defined printed =
      let c = checked_member at.before x y (member_fine item at a x y is same) in
      let made = made_of_form items whole at.before 0 None y c.type form_y can_y c.language_inside c.on in (
        tree_known b trees at.before (item ∷ at.behind) at.is defined printed 0 c.type x form_x can_x c.value.inside c.value.be,
        known_of items whole b at.before (item ∷ at.behind) at.is defined 0 None c.type y c.language_inside made,
      )
