-- Outputs of typed trees are typed.
use Rattle.std.proofs.Common.{◌≡◌, ℕ, zero, suc, ◌<◌, Bool, true, false, cond, List, [], ◌∷◌, map, length, Option, Some, None, refl, sym, ap, ◌∙◌, subst, arith}
use Rattle.std.specs.Option.{option_map}
use Rattle.model_tree.specs.Label.{Label}
use Rattle.model_tree.specs.Tree.{node, Trees, no_trees, tree, list_of, LabelTree}
use Rattle.model_tree.specs.Signature.{PlainSignature, sorts_of, ranks_of, names_of, HasSorts, HasType, EachHasType}
use Rattle.model_program.specs.Syntax.{Name}
use Rattle.model_grammar.specs.declared.Op2.TheVariants.{Intersect, Union, Difference, PreImage, Compose, Restrict, RestrictOut, Apply}
use Rattle.model_grammar.specs.Syntax.{Out, child, call, Outs, no_out, and_out, X, named, one, two, literal, Item}
use Rattle.model_grammar.specs.Syntax as syntax
use Rattle.model_names.specs.Declared.{same_text}
use Rattle.model_names.specs.Kinds.{transformation, kind_of, if_kind}
use Rattle.model_names.specs.Kinds as names
use Rattle.model_meaning.specs.Types.{input_of, output_of}
use Rattle.model_meaning.specs.Outputs.{Use, unchanged, output_by, number_named, IsInstance, AreInstances}
use Rattle.model_meaning.specs.Reached.{definition_of}
use Rattle.model_meaning.specs.Names.{Definitions, OfName, If, Gives, ChildGives}
use Rattle.model_meaning.specs.Meaning.{Relates, LinksByValue, followed, meaning, HasOutput, IsRelated, input_type, output_type, signature_named}
use Rattle.model_meaning.specs.Laws.{part_count, IsBetween, IsTermTyped, AreTermsTyped, AreRulesTyped, FitTogether}
use Rattle.model_meaning.proofs.Named.{input_type_of_name, output_type_of_name}

pub below : (names : List (List ℕ)) (name : List ℕ) (c : ℕ) → number_named names name ≡ Some c → c < length names
below [] name c e = absurd (cc)
below (n ∷ names) name c e = by (same_text n name) (number_named names name) e (below names name)
  where
    by : (b : Bool) (o : Option ℕ) → cond b (Some 0) (option_map (λ k. suc k) o) ≡ Some c → ((d : ℕ) → o ≡ Some d → d < length names) → c < suc (length names)
    by true o e later = let is : 0 ≡ c = cc in omega (arith, is)
    by false None e later = absurd (cc)
    by false (Some d) e later = let is : suc d ≡ c = cc in omega (arith, is, later d refl)

same_length : {A B C : Type 0} (f : A → B) (g : A → C) (xs : List A) → length (map f xs) ≡ length (map g xs)
same_length f g [] = refl
same_length f g (x ∷ xs) = ap (λ n. suc n) (same_length f g xs)

as_many : (signature : PlainSignature) → length (names_of signature) ≡ length (ranks_of signature)
as_many signature = same_length (λ c. c.name) (λ c. c.rank) signature.constructors

-- the types that a use of a child goes between
abbrev IsUseTyped : List Item → PlainSignature → PlainSignature → Use → Type 0
IsUseTyped items from into unchanged = from ≡ into
IsUseTyped items from into (output_by q) = (n : Name) × (n.text ≡ q) × IsBetween items from into n

module _ (items : List Item) (from into : PlainSignature) (O : Use → List ℕ → LabelTree → Type 0) (l : Label) (sorts : HasSorts (sorts_of from) l)
    (typed : (how : Use) (y : List ℕ) (v : LabelTree) → IsUseTyped items from into how → O how y v → HasType into v) where
  as_many_parts : (outs : Outs) (us : Trees Label) → AreInstances from into O l outs us → length (list_of us) ≡ part_count outs
  as_many_parts no_out no_trees are = refl
  as_many_parts no_out (tree u us) are = absurd are
  as_many_parts (and_out out outs) no_trees are = absurd are
  as_many_parts (and_out out outs) (tree u us) are = ap (λ n. suc n) (as_many_parts outs us are.1)

  mutual
    instance_typed : (out : Out) (u : LabelTree) → IsTermTyped items from into out → IsInstance from into O l out u → HasType into u
    instance_typed (child y) u term made = typed unchanged y.text u term made
    instance_typed (call q y) u term made = typed (output_by q.text) y.text u (q, refl, term) made
    instance_typed (syntax.node name labels outs) (node c m us) term (number, label, parts) =
        let low = below (names_of into) name.text c number in (
          subst (λ n. c < n) (as_many into) low,
          as_many_parts outs us parts ∙ term.1 c number,
          subst (λ k. HasSorts (sorts_of into) k) (sym label) (term.0 l sorts),
          instances_typed outs us term.2 parts,
        )

    instances_typed : (outs : Outs) (us : Trees Label) → AreTermsTyped items from into outs → AreInstances from into O l outs us → EachHasType into us
    instances_typed no_out no_trees terms are = tt
    instances_typed no_out (tree u us) terms are = absurd are
    instances_typed (and_out out outs) no_trees terms are = absurd are
    instances_typed (and_out out outs) (tree u us) terms are = (instance_typed out u terms.0 are.0, instances_typed outs us terms.1 are.1)

module _ (items : List Item) (rules : AreRulesTyped items) where
  by_child : (b : Bool) (G H : Type 0) (T : Type 0) → If b G H → (G → T) → (H → T) → T
  by_child true G H T either first later = first either
  by_child false G H T either first later = later either

  by_name : (o : Option X) (A B : Type 0) (T : Type 0) → OfName o A B → ((x : X) → o ≡ Some x → A → T) → (B → T) → T
  by_name (Some x) A B T either first later = first x refl either
  by_name None A B T either first later = later either

  -- the definitions of transformations relate typed trees to typed ones
  abbrev AreTyped : Definitions → Type 0
  AreTyped D = (n : Name) → kind_of items (named n) ≡ Some transformation → (t u : LabelTree) → HasType (input_of items n.text) t → D.Links n.text t u → HasType (output_of items n.text) u

  module _ (D : Definitions) (defined : AreTyped D) where
    mutual
      gives_typed : (t : LabelTree) (how : Use) (from into : PlainSignature) (u : LabelTree) → IsUseTyped items from into how → HasType from t → Gives items D how t u → HasType into u
      gives_typed (node c l ts) unchanged from into u is typed same =
          subst (λ s. HasType s u) is (subst (λ v. HasType from v) (sym same) typed)
      gives_typed (node c l ts) (output_by q) from into u (n, named_so, between) typed gives =
          let own : HasType (input_of items q) (node c l ts) = subst (λ m. HasType (input_of items m) (node c l ts)) named_so (subst (λ s. HasType s (node c l ts)) (sym between.begins) typed) in
          subst (λ s. HasType s u) between.ends (subst (λ m. HasType (output_of items m) u) (sym named_so)
          (by_name (definition_of items q) _ _ (HasType (output_of items q) u) gives
          (λ x e links. subst (λ m. HasType (output_of items m) u) named_so
          (defined n between.kind (node c l ts) u (subst (λ m. HasType (input_of items m) (node c l ts)) (sym named_so) own) (subst (λ m. D.Links m (node c l ts) u) (sym named_so) links)))
          (λ h. instance_typed items (input_of items q) (output_of items q) (λ how y v. ChildGives items D how y h.0.rule.vars ts v) l own.2
          (λ how y v is gives. child_typed ts how y h.0.rule.vars (input_of items q) (output_of items q) v is own.3 gives) h.0.out u (rules.terms q h.0 h.1) h.3)))

      child_typed : (ts : Trees Label) (how : Use) (y : List ℕ) (vars : List Name) (from into : PlainSignature) (u : LabelTree) → IsUseTyped items from into how → EachHasType from ts → ChildGives items D how y vars ts u → HasType into u
      child_typed no_trees how y vars from into u is typed gives = absurd gives
      child_typed (tree t ts) how y [] from into u is typed gives = absurd gives
      child_typed (tree t ts) how y (v ∷ vars) from into u is typed gives =
          by_child (same_text v.text y) (Gives items D how t u) (ChildGives items D how y vars ts u) (HasType into u) gives
          (λ first. gives_typed t how from into u is typed.0 first) (λ later. child_typed ts how y vars from into u is typed.1 later)

    name_typed : (n : Name) → kind_of items (named n) ≡ Some transformation → (t u : LabelTree) → HasType (input_of items n.text) t → Gives items D (output_by n.text) t u → HasType (output_of items n.text) u
    name_typed n kind t u typed gives = gives_typed t (output_by n.text) (input_of items n.text) (output_of items n.text) u (n, refl, record { kind = kind; begins = refl; ends = refl }) typed gives

    -- what fits together is a transformation
    kind_fits : (x : X) → FitTogether items x → kind_of items x ≡ Some transformation
    kind_fits (named n) fit = fit
    kind_fits (one op place x) fit = absurd fit
    kind_fits (two Compose place x y) fit = refl
    kind_fits (two Restrict place x y) fit = refl
    kind_fits (two RestrictOut place x y) fit = refl
    kind_fits (two Intersect place x y) fit = absurd fit
    kind_fits (two Union place x y) fit = absurd fit
    kind_fits (two Difference place x y) fit = absurd fit
    kind_fits (two PreImage place x y) fit = absurd fit
    kind_fits (two Apply place x y) fit = absurd fit
    kind_fits (literal name labels xs) fit = absurd fit

    -- what a kind that is known leaves of a type
    known : (x : X) (o : Option (List ℕ)) → FitTogether items x → signature_named items (if_kind transformation (kind_of items x) o) ≡ signature_named items o
    known x o fit = ap (λ k. signature_named items (if_kind transformation k o)) (kind_fits x fit)

    relates_typed : (e : X) → FitTogether items e → (t u : LabelTree) → HasType (input_type items e) t → Relates items D e t u → HasType (output_type items e) u
    relates_typed (named n) fit t u typed related =
        subst (λ s. HasType s u) (sym (output_type_of_name items n)) (name_typed n fit t u (subst (λ s. HasType s t) (input_type_of_name items n) typed) related)
    relates_typed (one op place x) fit t u typed related = absurd fit
    relates_typed (two Compose place x y) (meet, first, second) t w typed (u, before, after) =
        let begun = subst (λ s. HasType s t) (known x (names.type_of items x) first) typed in
        let middle = subst (λ s. HasType s u) meet (relates_typed x first t u begun before) in
        subst (λ s. HasType s w) (sym (known y (names.output_of items y) second)) (relates_typed y second u w middle after)
    relates_typed (two Restrict place x y) first t u typed (related, inside) =
        let begun = subst (λ s. HasType s t) (known x (names.type_of items x) first) typed in
        subst (λ s. HasType s u) (sym (known x (names.output_of items x) first)) (relates_typed x first t u begun related)
    relates_typed (two RestrictOut place x y) first t u typed (related, inside) =
        let begun = subst (λ s. HasType s t) (known x (names.type_of items x) first) typed in
        subst (λ s. HasType s u) (sym (known x (names.output_of items x) first)) (relates_typed x first t u begun related)
    relates_typed (two Intersect place x y) fit t u typed related = absurd fit
    relates_typed (two Union place x y) fit t u typed related = absurd fit
    relates_typed (two Difference place x y) fit t u typed related = absurd fit
    relates_typed (two PreImage place x y) fit t u typed related = absurd fit
    relates_typed (two Apply place x y) fit t u typed related = absurd fit
    relates_typed (literal name labels xs) fit t u typed related = absurd fit

  by_value : (k : ℕ) (n : Name) (o : Option X) → definition_of items n.text ≡ o → AreTyped (followed items k) → kind_of items (named n) ≡ Some transformation → (t u : LabelTree) → HasType (input_of items n.text) t
      → LinksByValue items (followed items k) o t u → HasType (output_of items n.text) u
  by_value k n None e defined kind t u typed links = absurd links
  by_value k n (Some x) e defined kind t u typed links =
      let own = rules.definitions n x kind e in
      subst (λ s. HasType s u) own.2 (relates_typed (followed items k) defined x own.0 t u (subst (λ s. HasType s t) (sym own.1) typed) links)

  all_typed : (k : ℕ) → AreTyped (followed items k)
  all_typed zero n kind t u typed links = absurd links
  all_typed (suc k) n kind t u typed links = by_value k n (definition_of items n.text) refl (all_typed k) kind t u typed links

  pub output_typed : (n : Name) → kind_of items (named n) ≡ Some transformation → (t u : LabelTree) → HasType (input_of items n.text) t → HasOutput items n.text t u → HasType (output_of items n.text) u
  output_typed = name_typed (meaning items) (all_typed (length items))

  pub related_typed : (e : X) → FitTogether items e → (t u : LabelTree) → HasType (input_type items e) t → IsRelated items e t u → HasType (output_type items e) u
  related_typed = relates_typed (meaning items) (all_typed (length items))
