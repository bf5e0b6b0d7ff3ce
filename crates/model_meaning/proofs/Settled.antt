-- The meaning of an expression doesn't depend on how deep definitions are followed, if deep enough.
use Rattle.std.proofs.Common.{◌≡◌, ◌↔◌, inl, inr, ◌≤◌, ◌<◌, ℕ, zero, suc, Bool, true, false, List, [], ◌∷◌, length, Option, Some, None, refl, sym, subst, arith}
use Rattle.std.specs.List.{Contains}
use Rattle.model_tree.specs.Label.{Label}
use Rattle.model_tree.specs.Tree.{node, Trees, no_trees, tree, LabelTree}
use Rattle.model_tree.specs.Signature.{PlainSignature}
use Rattle.model_program.specs.Syntax.{Name, Demand}
use Rattle.model_grammar.specs.declared.Op1.TheVariants.{Complement, Minimize, Domain, GetWitness}
use Rattle.model_grammar.specs.declared.Op2.TheVariants.{Intersect, Union, Difference, PreImage, Compose, Restrict, RestrictOut, Apply}
use Rattle.model_grammar.specs.Syntax.{X, named, one, two, literal, Rule, Out, child, call, Outs, no_out, and_out, OutRule, Item}
use Rattle.model_grammar.specs.Syntax as syntax
use Rattle.model_names.specs.Declared.{same_text, out_rules_of}
use Rattle.model_meaning.specs.Types.{input_of, output_of}
use Rattle.model_meaning.specs.Outputs.{Use, unchanged, output_by, IsInstance, AreInstances}
use Rattle.model_meaning.specs.Reached.{IsCalledIn, IsCalledInOne, Reaches, itself, by_demand, by_lookahead, by_call, IsNamedIn, definition_of}
use Rattle.model_meaning.specs.Names.{Definitions, OfName, If, IsIn, AreIn, AppliesBy, Gives, ChildGives}
use Rattle.model_meaning.specs.Meaning.{IsOf, Relates, HasByValue, LinksByValue, followed}
use Rattle.model_meaning.specs.Laws.{IsNoDeeper, MeaningsSettle, DefinitionsStandForExpressions}

module _ (items : List Item) where
  goes_on : (a b c : List ℕ) → Reaches items a b → Reaches items b c → Reaches items a c
  goes_on a b _ r itself = r
  goes_on a b _ r (by_demand o rule d s at given) = by_demand o rule d (goes_on a b o r s) at given
  goes_on a b _ r (by_lookahead o rule d s at given) = by_lookahead o rule d (goes_on a b o r s) at given
  goes_on a b _ r (by_call o rule q s at calls) = by_call o rule q (goes_on a b o r s) at calls

  module _ (D E : Definitions) where
    record Agree (d : List ℕ) : Type 0 where
      has : (t : LabelTree) → D.Has d t ↔ E.Has d t
      links : (t u : LabelTree) → D.Links d t u ↔ E.Links d t u

    -- the definitions that a name reaches mean the same
    abbrev Same : List ℕ → Type 0
    Same n = (m : List ℕ) (x : X) → Reaches items n m → definition_of items m ≡ Some x → Agree m

    further : (n m : List ℕ) → Same n → Reaches items n m → Same m
    further n m same r k x s = same k x (goes_on n m k r s)

    of_name : (A B A' B' : Type 0) → (o : Option X) → ((x : X) → o ≡ Some x → A ↔ A') → B ↔ B' → OfName o A B ↔ OfName o A' B'
    of_name A B A' B' (Some x) f g = f x refl
    of_name A B A' B' None f g = g

    if_same : (b : Bool) (A B A' B' : Type 0) → A ↔ A' → B ↔ B' → If b A B ↔ If b A' B'
    if_same true A B A' B' f g = f
    if_same false A B A' B' f g = g

    abbrev Demanded : List Demand → Type 0
    Demanded given = (d : Demand) → Contains given d → Same d.language.text

    mutual
      in_same : (n : List ℕ) → Same n → (t : LabelTree) → IsIn items D n t ↔ IsIn items E n t
      in_same n same (node c l ts) =
          of_name _ _ _ _ (definition_of items n) (λ x e. (same n x itself e).has (node c l ts)) (
            λ h. (h.0, h.1, h.2, (are_same ts h.0.vars h.0.given (λ d at. further n d.language.text same (by_demand n h.0 d itself h.1 at))).0 h.3),
            λ h. (h.0, h.1, h.2, (are_same ts h.0.vars h.0.given (λ d at. further n d.language.text same (by_demand n h.0 d itself h.1 at))).1 h.3),
          )

      are_same : (ts : Trees Label) (vars : List Name) (given : List Demand) → Demanded given → AreIn items D ts vars given ↔ AreIn items E ts vars given
      are_same no_trees vars given same = (λ h. h, λ h. h)
      are_same (tree t ts) [] given same = (λ h. h, λ h. h)
      are_same (tree t ts) (v ∷ vars) given same = (
        λ h. (λ d at is. (in_same d.language.text (same d at) t).0 (h.0 d at is), (are_same ts vars given same).0 h.1),
        λ h. (λ d at is. (in_same d.language.text (same d at) t).1 (h.0 d at is), (are_same ts vars given same).1 h.1),
      )

    abbrev SameUse : Use → Type 0
    SameUse unchanged = Unit {0}
    SameUse (output_by q) = Same q

    abbrev Oracle : Type 1
    Oracle = Use → List ℕ → LabelTree → Type 0

    module _ (from into : PlainSignature) (O P : Oracle) (l : Label) (all : (how : Use) (y : List ℕ) (v : LabelTree) → SameUse how → O how y v ↔ P how y v) where
      mutual
        inst_same : (out : Out) → ((q : List ℕ) → IsCalledIn out q → Same q) → (u : LabelTree) → IsInstance from into O l out u ↔ IsInstance from into P l out u
        inst_same (child y) same u = all unchanged y.text u tt
        inst_same (call q y) same u = all (output_by q.text) y.text u (same q.text refl)
        inst_same (syntax.node name labels outs) same (node c m us) = (
          λ h. (h.0, h.1, (insts_same outs same us).0 h.2),
          λ h. (h.0, h.1, (insts_same outs same us).1 h.2),
        )

        insts_same : (outs : Outs) → ((q : List ℕ) → IsCalledInOne outs q → Same q) → (us : Trees Label) → AreInstances from into O l outs us ↔ AreInstances from into P l outs us
        insts_same no_out same no_trees = (λ h. h, λ h. h)
        insts_same no_out same (tree u us) = (λ h. h, λ h. h)
        insts_same (and_out out outs) same no_trees = (λ h. h, λ h. h)
        insts_same (and_out out outs) same (tree u us) = (
          λ h. ((inst_same out (λ q at. same q (inl at)) u).0 h.0, (insts_same outs (λ q at. same q (inr at)) us).0 h.1),
          λ h. ((inst_same out (λ q at. same q (inl at)) u).1 h.0, (insts_same outs (λ q at. same q (inr at)) us).1 h.1),
        )

    applies_same : (q : List ℕ) (r : OutRule) → Same q → Contains (out_rules_of items q) r → (t : LabelTree) → AppliesBy items D (input_of items q) r.rule t ↔ AppliesBy items E (input_of items q) r.rule t
    applies_same q r same at (node c l ts) =
        let are = are_same ts r.rule.vars r.rule.given (λ d given. further q d.language.text same (by_lookahead q r d itself at given)) in
        (λ h. (h.0, are.0 h.1), λ h. (h.0, are.1 h.1))

    mutual
      gives_same : (how : Use) → SameUse how → (t u : LabelTree) → Gives items D how t u ↔ Gives items E how t u
      gives_same unchanged same (node c l ts) u = (λ h. h, λ h. h)
      gives_same (output_by q) same (node c l ts) u =
          of_name _ _ _ _ (definition_of items q) (λ x e. (same q x itself e).links (node c l ts) u) (
            λ h. (
              h.0,
              h.1,
              (applies_same q h.0 same h.1 (node c l ts)).0 h.2,
              (inst_same (input_of items q) (output_of items q) (λ how y v. ChildGives items D how y h.0.rule.vars ts v) (λ how y v. ChildGives items E how y h.0.rule.vars ts v) l (λ how y v s. child_same how s y h.0.rule.vars ts v) h.0.out (λ p at. further q p same (by_call q h.0 p itself h.1 at)) u).0 h.3,
            ),
            λ h. (
              h.0,
              h.1,
              (applies_same q h.0 same h.1 (node c l ts)).1 h.2,
              (inst_same (input_of items q) (output_of items q) (λ how y v. ChildGives items D how y h.0.rule.vars ts v) (λ how y v. ChildGives items E how y h.0.rule.vars ts v) l (λ how y v s. child_same how s y h.0.rule.vars ts v) h.0.out (λ p at. further q p same (by_call q h.0 p itself h.1 at)) u).1 h.3,
            ),
          )

      child_same : (how : Use) → SameUse how → (y : List ℕ) (vars : List Name) (ts : Trees Label) (u : LabelTree) → ChildGives items D how y vars ts u ↔ ChildGives items E how y vars ts u
      child_same how same y vars no_trees u = (λ h. h, λ h. h)
      child_same how same y [] (tree t ts) u = (λ h. h, λ h. h)
      child_same how same y (v ∷ vars) (tree t ts) u = if_same (same_text v.text y) _ _ _ _ (gives_same how same t u) (child_same how same y vars ts u)

    abbrev AllSame : X → Type 0
    AllSame x = (n : List ℕ) → IsNamedIn x n → Same n

    mutual
      is_same : (x : X) → AllSame x → (t : LabelTree) → IsOf items D x t ↔ IsOf items E x t
      is_same (named n) same t = in_same n.text (same n.text refl) t
      is_same (one Complement place x) same t = (λ h k. h ((is_same x same t).1 k), λ h k. h ((is_same x same t).0 k))
      is_same (one Minimize place x) same t = is_same x same t
      is_same (one Domain place x) same t = (λ h. (h.0, (relates_same x same t h.0).0 h.1), λ h. (h.0, (relates_same x same t h.0).1 h.1))
      is_same (one GetWitness place x) same t = (λ h. h, λ h. h)
      is_same (two Intersect place x y) same t = (
        λ h. ((is_same x (λ n at. same n (inl at)) t).0 h.0, (is_same y (λ n at. same n (inr at)) t).0 h.1),
        λ h. ((is_same x (λ n at. same n (inl at)) t).1 h.0, (is_same y (λ n at. same n (inr at)) t).1 h.1),
      )
      is_same (two Union place x y) same t = (
        λ h. elim h [ inl a ↦ inl ((is_same x (λ n at. same n (inl at)) t).0 a) | inr b ↦ inr ((is_same y (λ n at. same n (inr at)) t).0 b) ],
        λ h. elim h [ inl a ↦ inl ((is_same x (λ n at. same n (inl at)) t).1 a) | inr b ↦ inr ((is_same y (λ n at. same n (inr at)) t).1 b) ],
      )
      is_same (two Difference place x y) same t = (
        λ h. ((is_same x (λ n at. same n (inl at)) t).0 h.0, λ k. h.1 ((is_same y (λ n at. same n (inr at)) t).1 k)),
        λ h. ((is_same x (λ n at. same n (inl at)) t).1 h.0, λ k. h.1 ((is_same y (λ n at. same n (inr at)) t).0 k)),
      )
      is_same (two PreImage place x y) same t = (
        λ h. (h.0, (relates_same x (λ n at. same n (inl at)) t h.0).0 h.1, (is_same y (λ n at. same n (inr at)) h.0).0 h.2),
        λ h. (h.0, (relates_same x (λ n at. same n (inl at)) t h.0).1 h.1, (is_same y (λ n at. same n (inr at)) h.0).1 h.2),
      )
      is_same (two Compose place x y) same t = (λ h. h, λ h. h)
      is_same (two Restrict place x y) same t = (λ h. h, λ h. h)
      is_same (two RestrictOut place x y) same t = (λ h. h, λ h. h)
      is_same (two Apply place x y) same t = (λ h. h, λ h. h)
      is_same (literal name labels xs) same t = (λ h. h, λ h. h)

      relates_same : (x : X) → AllSame x → (t u : LabelTree) → Relates items D x t u ↔ Relates items E x t u
      relates_same (named n) same t u = gives_same (output_by n.text) (same n.text refl) t u
      relates_same (one op place x) same t u = (λ h. h, λ h. h)
      relates_same (two Compose place x y) same t w = (
        λ h. (h.0, (relates_same x (λ n at. same n (inl at)) t h.0).0 h.1, (relates_same y (λ n at. same n (inr at)) h.0 w).0 h.2),
        λ h. (h.0, (relates_same x (λ n at. same n (inl at)) t h.0).1 h.1, (relates_same y (λ n at. same n (inr at)) h.0 w).1 h.2),
      )
      relates_same (two Restrict place x y) same t u = (
        λ h. ((relates_same x (λ n at. same n (inl at)) t u).0 h.0, (is_same y (λ n at. same n (inr at)) t).0 h.1),
        λ h. ((relates_same x (λ n at. same n (inl at)) t u).1 h.0, (is_same y (λ n at. same n (inr at)) t).1 h.1),
      )
      relates_same (two RestrictOut place x y) same t u = (
        λ h. ((relates_same x (λ n at. same n (inl at)) t u).0 h.0, (is_same y (λ n at. same n (inr at)) u).0 h.1),
        λ h. ((relates_same x (λ n at. same n (inl at)) t u).1 h.0, (is_same y (λ n at. same n (inr at)) u).1 h.1),
      )
      relates_same (two Intersect place x y) same t u = (λ h. h, λ h. h)
      relates_same (two Union place x y) same t u = (λ h. h, λ h. h)
      relates_same (two Difference place x y) same t u = (λ h. h, λ h. h)
      relates_same (two PreImage place x y) same t u = (λ h. h, λ h. h)
      relates_same (two Apply place x y) same t u = (λ h. h, λ h. h)
      relates_same (literal name labels xs) same t u = (λ h. h, λ h. h)

  -- ---- how deep

  by_value : (m n : ℕ) (d : List ℕ) (x : X) → definition_of items d ≡ Some x → ((t : LabelTree) → IsOf items (followed items m) x t ↔ IsOf items (followed items n) x t) → ((t u : LabelTree) → Relates items (followed items m) x t u ↔ Relates items (followed items n) x t u)
      → Agree (followed items (suc m)) (followed items (suc n)) d
  by_value m n d x e has links = record {
    has = λ t. subst (λ o. HasByValue items (followed items m) o t ↔ HasByValue items (followed items n) o t) (sym e) (has t);
    links = λ t u. subst (λ o. LinksByValue items (followed items m) o t u ↔ LinksByValue items (followed items n) o t u) (sym e) (links t u);
  }

  all_agree : (k m n : ℕ) → k ≤ m → k ≤ n → (x : X) → IsNoDeeper items k x → AllSame (followed items m) (followed items n) x
  all_agree zero m n low other x deep name at d y reached e = absurd (deep name y at (record { definition = d; reached = reached; is = e }))
  all_agree (suc k) zero n low other x deep name at d y reached e = absurd (omega (arith, low))
  all_agree (suc k) (suc m) zero low other x deep name at d y reached e = absurd (omega (arith, other))
  all_agree (suc k) (suc m) (suc n) low other x deep name at d y reached e =
      let later = all_agree k m n (omega (arith, low)) (omega (arith, other)) y (deep name y at (record { definition = d; reached = reached; is = e })) in
      by_value m n d y e (is_same (followed items m) (followed items n) y later) (relates_same (followed items m) (followed items n) y later)

pub settled : MeaningsSettle
settled items k x deep = record {
  language = λ m n low other t. (is_same items (followed items m) (followed items n) x (all_agree items k m n low other x deep) t).0;
  relation = λ m n low other t u. (relates_same items (followed items m) (followed items n) x (all_agree items k m n low other x deep) t u).0;
}

-- ---- the name of a definition

module _ (items : List Item) (n : Name) (x : X) (k : ℕ) (is : definition_of items n.text ≡ Some x) (deep : IsNoDeeper items k x) where
  -- a name means by a definition what it does
  in_by : (D : Definitions) (t : LabelTree) → IsIn items D n.text t ↔ D.Has n.text t
  in_by D (node c l ts) = let e = is in rw e (λ h. h, λ h. h)

  gives_by : (D : Definitions) (t u : LabelTree) → Gives items D (output_by n.text) t u ↔ D.Links n.text t u
  gives_by D (node c l ts) u = let e = is in rw e (λ h. h, λ h. h)

  has_by : (m : ℕ) (t : LabelTree) → HasByValue items (followed items m) (definition_of items n.text) t ↔ IsOf items (followed items m) x t
  has_by m t = subst (λ o. HasByValue items (followed items m) o t ↔ IsOf items (followed items m) x t) (sym is) (λ h. h, λ h. h)

  links_by : (m : ℕ) (t u : LabelTree) → LinksByValue items (followed items m) (definition_of items n.text) t u ↔ Relates items (followed items m) x t u
  links_by m t u = subst (λ o. LinksByValue items (followed items m) o t u ↔ Relates items (followed items m) x t u) (sym is) (λ h. h, λ h. h)

  through : (A B C E : Type 0) → A ↔ B → B ↔ C → (C → E) → (E → C) → A ↔ E
  through A B C E f g h i = (λ a. h (g.0 (f.0 a)), λ e. f.1 (g.1 (i e)))

  -- followed one definition deeper
  stands : (m : ℕ) → k ≤ m → ((t : LabelTree) → IsOf items (followed items (suc m)) (named n) t ↔ IsOf items (followed items (suc m)) x t)
      × ((t u : LabelTree) → Relates items (followed items (suc m)) (named n) t u ↔ Relates items (followed items (suc m)) x t u)
  stands m low =
      let s = settled items k x deep in (
        λ t. through _ _ _ _ (in_by (followed items (suc m)) t) (has_by m t) (s.language m (suc m) low (omega (arith, low)) t) (s.language (suc m) m (omega (arith, low)) low t),
        λ t u. through _ _ _ _ (gives_by (followed items (suc m)) t u) (links_by m t u) (s.relation m (suc m) low (omega (arith, low)) t u) (s.relation (suc m) m (omega (arith, low)) low t u),
      )

  by_length : (many : ℕ) → k < many → ((t : LabelTree) → IsOf items (followed items many) (named n) t ↔ IsOf items (followed items many) x t)
      × ((t u : LabelTree) → Relates items (followed items many) (named n) t u ↔ Relates items (followed items many) x t u)
  by_length zero low = absurd (omega (arith, low))
  by_length (suc m) low = stands m (omega (arith, low))

pub definitions : DefinitionsStandForExpressions
definitions items n x k is deep low =
    let both = by_length items n x k is deep (length items) low in
    record { language = both.0; relation = both.1 }
