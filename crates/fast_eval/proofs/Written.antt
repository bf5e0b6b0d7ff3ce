-- A comparison of whole numbers that is written in a guard, as the automaton has it and as it is meant.
use Rattle.std.proofs.Common.{◌≡◌, ◌⊎◌, inl, inr, zero, suc, Bool, true, false, cond, List, [], ◌∷◌, ◌++◌, Contains, refl, sym, ap, ◌∙◌, arith}
use Rattle.std.proofs.lemmas.Bool.{and_parts}
use Rattle.std.proofs.lemmas.List.Elements.{Contains-append_cases}
use Rattle.fast_fault.specs.declared.place.Pos.{Pos}
use Rattle.model_tree.specs.Signature.{PlainField}
use Rattle.model_grammar.specs.declared.Rel.{Rel}
use Rattle.model_grammar.specs.declared.Chain.TheVariants.{Disjunction, Conjunction, Sum, Product}
use Rattle.model_grammar.specs.Syntax.{Expr, field, number, text, truth, negation, compare, minus, chain, Parts, no_parts, part}
use Rattle.model_label.specs.Tests.{is_text}
use Rattle.model_guard.specs.Forms.{form_of}
use Rattle.model_guard.specs.Guards.{is_guard, are_guards}
use Rattle.model_guard.specs.Compares.{comparison}
use Rattle.model_chain.specs.Literals.{Relation, less, at_most, equal}
use Rattle.model_chain.specs.Literals as plain
use Rattle.model_run.specs.Seen.{IsCompareIn, IsCompareInOne}
use Rattle.label_core.specs.declared.pair.PairAtom.TheVariants.{Left, Right}
use Rattle.lin_solve.specs.declared.compare.Compare.{Compare}
use Rattle.lin_solve.specs.Plain.{plain_compare, plain_relation}
use Rattle.record_label.specs.Rows.{RowAtom}
use Rattle.record_label.specs.Guards.{relation_of, compare_of, is_numeric, side_of, written_in, written_in_all}
use Rattle.record_label.proofs.GuardFacts.{numbers_compared, others_compared}

relation_is : (r : Relation) → plain_relation (relation_of r) ≡ r
relation_is less = refl
relation_is at_most = refl
relation_is equal = refl

comparison_is : (c : plain.Compare) → plain_compare (compare_of c) ≡ c
comparison_is c = λ i. record { left = c.left; relation = relation_is c.relation i; right = c.right }

none : (a : RowAtom) → Contains [] a → ⊥
none a (k, low, is) = omega (arith, low)

one_alone : (a b : RowAtom) → Contains (a ∷ []) b → a ≡ b
one_alone a b (zero, low, is) = is
one_alone a b (suc k, low, is) = absurd (omega (arith, low))

abbrev of_numbers : Compare → RowAtom
of_numbers c = Left c

same_numbers : (c d : Compare) → of_numbers c ≡ of_numbers d → c ≡ d
same_numbers c d e = cc

either : {A B C D : Type 0} → A ⊎ B → (A → C) → (B → D) → C ⊎ D
either (inl a) f g = inl (f a)
either (inr b) f g = inr (g b)

module _ (fields : List PlainField) where
  abbrev IsFound : Expr → Type 0
  IsFound e = is_guard fields e ≡ true → (c : Compare) → Contains (written_in fields e) (Left c) → IsCompareIn fields e (plain_compare c)

  abbrev text_atom : Expr → Expr → RowAtom
  text_atom a b = Right (Right (record { left = side_of fields a; right = side_of fields b }))

  compared : (p : Pos) (rel : Rel) (a b : Expr) → IsFound a → IsFound b → IsFound (compare p rel a b)
  compared p rel a b in_a in_b guard c = by (is_numeric fields a) refl
    where
      by_text : is_numeric fields a ≡ false → (t : Bool) → is_text fields a ≡ t → Contains (cond t (text_atom a b ∷ []) (written_in fields a ++ written_in fields b)) (Left c) → IsCompareIn fields (compare p rel a b) (plain_compare c)
      by_text other true is at = let no : text_atom a b ≡ Left c = one_alone (text_atom a b) (Left c) at in cc
      by_text other false is at = split (Contains-append_cases (written_in fields a) (written_in fields b) (Left c) at)
        where
          guards : (is_guard fields a ≡ true) × (is_guard fields b ≡ true)
          guards = others_compared fields a b p rel other is guard

          split : Contains (written_in fields a) (Left c) ⊎ Contains (written_in fields b) (Left c) → IsCompareIn fields (compare p rel a b) (plain_compare c)
          split (inl at) = inr (inl (in_a guards.0 c at))
          split (inr at) = inr (inr (in_b guards.1 c at))

      by : (n : Bool) → is_numeric fields a ≡ n → Contains (cond n (Left (compare_of (comparison rel (form_of fields a) (form_of fields b))) ∷ []) (cond (is_text fields a) (text_atom a b ∷ []) (written_in fields a ++ written_in fields b))) (Left c) → IsCompareIn fields (compare p rel a b) (plain_compare c)
      by true is at =
          let both = numbers_compared fields a b p rel is guard in
          let own : compare_of (comparison rel (form_of fields a) (form_of fields b)) ≡ c = same_numbers (compare_of (comparison rel (form_of fields a) (form_of fields b))) c (one_alone (Left (compare_of (comparison rel (form_of fields a) (form_of fields b)))) (Left c) at) in
          inl (both.0, both.1, ap plain_compare (sym own) ∙ comparison_is (comparison rel (form_of fields a) (form_of fields b)))
      by false is at = by_text is (is_text fields a) refl at

  mutual
    -- what is written in a guard is a comparison in it
    pub written : (e : Expr) → IsFound e
    written (field p name) guard c at = let no = one_alone _ (Left c) at in cc
    written (number p n) guard c at = cc
    written (text p t) guard c at = cc
    written (truth p b) guard c at = absurd (none (Left c) at)
    written (negation p e) guard c at = written e guard c at
    written (compare p rel a b) guard c at = compared p rel a b (written a) (written b) guard c at
    written (minus p e) guard c at = cc
    written (chain Disjunction p parts) guard c at = written_one parts guard c at
    written (chain Conjunction p parts) guard c at = written_one parts guard c at
    written (chain Sum p parts) guard c at = cc
    written (chain Product p parts) guard c at = cc

    written_one : (parts : Parts) → are_guards fields parts ≡ true → (c : Compare) → Contains (written_in_all fields parts) (Left c) → IsCompareInOne fields parts (plain_compare c)
    written_one no_parts guards c at = absurd (none (Left c) at)
    written_one (part marked e parts) guards c at =
        let both = and_parts (is_guard fields e) (are_guards fields parts) guards in
        either (Contains-append_cases (written_in fields e) (written_in_all fields parts) (Left c) at) (written e both.0 c) (written_one parts both.1 c)
