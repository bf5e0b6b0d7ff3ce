-- What is built for the name of a transformation.
use Rattle.std.proofs.Common.{◌≡◌, ◌<◌, true, ℕ, List, [], Some, length, get_or, sym, subst}
use Rattle.model_program.specs.Syntax.{Name}
use Rattle.model_grammar.specs.Syntax.{named, TransItem, Item}
use Rattle.model_checks.specs.Programs.{is_well_formed}
use Rattle.model_run.specs.Parts.{IsFrom}
use Rattle.model_run.specs.Plain.{IsSameTerm}
use Rattle.model_layers.proofs.Names.{names_are_carried, names_are_seen}
use Rattle.sttr_core.specs.Machine.{OutMachine}
use Rattle.record_label.specs.Rows.{RowAtom}
use Rattle.record_label.specs.declared.maps.RowMap.{RowMap}
use Rattle.fast_build.specs.CarriedTrans.{AreTermsAsWritten, IsBuiltTransFor}
use Rattle.fast_build.specs.Transducer.{IsTransducerOf}
use Rattle.fast_build.specs.Transformations.{find_trans}
use Rattle.fast_build.proofs.CarryingTrans.{meant, input_is, transformation_for, written_trans, rules_apply}
use Rattle.fast_build.proofs.Linear.{linear}
use Rattle.fast_build.proofs.Plain.{functional}
use Rattle.fast_build.proofs.RulesWritten.{s, o, rule_for, term_stands_at, outputs_apart}
use Rattle.fast_build.proofs.SameTerms.{same_of_equal, equal_of_same}

module _ (items : List Item) (well : is_well_formed items ≡ true) (n : Name) (t : TransItem) (found : find_trans items n.text ≡ Some t) (from into : List ℕ) (goes : IsFrom items (named n) from into) (names : List (List ℕ)) (d : OutMachine RowAtom RowMap) (is : IsTransducerOf items n.text names d) where
  -- terms of rules are equal where the written ones are the same
  terms_as_written : (k : ℕ) → k < length names → AreTermsAsWritten items from (get_or names k []) (get_or d.rules k [])
  terms_as_written k low i j r q w v at at' there there' =
      let begins = s items well n t found from into goes names d is in
      let ends = o items well n t found from into goes names d is in
      let apart = outputs_apart items well n t found from into goes names d is in
      let first = (rule_for items well n t found from into goes names d is k i r w low at there).term in
      let second = (rule_for items well n t found from into goes names d is k j q v low at' there').term in
      let stands = term_stands_at items well n t found from into goes names d is k i r w low at there in
      let stands' = term_stands_at items well n t found from into goes names d is k j q v low at' there' in
      let same = input_is items well n t found from into goes names d is in (
        (λ equal. subst (λ z. IsSameTerm z.fields w.rule.vars v.rule.vars w.out v.out) (sym same) (same_of_equal begins ends names apart w.rule.vars v.rule.vars w.out v.out r.term q.term first second stands stands' equal)),
        (λ alike. equal_of_same begins ends names apart w.rule.vars v.rule.vars w.out v.out r.term q.term first second stands stands' (subst (λ z. IsSameTerm z.fields w.rule.vars v.rule.vars w.out v.out) same alike)),
      )

  pub is_built_trans_for : IsBuiltTransFor items n from into names d 0
  is_built_trans_for =
      let machine = meant items well n t found from into goes names d is in
      record {
        carries = (names_are_carried items n).transformation from into (record { sttr = machine; start = 0 }) (transformation_for items well n t found from into goes names d is);
        seen = (names_are_seen items n).transformation from into machine (written_trans items well n t found from into goes names d is);
        applies = rules_apply items well n t found from into goes names d is;
        terms = terms_as_written;
        plain = functional items well n t found from into goes names d is;
        linear = linear items well n t found from into goes names d is;
      }
