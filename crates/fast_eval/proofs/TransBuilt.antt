-- What is built for a name by its rules, or by the expression of its definition, where it is a transformation.
use Rattle.std.proofs.Common.{◌≡◌, inl, inr, ℕ, true, false, List, Option, Some, None, map, refl, sym, ap, subst, ◌∙◌}
use Rattle.std.specs.Prelude.{is_some}
use Rattle.model_names.specs.Kinds.{transformation}
use Rattle.fast_eval.specs.declared.built.Built.{Built}
use Rattle.fast_eval.specs.Places.{place_in}
use Rattle.fast_eval.specs.Forms.{IsReadyName}
use Rattle.model_tree.specs.Signature.{ranks_of, sorts_of}
use Rattle.model_program.specs.Syntax.{Name}
use Rattle.model_grammar.specs.Syntax.{X, named, TransItem, Item}
use Rattle.model_checks.specs.Programs.{is_well_formed}
use Rattle.model_meaning.specs.Laws.{StandsFor}
use Rattle.model_meaning.specs.Reached.{itself, definition_of, Opens}
use Rattle.model_run.specs.Parts.{IsFrom}
use Rattle.model_run.specs.Plain.{at_opened}
use Rattle.model_layers.proofs.CarryTrans.{definitions_carry}
use Rattle.model_layers.proofs.Sight.{definitions_are_seen}
use Rattle.meaning_laws.specs.Laws.{HasDeclared}
use Rattle.sttr_core.specs.Fits.{MapsAre, LabelsFit}
use Rattle.sttr_core.specs.declared.sttr.Trans.{Trans}
use Rattle.record_label.specs.declared.maps.RowMap.{RowMap}
use Rattle.record_label.specs.Rows.{RowAtom, RowFits}
use Rattle.record_label.specs.Maps.{EntriesFit, sort_by}
use Rattle.fast_build.specs.CarriedTrans.{IsBuiltTransFor}
use Rattle.fast_build.specs.Transducer.{IsTransducerOf}
use Rattle.fast_build.specs.Transformations.{find_trans}
use Rattle.fast_build.proofs.CarryingTrans.{input_is, output_is}
use Rattle.fast_eval.specs.Built.{entries_of, trans_of, IsTransBuiltOf}
use Rattle.fast_eval.specs.Table.{IsTransBuiltNamed}
use Rattle.fast_eval.proofs.Put.{opened_compared}
use Rattle.fast_eval.proofs.TransStands.{rules_stand}
use Rattle.fast_eval.proofs.TransWritten.{trans_compared}

-- by its rules
module _ (items : List Item) (well : is_well_formed items ≡ true) (n : Name) (t : TransItem) (found : find_trans items n.text ≡ Some t) (from into : List ℕ) (goes : IsFrom items (named n) from into) (names : List (List ℕ)) (f : Trans RowAtom RowMap) (is : IsTransducerOf items n.text names f.sttr) where
  pub trans_by_rules : IsBuiltTransFor items n from into names f.sttr f.state → IsTransBuiltOf items (named n) from into f
  trans_by_rules own =
      let input = input_is items well n t found from into goes names f.sttr is in
      let output = output_is items well n t found from into goes names f.sttr is in
      record {
        carries = own.carries;
        seen = own.seen;
        compared = trans_compared items well n t found from into goes names f.sttr is;
        ranks = is.ranks ∙ ap ranks_of (sym input);
        stands = rules_stand items n.text names f.sttr is;
        labels = subst (λ s. LabelsFit (RowFits (sorts_of s)) (λ m. EntriesFit (sorts_of s) (entries_of m)) f.sttr) (sym input) is.labels;
        made = subst (λ s. MapsAre (λ m. map sort_by (entries_of m) ≡ sorts_of s) f.sttr) (sym output) is.made;
        plain = own.plain;
        linear = own.linear;
      }

pub trans_for_name : (items : List Item) (well : is_well_formed items ≡ true) (name : List ℕ) (t : TransItem) → find_trans items name ≡ Some t → (names : List (List ℕ)) (f : Trans RowAtom RowMap) → IsTransducerOf items name names f.sttr
    → ((n : Name) (from into : List ℕ) → n.text ≡ name → IsFrom items (named n) from into → IsBuiltTransFor items n from into names f.sttr f.state) → IsTransBuiltNamed items name f
trans_for_name items well name t found names f is carried n from into same on =
    trans_by_rules items well n t (subst (λ text. find_trans items text ≡ Some t) (sym same) found) from into on names f (subst (λ text. IsTransducerOf items text names f.sttr) (sym same) is) (carried n from into same on)

-- by a definition
module _ (items : List Item) (n : Name) (x : X) (is : definition_of items n.text ≡ Some x) (declared : HasDeclared items n x) (stands : StandsFor items n x) where
  opens : Opens items n.text x
  opens = record { definition = n.text; reached = itself; is = is }

  pub trans_by_definition : (from into : List ℕ) (f : Trans RowAtom RowMap) → IsFrom items (named n) from into → IsTransBuiltOf items x from into f → IsTransBuiltOf items (named n) from into f
  trans_by_definition from into f on built = record {
    carries = (definitions_carry items n x).transformation from into (trans_of f) opens on stands.relation built.carries;
    seen = (definitions_are_seen items n x opens).transformation from into (trans_of f).sttr on built.seen;
    compared = opened_compared items n x opens from into f.sttr built.compared;
    ranks = built.ranks;
    stands = built.stands;
    labels = built.labels;
    made = built.made;
    plain = λ plain. built.plain (λ some. plain (at_opened n x opens some));
    linear = λ linear. built.linear (λ some. linear (at_opened n x opens some));
  }

-- a name that has no transformation yet is that of a `trans`
pub trans_there : (items : List Item) (b : Built) (name : List ℕ) → IsReadyName transformation items b name → is_some (place_in b.transformations name) ≡ false → (t : TransItem) × (find_trans items name ≡ Some t)
trans_there items b name (inl own) none = by (find_trans items name) refl own
  where
    by : (o : Option TransItem) → find_trans items name ≡ o → is_some o ≡ true → (t : TransItem) × (find_trans items name ≡ Some t)
    by None found some = absurd (cc)
    by (Some t) found some = (t, found)
trans_there items b name (inr had) none = absurd (let no : true ≡ false = sym had ∙ none in cc)
