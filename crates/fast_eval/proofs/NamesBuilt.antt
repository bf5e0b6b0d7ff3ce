-- What is built for a name by its rules, or by the expression of its definition.
use Rattle.std.proofs.Common.{◌≡◌, ℕ, true, List, [], ◌∷◌, Option, Some, None, map, get_or, All, Contains, refl, sym, ap, subst, ◌∙◌, arith}
use Rattle.std.specs.Option.{option_map}
use Rattle.std.proofs.lemmas.List.Elements.{All-nil, All-cons, All-head, All-tail, All-append, All-map}
use Rattle.model_tree.specs.Formula.{Formula}
use Rattle.model_tree.specs.Signature.{PlainField, ranks_of, sorts_of}
use Rattle.model_program.specs.Syntax.{Name, TypeItem}
use Rattle.model_grammar.specs.Syntax.{Expr, X, named, LangItem, Item}
use Rattle.model_names.specs.Declared.{name_of}
use Rattle.model_names.specs.Kinds.{type_of}
use Rattle.model_meaning.specs.Laws.{StandsFor}
use Rattle.model_meaning.specs.Types.{input_of}
use Rattle.model_meaning.specs.Meaning.{signature_named}
use Rattle.model_meaning.specs.Reached.{Reaches, itself, definition_of, Opens}
use Rattle.model_meaning.proofs.Named.{input_type_of_name}
use Rattle.model_form.proofs.Equals.{same_laws}
use Rattle.model_guard.specs.Guards.{is_guard}
use Rattle.model_run.specs.Seen.{IsTest, of_language, compare_of_guard}
use Rattle.model_layers.specs.Compared.{AreCompared}
use Rattle.model_layers.proofs.Compared.{compares_go_up}
use Rattle.model_layers.proofs.CarryTrans.{definitions_carry}
use Rattle.model_layers.proofs.Sight.{definitions_are_seen}
use Rattle.meaning_laws.specs.Laws.{HasDeclared}
use Rattle.label_core.specs.Formula.{atoms_in}
use Rattle.label_core.specs.Pair.{lefts}
use Rattle.label_core.specs.declared.pair.PairAtom.{PairAtom}
use Rattle.label_core.specs.declared.pair.PairAtom.TheVariants.{Left, Right}
use Rattle.label_split.proofs.SameAtoms.{all_atoms}
use Rattle.lin_solve.specs.Plain.{plain_compare}
use Rattle.sta_core.specs.Machine.{PlainRule}
use Rattle.sta_core.specs.Sta.{automaton_of, AtomsFit}
use Rattle.sta_core.specs.declared.Lang.{Lang}
use Rattle.sta_classes.specs.Guards.{all_guards, atoms_of_all}
use Rattle.sta_ops.specs.Languages.{auto_of}
use Rattle.record_label.specs.Guards.{written_in}
use Rattle.record_label.specs.Rows.{RowAtom, row_holds, RowFits}
use Rattle.fast_build.specs.Rules.{IsGuardFor}
use Rattle.fast_build.specs.Items.{find_lang}
use Rattle.fast_build.specs.Automaton.{IsGuardReached, IsAutomatonOf}
use Rattle.fast_build.specs.Carried.{IsBuiltFor}
use Rattle.fast_build.proofs.Stands.{AllStand}
use Rattle.fast_build.proofs.Standing.{type_named}
use Rattle.fast_eval.specs.Built.{compares_in, IsCompared, IsBuiltOf}
use Rattle.fast_eval.proofs.Written.{written}

-- ---- what holds of each guard, and of each atom

module _ {A : Type 0} where
  pub guards_listed : (P : Formula A → Type 0) (rules : List (List (PlainRule A))) → All (λ rs. All (λ r. P r.guard) rs) rules → All P (all_guards rules)
  guards_listed P [] each = All-nil P
  guards_listed P (rs ∷ rules) each =
      All-append P (map (λ r. r.guard) rs) (all_guards rules) (All-map P (λ r. r.guard) rs (each 0 rs (omega arith))) (guards_listed P rules (All-tail (λ those. All (λ r. P r.guard) those) rs rules each))

  pub atoms_listed : (P : A → Type 0) (gs : List (Formula A)) → All (λ g. All P (atoms_in g)) gs → All P (atoms_of_all gs)
  atoms_listed P [] each = All-nil P
  atoms_listed P (g ∷ gs) each = All-append P (atoms_in g) (atoms_of_all gs) (each 0 g (omega arith)) (atoms_listed P gs (All-tail (λ f. All P (atoms_in f)) g gs each))

pub lefts_listed : {P Q : Type 0} (S : PairAtom P Q → Type 0) (atoms : List (PairAtom P Q)) → All S atoms → All (λ p. S (Left p)) (lefts atoms)
lefts_listed S [] each = All-nil (λ p. S (Left p))
lefts_listed S (Left p ∷ atoms) each = All-cons (λ q. S (Left q)) p (lefts atoms) (All-head S (Left p) atoms each) (lefts_listed S atoms (All-tail S (Left p) atoms each))
lefts_listed S (Right q ∷ atoms) each = lefts_listed S atoms (All-tail S (Right q) atoms each)

-- ---- what is written in the rules of a name

module _ (items : List Item) (n : Name) (type : List ℕ) where
  abbrev pub own_fields : List PlainField
  own_fields = (signature_named items (Some type)).fields

  -- an atom of a comparison that the name has
  abbrev pub IsWritten : RowAtom → Type 0
  IsWritten (Left c) = IsCompared items (named n) type (plain_compare c)
  IsWritten (Right a) = Unit {0}

  atom_written : (e : Expr) → IsTest items n type e → is_guard own_fields e ≡ true → (a : RowAtom) → Contains (written_in own_fields e) a → IsWritten a
  atom_written e test guard (Left c) at =
      let d = plain_compare c in
      (d, compare_of_guard n type e d test (written own_fields e guard c at), (refl, same_laws.refl d.left, same_laws.refl d.right))
  atom_written e test guard (Right a) at = tt

  pub guard_written : (f : Formula RowAtom) (guard : Option Expr) → ((e : Expr) → guard ≡ Some e → IsTest items n type e) → IsGuardFor own_fields guard f → All IsWritten (atoms_in f)
  guard_written f None tests own = subst (λ g. All IsWritten (atoms_in g)) (sym own) (All-nil IsWritten)
  guard_written f (Some e) tests own = λ k d low. atom_written e (tests e refl) own.0 (get_or (atoms_in f) k d) (all_atoms (Contains (written_in own_fields e)) f own.1.atoms k d low)

-- ---- by rules

module _ (items : List Item) (n : Name) (type : List ℕ) (l : Lang RowAtom) (on : type_of items (named n) ≡ Some type) (is : IsAutomatonOf items n.text l.sta) where
  signature_is : signature_named items (Some type) ≡ input_of items n.text
  signature_is = ap (signature_named items) (sym on) ∙ input_type_of_name items n

  on_type : (other : List ℕ) → Reaches items n.text other → type_of items (named (name_of other)) ≡ Some type
  on_type other reached =
      let at = is.all other reached in
      let beside = is.languages at.0 other at.1 in
      subst (λ name. type_of items (named (name_of name)) ≡ Some type) at.2 (beside.type ∙ on)

  reached_written : (f : Formula RowAtom) → IsGuardReached items n.text f → All (IsWritten items n type) (atoms_in f)
  reached_written f (other, reached, r, at, own) =
      guard_written items n type f r.guard (λ e same. of_language n (name_of other) type r e reached (on_type other reached) at same) (subst (λ s. IsGuardFor s.fields r.guard f) (sym signature_is) own)

  all_written : All (IsWritten items n type) (atoms_of_all (all_guards l.sta.rules))
  all_written = atoms_listed (IsWritten items n type) (all_guards l.sta.rules) (guards_listed (λ g. All (IsWritten items n type) (atoms_in g)) l.sta.rules (λ k d low i e below. reached_written _ (is.guards k d low i e below)))

  compared : AreCompared items (named n) type (compares_in l.sta)
  compared =
      All-map (IsCompared items (named n) type) plain_compare (lefts (atoms_of_all (all_guards l.sta.rules))) (lefts_listed (IsWritten items n type) (atoms_of_all (all_guards l.sta.rules)) all_written)

  pub built_by_rules : IsBuiltFor items n type l.sta l.state → IsBuiltOf items (named n) type l
  built_by_rules own = record {
    carries = own.carries;
    seen = own.seen;
    compared = compared;
    ranks = is.ranks ∙ ap ranks_of (sym signature_is);
    fit = subst (λ s. AtomsFit (RowFits (sorts_of s)) l.sta) (sym signature_is) is.fit;
  }

-- the type of a language, by its name
pub lang_on : (items : List Item) (n : Name) (l : LangItem) (stand : AllStand items) (found : find_lang items n.text ≡ Some l) → type_of items (named n) ≡ Some (stand n.text l found).type.name.text
lang_on items n l stand found = type_named items n l found ∙ ap (option_map (λ (s : TypeItem). s.name.text)) (stand n.text l found).found

-- ---- by a definition

module _ (items : List Item) (n : Name) (x : X) (is : definition_of items n.text ≡ Some x) (declared : HasDeclared items n x) (stands : StandsFor items n x) where
  opens : Opens items n.text x
  opens = record { definition = n.text; reached = itself; is = is }

  pub built_by_definition : (type : List ℕ) (l : Lang RowAtom) → IsBuiltOf items x type l → IsBuiltOf items (named n) type l
  built_by_definition type l built = record {
    carries = (definitions_carry items n x).language type (auto_of row_holds l) opens (sym declared.kind ∙ built.carries.is_on.0, sym declared.type ∙ built.carries.is_on.1) stands.language built.carries;
    seen = (definitions_are_seen items n x opens).language type (automaton_of row_holds l.sta) built.seen;
    compared = (compares_go_up items).opened n x type (compares_in l.sta) opens built.compared;
    ranks = built.ranks;
    fit = built.fit;
  }
