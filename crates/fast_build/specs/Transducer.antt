-- The transducer of a transformation.
use Rattle.std.specs.Prelude.{◌≡◌, ◌≢◌, ◌↔◌, ℕ, ◌<◌, true, List, [], ◌∷◌, Some, map, length, get_or, All, Contains}
use Rattle.std.specs.List.{AllPairs}
use Rattle.model_tree.specs.Tree.{LabelTree}
use Rattle.model_tree.specs.Formula.{Formula}
use Rattle.model_tree.specs.Signature.{HasType, HasSorts, ranks_of, sorts_of}
use Rattle.model_grammar.specs.Syntax.{Expr, named, OutRule, Item}
use Rattle.model_names.specs.Declared.{name_of, rules_of, out_rules_of}
use Rattle.model_names.specs.Kinds.{transformation, kind_of, type_of}
use Rattle.model_names.specs.Kinds as kinds
use Rattle.model_meaning.specs.Types.{input_of, output_of}
use Rattle.model_meaning.specs.Meaning.{IsInLanguage, IsRelated, Applies}
use Rattle.model_meaning.specs.Reached.{Reaches}
use Rattle.model_run.specs.Seen.{AreLabelsIn}
use Rattle.model_sta.specs.Automaton.{is_accepted, rule_applies}
use Rattle.model_sta.specs.Pairwise.{Pairwise}
use Rattle.model_sttr.specs.Transducer.{run, out_rules, Gives, GivesSame, SttrFits, MakesTyped}
use Rattle.sttr_core.specs.Machine.{OutMachine, transducer_of}
use Rattle.sttr_core.specs.Fits.{EveryMap, MapsAre, LabelsFit}
use Rattle.record_label.specs.Rows.{RowAtom, row_holds, RowFits}
use Rattle.record_label.specs.declared.maps.RowMap.{RowMap}
use Rattle.record_label.specs.Maps.{EntriesFit, sort_by}
use Rattle.record_label.specs.PlainMaps.{plain_entry}
use Rattle.fast_build.specs.Numbers.{number_in}
use Rattle.fast_build.specs.Rules.{IsGuardFor, AreStatesFor}
use Rattle.fast_build.specs.Automaton.{IsGuardReached, IsLanguageBeside}
use Rattle.fast_build.specs.Terms.{row_make, IsMapFor, LabelsStand}
use Rattle.fast_build.specs.OutRules.{AreOutStatesFor}

-- the guard of a rule of a transformation that the transformation reaches
abbrev pub IsOutGuardReached : List Item → List ℕ → Formula RowAtom → Type 0
IsOutGuardReached items name f =
    (other : List ℕ) × Reaches items name other × (r : OutRule) × Contains (out_rules_of items other) r × IsGuardFor (input_of items name).fields r.rule.guard f

-- the map of the labels of a node in a term of such a rule
pub record IsMapReached (items : List Item) (name : List ℕ) (m : RowMap) : Type 0 where
  pub other : List ℕ
  pub reached : Reaches items name other
  pub rule : OutRule
  pub there : Contains (out_rules_of items other) rule
  pub labels : List Expr
  pub stand : AreLabelsIn rule.out labels
  pub labelled : LabelsStand (input_of items name).fields (output_of items name) labels
  pub is : IsMapFor (input_of items name) (output_of items name) labels m

-- the name is that of a transformation between the types of another name
pub record IsTransformationBeside (items : List Item) (name other : List ℕ) : Type 0 where
  pub kind : kind_of items (named (name_of other)) ≡ Some transformation
  pub begins : type_of items (named (name_of other)) ≡ type_of items (named (name_of name))
  pub ends : kinds.output_of items (named (name_of other)) ≡ kinds.output_of items (named (name_of name))

-- It has exactly one state for each of these names, which are those of the transformations that the transformation reaches,
-- itself first, with its rules in the order in which they are written. On trees of the type a state gives exactly what the
-- transformation of its name does. The lookahead has a state for each of the languages that their rules reach.
pub record IsTransducerOf (items : List Item) (name : List ℕ) (names : List (List ℕ)) (d : OutMachine RowAtom RowMap) : Type 0 where
  pub others : List (List ℕ)
  pub first : names ≡ name ∷ others
  pub reached : All (Reaches items name) names
  pub all : (other : List ℕ) → Reaches items name other → kind_of items (named (name_of other)) ≡ Some transformation → Contains names other
  pub once : AllPairs (λ one other. one ≢ other) names
  pub transformations : All (IsTransformationBeside items name) names
  pub looked : List (List ℕ)
  pub looked_reached : All (Reaches items name) looked
  pub languages : All (IsLanguageBeside items name) looked
  pub ranks : d.looks.ranks ≡ ranks_of (input_of items name)
  pub looks : AreStatesFor (input_of items name) (number_in looked) d.looks.rules (map (rules_of items) looked)
  pub rules : AreOutStatesFor (input_of items name) (output_of items name) (number_in looked) (number_in names) d.rules (map (out_rules_of items) names)
  -- each rule has a constructor of the type, and demands for each of its children
  pub arities : All (λ rules. All (λ r. (r.rule.constructor < length d.looks.ranks) × (length r.rule.demands ≡ get_or d.looks.ranks r.rule.constructor 0)) rules) d.rules
  pub means : (k : ℕ) → k < length names → (t u : LabelTree) → HasType (input_of items name) t → IsRelated items (named (name_of (get_or names k []))) t u ↔ Gives (transducer_of row_holds row_make d) (run k) t u
  -- a state of the lookahead accepts the trees of the language of its name; a rule of a state applies to those to which the written one at its place does
  pub look_means : (k : ℕ) → k < length looked → (t : LabelTree) → HasType (input_of items name) t → IsInLanguage items (named (name_of (get_or looked k []))) t ↔ is_accepted (transducer_of row_holds row_make d).looks t k ≡ true
  pub applies : (k : ℕ) → k < length names → Pairwise (λ r w. (t : LabelTree) → HasType (input_of items name) t → (rule_applies (transducer_of row_holds row_make d).looks t r.rule ≡ true) ↔ Applies items (input_of items name) w.rule t) (out_rules (transducer_of row_holds row_make d) k) (out_rules_of items (get_or names k []))
  -- a child is given unchanged only where the two types are one
  pub unchanged : GivesSame (transducer_of row_holds row_make d) → input_of items name ≡ output_of items name
  pub fit : SttrFits (transducer_of row_holds row_make d) (ranks_of (input_of items name))
  pub typed : MakesTyped (transducer_of row_holds row_make d) (ranks_of (output_of items name)) (HasSorts (sorts_of (input_of items name))) (HasSorts (sorts_of (output_of items name)))
  pub labels : LabelsFit (RowFits (sorts_of (input_of items name))) (λ m. EntriesFit (sorts_of (input_of items name)) (map plain_entry m.entries.items)) d
  pub made : MapsAre (λ m. map sort_by (map plain_entry m.entries.items) ≡ sorts_of (output_of items name)) d
  pub look_guards : All (λ rules. All (λ r. IsGuardReached items name r.guard) rules) d.looks.rules
  pub guards : All (λ rules. All (λ r. IsOutGuardReached items name r.rule.guard) rules) d.rules
  pub maps : All (λ rules. All (λ r. EveryMap (IsMapReached items name) r.term) rules) d.rules
