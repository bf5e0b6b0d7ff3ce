-- The automaton of a language.
use Rattle.std.specs.Prelude.{◌≡◌, ◌≢◌, ◌↔◌, ℕ, ◌<◌, true, List, [], ◌∷◌, Some, length, get_or, All, Contains}
use Rattle.std.specs.List.{AllPairs}
use Rattle.model_tree.specs.Tree.{LabelTree}
use Rattle.model_tree.specs.Signature.{HasType, ranks_of, sorts_of}
use Rattle.model_tree.specs.Formula.{Formula}
use Rattle.model_grammar.specs.Syntax.{named, Rule, Item}
use Rattle.model_names.specs.Declared.{name_of, rules_of}
use Rattle.model_names.specs.Kinds.{language, kind_of, type_of}
use Rattle.model_meaning.specs.Types.{input_of}
use Rattle.model_meaning.specs.Meaning.{IsInLanguage}
use Rattle.model_meaning.specs.Reached.{Reaches}
use Rattle.model_sta.specs.Automaton.{is_accepted}
use Rattle.sta_core.specs.Machine.{Machine}
use Rattle.sta_core.specs.Sta.{automaton_of, AtomsFit}
use Rattle.record_label.specs.Rows.{RowAtom, row_holds, RowFits}
use Rattle.fast_build.specs.Rules.{IsGuardFor}

-- the guard of a rule of a language that the language reaches
abbrev pub IsGuardReached : List Item → List ℕ → Formula RowAtom → Type 0
IsGuardReached items name f =
    (other : List ℕ) × Reaches items name other × (r : Rule) × Contains (rules_of items other) r × IsGuardFor (input_of items name).fields r.guard f

-- the name is that of a language on the type of another name
pub record IsLanguageBeside (items : List Item) (name other : List ℕ) : Type 0 where
  pub kind : kind_of items (named (name_of other)) ≡ Some language
  pub type : type_of items (named (name_of other)) ≡ type_of items (named (name_of name))

-- It has exactly one state for each name that the language reaches, itself first, and the state accepts exactly the trees
-- of the type that are in the name's language. Its guards are guards of their rules.
pub record IsAutomatonOf (items : List Item) (name : List ℕ) (m : Machine RowAtom) : Type 0 where
  pub others : List (List ℕ)
  pub reached : All (Reaches items name) (name ∷ others)
  pub all : (other : List ℕ) → Reaches items name other → Contains (name ∷ others) other
  pub once : AllPairs (λ one other. one ≢ other) (name ∷ others)
  pub languages : All (IsLanguageBeside items name) (name ∷ others)
  pub ranks : m.ranks ≡ ranks_of (input_of items name)
  pub states : length m.rules ≡ length (name ∷ others)
  pub fit : AtomsFit (RowFits (sorts_of (input_of items name))) m
  pub means : (k : ℕ) → k < length (name ∷ others) → (t : LabelTree) → HasType (input_of items name) t → IsInLanguage items (named (name_of (get_or (name ∷ others) k []))) t ↔ is_accepted (automaton_of row_holds m) t k ≡ true
  pub guards : All (λ rules. All (λ r. IsGuardReached items name r.guard) rules) m.rules
