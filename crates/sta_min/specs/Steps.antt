-- Which class a node has.
use Rattle.std.specs.Prelude.{ℕ, ◌≡◌, ◌<◌, Bool, List, get_or, length, All, MatchOption, Vec}
use Rattle.std.specs.Bool.{beq}
use Rattle.std.specs.Cmp.Lexicographic.{pointwise}
use Rattle.model_tree.specs.Label.{Label}
use Rattle.model_sta.specs.Sets.{step}
use Rattle.model_sta.specs.Least.{rows_at}
use Rattle.label_core.specs.Meaning.{Meaning}
use Rattle.indexmap.specs.IndexMap.{IndexMap, get}
use Rattle.sta_core.specs.Sta.{automaton_of}
use Rattle.sta_classes.specs.Guards.{GuardsFit}
use Rattle.sta_classes.specs.Meant.{IsTableOf}
use Rattle.sta_classes.specs.Plain.{PlainTable, class_row}
use Rattle.sta_classes.specs.Rules.{plain_rules}
use Rattle.sta_classes.specs.Rows.{lists_of}
use Rattle.sta_min.specs.Values.{TellAllApart}
use Rattle.sta_min.specs.declared.steps.Steps.{Steps}

-- the map has the number of each of the first n classes, under its set
abbrev pub AreRows : {A V G S : Type 0} → PlainTable A V → ℕ → IndexMap (Vec Bool G) ℕ S → Type 0
AreRows {G} t n m = (key : Vec Bool G) → MatchOption (get (λ x y. pointwise beq x.items y.items) m key) ((k : ℕ) → k < n → ¬ (class_row t k ≡ key.items)) (λ k. (k < n) × (class_row t k ≡ key.items))

module _ {A V W : Type 0} {label_of : V → Label} {holds : A → Label → Bool} (M : Meaning label_of holds W) where
  -- the table is of the rules, and each class has its number, and values tell the guards of each constructor apart
  pub record IsRead (fits : A → Type 0) (s : Steps A V) : Type 0 where
    pub table : IsTableOf M s.table.now.machine s.table.now
    pub rules : plain_rules s.rules.now ≡ s.table.now.machine.rules
    pub fit : GuardsFit fits (plain_rules s.rules.now)
    pub classes : AreRows s.table.now (length s.table.now.found) s.classes
    pub values : TellAllApart M s.table.now.machine.rules (length s.table.now.machine.ranks) (lists_of s.values.items)

  -- a node with a kept label over known classes
  pub record IsNode (t : PlainTable A V) (c : ℕ) (v : V) (children : List ℕ) : Type 0 where
    pub low : c < length t.machine.ranks
    pub kept : M.keeps (label_of v)
    pub wide : length children ≡ get_or t.machine.ranks c 0
    pub known : All (λ k. k < length t.found) children

-- a node with this label over these classes has this class
pub record IsClassOf {A V : Type 0} (holds : A → Label → Bool) (t : PlainTable A V) (c : ℕ) (l : Label) (children : List ℕ) (k : ℕ) : Type 0 where
  pub low : k < length t.found
  pub row_is : step (automaton_of holds t.machine) c l (rows_at t.found children) ≡ class_row t k
