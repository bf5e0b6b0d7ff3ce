-- Items of which a refusal is owed, and items of which it isn't.
use Rattle.std.specs.Prelude.{ℕ, zero, suc, ◌+◌, pos, List, [], ◌∷◌, ◌++◌, codes}
use Rattle.fast_fault.specs.declared.code.Code.TheVariants.{LabelRange, NotComposable, EmptyLanguage, OutputCount, Outputs, TreeSize}
use Rattle.model_grammar.specs.declared.Op1.TheVariants.{GetWitness}
use Rattle.model_grammar.specs.declared.Op2.TheVariants.{Apply}
use Rattle.model_grammar.specs.Syntax.{number, one, two, literal, no_x, Out, Rule, Body, Item}
use Rattle.model_meaning.specs.Programs.{here, name, x, ctor, type_item, demand, rule, to, make, lang_item, trans_item}
use Rattle.model_meaning.specs.Related.{looking, demanding}
use Rattle.model_run.specs.Owed.{IsOwed}
use Rattle.model_run.specs.Examples.{tree_body, adding, multiplying, square_body, copying_items, both_body}

-- `tree t : N := (apply inc (z [..]))`
abbrev pub increased : ℕ → Body
increased n = tree_body (codes "N") (two Apply here (x (codes "inc")) (literal (name (codes "z")) (number here (pos n) ∷ []) no_x))

-- `tree t : B := (apply .. (.. []))`
abbrev pub applied : List ℕ → List ℕ → Body
applied f leaf = tree_body (codes "B") (two Apply here (x f) (literal (name leaf) [] no_x))

-- `tree t : B := (get-witness ..)`
abbrev pub witness : List ℕ → Body
witness language = tree_body (codes "B") (one GetWitness here (x language))

-- `(c [] (c [] .. (a [])))` with so many nodes over the leaf
unfoldable pub nested_term : ℕ → Out
nested_term zero = make (codes "a") []
nested_term (suc n) = make (codes "c") (nested_term n ∷ [])

-- `type B[]{a(0), c(1)}`, `trans grow : B -> B { a() to (c [] (c [] ..)) }`
abbrev pub deepening : List Item
deepening = type_item (ctor (codes "a") 0 ∷ ctor (codes "c") 1 ∷ []) ∷ trans_item (codes "grow") (to (rule (codes "a") [] []) (nested_term 2000) ∷ []) ∷ []

-- the names `la`, `lb` and so on
abbrev pub level : ℕ → List ℕ
level k = 108 ∷ (97 + k) ∷ []

-- `d(x, y) given (.. x) (.. y)`
abbrev pub of_two : List ℕ → Rule
of_two language = rule (codes "d") (codes "x" ∷ codes "y" ∷ []) (demand language (codes "x") ∷ demand language (codes "y") ∷ [])

abbrev pub levels : ℕ → List Item
levels zero = []
levels (suc k) = levels k ++ lang_item (level (suc k)) (of_two (level k) ∷ []) ∷ []

-- `type B[]{a(0), c(1), d(2)}`
-- `lang la : B { a() }`, `lang lb : B { d(x, y) given (la x) (la y) }` and so on up to `lu`, whose one tree is full and has depth 21
abbrev pub towers : List Item
towers = type_item (ctor (codes "a") 0 ∷ ctor (codes "c") 1 ∷ ctor (codes "d") 2 ∷ []) ∷ lang_item (level 0) (rule (codes "a") [] [] ∷ []) ∷ levels 20

pub record AreOwed : Type 0 where
  -- the output has the first number outside 64 bits, or 1
  pub far : IsOwed adding [] (increased 9223372036854775807) LabelRange
  pub near : ¬ (IsOwed adding [] (increased 0) LabelRange)
  -- two rules of the first meet, and the second copies; or no rule of the second copies
  pub copied : IsOwed copying_items [] both_body NotComposable
  pub linear : ¬ (IsOwed multiplying [] square_body NotComposable)
  -- the language has no tree, or one
  pub none_found : IsOwed demanding [] (witness (codes "w")) EmptyLanguage
  pub found : ¬ (IsOwed demanding [] (witness (codes "pa")) EmptyLanguage)
  -- two outputs, none, or one
  pub two_outputs : IsOwed looking [] (applied (codes "p") (codes "a")) OutputCount
  pub no_output : IsOwed looking [] (applied (codes "p") (codes "b")) OutputCount
  pub one_output : ¬ (IsOwed adding [] (increased 0) OutputCount)
  -- an output has depth 2,001, or 1
  pub deep_output : IsOwed deepening [] (applied (codes "grow") (codes "a")) Outputs
  pub small_output : ¬ (IsOwed adding [] (increased 0) Outputs)
  -- each tree of the language has 2,097,151 nodes, or one has 1
  pub large : IsOwed towers [] (witness (level 20)) TreeSize
  pub small : ¬ (IsOwed demanding [] (witness (codes "pa")) TreeSize)
