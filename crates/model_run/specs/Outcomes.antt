-- What an item of a program gives in a run, and its line.
use Rattle.std.specs.Prelude.{◌≡◌, ◌⊎◌, ℕ, suc, Bool, true, false, not, ◌||◌, cond, List, [], ◌∷◌, ◌++◌, codes, decimal, encode_utf8_all}
use Rattle.model_tree.specs.Tree.{LabelTree}
use Rattle.model_tree.specs.Signature.{PlainSignature, names_of}
use Rattle.model_tree.specs.Printed.{printed_tree}
use Rattle.model_grammar.specs.declared.Op1.TheVariants.{Minimize}
use Rattle.model_grammar.specs.Syntax.{X, one, Claim, equal, member, empty, type_check, TreeItem, DefItem, AssertItem, Body, sorts, tree, lang, trans, def, assertion, Item}
use Rattle.model_meaning.specs.Types.{signature_at}
use Rattle.model_meaning.specs.Meaning.{IsInLanguage, input_type}
use Rattle.model_meaning.specs.Values.{Printed, IsValue}
use Rattle.model_meaning.specs.Truth.{IsTrue, Shows}
use Rattle.model_run.specs.Counts.{IsCount}
use Rattle.model_run.specs.Items.{IsComposable}
use Rattle.model_run.specs.Printable.{IsPrintable}

-- A line shows a tree with the type by which it is printed.
pub data Outcome : Type 0 where
  silent : Outcome
  -- a tree that has its name
  tree_line : List ℕ → PlainSignature → LabelTree → Outcome
  -- the size of the least automaton of a language that has its name
  minimal_line : List ℕ → ℕ → Outcome
  -- an assertion by its line in the text, whether it passes, and no tree or a tree
  true_verdict : ℕ → Bool → Outcome
  tree_verdict : ℕ → Bool → PlainSignature → LabelTree → Outcome

-- the type of whose trees a statement speaks
abbrev pub claim_type : List Item → Claim → PlainSignature
claim_type items (equal x y) = input_type items x
claim_type items (member x y) = input_type items y
claim_type items (empty x) = input_type items x
claim_type items (type_check x f y) = input_type items x

module _ (items : List Item) (trees : List Printed) where
  -- a value of the expression
  abbrev pub IsTreeLine : TreeItem → Outcome → Type 0
  IsTreeLine t silent = ⊥
  IsTreeLine t (tree_line name signature u) = (name ≡ t.name.text) × (signature ≡ signature_at items t.of) × IsValue items trees signature t.value u × IsPrintable u
  IsTreeLine t (minimal_line name n) = ⊥
  IsTreeLine t (true_verdict n passes) = ⊥
  IsTreeLine t (tree_verdict n passes signature u) = ⊥

  abbrev pub IsMinimalLine : DefItem → X → Outcome → Type 0
  IsMinimalLine d x silent = ⊥
  IsMinimalLine d x (tree_line name signature u) = ⊥
  IsMinimalLine d x (minimal_line name n) = (name ≡ d.name.text) × IsCount items x n
  IsMinimalLine d x (true_verdict n passes) = ⊥
  IsMinimalLine d x (tree_verdict n passes signature u) = ⊥

  -- a definition has a line only where its expression is a `minimize`
  abbrev pub IsDefLine : DefItem → X → Outcome → Type 0
  IsDefLine d (one Minimize place x) outcome = IsMinimalLine d x outcome
  IsDefLine d x outcome = outcome ≡ silent

  -- The tree goes with the verdict: it shows that the statement is false; or it is a value of the left side of `in`, and is in the language or not.
  abbrev pub IsShownWith : Claim → Bool → Bool → LabelTree → Type 0
  IsShownWith (equal x y) wanted passes t = (passes ≡ not wanted) × Shows items (equal x y) t
  IsShownWith (empty x) wanted passes t = (passes ≡ not wanted) × Shows items (empty x) t
  IsShownWith (type_check x f y) wanted passes t = (passes ≡ not wanted) × Shows items (type_check x f y) t
  IsShownWith (member x y) wanted passes t =
      IsValue items trees (input_type items y) x t
      × (((passes ≡ wanted) × IsInLanguage items y t) ⊎ ((passes ≡ not wanted) × ¬ (IsInLanguage items y t)))

  -- An assertion passes where its statement has the asserted truth.
  abbrev pub IsVerdict : ℕ → AssertItem → Outcome → Type 0
  IsVerdict line a silent = ⊥
  IsVerdict line a (tree_line name signature u) = ⊥
  IsVerdict line a (minimal_line name n) = ⊥
  IsVerdict line a (true_verdict n passes) = (n ≡ line) × (passes ≡ a.wanted) × IsTrue items a.claim
  IsVerdict line a (tree_verdict n passes signature t) = (n ≡ line) × (signature ≡ claim_type items a.claim) × IsShownWith a.claim a.wanted passes t × IsPrintable t

  abbrev pub IsOutcomeOf : ℕ → Body → Outcome → Type 0
  IsOutcomeOf line (sorts t) outcome = outcome ≡ silent
  IsOutcomeOf line (tree t) outcome = IsTreeLine t outcome
  IsOutcomeOf line (lang l) outcome = outcome ≡ silent
  IsOutcomeOf line (trans t) outcome = outcome ≡ silent
  IsOutcomeOf line (def d) outcome = IsDefLine d d.value outcome
  IsOutcomeOf line (assertion a) outcome = IsVerdict line a outcome

-- The item may have the outcome: its transformations can be composed, and the outcome is one of its body.
pub record IsOutcome (items : List Item) (trees : List Printed) (item : Item) (outcome : Outcome) : Type 0 where
  pub composable : IsComposable items item.body
  pub is : IsOutcomeOf items trees item.place.line item.body outcome

-- ---- lines; each ends with a line feed

abbrev pub verdict : Bool → List ℕ
verdict true = codes " pass"
verdict false = codes " fail"

-- a space, and the text of a tree
abbrev pub shown_tree : PlainSignature → LabelTree → List ℕ
shown_tree signature t = codes " " ++ encode_utf8_all (printed_tree (names_of signature) t)

-- `tree NAME TREE`, `minimal NAME N`, `assert LINE pass`, `assert LINE fail`, and behind a verdict the tree that goes with it
abbrev pub line_of : Outcome → List ℕ
line_of silent = []
line_of (tree_line name signature t) = codes "tree " ++ (encode_utf8_all name ++ (shown_tree signature t ++ codes "\n"))
line_of (minimal_line name n) = codes "minimal " ++ (encode_utf8_all name ++ (codes " " ++ (decimal n ++ codes "\n")))
line_of (true_verdict n passes) = codes "assert " ++ (decimal n ++ (verdict passes ++ codes "\n"))
line_of (tree_verdict n passes signature t) = codes "assert " ++ (decimal n ++ (verdict passes ++ (shown_tree signature t ++ codes "\n")))

-- ---- the outcomes of items that are done, the last one first

-- the trees that were printed
abbrev pub trees_in : List Outcome → List Printed
trees_in [] = []
trees_in (silent ∷ outcomes) = trees_in outcomes
trees_in (tree_line name signature t ∷ outcomes) = record { name = name; tree = t } ∷ trees_in outcomes
trees_in (minimal_line name n ∷ outcomes) = trees_in outcomes
trees_in (true_verdict n passes ∷ outcomes) = trees_in outcomes
trees_in (tree_verdict n passes signature t ∷ outcomes) = trees_in outcomes

-- how many verdicts say `pass`, or how many say `fail`
abbrev pub verdicts : Bool → List Outcome → ℕ
verdicts wanted [] = 0
verdicts wanted (silent ∷ outcomes) = verdicts wanted outcomes
verdicts wanted (tree_line name signature t ∷ outcomes) = verdicts wanted outcomes
verdicts wanted (minimal_line name n ∷ outcomes) = verdicts wanted outcomes
verdicts true (true_verdict n passes ∷ outcomes) = cond passes (suc (verdicts true outcomes)) (verdicts true outcomes)
verdicts false (true_verdict n passes ∷ outcomes) = cond passes (verdicts false outcomes) (suc (verdicts false outcomes))
verdicts true (tree_verdict n passes signature t ∷ outcomes) = cond passes (suc (verdicts true outcomes)) (verdicts true outcomes)
verdicts false (tree_verdict n passes signature t ∷ outcomes) = cond passes (verdicts false outcomes) (suc (verdicts false outcomes))

abbrev pub says_fail : Outcome → Bool
says_fail silent = false
says_fail (tree_line name signature t) = false
says_fail (minimal_line name n) = false
says_fail (true_verdict n passes) = not passes
says_fail (tree_verdict n passes signature t) = not passes

-- whether some verdict says `fail`
abbrev pub has_failed : List Outcome → Bool
has_failed [] = false
has_failed (o ∷ outcomes) = says_fail o || has_failed outcomes
