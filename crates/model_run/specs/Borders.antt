-- What no legal report has: outcomes, lists of outputs, trees and causes that fail in one point.
use Rattle.std.specs.Prelude.{◌≡◌, ℕ, zero, suc, ℤ, pos, List, [], ◌∷◌, Some, None, codes}
use Rattle.std.specs.List.{Contains}
use Rattle.fast_fault.specs.declared.status.Status.TheVariants.{Hold}
use Rattle.model_tree.specs.Label.{text, row}
use Rattle.model_tree.specs.Tree.{LabelTree}
use Rattle.model_tree.specs.Tree as trees
use Rattle.model_tree.specs.Signature.{PlainSignature}
use Rattle.model_grammar.specs.declared.Op1.TheVariants.{Complement, Domain}
use Rattle.model_grammar.specs.declared.Op2.TheVariants.{Apply, PreImage}
use Rattle.model_grammar.specs.Syntax.{number, X, named, one, two, literal, no_x, OutRule, Body, sorts, lang, trans, def, Item}
use Rattle.model_names.specs.Kinds.{transformation}
use Rattle.model_meaning.specs.Meaning.{IsRelated}
use Rattle.model_meaning.specs.Values.{Printed}
use Rattle.model_meaning.specs.Programs.{here, name, x, ctor, type_item, rule, to, apply, make, trans_item, t}
use Rattle.model_run.specs.Parts.{LanguageParts, class, IsPart}
use Rattle.model_run.specs.Printable.{IsPrintable}
use Rattle.model_run.specs.Causes.{more_classes, form_number, no_output, HasCause}
use Rattle.model_run.specs.Outcomes.{Outcome, IsOutcome}
use Rattle.model_run.specs.Report.{Given, IsTreeDone, TreesEnd, AreOutputs}
use Rattle.model_run.specs.Examples.{number_type, number_item, product, tree_body, copying_items, both_body, z}

-- ---- a composition whose first isn't plain and whose second isn't linear

abbrev pub both_item : Item
both_item = record { place = here; body = both_body }

-- ---- two outputs that are too large together

-- `two(c(x))` has two outputs, and `full(x)` one
abbrev pub full_of : List ℕ → OutRule
full_of root = to (rule (codes "c") (codes "x" ∷ []) []) (make root (apply (codes "full") (codes "x") ∷ apply (codes "full") (codes "x") ∷ []))

abbrev pub leaf_alone : OutRule
leaf_alone = to (rule (codes "a") [] []) (make (codes "a") [])

-- `type B[]{a(0), c(1), d(2), e(2)}`
-- `trans two : B -> B { c(x) to (d [] (full x) (full x)) | c(x) to (e [] (full x) (full x)) }`
-- `trans full : B -> B { a() to (a []) | c(x) to (d [] (full x) (full x)) }`
abbrev pub doubling : List Item
doubling =
    type_item (ctor (codes "a") 0 ∷ ctor (codes "c") 1 ∷ ctor (codes "d") 2 ∷ ctor (codes "e") 2 ∷ []) ∷ trans_item (codes "two") (full_of (codes "d") ∷ full_of (codes "e") ∷ [])
    ∷ trans_item (codes "full") (leaf_alone ∷ full_of (codes "d") ∷ []) ∷ []

-- so many nodes over a leaf, and a full binary tree as deep
unfoldable pub deep : ℕ → LabelTree
deep zero = t 0 []
deep (suc n) = t 1 (deep n ∷ [])

unfoldable pub full : ℕ → LabelTree
full zero = t 0 []
full (suc n) = t 2 (full n ∷ full n ∷ [])

abbrev pub with_root : ℕ → LabelTree
with_root c = t c (full 18 ∷ full 18 ∷ [])

-- ---- forms, rules, and types of classes

-- `trans big : N -> N { z() to (z [2000000000 * x]) }`
abbrev pub growing : List Item
growing = number_type ∷ number_item (codes "big") product ∷ []

-- `def back : N := (pre-image big (domain big))`
abbrev pub back : X
back = two PreImage here (x (codes "big")) (one Domain here (x (codes "big")))

abbrev pub back_body : Body
back_body = def (record { name = name (codes "back"); from = name (codes "N"); into = None; value = back })

-- `trans only : B -> B { a() to (a []) }`
abbrev pub single : List Item
single = type_item (ctor (codes "a") 0 ∷ ctor (codes "b") 0 ∷ []) ∷ trans_item (codes "only") (leaf_alone ∷ []) ∷ []

-- `def same : B -> B := only`
abbrev pub same_body : Body
same_body = def (record { name = name (codes "same"); from = name (codes "B"); into = Some (name (codes "B")); value = x (codes "only") })

-- `trans deaf : N -> N { }`
abbrev pub silencing : List Item
silencing = number_type ∷ record { place = here; body = trans (record { name = name (codes "deaf"); from = name (codes "N"); into = name (codes "N"); rules = [] }) } ∷ []

-- `(apply deaf (z [9223372036854775808]))`
abbrev pub far_argument : Body
far_argument = tree_body (codes "N") (two Apply here (x (codes "deaf")) (literal (name (codes "z")) (number here (pos 9223372036854775808) ∷ []) no_x))

-- `type A[]{a(0)}`, `type B[]{b(0)}`, `lang l : A { a() }`, `trans f : B -> A { b() to (a []) }`
abbrev pub mixed : List Item
mixed =
    record { place = here; body = sorts (record { name = name (codes "A"); fields = []; ctors = ctor (codes "a") 0 ∷ [] }) } ∷ type_item (ctor (codes "b") 0 ∷ [])
    ∷ record { place = here; body = lang (record { name = name (codes "l"); of = name (codes "A"); rules = rule (codes "a") [] [] ∷ [] }) }
    ∷ record { place = here; body = trans (record { name = name (codes "f"); from = name (codes "B"); into = name (codes "A"); rules = to (rule (codes "b") [] []) (make (codes "a") []) ∷ [] }) } ∷ []

-- `(complement (pre-image f l))`, a language on B
abbrev pub mixed_complement : X
mixed_complement = one Complement here (two PreImage here (x (codes "f")) (x (codes "l")))

pub record AreNotLegal : Type 0 where
  -- an item with such a composition has no line, and no tree is given to its name
  pub uncomposed : (trees : List Printed) (o : Outcome) → ¬ (IsOutcome copying_items trees both_item o)
  pub not_given : (before after : Given) (lines : List ℕ) → ¬ (IsTreeDone copying_items (codes "both") transformation before lines after)
  pub not_held : (given : Given) (last : List ℕ) → ¬ (TreesEnd copying_items (codes "A") (codes "both") (codes "F") transformation given Hold last)
  -- each of two outputs can be shown, but they can't be listed together
  pub each_output : (c : ℕ) → Contains (2 ∷ 3 ∷ []) c → IsRelated doubling (x (codes "two")) (deep 19) (with_root c) × IsPrintable (with_root c)
  pub together : ¬ (AreOutputs doubling (x (codes "two")) (deep 19) (with_root 2 ∷ with_root 3 ∷ []))
  -- only a composition puts label lists into label lists: no form of the pre-image has a number that is out of range
  pub no_put : (limit : ℕ) (trees : List Printed) (n : ℤ) → ¬ (HasCause growing limit trees back_body (form_number n))
  -- one rule doesn't tell trees apart by meeting itself
  pub one_rule : (trees : List Printed) → ¬ (HasCause single 1 trees same_body (more_classes 1))
  -- a text with a code that is no Unicode scalar can't be shown
  pub no_scalar : ¬ (IsPrintable (trees.node 0 (row (text (55296 ∷ []) ∷ [])) trees.no_trees))
  -- nor can an input whose number isn't kept
  pub far_input : (limit : ℕ) (trees : List Printed) (signature : PlainSignature) → ¬ (HasCause silencing limit trees far_argument (no_output signature (z 9223372036854775808)))
  -- a complement joins classes on its own type alone
  pub other_type : (ds es : LanguageParts) → ¬ (IsPart mixed mixed_complement (codes "A") (class ds es))
