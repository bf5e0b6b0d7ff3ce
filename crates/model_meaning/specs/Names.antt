-- What names mean: the trees of a language, and the outputs of a transformation, by the rules of the name or by what its definition means.
use Rattle.std.specs.Prelude.{◌≡◌, ℕ, Bool, true, false, List, [], ◌∷◌, Option, Some, None}
use Rattle.std.specs.List.{Contains}
use Rattle.model_tree.specs.Label.{Label}
use Rattle.model_tree.specs.Tree.{node, Trees, no_trees, tree, LabelTree}
use Rattle.model_tree.specs.Signature.{PlainSignature}
use Rattle.model_program.specs.Syntax.{Name, Demand}
use Rattle.model_grammar.specs.Syntax.{X, Rule, OutRule, Item}
use Rattle.model_names.specs.Declared.{same_text, rules_of, out_rules_of}
use Rattle.model_meaning.specs.Types.{input_of, output_of}
use Rattle.model_meaning.specs.Languages.{heads}
use Rattle.model_meaning.specs.Outputs.{Use, unchanged, output_by, IsInstance}
use Rattle.model_meaning.specs.Reached.{definition_of}

-- What the definitions of a program are taken to mean: of each name a language, and a relation.
pub record Definitions : Type 1 where
  pub Has : List ℕ → LabelTree → Type 0
  pub Links : List ℕ → LabelTree → LabelTree → Type 0

-- one of two, by whether a name is a definition's
abbrev pub OfName : Option X → Type 0 → Type 0 → Type 0
OfName (Some x) A B = A
OfName None A B = B

abbrev pub If : Bool → Type 0 → Type 0 → Type 0
If true A B = A
If false A B = B

module _ (items : List Item) (D : Definitions) where
  abbrev mutual
    -- The tree is in the language of the name: by D, where it is a definition's. Otherwise some rule of it has the tree's
    -- constructor, its guard holds of the label, and the children are in what it demands of them.
    pub IsIn : List ℕ → LabelTree → Type 0
    IsIn n (node c l ts) = OfName (definition_of items n) (D.Has n (node c l ts)) ((r : Rule) × Contains (rules_of items n) r × (heads (input_of items n) r c l ≡ true) × AreIn ts r.vars r.given)

    -- Each child is in every language that is demanded of its variable.
    pub AreIn : Trees Label → List Name → List Demand → Type 0
    AreIn no_trees vars given = Unit {0}
    AreIn (tree t ts) [] given = Unit {0}
    AreIn (tree t ts) (v ∷ vars) given = ((d : Demand) → Contains given d → same_text d.child.text v.text ≡ true → IsIn d.language.text t) × AreIn ts vars given

  -- A rule applies to a tree of this type where it has its constructor, its guard holds of the label, and the children are
  -- in what it demands of them.
  abbrev pub AppliesBy : PlainSignature → Rule → LabelTree → Type 0
  AppliesBy signature r (node c l ts) = (heads signature r c l ≡ true) × AreIn ts r.vars r.given

  abbrev mutual
    -- A tree gives itself unchanged. A transformation gives what it does by D, where it is a definition's; otherwise each
    -- instance of the term of each rule of it that applies to the tree.
    pub Gives : Use → LabelTree → LabelTree → Type 0
    Gives unchanged (node c l ts) u = u ≡ node c l ts
    Gives (output_by q) (node c l ts) u =
        OfName (definition_of items q) (D.Links q (node c l ts) u) (
        (r : OutRule) × Contains (out_rules_of items q) r × AppliesBy (input_of items q) r.rule (node c l ts)
        × IsInstance (input_of items q) (output_of items q) (λ how y v. ChildGives how y r.rule.vars ts v) l r.out u)

    -- the same of the child that a variable names
    pub ChildGives : Use → List ℕ → List Name → Trees Label → LabelTree → Type 0
    ChildGives how y vars no_trees u = ⊥
    ChildGives how y [] (tree t ts) u = ⊥
    ChildGives how y (v ∷ vars) (tree t ts) u = If (same_text v.text y) (Gives how t u) (ChildGives how y vars ts u)
