-- The expressions of trees that can be evaluated.
use Rattle.std.specs.Prelude.{◌≡◌, ◌<◌, ℕ, Bool, true, false, ◌&&◌, List, [], Some, get_or, is_some, length}
use Rattle.model_tree.specs.Label.{row}
use Rattle.model_tree.specs.Kept.{is_kept_label}
use Rattle.model_tree.specs.Signature.{Sort, PlainSignature, names_of, ranks_of, sorts_of}
use Rattle.model_grammar.specs.declared.Op1.TheVariants.{Complement, Minimize, Domain, GetWitness}
use Rattle.model_grammar.specs.declared.Op2.TheVariants.{Intersect, Union, Difference, PreImage, Compose, Restrict, RestrictOut, Apply}
use Rattle.model_grammar.specs.Syntax.{Expr, X, named, one, two, literal, Xs, no_x, and_x, Item}
use Rattle.model_names.specs.Declared.{find_type}
use Rattle.model_checks.specs.Expressions.{count_xs}
use Rattle.model_meaning.specs.Types.{input_of}
use Rattle.model_meaning.specs.Outputs.{number_named, made_label}
use Rattle.model_meaning.specs.Meaning.{signature_named}
use Rattle.record_label.specs.Maps.{AreOfSorts, forms_in_each}
use Rattle.record_label.specs.Parts.{AreWithin}
use Rattle.fast_eval.specs.Forms.{IsMadeOn, IsMadeFrom, AreKnown, IsTransKnown}
use Rattle.fast_eval.specs.declared.built.Built.{Built}
use Rattle.tree_values.specs.declared.trees.Trees.{Trees}
use Rattle.tree_values.specs.Trees.{tree_at}

-- Expressions without fields, one of each of the sorts, that stay in range: they are the label of a literal.
pub record AreClosed (sorts : List Sort) (labels : List Expr) : Type 0 where
  pub sorted : AreOfSorts [] labels sorts
  pub within : AreWithin (forms_in_each [] labels)
  pub kept : is_kept_label (made_label [] [] labels (row [])) ≡ true

-- the name of a constructor, and a label
pub record IsLabelled (s : PlainSignature) (name : List ℕ) (labels : List Expr) : Type 0 where
  pub named : is_some (number_named (names_of s) name) ≡ true
  pub closed : AreClosed (sorts_of s) labels

-- a constructor of the type with as many children, and a label
pub record IsNodeOf (s : PlainSignature) (name : List ℕ) (labels : List Expr) (count : ℕ) : Type 0 where
  pub number : ℕ
  pub found : number_named (names_of s) name ≡ Some number
  pub low : number < length (ranks_of s)
  pub rank : count ≡ get_or (ranks_of s) number 0
  pub closed : AreClosed (sorts_of s) labels

module _ (items : List Item) where
  abbrev mutual
    -- made of such on the type
    pub IsTreeOn : List ℕ → X → Type 0
    IsTreeOn type (named n) = input_of items n.text ≡ signature_named items (Some type)
    IsTreeOn type (one Complement place x) = ⊥
    IsTreeOn type (one Minimize place x) = ⊥
    IsTreeOn type (one Domain place x) = ⊥
    IsTreeOn type (one GetWitness place x) = IsMadeOn items type x
    IsTreeOn type (two Apply place f x) = (from : List ℕ) × IsMadeFrom items from type f × IsTreeOn from x
    IsTreeOn type (two Intersect place x y) = ⊥
    IsTreeOn type (two Union place x y) = ⊥
    IsTreeOn type (two Difference place x y) = ⊥
    IsTreeOn type (two PreImage place x y) = ⊥
    IsTreeOn type (two Compose place x y) = ⊥
    IsTreeOn type (two Restrict place x y) = ⊥
    IsTreeOn type (two RestrictOut place x y) = ⊥
    IsTreeOn type (literal name labels xs) = (is_some (find_type items type) ≡ true) × IsNodeOf (signature_named items (Some type)) name.text labels (count_xs xs) × AreTreesOn type xs

    pub AreTreesOn : List ℕ → Xs → Type 0
    AreTreesOn type no_x = Unit {0}
    AreTreesOn type (and_x x xs) = IsTreeOn type x × AreTreesOn type xs

module _ (items : List Item) (trees : Trees) (b : Built) where
  abbrev mutual
    -- each name of a tree has one, and the names in languages are known
    pub IsTreeKnown : X → Type 0
    IsTreeKnown (named n) = is_some (tree_at trees n.text) ≡ true
    IsTreeKnown (one op place x) = AreKnown items b x
    IsTreeKnown (two op place f x) = IsTransKnown items b f × IsTreeKnown x
    IsTreeKnown (literal name labels xs) = AreTreesKnown xs

    pub AreTreesKnown : Xs → Type 0
    AreTreesKnown no_x = Unit {0}
    AreTreesKnown (and_x x xs) = IsTreeKnown x × AreTreesKnown xs
