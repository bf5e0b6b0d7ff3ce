-- What an expression is made of: operations and names that give languages and transformations, or trees.
use Rattle.std.specs.Prelude.{◌≡◌, Bool, true, false, ◌&&◌, List}
use Rattle.model_grammar.specs.declared.Op1.{Op1}
use Rattle.model_grammar.specs.declared.Op1.TheVariants.{Complement, Minimize, Domain, GetWitness}
use Rattle.model_grammar.specs.declared.Op2.{Op2}
use Rattle.model_grammar.specs.declared.Op2.TheVariants.{Intersect, Union, Difference, PreImage, Compose, Restrict, RestrictOut, Apply}
use Rattle.model_grammar.specs.Syntax.{X, named, one, two, literal, Xs, no_x, and_x, Claim, equal, member, empty, type_check, Body, sorts, tree, lang, trans, def, assertion, Item}
use Rattle.model_checks.specs.Programs.{is_well_formed}
use Rattle.model_checks.specs.Sound.{StandsIn}

-- the operations that give a language or a transformation
abbrev pub gives_automaton_one : Op1 → Bool
gives_automaton_one Complement = true
gives_automaton_one Minimize = true
gives_automaton_one Domain = true
gives_automaton_one GetWitness = false

abbrev pub gives_automaton_two : Op2 → Bool
gives_automaton_two Intersect = true
gives_automaton_two Union = true
gives_automaton_two Difference = true
gives_automaton_two PreImage = true
gives_automaton_two Compose = true
gives_automaton_two Restrict = true
gives_automaton_two RestrictOut = true
gives_automaton_two Apply = false

-- where a language or a transformation is needed: names, and such operations on these
abbrev pub has_automaton_shape : X → Bool
has_automaton_shape (named n) = true
has_automaton_shape (one op place x) = gives_automaton_one op && has_automaton_shape x
has_automaton_shape (two op place x y) = gives_automaton_two op && (has_automaton_shape x && has_automaton_shape y)
has_automaton_shape (literal name labels xs) = false

-- where a tree is needed: names, trees that are found in such a language, outputs of such a transformation, and literals of these
abbrev mutual
  pub has_tree_shape : X → Bool
  has_tree_shape (named n) = true
  has_tree_shape (one GetWitness place x) = has_automaton_shape x
  has_tree_shape (one Complement place x) = false
  has_tree_shape (one Minimize place x) = false
  has_tree_shape (one Domain place x) = false
  has_tree_shape (two Apply place f x) = has_automaton_shape f && has_tree_shape x
  has_tree_shape (two Intersect place x y) = false
  has_tree_shape (two Union place x y) = false
  has_tree_shape (two Difference place x y) = false
  has_tree_shape (two PreImage place x y) = false
  has_tree_shape (two Compose place x y) = false
  has_tree_shape (two Restrict place x y) = false
  has_tree_shape (two RestrictOut place x y) = false
  has_tree_shape (literal name labels xs) = have_tree_shapes xs

  pub have_tree_shapes : Xs → Bool
  have_tree_shapes no_x = true
  have_tree_shapes (and_x x xs) = has_tree_shape x && have_tree_shapes xs

abbrev pub has_claim_shape : Claim → Bool
has_claim_shape (equal x y) = has_automaton_shape x && has_automaton_shape y
has_claim_shape (member x y) = has_tree_shape x && has_automaton_shape y
has_claim_shape (empty x) = has_automaton_shape x
has_claim_shape (type_check x f y) = has_automaton_shape x && (has_automaton_shape f && has_automaton_shape y)

abbrev pub has_body_shape : Body → Bool
has_body_shape (sorts t) = true
has_body_shape (tree t) = has_tree_shape t.value
has_body_shape (lang l) = true
has_body_shape (trans t) = true
has_body_shape (def d) = has_automaton_shape d.value
has_body_shape (assertion a) = has_claim_shape a.claim

-- each expression of a well-formed program is made of what its place needs
abbrev pub ExpressionsHaveShapes : Type 0
ExpressionsHaveShapes = (items : List Item) → is_well_formed items ≡ true → (item : Item) → StandsIn items item → has_body_shape item.body ≡ true
