-- Small programs, and what their transformations and languages have.
use Rattle.std.specs.Prelude.{◌≡◌, List, [], ◌∷◌, codes}
use Rattle.model_tree.specs.Tree.{LabelTree}
use Rattle.model_tree.specs.Signature.{HasType}
use Rattle.model_grammar.specs.declared.Op2.TheVariants.{Compose, PreImage}
use Rattle.model_grammar.specs.Syntax.{OutRule, empty, Item}
use Rattle.model_meaning.specs.Meaning.{IsRelated, IsInLanguage, input_type}
use Rattle.model_meaning.specs.Programs.{x, ctor, type_item, demand, rule, to, keep, apply, make, lang_item, trans_item, language_item, complement_item, transformation_item, assert_item, t}

-- ---- a second part that looks at a child of the middle tree, and calls another transformation on the same child

abbrev pub f_rule : OutRule
f_rule = to (rule (codes "c") (codes "x" ∷ []) []) (make (codes "c") (apply (codes "p") (codes "x") ∷ []))

abbrev pub p_rules : List OutRule
p_rules = to (rule (codes "a") [] []) (make (codes "a") []) ∷ to (rule (codes "a") [] []) (make (codes "b") []) ∷ []

abbrev pub g_rule : OutRule
g_rule = to (rule (codes "c") (codes "y" ∷ []) (demand (codes "isA") (codes "y") ∷ [])) (make (codes "d") (apply (codes "r") (codes "y") ∷ []))

abbrev pub r_rules : List OutRule
r_rules = to (rule (codes "a") [] []) (make (codes "a") []) ∷ to (rule (codes "b") [] []) (make (codes "b") []) ∷ []

-- `type B[]{a(0), b(0), c(1), d(1)}`
-- `trans f : B -> B { c(x) to (c [] (p x)) }`
-- `trans p : B -> B { a() to (a []) | a() to (b []) }`
-- `lang isA : B { a() }`
-- `trans g : B -> B { c(y) given (isA y) to (d [] (r y)) }`
-- `trans r : B -> B { a() to (a []) | b() to (b []) }`
-- `def h : B -> B := (compose f g)`
abbrev pub looking : List Item
looking =
    type_item (ctor (codes "a") 0 ∷ ctor (codes "b") 0 ∷ ctor (codes "c") 1 ∷ ctor (codes "d") 1 ∷ [])
    ∷ trans_item (codes "f") (f_rule ∷ [])
    ∷ trans_item (codes "p") p_rules
    ∷ lang_item (codes "isA") (rule (codes "a") [] [] ∷ [])
    ∷ trans_item (codes "g") (g_rule ∷ [])
    ∷ trans_item (codes "r") r_rules
    ∷ transformation_item (codes "h") Compose (codes "f") (codes "g")
    ∷ []

-- ---- a second part that deletes what the first has no output for

abbrev pub pair_rule : OutRule
pair_rule = to (rule (codes "c") (codes "x" ∷ codes "y" ∷ []) []) (make (codes "c") (apply (codes "k") (codes "x") ∷ apply (codes "k") (codes "y") ∷ []))

abbrev pub leaf_rule : OutRule
leaf_rule = to (rule (codes "a") [] []) (make (codes "a") [])

abbrev pub first_rule : OutRule
first_rule = to (rule (codes "c") (codes "x" ∷ codes "y" ∷ []) []) (keep (codes "x"))

-- `type B[]{a(0), b(0), c(2)}`
-- `trans f : B -> B { c(x, y) to (c [] (k x) (k y)) }`
-- `trans k : B -> B { a() to (a []) }`
-- `trans g : B -> B { c(x, y) to x }`
-- `def h : B -> B := (compose f g)`
abbrev pub deleting : List Item
deleting =
    type_item (ctor (codes "a") 0 ∷ ctor (codes "b") 0 ∷ ctor (codes "c") 2 ∷ [])
    ∷ trans_item (codes "f") (pair_rule ∷ [])
    ∷ trans_item (codes "k") (leaf_rule ∷ [])
    ∷ trans_item (codes "g") (first_rule ∷ [])
    ∷ transformation_item (codes "h") Compose (codes "f") (codes "g")
    ∷ []

-- ---- two demands on one child

-- `type B[]{a(0), b(0), c(1)}`
-- `lang pa : B { a() }`
-- `lang pb : B { b() }`
-- `lang w : B { c(x) given (pa x) (pb x) }`
-- `assert-true (is-empty w)`
abbrev pub demanding : List Item
demanding =
    type_item (ctor (codes "a") 0 ∷ ctor (codes "b") 0 ∷ ctor (codes "c") 1 ∷ [])
    ∷ lang_item (codes "pa") (rule (codes "a") [] [] ∷ [])
    ∷ lang_item (codes "pb") (rule (codes "b") [] [] ∷ [])
    ∷ lang_item (codes "w") (rule (codes "c") (codes "x" ∷ []) (demand (codes "pa") (codes "x") ∷ demand (codes "pb") (codes "x") ∷ []) ∷ [])
    ∷ assert_item 5 (empty (x (codes "w")))
    ∷ []

-- ---- a call that is used twice

abbrev pub twice_rule : OutRule
twice_rule = to (rule (codes "c") (codes "x" ∷ []) []) (make (codes "d") (apply (codes "n") (codes "x") ∷ apply (codes "n") (codes "x") ∷ []))

-- `type B[]{a(0), b(0), c(1), d(2)}`
-- `trans n : B -> B { a() to (a []) | a() to (b []) }`
-- `trans k : B -> B { c(x) to (d [] (n x) (n x)) }`
-- `lang m : B { d(x, y) given (isA x) (isB y) }`
-- `lang isA : B { a() }`
-- `lang isB : B { b() }`
-- `def p : B := (pre-image k m)`
abbrev pub calling : List Item
calling =
    type_item (ctor (codes "a") 0 ∷ ctor (codes "b") 0 ∷ ctor (codes "c") 1 ∷ ctor (codes "d") 2 ∷ [])
    ∷ trans_item (codes "n") p_rules
    ∷ trans_item (codes "k") (twice_rule ∷ [])
    ∷ lang_item (codes "m") (rule (codes "d") (codes "x" ∷ codes "y" ∷ []) (demand (codes "isA") (codes "x") ∷ demand (codes "isB") (codes "y") ∷ []) ∷ [])
    ∷ lang_item (codes "isA") (rule (codes "a") [] [] ∷ [])
    ∷ lang_item (codes "isB") (rule (codes "b") [] [] ∷ [])
    ∷ language_item (codes "p") PreImage (codes "k") (codes "m")
    ∷ []

-- ---- definitions inside each other

abbrev pub to_b : OutRule
to_b = to (rule (codes "a") [] []) (make (codes "b") [])

abbrev pub to_a : OutRule
to_a = to (rule (codes "b") [] []) (make (codes "a") [])

abbrev pub inside : OutRule
inside = to (rule (codes "c") (codes "x" ∷ []) []) (make (codes "c") (apply (codes "p") (codes "x") ∷ []))

abbrev pub swapping : List OutRule
swapping = to_b ∷ to_a ∷ inside ∷ []

-- `type B[]{a(0), b(0), c(1)}`
-- `lang pb : B { b() }`
-- `lang w : B { c(x) given (pb x) }`
-- `def n : B := (complement w)`
-- `trans p : B -> B { a() to (b []) | b() to (a []) | c(x) to (c [] (p x)) }`
-- `def q : B := (pre-image p n)`
abbrev pub swapping_program : List Item
swapping_program =
    type_item (ctor (codes "a") 0 ∷ ctor (codes "b") 0 ∷ ctor (codes "c") 1 ∷ [])
    ∷ lang_item (codes "pb") (rule (codes "b") [] [] ∷ [])
    ∷ lang_item (codes "w") (rule (codes "c") (codes "x" ∷ []) (demand (codes "pb") (codes "x") ∷ []) ∷ [])
    ∷ complement_item (codes "n") (codes "w")
    ∷ trans_item (codes "p") swapping
    ∷ language_item (codes "q") PreImage (codes "p") (codes "n")
    ∷ []

-- ---- a rule that demands a definition, as the meaning has it and the checker doesn't

-- `type B[]{a(0), b(0), c(1)}`
-- `lang pb : B { b() }`
-- `def n : B := (complement pb)`
-- `lang v : B { c(x) given (n x) }`
abbrev pub defining : List Item
defining =
    type_item (ctor (codes "a") 0 ∷ ctor (codes "b") 0 ∷ ctor (codes "c") 1 ∷ [])
    ∷ lang_item (codes "pb") (rule (codes "b") [] [] ∷ [])
    ∷ complement_item (codes "n") (codes "pb")
    ∷ lang_item (codes "v") (rule (codes "c") (codes "x" ∷ []) (demand (codes "n") (codes "x") ∷ []) ∷ [])
    ∷ []

pub record HoldOfExamples : Type 0 where
  -- `(d [] (a []))` is the output of the composition on `(c [] (a []))`, and there is no other one: the middle tree that
  -- the second part looks at is the one that it goes on with
  pub one_middle : IsRelated looking (x (codes "h")) (t 2 (t 0 [] ∷ [])) (t 3 (t 0 [] ∷ []))
  pub no_other : (u : LabelTree) → IsRelated looking (x (codes "h")) (t 2 (t 0 [] ∷ [])) u → u ≡ t 3 (t 0 [] ∷ [])
  -- the composition has no output on `(c [] (a []) (b []))`, as there is no middle tree, and `(a [])` on `(c [] (a []) (a []))`
  pub no_middle : (u : LabelTree) → ¬ (IsRelated deleting (x (codes "h")) (t 2 (t 0 [] ∷ t 1 [] ∷ [])) u)
  pub a_middle : IsRelated deleting (x (codes "h")) (t 2 (t 0 [] ∷ t 0 [] ∷ [])) (t 0 [])
  -- no tree is in the language
  pub no_tree : (u : LabelTree) → HasType (input_type demanding (x (codes "w"))) u → ¬ (IsInLanguage demanding (x (codes "w")) u)
  -- the two calls on `a` have outputs of their own, so `(c [] (a []))` is in the pre-image
  pub two_outputs : IsRelated calling (x (codes "k")) (t 2 (t 0 [] ∷ [])) (t 3 (t 0 [] ∷ t 1 [] ∷ []))
  pub in_pre_image : IsInLanguage calling (x (codes "p")) (t 2 (t 0 [] ∷ []))
  -- `(c [] (b []))` has the output `(c [] (a []))`, which is in the complement; that of `(c [] (a []))` is not
  pub in_swapping : IsInLanguage swapping_program (x (codes "q")) (t 2 (t 1 [] ∷ []))
  pub not_in_swapping : ¬ (IsInLanguage swapping_program (x (codes "q")) (t 2 (t 0 [] ∷ [])))
  -- the child `(a [])` is in the complement that the rule demands, and `(b [])` isn't
  pub in_demanded : IsInLanguage defining (x (codes "v")) (t 2 (t 0 [] ∷ []))
  pub not_in_demanded : ¬ (IsInLanguage defining (x (codes "v")) (t 2 (t 1 [] ∷ [])))
