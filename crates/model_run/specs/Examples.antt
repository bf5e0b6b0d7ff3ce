-- Lines, causes and reports of small programs.
use Rattle.std.specs.Prelude.{◌≡◌, ℕ, pos, true, false, List, [], ◌∷◌, Some, None, codes}
use Rattle.fast_fault.specs.declared.place.Pos.{Pos}
use Rattle.fast_fault.specs.declared.code.Code.TheVariants.{UnknownName}
use Rattle.fast_fault.specs.declared.status.Status.TheVariants.{Hold}
use Rattle.model_tree.specs.Label.{whole, row}
use Rattle.model_tree.specs.Tree.{trees_of, LabelTree}
use Rattle.model_tree.specs.Tree as trees
use Rattle.model_tree.specs.Signature.{PlainSignature}
use Rattle.model_grammar.specs.declared.Chain.TheVariants.{Product, Sum, Conjunction}
use Rattle.model_grammar.specs.declared.Op1.TheVariants.{GetWitness, Minimize}
use Rattle.model_grammar.specs.declared.Op2.TheVariants.{Apply, Compose}
use Rattle.model_grammar.specs.Syntax.{Expr, field, number, chain, no_parts, part, X, one, two, literal, no_x, node, no_out, Rule, OutRule, Body, sorts, tree, trans, def, Item, compare, lang}
use Rattle.model_grammar.specs.declared.Rel.TheVariants.{Less, Greater}
use Rattle.model_run.specs.Seen.{HasFarLabel}
use Rattle.model_meaning.specs.Types.{signature_at}
use Rattle.model_meaning.specs.Programs.{here, name, x, ctor, type_item, demand, rule, to, apply, make, lang_item, trans_item, t}
use Rattle.model_meaning.specs.Related.{looking, demanding}
use Rattle.model_run.specs.Causes.{Uncomposable, more_classes, too_wide, form_number, label_number, not_composable, empty_language, no_output, two_outputs, too_much, too_large, HasCause, TreeHasCause}
use Rattle.model_sta.specs.Loads.{outputs}
use Rattle.model_run.specs.Outcomes.{tree_line, minimal_line, true_verdict, tree_verdict, line_of}
use Rattle.model_run.specs.Lines.{name_line, stop_line, outputs_lines, inside_line, outside_line}
use Rattle.model_run.specs.Generator.{self_text}
use Rattle.model_run.specs.Scripts.{whole, Writes}
use Rattle.model_run.specs.Report.{items_script}

-- ---- lines

abbrev at : ℕ → ℕ → Pos
at line column = record { line = line; column = column }

-- `type B[]{a(0), b(0), c(1), d(1)}`
abbrev b_type : PlainSignature
b_type = signature_at looking (name (codes "B"))

-- `(a [])`
abbrev a : LabelTree
a = t 0 []

pub record LinesAre : Type 0 where
  pub a_tree : line_of (tree_line (codes "t") b_type (t 2 (a ∷ []))) ≡ codes "tree t (c [] (a []))\n"
  pub minimal : line_of (minimal_line (codes "ev") 2) ≡ codes "minimal ev 2\n"
  pub passes : line_of (true_verdict 11 true) ≡ codes "assert 11 pass\n"
  pub fails : line_of (tree_verdict 13 false b_type a) ≡ codes "assert 13 fail (a [])\n"
  pub classes : stop_line (more_classes 4) (codes "A") (at 7 1) ≡ codes "refused 30 Classes at A:7:1 4\n"
  pub width : stop_line (too_wide 64) (codes "A") (at 3 1) ≡ codes "refused 31 Width at A:3:1 64\n"
  pub form_range : stop_line (form_number (pos 4000000000000000000)) (codes "A") (at 3 1) ≡ codes "refused 32 FormRange at A:3:1 4000000000000000000\n"
  pub label_range : stop_line (label_number (pos 9223372036854775808)) (codes "F") (at 1 1) ≡ codes "refused 33 LabelRange at F:1:1 9223372036854775808\n"
  pub composable : stop_line (not_composable (record { signature = b_type; tree = a; name = codes "pick"; first = 0; second = 1; copier = codes "copy"; copying = 2 })) (codes "A") (at 4 1)
      ≡ codes "refused 34 NotComposable at A:4:1 (a []) pick 1 2 copy 3\n"
  pub language : stop_line empty_language (codes "A") (at 5 1) ≡ codes "refused 35 EmptyLanguage at A:5:1\n"
  pub two_found : stop_line (two_outputs b_type a b_type a (t 1 [])) (codes "A") (at 8 1) ≡ codes "refused 36 OutputCount at A:8:1 2 (a []) (a []) (b [])\n"
  pub none_found : stop_line (no_output b_type (t 1 [])) (codes "A") (at 8 1) ≡ codes "refused 36 OutputCount at A:8:1 0 (b [])\n"
  pub load : stop_line (too_much outputs) (codes "F") (at 1 1) ≡ codes "refused 37 Outputs at F:1:1 outputs\n"
  pub size : stop_line too_large (codes "A") (at 23 1) ≡ codes "refused 38 TreeSize at A:23:1\n"
  pub word : name_line UnknownName ≡ codes "refused 13 UnknownName at word 3\n"
  pub two_outputs : outputs_lines b_type 1 (a ∷ t 1 [] ∷ []) ≡ codes "input 1 outputs 2\noutput (a [])\noutput (b [])\n"
  pub inside : inside_line 1 ≡ codes "input 1 yes\n"
  pub outside : outside_line 2 ≡ codes "input 2 no\n"
  pub generated : self_text 1
      ≡ codes "type L[i : Int]{nil(0), cons(1)}\nlang all : L { nil() | cons(y) given (all y) }\nlang m1 : L { nil() | cons(y) where i % 2 = 0 given (m1 y) }\ntrans t1 : L -> L { nil() to (nil [0]) | cons(y) to (cons [(i + 1) % 2] (t1 y)) }\ntrans f1 : L -> L { nil() to (nil [0]) | cons(y) where i % 2 = 0 to (cons [i] (f1 y)) | cons(y) where i % 2 != 0 to (f1 y) }\ndef d1 : L -> L := (compose t1 f1)\nassert-true (type-check all f1 m1)\nassert-true (type-check all d1 m1)\nassert-false (is-empty d1)\nassert-false m1 == all\n"

-- ---- causes

abbrev pub tree_body : List ℕ → X → Body
tree_body of value = tree (record { name = name (codes "t"); of = name of; value = value })

-- `type N[x : Int]{z(0)}`
abbrev pub number_type : Item
number_type = record { place = here; body = sorts (record { name = name (codes "N"); fields = record { name = name (codes "x"); sort = name (codes "Int") } ∷ []; ctors = ctor (codes "z") 0 ∷ [] }) }

-- `z() to (z [..])`
abbrev pub number_rule : Expr → OutRule
number_rule label = to (rule (codes "z") [] []) (node (name (codes "z")) (label ∷ []) no_out)

abbrev pub number_item : List ℕ → Expr → Item
number_item text label = record { place = here; body = trans (record { name = name text; from = name (codes "N"); into = name (codes "N"); rules = number_rule label ∷ [] }) }

-- `2000000000 * x` and `x + 1`
abbrev pub product : Expr
product = chain Product here (part false (number here (pos 2000000000)) (part false (field here (codes "x")) no_parts))

abbrev pub sum : Expr
sum = chain Sum here (part false (field here (codes "x")) (part false (number here (pos 1)) no_parts))

-- `trans big : N -> N { z() to (z [2000000000 * x]) }` and `def sq : N -> N := (compose big big)`
abbrev pub big_square : X
big_square = two Compose here (x (codes "big")) (x (codes "big"))

abbrev pub square_body : Body
square_body = def (record { name = name (codes "sq"); from = name (codes "N"); into = Some (name (codes "N")); value = big_square })

abbrev pub multiplying : List Item
multiplying = number_type ∷ number_item (codes "big") product ∷ record { place = here; body = square_body } ∷ []

-- `trans inc : N -> N { z() to (z [x + 1]) }`
abbrev pub adding : List Item
adding = number_type ∷ number_item (codes "inc") sum ∷ []

-- `(z [..])`
abbrev pub z : ℕ → LabelTree
z n = trees.node 0 (row (whole (pos n) ∷ [])) trees.no_trees

-- `trans pick : B -> B { a() to (a []) | a() to (b []) | c(x) to (c [] (pick x)) }`
-- `trans copy : B -> B { a() to (a []) | b() to (b []) | c(x) to (d [] (copy x) (copy x)) }`
abbrev pub pick_rules : List OutRule
pick_rules = to (rule (codes "a") [] []) (make (codes "a") []) ∷ to (rule (codes "a") [] []) (make (codes "b") []) ∷ to (rule (codes "c") (codes "x" ∷ []) []) (make (codes "c") (apply (codes "pick") (codes "x") ∷ [])) ∷ []

abbrev pub twice_rule : OutRule
twice_rule = to (rule (codes "c") (codes "x" ∷ []) []) (make (codes "d") (apply (codes "copy") (codes "x") ∷ apply (codes "copy") (codes "x") ∷ []))

abbrev pub copy_rules : List OutRule
copy_rules = to (rule (codes "a") [] []) (make (codes "a") []) ∷ to (rule (codes "b") [] []) (make (codes "b") []) ∷ twice_rule ∷ []

-- `def both : B -> B := (compose pick copy)`
abbrev pub both : X
both = two Compose here (x (codes "pick")) (x (codes "copy"))

abbrev pub both_body : Body
both_body = def (record { name = name (codes "both"); from = name (codes "B"); into = Some (name (codes "B")); value = both })

abbrev pub copying_items : List Item
copying_items =
    type_item (ctor (codes "a") 0 ∷ ctor (codes "b") 0 ∷ ctor (codes "c") 1 ∷ ctor (codes "d") 2 ∷ []) ∷ trans_item (codes "pick") pick_rules ∷ trans_item (codes "copy") copy_rules
    ∷ record { place = here; body = both_body } ∷ []

-- the rules 1 and 2 of pick, and rule 3 of copy
abbrev pub pick_and_copy : Uncomposable
pick_and_copy = record { signature = signature_at copying_items (name (codes "B")); tree = a; name = codes "pick"; first = 0; second = 1; copier = codes "copy"; copying = 2 }

-- `cons(y) given (.. y)`
abbrev pub behind : List ℕ → Rule
behind language = rule (codes "cons") (codes "y" ∷ []) (demand language (codes "y") ∷ [])

-- `lang m0 : B { nil() | cons(y) given (m4 y) }`, and for the numbers from 1 to 4 `lang m1 : B { cons(y) given (m0 y) }`
abbrev pub cycling : List Item
cycling =
    type_item (ctor (codes "nil") 0 ∷ ctor (codes "cons") 1 ∷ []) ∷ lang_item (codes "m0") (rule (codes "nil") [] [] ∷ behind (codes "m4") ∷ []) ∷ lang_item (codes "m1") (behind (codes "m0") ∷ [])
    ∷ lang_item (codes "m2") (behind (codes "m1") ∷ []) ∷ lang_item (codes "m3") (behind (codes "m2") ∷ []) ∷ lang_item (codes "m4") (behind (codes "m3") ∷ []) ∷ []

-- `def d : B := (minimize m0)`
abbrev pub minimal_body : Body
minimal_body = def (record { name = name (codes "d"); from = name (codes "B"); into = None; value = one Minimize here (x (codes "m0")) })

pub record HaveCauses : Type 0 where
  -- five lists, each two of them told apart, where the limit is four
  pub classes : HasCause cycling 4 [] minimal_body (more_classes 4)
  -- two rules meet at `(a [])`, and the second part copies
  pub uncomposable : HasCause copying_items 1000 [] both_body (not_composable pick_and_copy)
  -- no tree is in the language of which one is to be found
  pub language : HasCause demanding 1000 [] (tree_body (codes "B") (one GetWitness here (x (codes "w")))) empty_language
  -- two outputs where one is needed, and none
  pub two_found : HasCause looking 1000 [] (tree_body (codes "B") (two Apply here (x (codes "p")) (literal (name (codes "a")) [] no_x))) (two_outputs b_type a b_type a (t 1 []))
  pub none_found : HasCause looking 1000 [] (tree_body (codes "B") (two Apply here (x (codes "p")) (literal (name (codes "b")) [] no_x))) (no_output b_type (t 1 []))
  -- a coefficient of the form that one label has with the other put in
  pub form_range : HasCause multiplying 1000 [] square_body (form_number (pos 4000000000000000000))
  -- an output's number has not 64 bits
  pub label_range : TreeHasCause adding (x (codes "inc")) (z 9223372036854775807) (label_number (pos 9223372036854775808))

-- ---- labels that are far from the kept ones

-- `x > 9223372036854775807` and `x > 9223372036854775807 and x < 0`
abbrev pub is_big : Expr
is_big = compare here Greater (field here (codes "x")) (number here (pos 9223372036854775807))

abbrev pub is_neither : Expr
is_neither = chain Conjunction here (part false is_big (part false (compare here Less (field here (codes "x")) (number here (pos 0))) no_parts))

-- `lang p : N { z() where .. }`
abbrev pub guarded : Expr → List Item
guarded e =
    number_type ∷ record { place = here; body = lang (record { name = name (codes "p"); of = name (codes "N"); rules = record { ctor = name (codes "z"); vars = []; guard = Some e; given = [] } ∷ [] }) } ∷ []

pub record AreFar : Type 0 where
  -- the first number outside 64 bits is big, and no kept one is
  pub big : HasFarLabel (guarded is_big) (x (codes "p") ∷ []) (codes "N")
  -- no number is big and negative, so each is as the kept ones
  pub neither : ¬ (HasFarLabel (guarded is_neither) (x (codes "p") ∷ []) (codes "N"))

-- ---- a report

-- the program whose last item is `assert-true (is-empty w)`
abbrev pub IsReported : Type 0
IsReported = Writes (items_script demanding 1000 (codes "A")) (whole Hold) (codes "assert 5 pass\n")
