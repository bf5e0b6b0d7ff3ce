-- What fails in an expression, from what fails in its parts.
use Rattle.std.proofs.Common.{◌≡◌, ℕ, suc, List, [], ◌∷◌, ◌++◌, Option, Some, None, length, refl, sym, ap, ap₂, ◌∙◌, append_assoc}
use Rattle.fast_fault.specs.declared.place.Pos.{Pos}
use Rattle.model_program.specs.Syntax.{Name, TypeItem}
use Rattle.model_grammar.specs.declared.Op1.{Op1}
use Rattle.model_grammar.specs.declared.Op2.{Op2}
use Rattle.model_grammar.specs.Syntax.{Expr, X, one, two, literal, Xs, and_x, Item}
use Rattle.model_names.specs.Kinds.{Kind, language, transformation, a_tree, taken_by_one, taken_first, taken_second}
use Rattle.fast_syntax.specs.declared.items.X as code
use Rattle.fast_syntax.specs.Plain.{plain_x}
use Rattle.fast_syntax.specs.Slices.{plain_children}
use Rattle.model_checks.specs.Labels.{labels_failures}
use Rattle.model_checks.specs.Rules.{constructor_failures, label_count_failures, fields_of}
use Rattle.model_checks.specs.Expressions.{nesting_failures, count_xs, type_called, needs_be, wanted_second, expected_as, x_failures, xs_failures}
use Rattle.program_check.specs.Standings.{as_failures, literal_failures}
use Rattle.program_check.specs.Notes.{Noted, LeftOver}
use Rattle.program_check.specs.declared.checker.Checker.{Checker}
use Rattle.program_check.proofs.Noting.{next, same, left_by}

pub xs_counted : (xs : List code.X) → length xs ≡ count_xs (plain_children xs)
xs_counted [] = refl
xs_counted (x ∷ xs) = ap suc (xs_counted xs)

expected_none : (k : Kind) → expected_as k None ≡ None
expected_none language = refl
expected_none transformation = refl
expected_none a_tree = refl

module _ (items before : List Item) where
  -- operands of an operation are inside one more
  operand_is : (around deep : ℕ) (type t : Option (List ℕ)) (k m : Kind) (x y : X) → ((n : Option (List ℕ)) (z : X) → x_failures items before deep n z ≡ x_failures items before (suc around) n z)
      → type ≡ t → k ≡ m → x ≡ y → as_failures items before deep type k x ≡ as_failures items before (suc around) t m y
  operand_is around deep type t k m x y deep_is p q r = (λ i. as_failures items before deep (p i) (q i) (r i)) ∙ ap (λ l. l ++ needs_be items before t m y) (deep_is (expected_as m t) y)

  -- a first operand, whose type is not known before
  first_is : (around deep : ℕ) (k m : Kind) (x y : X) → ((n : Option (List ℕ)) (z : X) → x_failures items before deep n z ≡ x_failures items before (suc around) n z)
      → k ≡ m → x ≡ y → as_failures items before deep None k x ≡ x_failures items before (suc around) None y ++ needs_be items before None m y
  first_is around deep k m x y deep_is q r = operand_is around deep None None k m x y deep_is refl q r ∙ ap (λ n. x_failures items before (suc around) n y ++ needs_be items before None m y) (expected_none m)

  pub one_noted : (op : Op1) (place : Pos) (around deep : ℕ) (e : Option (List ℕ)) (x x1 : X) (k : Kind) (a b c : Checker) → x1 ≡ x → k ≡ taken_by_one op
      → ((n : Option (List ℕ)) (z : X) → x_failures items before deep n z ≡ x_failures items before (suc around) n z)
      → Noted a b (nesting_failures around place) → Noted b c (as_failures items before deep None k x1) → Noted a c (x_failures items before around e (one op place x))
  one_noted op place around deep e x x1 k a b c is k_is deep_is p q = next p (same (first_is around deep k (taken_by_one op) x1 x deep_is k_is is) q)

  pub two_noted : (op : Op2) (place : Pos) (around deep : ℕ) (e wanted : Option (List ℕ)) (x x1 x2 y y1 : X) (k l : Kind) (a b c d : Checker)
      → x1 ≡ x → x2 ≡ x → y1 ≡ y → k ≡ taken_first op → l ≡ taken_second op → wanted ≡ wanted_second items before op x2
      → ((n : Option (List ℕ)) (z : X) → x_failures items before deep n z ≡ x_failures items before (suc around) n z)
      → Noted a b (nesting_failures around place) → Noted b c (as_failures items before deep None k x1) → Noted c d (as_failures items before deep wanted l y1)
      → Noted a d (x_failures items before around e (two op place x y))
  two_noted op place around deep e wanted x x1 x2 y y1 k l a b c d is is2 js k_is l_is wanted_is deep_is p q r =
      let want = wanted_second items before op x in
      let first = x_failures items before (suc around) None x in
      let be = needs_be items before None (taken_first op) x in
      same (ap (λ xs. nesting_failures around place ++ xs) (append_assoc first be (as_failures items before (suc around) want (taken_second op) y)))
      (next p (next (same (first_is around deep k (taken_first op) x1 x deep_is k_is is) q)
      (same (operand_is around deep wanted want l (taken_second op) y1 y deep_is (wanted_is ∙ ap (wanted_second items before op) is2) l_is js) r)))

  pub literal_noted : (around n : ℕ) (e : Option (List ℕ)) (t : Option TypeItem) (name : Name) (labels : List Expr) (xs : Xs) (a b c : Checker) → t ≡ type_called items before e → n ≡ count_xs xs
      → Noted a b (literal_failures t name labels n) → Noted b c (xs_failures items before around e xs) → Noted a c (x_failures items before around e (literal name labels xs))
  literal_noted around n e t name labels xs a b c t_is counted p q =
      let t2 = type_called items before e in
      let ctor = constructor_failures t2 name (count_xs xs) in
      let count = label_count_failures t2 name (length labels) in
      let own = labels_failures (Some []) (fields_of t2) labels in
      let rest = xs_failures items before around e xs in
      same (append_assoc ctor (count ++ own) rest ∙ ap (λ l. ctor ++ l) (append_assoc count own rest)) (next (same (ap₂ (λ u m. literal_failures u name labels m) t_is counted) p) q)

  -- what fails in further children
  xs_failures-append : (around : ℕ) (e : Option (List ℕ)) (xs ys : List code.X) → xs_failures items before around e (plain_children (xs ++ ys)) ≡ xs_failures items before around e (plain_children xs) ++ xs_failures items before around e (plain_children ys)
  xs_failures-append around e [] ys = refl
  xs_failures-append around e (x ∷ xs) ys =
      let own = x_failures items before around e (plain_x x) in
      let be = needs_be items before e a_tree (plain_x x) in
      let first = xs_failures items before around e (plain_children xs) in
      let last = xs_failures items before around e (plain_children ys) in
      ap (λ l. own ++ (be ++ l)) (xs_failures-append around e xs ys) ∙ ap (λ l. own ++ l) (sym (append_assoc be first last)) ∙ sym (append_assoc own (be ++ first) last)

  -- a literal is a tree, of whatever type
  literal_is : (type : Option (List ℕ)) (name : Name) (labels : List Expr) (xs : Xs) → needs_be items before type a_tree (literal name labels xs) ≡ []
  literal_is None name labels xs = refl
  literal_is (Some t) name labels xs = refl

  -- a child that is a literal, whose children wait
  pub literal_child : (around n : ℕ) (e : Option (List ℕ)) (t : Option TypeItem) (x : X) (name : Name) (labels : List Expr) (xs old new : List code.X) (a b : Checker) → t ≡ type_called items before e → n ≡ count_xs (plain_children xs)
      → x ≡ literal name labels (plain_children xs) → new ≡ xs ++ old → Noted a b (literal_failures t name labels n)
      → LeftOver a b (xs_failures items before around e (and_x x (plain_children old))) (xs_failures items before around e (plain_children new))
  literal_child around n e t x name labels xs old new a b t_is counted is more_are p =
      let each = xs_failures items before around e in
      let t2 = type_called items before e in
      let ctor = constructor_failures t2 name (count_xs (plain_children xs)) in
      let count = label_count_failures t2 name (length labels) in
      let own = labels_failures (Some []) (fields_of t2) labels in
      let inside = each (plain_children xs) in
      let later = each (plain_children old) in
      let whole = literal name labels (plain_children xs) in
      left_by (each (plain_children new))
      (ap (λ y. each (and_x y (plain_children old))) is
      ∙ ap (λ l. x_failures items before around e whole ++ (l ++ later)) (literal_is e name labels (plain_children xs))
      ∙ ap (λ l. l ++ later) (ap (λ l. ctor ++ l) (sym (append_assoc count own inside)) ∙ sym (append_assoc ctor (count ++ own) inside))
      ∙ append_assoc (ctor ++ (count ++ own)) inside later
      ∙ ap (λ l. (ctor ++ (count ++ own)) ++ l) (sym (xs_failures-append around e xs old) ∙ ap (λ l. each (plain_children l)) (sym more_are)))
      (same (ap₂ (λ u m. literal_failures u name labels m) t_is counted) p)

  -- any other child
  pub other_child : (around : ℕ) (e : Option (List ℕ)) (x : X) (rest : Xs) (a b : Checker) → Noted a b (as_failures items before around e a_tree x)
      → LeftOver a b (xs_failures items before around e (and_x x rest)) (xs_failures items before around e rest)
  other_child around e x rest a b p =
      left_by (xs_failures items before around e rest) (sym (append_assoc (x_failures items before around e x) (needs_be items before e a_tree x) (xs_failures items before around e rest))) p
