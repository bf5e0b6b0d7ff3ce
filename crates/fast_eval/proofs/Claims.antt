-- What stops the evaluation of an operand stops that of the whole, and of a statement.
use Rattle.std.proofs.Common.{◌≡◌, ℕ, Bool, true, false, List, [], ◌∷◌, Some, Contains, refl, sym, subst}
use Rattle.std.proofs.lemmas.Bool.{or_left, or_right}
use Rattle.std.specs.Prelude.{ℤ}
use Rattle.fast_fault.specs.declared.place.Pos.{Pos}
use Rattle.model_grammar.specs.declared.Op1.{Op1}
use Rattle.model_grammar.specs.declared.Op1.TheVariants.{Complement, Minimize, Domain, GetWitness}
use Rattle.model_grammar.specs.declared.Op2.{Op2}
use Rattle.model_grammar.specs.declared.Op2.TheVariants.{Intersect, Union, Difference, PreImage, Compose, Restrict, RestrictOut, Apply}
use Rattle.model_grammar.specs.Syntax.{X, named, one, two, literal, empty, Item}
use Rattle.model_grammar.specs.Places.{nowhere}
use Rattle.model_names.specs.Kinds.{language, transformation, kind_of}
use Rattle.model_run.specs.Parts.{operands, IsOn, IsFrom}
use Rattle.model_run.specs.Items.{has_classes, judged_empty, judged_claim}
use Rattle.model_layers.specs.Causes.{IsAmong}
use Rattle.model_layers.proofs.Chosen.{first_of, second_of}
use Rattle.model_layers.proofs.Sight.{the_only}
use Rattle.model_layers.specs.Compared.{HasOutside}
use Rattle.model_layers.proofs.Types.{union_on, intersection_on, difference_on, complement_on, minimize_on, domain_on, pre_image_on, restriction_from, out_restriction_from, composition_from}
use Rattle.model_layers.proofs.Wider.{are_among, are_widened}
use Rattle.lin_solve.specs.Shown.{bits_of}
use Rattle.fast_eval.specs.declared.stops.EvalStop.{EvalStop}
use Rattle.fast_eval.specs.declared.stops.EvalStop.TheVariants.{Classes, Wide, Range, Memory}
use Rattle.fast_eval.specs.Forms.{IsMadeOn, IsMadeFrom, joins_two, changes_one}
use Rattle.fast_eval.specs.Stops.{is_operation, IsStopOf, StopsExpression}

mutual
  -- an expression that is made of languages and transformations is a language on its type
  pub made_on : (items : List Item) (type : List ℕ) (x : X) → IsMadeOn items type x → IsOn items x type
  made_on items type (named n) made = made
  made_on items type (one Complement place x) made = complement_on items place x x type (made_on items type x made)
  made_on items type (one Minimize place x) made = minimize_on items place x x type (made_on items type x made)
  made_on items type (one Domain place f) made = domain_on items place f f type made.0 (made_from items type made.0 f made.1)
  made_on items type (one GetWitness place x) made = absurd made
  made_on items type (literal name labels xs) made = absurd made
  made_on items type (two Intersect place x y) made = intersection_on items place x y type (made_on items type x made.0)
  made_on items type (two Union place x y) made = union_on items place x y type (made_on items type x made.0)
  made_on items type (two Difference place x y) made = difference_on items place x y type (made_on items type x made.0)
  made_on items type (two PreImage place f y) made = pre_image_on items place f y type made.0 (made_from items type made.0 f made.1)
  made_on items type (two Compose place x y) made = absurd made
  made_on items type (two Restrict place x y) made = absurd made
  made_on items type (two RestrictOut place x y) made = absurd made
  made_on items type (two Apply place x y) made = absurd made

  -- or a transformation between its types
  pub made_from : (items : List Item) (from into : List ℕ) (x : X) → IsMadeFrom items from into x → IsFrom items x from into
  made_from items from into (named n) made = made
  made_from items from into (one op place x) made = absurd made
  made_from items from into (two Restrict place f y) made = restriction_from items place f y from into (made_from items from into f made.0)
  made_from items from into (two RestrictOut place f y) made = out_restriction_from items place f y from into (made_from items from into f made.0)
  made_from items from into (two Intersect place x y) made = absurd made
  made_from items from into (two Union place x y) made = absurd made
  made_from items from into (two Difference place x y) made = absurd made
  made_from items from into (two PreImage place x y) made = absurd made
  made_from items from into (two Compose place x y) made = let (middle, first, second, can) = made in composition_from items place x y from middle (made_from items from middle x first) into (made_from items middle into y second)
  made_from items from into (two Apply place x y) made = absurd made
  made_from items from into (literal name labels xs) made = absurd made

-- ---- from operands to the whole

-- the operations of which operands are evaluated
abbrev is_evaluated : Op2 → Bool
is_evaluated Intersect = true
is_evaluated Union = true
is_evaluated Difference = true
is_evaluated PreImage = true
is_evaluated Compose = true
is_evaluated Restrict = true
is_evaluated RestrictOut = true
is_evaluated Apply = false

-- those of languages that are made are among them
pub made_evaluated : (items : List Item) (type : List ℕ) (op : Op2) (place : Pos) (x y : X) → IsMadeOn items type (two op place x y) → is_evaluated op ≡ true
made_evaluated items type Intersect place x y made = refl
made_evaluated items type Union place x y made = refl
made_evaluated items type Difference place x y made = refl
made_evaluated items type PreImage place x y made = refl
made_evaluated items type Compose place x y made = absurd made
made_evaluated items type Restrict place x y made = absurd made
made_evaluated items type RestrictOut place x y made = absurd made
made_evaluated items type Apply place x y made = absurd made

module _ (place : Pos) (x y : X) where
  first_has : (op : Op2) → is_evaluated op ≡ true → has_classes x ≡ true → has_classes (two op place x y) ≡ true
  first_has Intersect is e = or_left (has_classes x) (has_classes y) e
  first_has Union is e = or_left (has_classes x) (has_classes y) e
  first_has Difference is e = refl
  first_has PreImage is e = or_left (has_classes x) (has_classes y) e
  first_has Compose is e = refl
  first_has Restrict is e = or_left (has_classes x) (has_classes y) e
  first_has RestrictOut is e = or_left (has_classes x) (has_classes y) e
  first_has Apply is e = absurd (cc)

  second_has : (op : Op2) → is_evaluated op ≡ true → has_classes y ≡ true → has_classes (two op place x y) ≡ true
  second_has Intersect is e = or_right (has_classes x) (has_classes y) e
  second_has Union is e = or_right (has_classes x) (has_classes y) e
  second_has Difference is e = refl
  second_has PreImage is e = or_right (has_classes x) (has_classes y) e
  second_has Compose is e = refl
  second_has Restrict is e = or_right (has_classes x) (has_classes y) e
  second_has RestrictOut is e = or_right (has_classes x) (has_classes y) e
  second_has Apply is e = absurd (cc)

  first_operand : (op : Op2) → is_evaluated op ≡ true → Contains (operands (two op place x y)) x
  first_operand Intersect is = first_of x (y ∷ [])
  first_operand Union is = first_of x (y ∷ [])
  first_operand Difference is = first_of x (y ∷ [])
  first_operand PreImage is = first_of x (y ∷ [])
  first_operand Compose is = first_of x (y ∷ [])
  first_operand Restrict is = first_of x (y ∷ [])
  first_operand RestrictOut is = first_of x (y ∷ [])
  first_operand Apply is = absurd (cc)

  second_operand : (op : Op2) → is_evaluated op ≡ true → Contains (operands (two op place x y)) y
  second_operand Intersect is = second_of x y
  second_operand Union is = second_of x y
  second_operand Difference is = second_of x y
  second_operand PreImage is = second_of x y
  second_operand Compose is = second_of x y
  second_operand Restrict is = second_of x y
  second_operand RestrictOut is = second_of x y
  second_operand Apply is = absurd (cc)

-- those that join languages are among them
pub joined_evaluated : (op : Op2) → joins_two op ≡ true → is_evaluated op ≡ true
joined_evaluated Intersect is = refl
joined_evaluated Union is = refl
joined_evaluated Difference is = refl
joined_evaluated PreImage is = refl
joined_evaluated Compose is = refl
joined_evaluated Restrict is = refl
joined_evaluated RestrictOut is = refl
joined_evaluated Apply is = absurd (cc)

module _ (items : List Item) (most : ℕ) where
  -- what stops some expressions stops all that they are among
  pub widened : (es fs : List X) → ((e : X) → Contains es e → (f : X) × Contains fs f × IsAmong items e f) → (s : EvalStop) → IsStopOf items es most s → IsStopOf items fs most s
  widened es fs among Classes stop = (are_widened items es fs among).trees most stop
  widened es fs among (Wide c) stop = (are_widened items es fs among).wide (bits_of c.width) stop
  widened es fs among (Range n) (e, at, has) = let (f, there, own) = among e at in (f, there, (has.0, own.forms has.0 has.1, has.2))
  widened es fs among Memory stop = tt

  pub of_expression : (x : X) (s : EvalStop) → StopsExpression items x most s → IsStopOf items (x ∷ []) most s
  of_expression x Classes stop = stop.1
  of_expression x (Wide c) stop = stop.1
  of_expression x (Range n) stop = (x, first_of x [], stop.1)
  of_expression x Memory stop = tt

  -- a form of the only expression
  alone : (x : X) (n : ℤ) → IsStopOf items (x ∷ []) most (Range n) → HasOutside items x n
  alone x n (e, at, out) = subst (λ z. HasOutside items z n) (sym (the_only x e at)) out

  -- what stops the evaluation of an operation with one that tells trees apart
  telling : (x : X) (s : EvalStop) → has_classes x ≡ true → is_operation x ≡ true → IsStopOf items (x ∷ []) most s → StopsExpression items x most s
  telling x Classes has more stop = (has, stop)
  telling x (Wide c) has more stop = (has, stop)
  telling x (Range n) has more stop = (more, alone x n stop)
  telling x Memory has more stop = tt

  has_some : (x e : X) (s : EvalStop) → (has_classes x ≡ true → has_classes e ≡ true) → is_operation e ≡ true → StopsExpression items x most s → IsStopOf items (e ∷ []) most s → StopsExpression items e most s
  has_some x e Classes to more stop also = (to stop.0, also)
  has_some x e (Wide c) to more stop also = (to stop.0, also)
  has_some x e (Range n) to more stop also = (more, alone e n also)
  has_some x e Memory to more stop also = tt

  -- of an operand
  by_operand : (x e : X) → Contains (operands e) x → (s : EvalStop) → IsStopOf items (x ∷ []) most s → IsStopOf items (e ∷ []) most s
  by_operand x e at = widened (x ∷ []) (e ∷ []) (λ z here. (e, first_of e [], subst (λ w. IsAmong items w e) (the_only x z here) ((are_among items).operand e x at)))

  pub first_stops : (op : Op2) (place : Pos) (x y : X) → is_evaluated op ≡ true → (s : EvalStop) → StopsExpression items x most s → StopsExpression items (two op place x y) most s
  first_stops op place x y is s stop = has_some x (two op place x y) s (first_has place x y op is) refl stop (by_operand x (two op place x y) (first_operand place x y op is) s (of_expression x s stop))

  pub second_stops : (op : Op2) (place : Pos) (x y : X) → is_evaluated op ≡ true → (s : EvalStop) → StopsExpression items y most s → StopsExpression items (two op place x y) most s
  second_stops op place x y is s stop = has_some y (two op place x y) s (second_has place x y op is) refl stop (by_operand y (two op place x y) (second_operand place x y op is) s (of_expression y s stop))

  -- of the operand of an operation on one
  pub domain_stops : (place : Pos) (f : X) (s : EvalStop) → StopsExpression items f most s → StopsExpression items (one Domain place f) most s
  domain_stops place f s stop = has_some f (one Domain place f) s (λ e. e) refl stop (by_operand f (one Domain place f) (first_of f []) s (of_expression f s stop))

  only_has : (op : Op1) (place : Pos) (x : X) → changes_one op ≡ true → has_classes (one op place x) ≡ true
  only_has Complement place x is = refl
  only_has Minimize place x is = refl
  only_has Domain place x is = absurd (cc)
  only_has GetWitness place x is = refl

  pub only_tells : (op : Op1) (place : Pos) (x : X) → changes_one op ≡ true → (s : EvalStop) → IsStopOf items (x ∷ []) most s → StopsExpression items (one op place x) most s
  only_tells op place x is s stop = telling (one op place x) s (only_has op place x is) refl (by_operand x (one op place x) (first_of x []) s stop)

  pub only_stops : (op : Op1) (place : Pos) (x : X) → changes_one op ≡ true → (s : EvalStop) → StopsExpression items x most s → StopsExpression items (one op place x) most s
  only_stops op place x is s stop = only_tells op place x is s (of_expression x s stop)

  pub any_stops : (type : List ℕ) (op : Op1) (place : Pos) (x : X) → IsMadeOn items type (one op place x) → (s : EvalStop) → StopsExpression items x most s → StopsExpression items (one op place x) most s
  any_stops type Complement place x made = only_stops Complement place x refl
  any_stops type Minimize place x made = only_stops Minimize place x refl
  any_stops type Domain place x made = domain_stops place x
  any_stops type GetWitness place x made = absurd made

  -- of the second operand of a difference
  pub second_tells : (place : Pos) (x y : X) (s : EvalStop) → IsStopOf items (y ∷ []) most s → StopsExpression items (two Difference place x y) most s
  second_tells place x y s stop = telling (two Difference place x y) s refl refl (by_operand y (two Difference place x y) (second_of x y) s stop)

  -- ---- statements

  pub empty_stops : (x : X) → kind_of items x ≡ Some language → (s : EvalStop) → IsStopOf items (x ∷ []) most s → IsStopOf items (judged_claim items (empty x)) most s
  empty_stops x kind s stop = subst (λ k. IsStopOf items (judged_empty k x ∷ []) most s) (sym kind) stop

  pub empty_operand_stops : (x : X) → kind_of items x ≡ Some language → (s : EvalStop) → StopsExpression items x most s → IsStopOf items (judged_claim items (empty x)) most s
  empty_operand_stops x kind s stop = empty_stops x kind s (of_expression x s stop)

  -- a transformation is judged by its domain
  pub giving_stops : (f : X) → kind_of items f ≡ Some transformation → (s : EvalStop) → IsStopOf items (one Domain nowhere f ∷ []) most s → IsStopOf items (judged_claim items (empty f)) most s
  giving_stops f kind s stop = subst (λ k. IsStopOf items (judged_empty k f ∷ []) most s) (sym kind) stop

  pub giving_operand_stops : (f : X) → kind_of items f ≡ Some transformation → (s : EvalStop) → StopsExpression items f most s → IsStopOf items (judged_claim items (empty f)) most s
  giving_operand_stops f kind s stop = giving_stops f kind s (of_expression (one Domain nowhere f) s (domain_stops nowhere f s stop))

  pub first_side_stops : (x y : X) (s : EvalStop) → StopsExpression items x most s → IsStopOf items (x ∷ y ∷ []) most s
  first_side_stops x y s stop = widened (x ∷ []) (x ∷ y ∷ []) (λ z here. (x, first_of x (y ∷ []), subst (λ w. IsAmong items w x) (the_only x z here) ((are_among items).same x))) s (of_expression x s stop)

  pub second_side_stops : (x y : X) (s : EvalStop) → StopsExpression items y most s → IsStopOf items (x ∷ y ∷ []) most s
  second_side_stops x y s stop = widened (y ∷ []) (x ∷ y ∷ []) (λ z here. (y, second_of x y, subst (λ w. IsAmong items w y) (the_only y z here) ((are_among items).same y))) s (of_expression y s stop)
