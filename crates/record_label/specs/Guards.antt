-- Guards over labels of a type: what the formula of an expression says, and of what it is made.
use Rattle.std.specs.Prelude.{◌≡◌, Bool, true, false, ◌&&◌, cond, List, [], ◌∷◌, ◌++◌, map, Contains, Option, Some, None, Result, MatchResult}
use Rattle.model_tree.specs.Label.{Field, row}
use Rattle.model_tree.specs.Signature.{PlainField, sort_of, wholes, truths, texts}
use Rattle.model_tree.specs.Formula.{Formula, Formulas, yes, no, atom, negation, all_of, some_of, formula, formulas_of, no_formulas, formula_holds, EveryAtom}
use Rattle.model_grammar.specs.declared.Rel.{Rel}
use Rattle.model_grammar.specs.declared.Rel.TheVariants.{Equal, NotEqual, Less, AtMost, Greater, AtLeast}
use Rattle.model_grammar.specs.declared.Chain.TheVariants.{Disjunction, Conjunction, Sum, Product}
use Rattle.model_grammar.specs.Syntax.{Expr, field, number, text, truth, compare, minus, chain, Parts, no_parts, part}
use Rattle.model_grammar.specs.Syntax as syntax
use Rattle.model_label.specs.Fields.{has_field, number_at}
use Rattle.model_label.specs.Meaning.{value_of, same_value, is_true}
use Rattle.model_label.specs.Tests.{is_text}
use Rattle.model_form.specs.Form.{Form}
use Rattle.model_guard.specs.Forms.{form_of, forms_in, HasOutside}
use Rattle.lin_form.specs.declared.stop.FormStop.{FormStop}
use Rattle.lin_form.specs.Stops.{StopsAt}
use Rattle.label_core.specs.Formula.{plain_formula}
use Rattle.label_core.specs.declared.formula.Formula as code
use Rattle.label_core.specs.declared.pair.PairAtom.TheVariants.{Left, Right}
use Rattle.flat_label.specs.declared.texts.TextAtom.{TextAtom}
use Rattle.flat_label.specs.declared.texts.TextSide.{TextSide}
use Rattle.flat_label.specs.declared.texts.TextSide.TheVariants as side
use Rattle.lin_solve.specs.declared.compare.Compare.{Compare}
use Rattle.lin_solve.specs.declared.compare.Relation.{Relation}
use Rattle.lin_solve.specs.declared.compare.Relation.TheVariants as relation
use Rattle.model_chain.specs.Literals as plain
use Rattle.model_guard.specs.Compares.{comparison}
use Rattle.record_label.specs.Rows.{RowAtom, row_holds, RowFits}

-- the comparison as the theory of whole numbers has it
abbrev pub relation_of : plain.Relation → Relation
relation_of plain.less = relation.Less
relation_of plain.at_most = relation.AtMost
relation_of plain.equal = relation.Equal

abbrev pub compare_of : plain.Compare → Compare
compare_of c = record { left = c.left; relation = relation_of c.relation; right = c.right }

module _ (fields : List PlainField) where
  -- whether an expression is written as a whole number
  abbrev pub is_numeric : Expr → Bool
  is_numeric (field place name) = has_field fields wholes name
  is_numeric (number place n) = true
  is_numeric (text place t) = false
  is_numeric (truth place b) = false
  is_numeric (syntax.negation place e) = false
  is_numeric (compare place rel a b) = false
  is_numeric (minus place e) = true
  is_numeric (chain Disjunction place parts) = false
  is_numeric (chain Conjunction place parts) = false
  is_numeric (chain Sum place parts) = true
  is_numeric (chain Product place parts) = true

  -- the side that a text is: a field by its number among the texts, or a constant
  abbrev pub side_of : Expr → TextSide
  side_of (field place name) = side.Field (number_at fields texts name)
  side_of (number place n) = side.Constant []
  side_of (text place t) = side.Constant t
  side_of (truth place b) = side.Constant []
  side_of (syntax.negation place e) = side.Constant []
  side_of (compare place rel a b) = side.Constant []
  side_of (minus place e) = side.Constant []
  side_of (chain kind place parts) = side.Constant []

  abbrev mutual
    -- what is written in an expression: the fields that are truth values, and the comparisons of whole numbers and of texts
    pub written_in : Expr → List RowAtom
    written_in (field place name) = Right (Left (record { field = number_at fields truths name })) ∷ []
    written_in (number place n) = []
    written_in (text place t) = []
    written_in (truth place b) = []
    written_in (syntax.negation place e) = written_in e
    written_in (compare place rel a b) = cond (is_numeric a) (Left (compare_of (comparison rel (form_of fields a) (form_of fields b))) ∷ []) (cond (is_text fields a) (Right (Right (record { left = side_of a; right = side_of b })) ∷ []) (written_in a ++ written_in b))
    written_in (minus place e) = []
    written_in (chain kind place parts) = written_in_all parts

    pub written_in_all : Parts → List RowAtom
    written_in_all no_parts = []
    written_in_all (part marked e parts) = written_in e ++ written_in_all parts

-- the comparison of two texts
abbrev pub comparison_of : List PlainField → Expr → Expr → Option TextAtom
comparison_of fields a b = cond (is_text fields a && is_text fields b) (Some (record { left = side_of fields a; right = side_of fields b })) None

abbrev pub written_in_both : List PlainField → Expr → Expr → List RowAtom
written_in_both fields a b = cond (is_text fields a) (Right (Right (record { left = side_of fields a; right = side_of fields b })) ∷ []) (written_in fields a ++ written_in fields b)

-- two formulas as the parts of one
abbrev pub pair_of : Formula RowAtom → Formula RowAtom → Formulas RowAtom
pair_of f g = formula f (formula g no_formulas)

-- both hold, or neither does
abbrev pub agreement_of : Formula RowAtom → Formula RowAtom → Formula RowAtom
agreement_of f g = some_of (pair_of (all_of (pair_of f g)) (negation (some_of (pair_of f g))))

-- what a comparison asks for, by the formula that says that its two sides are the same
abbrev pub compared_by : Rel → Formula RowAtom → Formula RowAtom
compared_by Equal f = f
compared_by NotEqual f = negation f
compared_by Less f = f
compared_by AtMost f = f
compared_by Greater f = f
compared_by AtLeast f = f

-- a comparison of two whole numbers
abbrev pub compared_by_forms : Rel → Form → Form → Formula RowAtom
compared_by_forms rel f g = compared_by rel (atom (Left (compare_of (comparison rel f g))))

-- The formula holds of each label of the type exactly where the test does, whatever the theory; its atoms are written ones, and speak of fields that there are.
pub record IsGuard (fields : List PlainField) (test : List Field → Bool) (written : List RowAtom) (f : Formula RowAtom) : Type 0 where
  pub holds : (values : List Field) → map sort_of values ≡ map (λ x. x.sort) fields → formula_holds (λ a. row_holds a (row values)) f ≡ test values
  pub atoms : EveryAtom (Contains written) f
  pub fit : EveryAtom (RowFits (map (λ x. x.sort) fields)) f

-- the guard that an expression is
abbrev pub IsGuardOf : List PlainField → Expr → Formula RowAtom → Type 0
IsGuardOf fields e f = IsGuard fields (λ values. is_true fields values e) (written_in fields e) f

-- the guard that two tests, or two texts, are the same
abbrev pub IsEqualityOf : List PlainField → Expr → Expr → Formula RowAtom → Type 0
IsEqualityOf fields a b f = IsGuard fields (λ values. same_value (value_of fields values a) (value_of fields values b)) (written_in_both fields a b) f

-- what a comparison of others than whole numbers asks for: of two texts, or of two tests with these formulas
abbrev pub compared_as : Rel → Option TextAtom → Formula RowAtom → Formula RowAtom → Formula RowAtom
compared_as rel None f g = compared_by rel (agreement_of f g)
compared_as rel (Some a) f g = compared_by rel (atom (Right (Right a)))

-- all of the formulas, or one of them
abbrev pub joined_of : Bool → List (Formula RowAtom) → Formula RowAtom
joined_of true fs = all_of (formulas_of fs)
joined_of false fs = some_of (formulas_of fs)

-- what a comparison asks for, where its sides have these formulas if they are tests
abbrev pub compared_in : List PlainField → Rel → Expr → Expr → Formula RowAtom → Formula RowAtom → Formula RowAtom
compared_in fields rel a b f g = cond (is_numeric fields a) (compared_by_forms rel (form_of fields a) (form_of fields b)) (compared_as rel (comparison_of fields a b) f g)

-- that, or a stop at a form of the sides, if it takes no formulas of tests, and else nothing
abbrev pub SaysAlone : List PlainField → Rel → Expr → Expr → Option (Result (code.Formula RowAtom) FormStop) → Type 0
SaysAlone fields rel a b None = (f g : Formula RowAtom) → compared_in fields rel a b f g ≡ compared_by rel (agreement_of f g)
SaysAlone fields rel a b (Some result) = MatchResult result (λ made. (f g : Formula RowAtom) → plain_formula made ≡ compared_in fields rel a b f g) (StopsAt (HasOutside (forms_in fields a ++ forms_in fields b)))

module _ (fields : List PlainField) where
  abbrev mutual
    -- the formula of an expression, which is its guard where the expression is one
    pub formula_in : Expr → Formula RowAtom
    formula_in (field place name) = atom (Right (Left (record { field = number_at fields truths name })))
    formula_in (number place n) = no
    formula_in (text place t) = no
    formula_in (truth place b) = cond b yes no
    formula_in (syntax.negation place e) = negation (formula_in e)
    formula_in (compare place rel a b) = cond (is_numeric fields a) (compared_by_forms rel (form_of fields a) (form_of fields b)) (compared_as rel (comparison_of fields a b) (formula_in a) (formula_in b))
    formula_in (minus place e) = no
    formula_in (chain Disjunction place parts) = some_of (formulas_of_parts parts)
    formula_in (chain Conjunction place parts) = all_of (formulas_of_parts parts)
    formula_in (chain Sum place parts) = no
    formula_in (chain Product place parts) = no

    pub formulas_of_parts : Parts → Formulas RowAtom
    formulas_of_parts no_parts = no_formulas
    formulas_of_parts (part marked e parts) = formula (formula_in e) (formulas_of_parts parts)
