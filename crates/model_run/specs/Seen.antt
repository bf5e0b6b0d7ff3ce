-- The guards, the comparisons and the label lists that an expression has, and their forms.
use Rattle.std.specs.Prelude.{◌≡◌, ◌⊎◌, ℕ, Bool, true, List, [], ◌∷◌, Some, map, cond}
use Rattle.std.specs.List.{Contains}
use Rattle.model_tree.specs.Label.{Label}
use Rattle.model_tree.specs.Signature.{PlainField, HasSorts, sorts_of}
use Rattle.model_tree.specs.Kept.{is_kept_label}
use Rattle.fast_fault.specs.declared.place.Pos.{Pos}
use Rattle.model_program.specs.Syntax.{Name}
use Rattle.model_grammar.specs.declared.Op2.TheVariants.{Compose}
use Rattle.model_grammar.specs.Syntax.{Expr, field, number, text, truth, negation, compare, minus, chain, Parts, no_parts, part, Out, child, call, node, Outs, no_out, and_out, X, named, two, Rule, OutRule, Item}
use Rattle.model_names.specs.Declared.{rules_of, out_rules_of}
use Rattle.model_names.specs.Kinds.{type_of, output_of}
use Rattle.model_form.specs.Form.{Form, form, Remainders, no_remainders, remainder}
use Rattle.model_form.specs.Sums.{subst_form}
use Rattle.model_form.specs.Same.{same_form}
use Rattle.model_chain.specs.Literals.{Compare, Literal}
use Rattle.model_label.specs.Meaning.{is_true}
use Rattle.model_meaning.specs.Types.{values_of}
use Rattle.model_meaning.specs.Outputs.{made_label}
use Rattle.model_meaning.specs.Meaning.{signature_named}
use Rattle.model_meaning.specs.Reached.{Reaches, Opens}
use Rattle.model_guard.specs.Forms.{is_whole, form_of}
use Rattle.model_guard.specs.Compares.{comparison}
use Rattle.model_run.specs.Parts.{operands, LooksBack, IsFrom}

-- ---- label lists and guards, as they are written or with label lists put for the fields

-- Written ones are over labels with some fields; a list makes labels with others.
pub data LabelList : Type 0 where
  listed : List PlainField → List PlainField → List Expr → LabelList
  -- the second, with the first put for its fields
  chained : LabelList → LabelList → LabelList

pub data Guard : Type 0 where
  tested : List PlainField → Expr → Guard
  put_in : LabelList → Guard → Guard

-- the label that a list makes of a label
abbrev pub list_label : LabelList → Label → Label
list_label (listed from into labels) l = made_label from into labels l
list_label (chained m n) l = list_label n (list_label m l)

-- whether a guard holds of a label
abbrev pub guard_truth : Guard → Label → Bool
guard_truth (tested fields e) l = is_true fields (values_of l) e
guard_truth (put_in m g) l = guard_truth g (list_label m l)

abbrev pub forms_of : List PlainField → List Expr → List Form
forms_of fields [] = []
forms_of fields (e ∷ es) = cond (is_whole fields e) (form_of fields e ∷ forms_of fields es) (forms_of fields es)

-- the forms of those labels of a list that are whole numbers, in order
abbrev pub list_forms : LabelList → List Form
list_forms (listed from into labels) = forms_of from labels
list_forms (chained m n) = map (λ f. subst_form f (list_forms m)) (list_forms n)

-- ---- comparisons of whole numbers

-- the comparison with a label list put for the fields
abbrev pub put_compare : LabelList → Compare → Compare
put_compare m c = record { left = subst_form c.left (list_forms m); relation = c.relation; right = subst_form c.right (list_forms m) }

module _ (fields : List PlainField) where
  abbrev mutual
    -- c is a comparison of whole numbers in a label expression
    pub IsCompareIn : Expr → Compare → Type 0
    IsCompareIn (field place name) c = ⊥
    IsCompareIn (number place n) c = ⊥
    IsCompareIn (text place t) c = ⊥
    IsCompareIn (truth place b) c = ⊥
    IsCompareIn (negation place e) c = IsCompareIn e c
    IsCompareIn (compare place rel a b) c =
        ((is_whole fields a ≡ true) × (is_whole fields b ≡ true) × (c ≡ comparison rel (form_of fields a) (form_of fields b))) ⊎ IsCompareIn a c ⊎ IsCompareIn b c
    IsCompareIn (minus place e) c = IsCompareIn e c
    IsCompareIn (chain kind place parts) c = IsCompareInOne parts c

    pub IsCompareInOne : Parts → Compare → Type 0
    IsCompareInOne no_parts c = ⊥
    IsCompareInOne (part marked e parts) c = IsCompareIn e c ⊎ IsCompareInOne parts c

abbrev mutual
  -- the labels stand in the term
  pub AreLabelsIn : Out → List Expr → Type 0
  AreLabelsIn (child y) labels = ⊥
  AreLabelsIn (call q y) labels = ⊥
  AreLabelsIn (node name own outs) labels = (labels ≡ own) ⊎ AreLabelsInOne outs labels

  pub AreLabelsInOne : Outs → List Expr → Type 0
  AreLabelsInOne no_out labels = ⊥
  AreLabelsInOne (and_out out outs) labels = AreLabelsIn out labels ⊎ AreLabelsInOne outs labels

-- ---- those of an expression; a type is given by its name

module _ (items : List Item) where
  abbrev pub fields_at : List ℕ → List PlainField
  fields_at type = (signature_named items (Some type)).fields

-- the guard of a rule of a language on the type, or of a transformation from it, that the name reaches
pub data IsTest (items : List Item) : Name → List ℕ → Expr → Type 0 where
  of_language : (n k : Name) (type : List ℕ) (r : Rule) (e : Expr) → Reaches items n.text k.text → type_of items (named k) ≡ Some type → Contains (rules_of items k.text) r → r.guard ≡ Some e → IsTest items n type e
  of_transformation : (n k : Name) (type : List ℕ) (r : OutRule) (e : Expr) → Reaches items n.text k.text → type_of items (named k) ≡ Some type → Contains (out_rules_of items k.text) r → r.rule.guard ≡ Some e → IsTest items n type e

-- the labels of a constructor in a term of a rule of a transformation between the types that the name reaches
pub record AreLabels (items : List Item) (n : Name) (from into : List ℕ) (labels : List Expr) : Type 0 where
  pub transformation : Name
  pub reached : Reaches items n.text transformation.text
  pub goes : IsFrom items (named transformation) from into
  pub rule : OutRule
  pub there : Contains (out_rules_of items transformation.text) rule
  pub stand : AreLabelsIn rule.out labels

-- m is a label list of the expression, from one type to another
pub data IsLabelList (items : List Item) : X → List ℕ → List ℕ → LabelList → Type 0 where
  list_of_rule : (n : Name) (from into : List ℕ) (labels : List Expr) → AreLabels items n from into labels → IsLabelList items (named n) from into (listed (fields_at items from) (fields_at items into) labels)
  list_opened : (n : Name) (x : X) (from into : List ℕ) (m : LabelList) → Opens items n.text x → IsLabelList items x from into m → IsLabelList items (named n) from into m
  list_of_operand : (e x : X) (from into : List ℕ) (m : LabelList) → Contains (operands e) x → IsLabelList items x from into m → IsLabelList items e from into m
  -- one of the second transformation, with one of the first that makes labels of its output type put for the fields
  list_of_both : (place : Pos) (x y : X) (from middle into : List ℕ) (m n : LabelList) → output_of items x ≡ Some middle → IsLabelList items x from middle m → IsLabelList items y middle into n → IsLabelList items (two Compose place x y) from into (chained m n)

-- a label list of the transformation that is looked back through, from the type to its output type
pub record IsPutList (items : List Item) (e : X) (y : X) (type into : List ℕ) (m : LabelList) : Type 0 where
  pub first : X
  pub back : LooksBack e first y
  pub onto : output_of items first ≡ Some into
  pub list : IsLabelList items first type into m

-- g is a guard of the expression, on labels of the type
pub data IsGuard (items : List Item) : X → List ℕ → Guard → Type 0 where
  guard_of_rule : (n : Name) (type : List ℕ) (e : Expr) → IsTest items n type e → IsGuard items (named n) type (tested (fields_at items type) e)
  guard_opened : (n : Name) (x : X) (type : List ℕ) (g : Guard) → Opens items n.text x → IsGuard items x type g → IsGuard items (named n) type g
  guard_of_operand : (e x : X) (type : List ℕ) (g : Guard) → Contains (operands e) x → IsGuard items x type g → IsGuard items e type g
  -- one of the second operand, with a label list of the first put for the fields
  guard_put : (e y : X) (type into : List ℕ) (m : LabelList) (g : Guard) → IsPutList items e y type into m → IsGuard items y into g → IsGuard items e type (put_in m g)

-- c is a comparison of the expression, on labels of the type
pub data IsCompare (items : List Item) : X → List ℕ → Compare → Type 0 where
  compare_of_guard : (n : Name) (type : List ℕ) (e : Expr) (c : Compare) → IsTest items n type e → IsCompareIn (fields_at items type) e c → IsCompare items (named n) type c
  compare_of_label : (n : Name) (type into : List ℕ) (labels : List Expr) (e : Expr) (c : Compare) → AreLabels items n type into labels → Contains labels e → IsCompareIn (fields_at items type) e c → IsCompare items (named n) type c
  compare_opened : (n : Name) (x : X) (type : List ℕ) (c : Compare) → Opens items n.text x → IsCompare items x type c → IsCompare items (named n) type c
  compare_of_operand : (e x : X) (type : List ℕ) (c : Compare) → Contains (operands e) x → IsCompare items x type c → IsCompare items e type c
  compare_put : (e y : X) (type into : List ℕ) (m : LabelList) (c : Compare) → IsPutList items e y type into m → IsCompare items y into c → IsCompare items e type (put_compare m c)

module _ (items : List Item) where
  -- two labels give each guard of the expressions on the type the same truth value
  abbrev pub Agree : List X → List ℕ → Label → Label → Type 0
  Agree es type l m = (e : X) → Contains es e → (g : Guard) → IsGuard items e type g → guard_truth g l ≡ guard_truth g m

  -- labels of the type
  abbrev pub IsLabelOf : List ℕ → Label → Type 0
  IsLabelOf type l = HasSorts (sorts_of (signature_named items (Some type))) l

  -- a label of the type that agrees with no kept one
  abbrev pub HasFarLabel : List X → List ℕ → Type 0
  HasFarLabel es type = (l : Label) × IsLabelOf type l × ((m : Label) → IsLabelOf type m → is_kept_label m ≡ true → ¬ (Agree es type l m))

-- ---- forms

abbrev mutual
  -- f is the form, or the inner form of a remainder in it
  pub IsFormIn : Form → Form → Type 0
  IsFormIn (form c ts rs) f = (f ≡ form c ts rs) ⊎ IsFormInOne rs f

  pub IsFormInOne : Remainders → Form → Type 0
  IsFormInOne no_remainders f = ⊥
  IsFormInOne (remainder a g k rs) f = IsFormIn g f ⊎ IsFormInOne rs f

-- a side of a comparison, or the inner form of a remainder in one
abbrev pub IsFormInCompare : Compare → Form → Type 0
IsFormInCompare c f = IsFormIn c.left f ⊎ IsFormIn c.right f

-- a whole number of a label list, or the inner form of a remainder in one
abbrev pub IsFormInList : LabelList → Form → Type 0
IsFormInList m f = (g : Form) × Contains (list_forms m) g × IsFormIn g f

-- f is a form of the expression: in a comparison or in a label list of it. A label list is put for the fields from the inside
-- out, and what is made of an inner form counts where the whole no longer has it.
pub data IsFormOf (items : List Item) : X → Form → Type 0 where
  form_of_compare : (e : X) (type : List ℕ) (c : Compare) (f : Form) → IsCompare items e type c → IsFormInCompare c f → IsFormOf items e f
  form_of_list : (e : X) (from into : List ℕ) (m : LabelList) (f : Form) → IsLabelList items e from into m → IsFormInList m f → IsFormOf items e f
  form_opened : (n : Name) (x : X) (f : Form) → Opens items n.text x → IsFormOf items x f → IsFormOf items (named n) f
  form_of_operand : (e x : X) (f : Form) → Contains (operands e) x → IsFormOf items x f → IsFormOf items e f
  put_in_compare : (e y : X) (type into : List ℕ) (m : LabelList) (c : Compare) (f : Form) → IsPutList items e y type into m → IsCompare items y into c → IsFormInCompare c f → IsFormOf items e (subst_form f (list_forms m))
  put_in_list : (place : Pos) (x y : X) (from middle into : List ℕ) (m n : LabelList) (f : Form) → output_of items x ≡ Some middle → IsLabelList items x from middle m → IsLabelList items y middle into n → IsFormInList n f
      → IsFormOf items (two Compose place x y) (subst_form f (list_forms m))

-- two comparisons of equal forms, of the same kind
abbrev pub IsSameCompare : Compare → Compare → Type 0
IsSameCompare c d = (c.relation ≡ d.relation) × (same_form c.left d.left ≡ true) × (same_form c.right d.right ≡ true)

-- two literals of one sign over the same comparison
abbrev pub IsSameLiteral : Literal → Literal → Type 0
IsSameLiteral l m = (l.positive ≡ m.positive) × IsSameCompare l.compare m.compare
