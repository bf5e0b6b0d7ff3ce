-- What was built for the expression of a definition is built for its name.
use Rattle.std.proofs.Common.{◌≡◌, ℕ, true, List, Some, sym, subst, ◌∙◌}
use Rattle.model_grammar.specs.Syntax.{X, Item}
use Rattle.model_checks.specs.Programs.{is_well_formed}
use Rattle.model_meaning.specs.Reached.{definition_of}
use Rattle.meaning_laws.proofs.Whole.{has_meaning}
use Rattle.sta_core.specs.declared.Lang.{Lang}
use Rattle.record_label.specs.Rows.{RowAtom}
use Rattle.fast_eval.specs.declared.built.Built.{Built}
use Rattle.sta_min.specs.declared.least.Minimal.{Minimal}
use Rattle.fast_eval.specs.declared.evaluation.Operand.{Operand}
use Rattle.fast_eval.specs.declared.evaluation.Operand.TheVariants.{Kept, Made, Least}
use Rattle.fast_eval.specs.declared.evaluation.TransOperand.{TransOperand}
use Rattle.fast_eval.specs.declared.evaluation.TransOperand.TheVariants as trans
use Rattle.sttr_core.specs.declared.sttr.Trans.{Trans}
use Rattle.record_label.specs.declared.maps.RowMap.{RowMap}
use Rattle.fast_eval.specs.Built.{IsBuiltOf, IsTransBuiltOf}
use Rattle.fast_eval.specs.Forms.{IsMadeOn, IsMadeFrom}
use Rattle.fast_eval.specs.Scopes.{IsOperandOf, IsOperandNamed, IsTransOperandOf, IsTransOperandNamed}
use Rattle.fast_eval.specs.Table.{IsBuiltNamed, IsLanguageAt, IsTransBuiltNamed, IsTransAt}
use Rattle.fast_eval.proofs.Claims.{made_on, made_from}
use Rattle.fast_eval.proofs.NamesBuilt.{built_by_definition}
use Rattle.fast_eval.proofs.TransBuilt.{trans_by_definition}

-- the automaton at a place, one that was made, and a least one
pub there_of : (items : List Item) (name : List ℕ) (b : Built) (o : Operand) (place : ℕ) → o ≡ Kept place → IsOperandNamed items name b o → IsLanguageAt items b name place
there_of items name b o place is own = let at = subst (IsOperandNamed items name b) is own in record { low = at.low; is = at.is }

pub made_of : (items : List Item) (name : List ℕ) (b : Built) (o : Operand) (l : Lang RowAtom) → o ≡ Made l → IsOperandNamed items name b o → IsBuiltNamed items name l
made_of items name b o l is own = (subst (IsOperandNamed items name b) is own).is l

pub least_of : (items : List Item) (name : List ℕ) (b : Built) (o : Operand) (m : Minimal RowAtom) → o ≡ Least m → IsOperandNamed items name b o → IsBuiltNamed items name m.lang
least_of items name b o m is own = (subst (IsOperandNamed items name b) is own).is m.lang

one_type : (s t : List ℕ) → Some s ≡ Some t → s ≡ t
one_type s t e = cc

module _ (items : List Item) (well : is_well_formed items ≡ true) (name : List ℕ) (x : X) (is : definition_of items name ≡ Some x) (of : List ℕ) (made : IsMadeOn items of x) where
  named_by_definition : (l : Lang RowAtom) → IsBuiltOf items x of l → IsBuiltNamed items name l
  named_by_definition l built n type same on =
      let own = subst (λ text. definition_of items text ≡ Some x) (sym same) is in
      let (stands, declared) = (has_meaning items well).by_expression n x own in
      let type_is : of ≡ type = one_type of type (sym (made_on items of x made).1 ∙ declared.type ∙ on) in
      built_by_definition items n x own declared stands type l (subst (λ t. IsBuiltOf items x t l) type_is built)

  pub operand_by_definition : (b : Built) (o : Operand) → IsOperandOf items x of b o → IsOperandNamed items name b o
  operand_by_definition b o is = record { low = is.low; is = λ d. named_by_definition _ (is.built d) }

-- ---- transformations

pub trans_there_of : (items : List Item) (name : List ℕ) (b : Built) (o : TransOperand) (place : ℕ) → o ≡ trans.Kept place → IsTransOperandNamed items name b o → IsTransAt items b name place
trans_there_of items name b o place is own = let at = subst (IsTransOperandNamed items name b) is own in record { low = at.low; is = at.is }

pub trans_made_of : (items : List Item) (name : List ℕ) (b : Built) (o : TransOperand) (f : Trans RowAtom RowMap) → o ≡ trans.Made f → IsTransOperandNamed items name b o → IsTransBuiltNamed items name f
trans_made_of items name b o f is own = (subst (IsTransOperandNamed items name b) is own).is f

module _ (items : List Item) (well : is_well_formed items ≡ true) (name : List ℕ) (x : X) (is : definition_of items name ≡ Some x) (from into : List ℕ) (made : IsMadeFrom items from into x) where
  trans_named_by_definition : (f : Trans RowAtom RowMap) → IsTransBuiltOf items x from into f → IsTransBuiltNamed items name f
  trans_named_by_definition f built n start end same on =
      let own = subst (λ text. definition_of items text ≡ Some x) (sym same) is in
      let (stands, declared) = (has_meaning items well).by_expression n x own in
      let of = made_from items from into x made in
      let from_is : from ≡ start = one_type from start (sym of.1 ∙ (declared.type ∙ on.1)) in
      let into_is : into ≡ end = one_type into end (sym of.2 ∙ (declared.output ∙ on.2)) in
      trans_by_definition items n x own declared stands start end f on (subst (λ u. IsTransBuiltOf items x start u f) into_is (subst (λ s. IsTransBuiltOf items x s into f) from_is built))

  pub trans_operand_by_definition : (b : Built) (o : TransOperand) → IsTransOperandOf items x from into b o → IsTransOperandNamed items name b o
  trans_operand_by_definition b o h = record { low = h.low; is = λ d. trans_named_by_definition _ (h.built d) }
