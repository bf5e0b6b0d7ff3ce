-- What was built for expressions on one type is what operations take.
use Rattle.std.proofs.Common.{◌≡◌, ◌<◌, ℕ, List, Some, map, length, sym, subst, ◌∙◌}
use Rattle.std.proofs.lemmas.List.{length-map}
use Rattle.model_tree.specs.Signature.{Sort, sorts_of}
use Rattle.model_grammar.specs.Syntax.{X, Item}
use Rattle.model_meaning.specs.Meaning.{signature_named}
use Rattle.sta_core.specs.Sta.{AtomsFit, rule_meaning}
use Rattle.sta_core.specs.declared.Lang.{Lang}
use Rattle.sta_min.specs.declared.least.Minimal.{Minimal}
use Rattle.record_label.specs.Rows.{RowAtom, row_holds, RowFits}
use Rattle.fast_eval.specs.Built.{IsBuiltOf, IsTransBuiltOf}
use Rattle.fast_eval.specs.Scopes.{lang_of, IsOperandOf, trans_in, IsTransOperandOf}
use Rattle.fast_eval.specs.declared.evaluation.TransOperand.{TransOperand}
use Rattle.fast_eval.specs.declared.evaluation.TransOperand.TheVariants as trans
use Rattle.sttr_core.specs.declared.sttr.Trans.{Trans}
use Rattle.record_label.specs.declared.maps.RowMap.{RowMap}
use Rattle.fast_eval.specs.declared.built.Built.{Built}
use Rattle.fast_eval.specs.declared.evaluation.Operand.{Operand}
use Rattle.fast_eval.specs.declared.evaluation.Operand.TheVariants.{Made, Least}

module _ (items : List Item) (type : List ℕ) (x : X) (a : Lang RowAtom) (built : IsBuiltOf items x type a) where
  -- its start is a state
  pub start_low : a.state < length a.sta.rules
  start_low = subst (λ n. a.state < n) (length-map a.sta.rules (map (rule_meaning row_holds))) built.carries.in_range

  -- its atoms are of the labels of the type
  pub atoms_fit : (sorts : List Sort) → sorts ≡ sorts_of (signature_named items (Some type)) → AtomsFit (RowFits sorts) a.sta
  atoms_fit sorts is = subst (λ s. AtomsFit (RowFits s) a.sta) (sym is) built.fit

  -- two have the same constructors
  pub same_ranks : (y : X) (b : Lang RowAtom) → IsBuiltOf items y type b → b.sta.ranks ≡ a.sta.ranks
  same_ranks y b other = other.ranks ∙ sym built.ranks

-- the automaton of an operand was built for the expression
pub operand_built : (items : List Item) (e : X) (type : List ℕ) (b : Built) (o : Operand) (l : Lang RowAtom) → IsOperandOf items e type b o → l ≡ lang_of b o l → IsBuiltOf items e type l
operand_built items e type b o l is same = subst (IsBuiltOf items e type) (sym same) (is.built l)

-- and one that was made is an operand
pub made_operand : (items : List Item) (e : X) (type : List ℕ) (b : Built) (l : Lang RowAtom) → IsBuiltOf items e type l → IsOperandOf items e type b (Made l)
made_operand items e type b l built = record { low = tt; built = λ d. built }

pub least_operand : (items : List Item) (e : X) (type : List ℕ) (b : Built) (m : Minimal RowAtom) → IsBuiltOf items e type m.lang → IsOperandOf items e type b (Least m)
least_operand items e type b m built = record { low = tt; built = λ d. built }

-- the same of a transducer
pub trans_operand_built : (items : List Item) (e : X) (from into : List ℕ) (b : Built) (o : TransOperand) (f : Trans RowAtom RowMap) → IsTransOperandOf items e from into b o → f ≡ trans_in b o f → IsTransBuiltOf items e from into f
trans_operand_built items e from into b o f is same = subst (IsTransBuiltOf items e from into) (sym same) (is.built f)

pub made_trans_operand : (items : List Item) (e : X) (from into : List ℕ) (b : Built) (f : Trans RowAtom RowMap) → IsTransBuiltOf items e from into f → IsTransOperandOf items e from into b (trans.Made f)
made_trans_operand items e from into b f built = record { low = tt; built = λ d. built }
