-- The parts of terms, one after another.
use Rattle.std.proofs.Common.{◌≡◌, ℕ, zero, suc, ◌+◌, ◌<◌, ◌≤◌, List, [], ◌∷◌, Vec, Global, map, length, get_or, sym, ap, ◌∙◌, subst, arith}
use Rattle.model_tree.specs.Signature.{PlainSignature}
use Rattle.model_program.specs.Syntax.{Name}
use Rattle.model_grammar.specs.Syntax.{Out, child, call, node, Outs, no_out, and_out}
use Rattle.model_sta.specs.Pairwise.{Pairwise}
use Rattle.model_sttr.specs.Terms.{Term}
use Rattle.model_sttr.specs.Transducer.{Head}
use Rattle.record_label.specs.declared.maps.RowMap.{RowMap}
use Rattle.fast_syntax.specs.declared.items.Out as code
use Rattle.fast_syntax.specs.declared.items.Out.TheVariants.{Node}
use Rattle.fast_syntax.specs.declared.Name as code_name
use Rattle.fast_syntax.specs.declared.expressions.Expr.{Expr}
use Rattle.fast_syntax.specs.View.{plain_name}
use Rattle.fast_syntax.specs.Plain.{plain_expr, plain_out}
use Rattle.fast_syntax.proofs.Rows.{plain_made}
use Rattle.fast_syntax.specs.Slices.{plain_outputs}
use Rattle.sttr_core.proofs.Parts.{parts_of}
use Rattle.fast_build.specs.Terms.{IsTermFor, AreTermsFor, TermStands, TermsStand}

module _ (from into : PlainSignature) (place : List ℕ → ℕ) (vars : List Name) where
  -- terms for the parts of a node are the parts of a term for it
  pub terms_paired : (ps : List (Term Head RowMap)) (outs : List code.Out) → Pairwise (λ p o. IsTermFor from into place vars o p) ps (map plain_out outs) → AreTermsFor from into place vars (plain_outputs outs) (parts_of ps)
  terms_paired [] [] are = tt
  terms_paired [] (o ∷ outs) are = absurd are
  terms_paired (p ∷ ps) [] are = absurd are
  terms_paired (p ∷ ps) (o ∷ outs) are = (are.0, terms_paired ps outs are.1)

module _ (from into : PlainSignature) (names : List (List ℕ)) (vars : List Name) where
  pub part_stands : (outs : List code.Out) (i : ℕ) (o : code.Out) → TermsStand from into names vars (plain_outputs outs) → i < length outs → o ≡ get_or outs i o → TermStands from into names vars (plain_out o)
  part_stands [] i o stand low is = absurd (omega arith)
  part_stands (x ∷ outs) zero o stand low is = subst (λ y. TermStands from into names vars (plain_out y)) (sym is) stand.0
  part_stands (x ∷ outs) (suc i) o stand low is = part_stands outs i o stand.1 (omega arith) is

abbrev mutual
  -- how many terms stand in a term, itself among them
  pub out_size : Out → ℕ
  out_size (child y) = 1
  out_size (call q y) = 1
  out_size (node name labels outs) = suc (outs_size outs)

  pub outs_size : Outs → ℕ
  outs_size no_out = 0
  outs_size (and_out out outs) = out_size out + outs_size outs

pub part_smaller : (outs : List code.Out) (i : ℕ) (o : code.Out) → i < length outs → o ≡ get_or outs i o → out_size (plain_out o) ≤ outs_size (plain_outputs outs)
part_smaller [] i o low is = absurd (omega arith)
part_smaller (x ∷ outs) zero o low is = let same = ap (λ y. out_size (plain_out y)) is in omega arith
part_smaller (x ∷ outs) (suc i) o low is = let later = part_smaller outs i o (omega arith) is in omega arith

-- the plain term of a node of the code
pub node_is : (out : code.Out) (name : code_name.Name) (labels : Vec Expr Global) (parts : Vec code.Out Global) → out ≡ Node name labels parts → plain_out out ≡ node (plain_name name) (map plain_expr labels.items) (plain_outputs parts.items)
node_is out name labels parts is = ap plain_out is ∙ plain_made name labels parts
