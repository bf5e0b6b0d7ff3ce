-- What a rule's guard says, and of what it speaks.
use Rattle.std.proofs.Common.{◌≡◌, List, Option, Some, None, map, sym, ap, subst}
use Rattle.model_tree.specs.Label.{Label, row, pair}
use Rattle.model_tree.specs.Signature.{PlainField, HasSorts}
use Rattle.model_tree.proofs.Sorts.{own_sorts}
use Rattle.model_tree.specs.Formula.{Formula, formula_holds, EveryAtom}
use Rattle.model_grammar.specs.Syntax.{Expr}
use Rattle.model_meaning.specs.Languages.{guard_holds}
use Rattle.record_label.specs.Rows.{RowAtom, row_holds, RowFits}
use Rattle.fast_build.specs.Rules.{IsGuardFor}

-- it holds of the same labels of the type as what is written
pub guard_means : (fields : List PlainField) (guard : Option Expr) (f : Formula RowAtom) (l : Label) → IsGuardFor fields guard f → HasSorts (map (λ x. x.sort) fields) l → formula_holds (λ a. row_holds a l) f ≡ guard_holds fields guard l
guard_means fields None f l is sorted = ap (formula_holds (λ a. row_holds a l)) is
guard_means fields (Some e) f (row values) is sorted = is.1.holds values (own_sorts (map (λ x. x.sort) fields) values sorted)
guard_means fields (Some e) f (pair l m) is sorted = absurd sorted

-- and speaks of fields that there are
pub guard_fits : (fields : List PlainField) (guard : Option Expr) (f : Formula RowAtom) → IsGuardFor fields guard f → EveryAtom (RowFits (map (λ x. x.sort) fields)) f
guard_fits fields None f is = subst (EveryAtom (RowFits (map (λ x. x.sort) fields))) (sym is) tt
guard_fits fields (Some e) f is = is.1.fit
