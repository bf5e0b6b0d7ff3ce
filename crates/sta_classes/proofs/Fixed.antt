-- Formulas without atoms, by their parts.
use Rattle.std.proofs.Common.{◌≡◌, ◌&&◌, List, [], ◌∷◌, map, Vec, Global, refl, ap, ◌∙◌}
use Rattle.std.specs.List.{list_all}
use Rattle.model_tree.specs.Formula.{formulas_of}
use Rattle.label_core.specs.Formula.{plain_formula}
use Rattle.label_core.specs.declared.formula.Formula as code
use Rattle.label_core.specs.declared.formula.Formula.TheVariants.{And, Or}
use Rattle.label_core.proofs.Formulas.{plain_and, plain_or}
use Rattle.sta_classes.specs.Applying.{is_fixed, are_fixed}

module _ {A : Type 0} where
  of_list : (fs : List (code.Formula A)) → are_fixed (formulas_of (map plain_formula fs)) ≡ list_all (λ f. is_fixed (plain_formula f)) fs
  of_list [] = refl
  of_list (f ∷ fs) = ap (λ b. is_fixed (plain_formula f) && b) (of_list fs)

  pub fixed_and : (v : Vec (code.Formula A) Global) → is_fixed (plain_formula (And v)) ≡ list_all (λ f. is_fixed (plain_formula f)) v.items
  fixed_and v = ap is_fixed (plain_and v) ∙ of_list v.items

  pub fixed_or : (v : Vec (code.Formula A) Global) → is_fixed (plain_formula (Or v)) ≡ list_all (λ f. is_fixed (plain_formula f)) v.items
  fixed_or v = ap is_fixed (plain_or v) ∙ of_list v.items
