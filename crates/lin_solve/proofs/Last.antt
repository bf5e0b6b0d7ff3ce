-- Negated equalities behind all others.
use Rattle.std.proofs.Common.{◌≡◌, ◌&&◌, Bool, true, false, cond, List, [], ◌∷◌, refl, ap, sym}
use Rattle.std.specs.List.{list_all}
use Rattle.model_chain.specs.Literals.{needs_side}
use Rattle.label_core.specs.declared.theory.Lit.{Lit}
use Rattle.lin_solve.specs.declared.compare.Compare.{Compare}
use Rattle.lin_solve.specs.Plain.{plain_literal}
use Rattle.lin_solve.specs.Kept.{stand_last}

-- whether they stand last among the rest, where one was before or none was
abbrev pub last_behind : Bool → List (Lit Compare) → Bool
last_behind sided ls = cond sided (list_all (λ m. needs_side (plain_literal m)) ls) (stand_last ls)

one_more : (sided b : Bool) (l : Lit Compare) (ls : List (Lit Compare)) → needs_side (plain_literal l) ≡ b → cond sided (b && list_all (λ m. needs_side (plain_literal m)) ls) (cond b (list_all (λ m. needs_side (plain_literal m)) ls) (stand_last ls)) ≡ last_behind sided (l ∷ ls)
one_more true b l ls e = ap (λ z. z && list_all (λ m. needs_side (plain_literal m)) ls) (sym e)
one_more false b l ls e = ap (λ z. cond z (list_all (λ m. needs_side (plain_literal m)) ls) (stand_last ls)) (sym e)

-- behind a negated equality
pub behind_sided : (sided : Bool) (l : Lit Compare) (ls : List (Lit Compare)) → needs_side (plain_literal l) ≡ true → last_behind sided (l ∷ ls) ≡ last_behind true ls
behind_sided true l ls e = sym (one_more true true l ls e)
behind_sided false l ls e = sym (one_more false true l ls e)

-- behind another one, where none was before
pub behind_other : (l : Lit Compare) (ls : List (Lit Compare)) → needs_side (plain_literal l) ≡ false → last_behind false (l ∷ ls) ≡ last_behind false ls
behind_other l ls e = sym (one_more false false l ls e)

-- another one behind a negated equality
pub other_behind : (l : Lit Compare) (ls : List (Lit Compare)) → needs_side (plain_literal l) ≡ false → last_behind true (l ∷ ls) ≡ false
other_behind l ls e = sym (one_more true false l ls e)

pub none_behind : (sided : Bool) → last_behind sided [] ≡ true
none_behind true = refl
none_behind false = refl
