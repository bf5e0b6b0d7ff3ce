-- Literals that hold one after the other.
use Rattle.std.proofs.Common.{◌≡◌, ◌∙◌, ◌<◌, ◌≤◌, ◌+◌, ℕ, Bool, true, false, not, List, [], ◌∷◌, ◌++◌, length, take, get_or, All, refl, sym, ap, subst}
use mathlib.Core.Bool.{beq}
use Rattle.std.proofs.Math.IntN.{ℤ}
use Rattle.std.proofs.lemmas.List.{take_more, take_all, map-append}
use Rattle.std.proofs.lemmas.List.Elements.{All-nil, All-cons, All-append}
use Rattle.model_chain.specs.Literals.{compare_holds, HoldsAll}
use Rattle.label_core.specs.declared.theory.Lit.{Lit}
use Rattle.lin_solve.specs.declared.compare.Compare.{Compare}
use Rattle.lin_solve.specs.Plain.{plain_compare, plain_literal, plain_literals}

not_other : (a b : Bool) → not (beq a b) ≡ false → a ≡ b
not_other true true h = refl
not_other true false h = cc
not_other false true h = cc
not_other false false h = refl

pub hold_further : (ls : List (Lit Compare)) (i : ℕ) (x : Lit Compare) (us : List ℤ) (holds : Bool) → i < length ls → x ≡ get_or ls i x → holds ≡ compare_holds (plain_compare x.atom) us → not (beq holds x.sign) ≡ false → HoldsAll (plain_literals (take i ls)) us → HoldsAll (plain_literals (take (i + 1) ls)) us
hold_further ls i x us holds low is e same h =
    subst (λ ys. HoldsAll (plain_literals ys) us) (sym (take_more ls i x low ∙ ap (λ y. take i ls ++ y ∷ []) (sym is)))
    (subst (All (λ l. compare_holds l.compare us ≡ l.positive)) (sym (map-append plain_literal (take i ls) (x ∷ [])))
    (All-append (λ l. compare_holds l.compare us ≡ l.positive) (plain_literals (take i ls)) (plain_literal x ∷ []) h
    (All-cons (λ l. compare_holds l.compare us ≡ l.positive) (plain_literal x) [] (sym e ∙ not_other holds x.sign same) (All-nil (λ l. compare_holds l.compare us ≡ l.positive)))))

pub hold_all : (ls : List (Lit Compare)) (i : ℕ) (us : List ℤ) → length ls ≤ i → HoldsAll (plain_literals (take i ls)) us → HoldsAll (plain_literals ls) us
hold_all ls i us high h = subst (λ ys. HoldsAll (plain_literals ys) us) (take_all i ls high) h
