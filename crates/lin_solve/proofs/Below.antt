-- Literals are over the eight fields.
use Rattle.std.proofs.Common.{◌≡◌, ℕ, ◌+◌, ◌<◌, ◌≤◌, List, ◌∷◌, length, drop, get_or, sym, subst}
use Rattle.std.proofs.lemmas.List.{at_drop_more, at_drop_all}
use Rattle.model_form.specs.Over.{IsOver}
use Rattle.model_chain.specs.Literals.{AreLiteralsOver}
use Rattle.label_core.specs.declared.theory.Lit.{Lit}
use Rattle.lin_solve.specs.declared.compare.Compare.{Compare}
use Rattle.lin_solve.specs.Plain.{plain_literals}

pub literals_step : (ls : List (Lit Compare)) (k : ℕ) (l : Lit Compare) → k < length ls → l ≡ get_or ls k l → IsOver 8 l.atom.left → IsOver 8 l.atom.right → AreLiteralsOver 8 (plain_literals (drop (k + 1) ls)) → AreLiteralsOver 8 (plain_literals (drop k ls))
literals_step ls k l h is o q rest =
    let both : AreLiteralsOver 8 (plain_literals (get_or ls k l ∷ drop (k + 1) ls)) = (subst (λ (x : Lit Compare). IsOver 8 x.atom.left) is o, subst (λ (x : Lit Compare). IsOver 8 x.atom.right) is q, rest) in
    subst (λ (us : List (Lit Compare)). AreLiteralsOver 8 (plain_literals us)) (sym (at_drop_more (λ us. us) ls k l h)) both

pub literals_end : (ls : List (Lit Compare)) (k : ℕ) → length ls ≤ k → AreLiteralsOver 8 (plain_literals (drop k ls))
literals_end ls k h = subst (λ (us : List (Lit Compare)). AreLiteralsOver 8 (plain_literals us)) (sym (at_drop_all (λ us. us) ls k h)) tt
