-- A field stands so to a number, or it doesn't.
use Rattle.std.proofs.Common.{◌≡◌, ℤ, Bool, true, false, not, List, refl, sym, ap, ◌∙◌}
use Rattle.label_core.specs.declared.theory.Lit.{Lit}
use Rattle.model_chain.specs.Literals as plain
use Rattle.model_chain.specs.Literals.{compare_holds}
use Rattle.lin_solve.specs.declared.compare.Compare.{Compare}
use Rattle.lin_solve.specs.Plain.{plain_compare, plain_literal}

otherwise : (b s : Bool) → (b ≡ s → ⊥) → b ≡ not s
otherwise true true n = absurd (n refl)
otherwise true false n = refl
otherwise false true n = refl
otherwise false false n = absurd (n refl)

-- where a literal doesn't hold, the one with the other sign does
pub other_holds : (a : plain.Compare) (s : Bool) (us : List ℤ) (l m : Lit Compare) → plain_literal l ≡ record { compare = a; positive = s } → plain_literal m ≡ record { compare = a; positive = not s }
    → (compare_holds (plain_compare l.atom) us ≡ l.sign → ⊥) → compare_holds (plain_compare m.atom) us ≡ m.sign
other_holds a s us l m l_is m_is never =
    ap (λ (x : plain.Literal). compare_holds x.compare us) m_is
    ∙ otherwise (compare_holds a us) s (λ e. never (ap (λ (x : plain.Literal). compare_holds x.compare us) l_is ∙ e ∙ sym (ap (λ (x : plain.Literal). x.positive) l_is)))
    ∙ sym (ap (λ (x : plain.Literal). x.positive) m_is)
