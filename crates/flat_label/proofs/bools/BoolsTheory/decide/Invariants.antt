use Rattle.std.proofs.Common.{◌≡◌, ℕ, ◌<◌, get_or, false, vec_len}
use Rattle.model_tree.specs.Label.{Label}
use Rattle.label_core.specs.Lit.{SatisfiesAll}
use Rattle.label_core.specs.declared.theory.Lit.{Lit}
use Rattle.flat_label.specs.Bools.{truth_at}
use Rattle.flat_label.specs.declared.bools.BoolAtom.{BoolAtom}
use Rattle.flat_label.proofs.bools.BoolsTheory.decide.Given as goal

abbrev pub invariant-write : goal.invariant-write
invariant-write l =
    (vec_len l.values ≡ l.self.fields) × ((x : Label) → SatisfiesAll (λ a y. truth_at a.field y) l.literals x → (k : ℕ) (d : Lit BoolAtom) → k < l.literal-index → truth_at (get_or l.literals k d).atom.field x ≡ get_or l.values.items (get_or l.literals k d).atom.field false)

abbrev pub invariant-read : goal.invariant-read
invariant-read l =
    (k : ℕ) (d : Lit BoolAtom) → k < l.literal-index → get_or l.values.items (get_or l.literals k d).atom.field false ≡ (get_or l.literals k d).sign
