use Rattle.std.proofs.Common.{◌≡◌, Ok, Result, sym, subst, ◌∙◌}
use Rattle.std.specs.Prelude.{IfOk}
use Rattle.label_core.specs.Lit.{LitsFit}
use Rattle.label_core.specs.Verdict.{DecidesAll}
use Rattle.label_core.proofs.Pairs.{left_fit, right_fit}
use Rattle.label_core.proofs.pair.PairTheory.decide.Goals as goal

-- what is so of an answer on some literals is so of it on the same literals
told : {L V E : Type 0} (P : L → V → Type 0) (answer : Result V E) (value : V) (own lits : L) → answer ≡ Ok value → own ≡ lits → IfOk answer (P own) → P lits value
told P answer value own lits is same so = subst (λ ls. P ls value) same (subst (λ r. IfOk r (P own)) is so)

pub decide-requires : goal.decide-requires
decide-requires g c =
    subst (LitsFit (g.A.Theory.atom_fits c.args.self.now.left)) (sym (c.deref.ensures.value ∙ (c.in_ok-lefts.ensures {u = tt}).0)) (left_fit (g.A.Theory.atom_fits c.args.self.now.left) (g.B.Theory.atom_fits c.args.self.now.right) c.args.literals.now c.requires)

pub decide-requires-2 : goal.decide-requires-2
decide-requires-2 g c =
    subst (LitsFit (g.B.Theory.atom_fits c.args.self.now.right)) (sym (c.deref-2.ensures.value ∙ (c.in_ok-lefts.ensures {u = tt}).1)) (right_fit (g.A.Theory.atom_fits c.args.self.now.left) (g.B.Theory.atom_fits c.args.self.now.right) c.args.literals.now c.requires)

pub joined-requires : goal.joined-requires
joined-requires g c =
    let told_by = c.in_ok-left.ensures {u = tt} in
    let parts = c.in_ok-lefts.ensures {u = tt} in
    record {
      left = told (DecidesAll (g.A.Theory.meaning c.args.self.now.left)) c.decide.result c.in_ok-left.left _ _ told_by.0 (c.deref.ensures.value ∙ parts.0) c.decide.ensures;
      right = told (DecidesAll (g.B.Theory.meaning c.args.self.now.right)) c.decide-2.result c.in_ok-left.right _ _ told_by.1 (c.deref-2.ensures.value ∙ parts.1) c.decide-2.ensures;
    }
