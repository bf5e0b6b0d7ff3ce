use Rattle.std.proofs.Common.{◌∙◌, true, length, replicate, refl, sym, subst, IfOk, IsTrue, All}
use Rattle.model_tree.specs.Formula.{formula_holds}
use Rattle.label_core.specs.Formula.{plain_formula}
use Rattle.label_core.specs.Meaning.{IsChainOver}
use Rattle.label_core.proofs.Chains.{chain_grows}
use Rattle.label_split.specs.Signs.{atoms_in_each}
use Rattle.label_split.specs.Numbers.{truths_at, HaveSigns}
use Rattle.label_split.specs.Search.{DecidesEach, DecidesSigns}
use Rattle.label_split.proofs.Signs.{all_from_signs, signs_from_all}
use Rattle.label_split.proofs.Numbering.{gathered, atoms_fit, atoms_among, all_within, same_signs, same_length}
use Rattle.label_split.proofs.Verdicts.{decides_as, ok_as}
use Rattle.std.proofs.lemmas.Result.{IfOk-from_err}
use Rattle.label_split.proofs.conjunction.find.Goals as goal

pub find_numbered-requires-clause-within : goal.find_numbered-requires-clause-within
find_numbered-requires-clause-within g c = rw (c.as_slice.ensures.keys, c.deref.ensures.value) (all_within g.T.Atom.PartialEq.eq c.in_ok-numbered.numbered.atoms.keys c.args.formulas.now c.in_ok-numbered.numbered.formulas.items c.in_ok-numbered.ensures.formulas (gathered g.T.Atom.PartialEq.eq g.met.T.Atom.Eq.laws c.args.formulas.now c.in_ok-numbered.numbered.atoms.keys c.in_ok-numbered.ensures.atoms))

pub find_numbered-requires-clause-fit : goal.find_numbered-requires-clause-fit
find_numbered-requires-clause-fit g c = rw c.as_slice.ensures.keys (atoms_fit g.T.Atom.PartialEq.eq g.met.T.Atom.Eq.laws (g.T.Theory.atom_fits c.args.theory.now) (g.met.T.Theory.equal_atoms_fit c.args.theory.now) c.args.formulas.now c.in_ok-numbered.numbered.atoms.keys c.in_ok-numbered.ensures.atoms c.requires.fit)

pub returns : goal.returns
returns g c =
    let M = (g.T.Theory.meaning c.args.theory.now) in
    let atoms = c.in_ok-numbered.numbered.atoms.keys in
    let numbered = c.in_ok-numbered.numbered.formulas.items in
    let signs = replicate (length c.args.formulas.now) true in
    let many = same_length g.T.Atom.PartialEq.eq atoms c.args.formulas.now numbered c.in_ok-numbered.ensures.formulas in
    let are = gathered g.T.Atom.PartialEq.eq g.met.T.Atom.Eq.laws c.args.formulas.now atoms c.in_ok-numbered.ensures.atoms in
    let found = rw (c.as_slice.ensures.keys, c.deref.ensures.value) at c.find_numbered.ensures in
    ok_as (DecidesSigns M atoms numbered signs) (DecidesEach M c.args.formulas.now)
    (decides_as M (g.met.T.Theory.keeps_labels c.args.theory.now) (λ l. HaveSigns numbered signs (truths_at g.T.Theory.atom_holds atoms l)) (λ l. All (λ f. IsTrue (formula_holds (λ a. g.T.Theory.atom_holds a l) (plain_formula f))) c.args.formulas.now) (IsChainOver M atoms) (IsChainOver M (atoms_in_each c.args.formulas.now))
    (λ l m. all_from_signs g.T.Theory.atom_holds c.args.formulas.now l signs refl (sym (same_signs g.T.Atom.PartialEq.eq atoms g.T.Theory.atom_holds g.met.T.Theory.equal_atoms c.args.formulas.now numbered l c.in_ok-numbered.ensures.formulas are) ∙ m))
    (λ l h each. same_signs g.T.Atom.PartialEq.eq atoms g.T.Theory.atom_holds g.met.T.Theory.equal_atoms c.args.formulas.now numbered l c.in_ok-numbered.ensures.formulas are ∙ signs_from_all g.T.Theory.atom_holds c.args.formulas.now l signs refl each)
    (λ w over. chain_grows M g.T.Atom.PartialEq.eq (g.met.T.Theory.equal_is_own c.args.theory.now) g.met.T.Atom.Eq.laws atoms (atoms_in_each c.args.formulas.now) w (atoms_among g.T.Atom.PartialEq.eq g.met.T.Atom.Eq.laws c.args.formulas.now atoms c.in_ok-numbered.ensures.atoms) over))
    c.find_numbered.result (subst (λ n. IfOk c.find_numbered.result (DecidesSigns M atoms numbered (replicate n true))) many found)

pub returns-in_err-numbered : goal.returns-in_err-numbered
returns-in_err-numbered g c = IfOk-from_err c.from_residual.result _ c.from_residual.ensures.0
