use Rattle.label_core.specs.Lit.{LitsFit}
use Rattle.std.proofs.Common.{◌∙◌, sym, ap, arith, subst}
use Rattle.label_split.proofs.Truths.{copied}
use Rattle.label_split.proofs.Literals.{first_none, first_open, first_more, first_all}
use Rattle.label_split.proofs.search.decide_known.Goals.{in-Some+in_ok-atom+in_ok-push, in_default}
use Rattle.label_core.specs.Atoms.{EachHasEqual}
use Rattle.label_core.specs.Meaning.{IsChainOver}
use Rattle.label_core.specs.Verdict.{DecidesAll}
use Rattle.label_core.specs.Lit.{SatisfiesAll, atoms_of}
use Rattle.label_split.specs.Known.{Follows}
use Rattle.label_split.specs.Numbers.{truths_at}
use Rattle.label_split.specs.Search.{DecidesKnown}
use Rattle.label_split.proofs.Verdicts.{decides_as, ok_as}
use Rattle.std.proofs.lemmas.Result.{IfOk-from_err}
use Rattle.label_split.proofs.search.decide_known.Goals as goal

pub returns : goal.returns
returns g c =
    let M = g.T.Theory.meaning c.args.theory.now in
    let literals = c.loop-i.literals.items in
    let say = first_all g.T.Theory.atom_holds c.args.atoms.now c.args.known.now.signs.items c.loop-i.i literals c.loop-i.invariant (omega (arith, c.loop-i-test.false, c.requires.many)) (g.T.Theory.atom_fits c.args.theory.now) in
    ok_as (DecidesAll M literals) (DecidesKnown M c.args.atoms.now c.args.known.now.signs.items)
    (decides_as M (g.met.T.Theory.keeps_labels c.args.theory.now) (SatisfiesAll g.T.Theory.atom_holds literals) (λ l. Follows c.args.known.now.signs.items (truths_at g.T.Theory.atom_holds c.args.atoms.now l)) (M.chain_of literals) (IsChainOver M c.args.atoms.now)
    say.say (λ l h f. say.said l f)
    (λ w over. (literals, subst (λ equal. EachHasEqual equal (atoms_of literals) c.args.atoms.now) (sym (g.met.T.Theory.equal_is_own c.args.theory.now)) (say.among g.T.Atom.PartialEq.eq g.met.T.Atom.Eq.laws), over)))
    c.decide.result (rw c.deref.ensures.value at c.decide.ensures)

pub decide-requires : goal.decide-requires
decide-requires g c = subst (LitsFit (g.T.Theory.atom_fits c.args.theory.now)) (sym c.deref.ensures.value) ((first_all g.T.Theory.atom_holds c.args.atoms.now c.args.known.now.signs.items c.loop-i.i c.loop-i.literals.items c.loop-i.invariant (omega (arith, c.loop-i-test.false, c.requires.many)) (g.T.Theory.atom_fits c.args.theory.now)).fit c.requires.fit)

pub loop-i-init : goal.loop-i-init
loop-i-init g c = rw c.new-literals.ensures.items (first_none g.T.Theory.atom_holds c.args.atoms.now c.args.known.now.signs.items)

pub loop-i-preserved : goal.loop-i-preserved
loop-i-preserved g c = elim c.match-of.branch [
  | in-Some+in_ok-atom+in_ok-push w ↦ rw (ap (λ v. v.items) w.literals-is ∙ w.in_ok-push.ensures.items) (first_more g.T.Theory.atom_holds c.args.atoms.now c.args.known.now.signs.items c.loop-i.i c.loop-i.literals.items c.loop-i.invariant w.in_ok-atom.atom w.in-Some.sign c.loop-i-test.true (copied c.args.atoms.now c.loop-i.i w.in_ok-atom.atom w.index-atoms-i.result w.in_ok-atom.ensures w.index-atoms-i.is) (sym c.of.ensures ∙ w.in-Some.is))
  | in_default w ↦ rw (ap (λ v. v.items) w.literals-is) (first_open g.T.Theory.atom_holds c.args.atoms.now c.args.known.now.signs.items c.loop-i.i c.loop-i.literals.items c.loop-i.invariant (sym c.of.ensures ∙ w.in_default.is))
]

pub returns-in_err-atom : goal.returns-in_err-atom
returns-in_err-atom g c = IfOk-from_err c.from_residual.result _ c.from_residual.ensures.0

pub returns-in_err-push : goal.returns-in_err-push
returns-in_err-push g c = IfOk-from_err c.from_residual-in_err-push.result _ c.from_residual-in_err-push.ensures.0
