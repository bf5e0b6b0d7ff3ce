use Rattle.std.proofs.Common.{◌-◌, ◌∷◌, [], IfOk, length, drop, subst, arith}
use Rattle.std.proofs.lemmas.Result.{IfOk-from_err}
use Rattle.label_core.specs.declared.theory.Verdict.TheVariants.{Sat, Unsat}
use Rattle.label_split.specs.Numbers.{truths_at}
use Rattle.label_split.specs.Search.{DecidesSigns}
use Rattle.label_split.proofs.Signs.{last_asked, last_part, last_signs}
use Rattle.label_split.proofs.Verdicts.{found_is}
use Rattle.label_split.proofs.rows.find_sample.Goals as goal

pub overflow_sub-last : goal.overflow_sub-last
overflow_sub-last g c = c.requires.some

pub offset_bounds-formulas-last : goal.offset_bounds-formulas-last
offset_bounds-formulas-last g c = omega arith

pub slice_bounds-asked-count : goal.slice_bounds-asked-count
slice_bounds-asked-count g c = omega arith

pub slice_bounds-asked-start : goal.slice_bounds-asked-start
slice_bounds-asked-start g c = omega arith

pub slice_bounds-asked-end : goal.slice_bounds-asked-end
slice_bounds-asked-end g c = omega arith

pub returns-in_err-active : goal.returns-in_err-active
returns-in_err-active g c = IfOk-from_err c.from_residual.result _ c.from_residual.ensures.0

pub search-requires-clause-asked : goal.search-requires-clause-asked
search-requires-clause-asked g c = last_asked (length c.args.atoms.now) c.args.formulas.now c.args.sign c.requires.within c.requires.some

pub search-requires-clause-fit : goal.search-requires-clause-fit
search-requires-clause-fit g c = c.requires.fit

pub returns-in-Ok-Unsat : goal.returns-in-Ok-Unsat
returns-in-Ok-Unsat g c = λ l has before e.
    let none = found_is (DecidesSigns (g.T.Theory.meaning c.args.theory.now) c.args.atoms.now (drop (length c.args.formulas.now - 1) c.args.formulas.now) (c.args.sign ∷ [])) c.search.result _ Unsat c.in-Ok-Unsat.is c.in-Ok-Unsat.field-0-is (subst (λ part. IfOk c.search.result (DecidesSigns (g.T.Theory.meaning c.args.theory.now) c.args.atoms.now part (c.args.sign ∷ []))) (last_part c.args.formulas.now) c.search.ensures) in
    none l has (last_signs (truths_at g.T.Theory.atom_holds c.args.atoms.now l) c.args.formulas.now before c.args.sign e)

pub signs_of-signs-requires-clause-within : goal.signs_of-signs-requires-clause-within
signs_of-signs-requires-clause-within g c = c.requires.within

pub signs_of-signs-requires-clause-fit : goal.signs_of-signs-requires-clause-fit
signs_of-signs-requires-clause-fit g c = c.requires.fit

pub signs_of-signs-requires-clause-kept : goal.signs_of-signs-requires-clause-kept
signs_of-signs-requires-clause-kept g c = (found_is (DecidesSigns (g.T.Theory.meaning c.args.theory.now) c.args.atoms.now (drop (length c.args.formulas.now - 1) c.args.formulas.now) (c.args.sign ∷ [])) c.search.result _ (Sat c.in-Ok-Sat.value) c.in-Ok-Sat.is c.in-Ok-Sat.field-0-is (subst (λ part. IfOk c.search.result (DecidesSigns (g.T.Theory.meaning c.args.theory.now) c.args.atoms.now part (c.args.sign ∷ []))) (last_part c.args.formulas.now) c.search.ensures)).0
