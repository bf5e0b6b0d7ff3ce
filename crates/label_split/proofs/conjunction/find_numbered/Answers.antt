use Rattle.std.proofs.Common.{◌≡◌, ◌∙◌, true, length, replicate, ap, subst, IfOk}
use Rattle.std.proofs.lemmas.List.{length-replicate}
use Rattle.label_split.specs.Search.{DecidesSigns}
use Rattle.std.proofs.lemmas.Result.{IfOk-from_err}
use Rattle.label_split.proofs.conjunction.find_numbered.Goals as goal

pub search-requires-clause-asked : goal.search-requires-clause-asked
search-requires-clause-asked g c = rw c.deref.ensures.value (record {
  within = c.requires.within;
  lengths = ap length (c.in_ok-signs.ensures.items_if_clones_equal (λ y e. e)) ∙ length-replicate (length c.args.formulas.now) true;
})

pub returns : goal.returns
returns g c =
    let all : c.in_ok-signs.signs.items ≡ replicate (length c.args.formulas.now) true = c.in_ok-signs.ensures.items_if_clones_equal (λ y e. e) in
    let found = rw c.deref.ensures.value at c.search.ensures in
    subst (λ signs. IfOk c.search.result (DecidesSigns (g.T.Theory.meaning c.args.theory.now) c.args.atoms.now c.args.formulas.now signs)) all found

pub returns-in_err-active : goal.returns-in_err-active
returns-in_err-active g c = IfOk-from_err c.from_residual.result _ c.from_residual.ensures.0

pub returns-in_err-signs : goal.returns-in_err-signs
returns-in_err-signs g c = IfOk-from_err c.from_residual-in_err-signs.result _ c.from_residual-in_err-signs.ensures.0

pub search-requires-clause-fit : goal.search-requires-clause-fit
search-requires-clause-fit g c = c.requires.fit
