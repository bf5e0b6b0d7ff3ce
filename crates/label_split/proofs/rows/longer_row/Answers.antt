use Rattle.std.proofs.Common.{◌≡◌, ◌++◌, ◌∷◌, [], IfOk, length, length-append, arith, ap, ◌∙◌, cond, sym, subst, refl, rules}
use Rattle.label_split.specs.declared.rows.SplitStop.TheVariants.{Memory}
use Rattle.label_split.specs.Numbers.{number_holds, AreAsked}
use Rattle.label_split.specs.Search.{DecidesSigns}
use Rattle.label_split.specs.Signs.{signs_at}
use Rattle.label_split.proofs.RowLists.{both_ways, copy_shown, nowhere_shown, ok_is, row_found, row_stopped, stops_by}
use Rattle.label_split.proofs.rows.longer_row.Goals as goal

pub returns-in_err-signs-clause-found : goal.returns-in_err-signs-clause-found
returns-in_err-signs-clause-found g c = stops_by _ _ c.from_residual.result Memory c.from_residual.ensures.1 tt

pub returns-in_err-signs-clause-kept : goal.returns-in_err-signs-clause-kept
returns-in_err-signs-clause-kept g c = refl

pub returns-in-Nowhere-clause-found : goal.returns-in-Nowhere-clause-found
returns-in-Nowhere-clause-found g c = nowhere_shown (g.T.Theory.meaning c.args.theory.now) (signs_at (number_holds g.T.Theory.atom_holds c.args.atoms.now) c.args.last.now.formulas.now) c.args.sign (cond c.args.sign c.args.last.now.on c.args.last.now.off) (c.requires.samples c.args.sign) (sym c.of.ensures ∙ c.in-Nowhere.is) c.args.row.now.row.signs.items

pub returns-in-Nowhere-clause-kept : goal.returns-in-Nowhere-clause-kept
returns-in-Nowhere-clause-kept g c = refl

pub returns-in_err-with_notes-in-At-clause-found : goal.returns-in_err-with_notes-in-At-clause-found
returns-in_err-with_notes-in-At-clause-found g c = stops_by _ _ c.from_residual-in_err-with_notes-in-At.result Memory c.from_residual-in_err-with_notes-in-At.ensures.1 tt

pub returns-in_err-with_notes-in-At-clause-kept : goal.returns-in_err-with_notes-in-At-clause-kept
returns-in_err-with_notes-in-At-clause-kept g c = refl

pub returns-in_ok-with_notes-in-At-clause-found : goal.returns-in_ok-with_notes-in-At-clause-found
returns-in_ok-with_notes-in-At-clause-found g c =
    let are : c.in_ok-signs.signs.items ≡ c.args.row.now.row.signs.items ++ c.args.sign ∷ [] = c.in_ok-signs.ensures {u = tt} ∙ ap (λ signs. signs ++ c.args.sign ∷ []) c.deref.ensures.value in
    let same : c.in-At.found.row.signs.items ≡ c.in_ok-signs.signs.items = search (rules, c.are_same.ensures c.if-are_same.true) in
    copy_shown (g.T.Theory.meaning c.args.theory.now) (signs_at (number_holds g.T.Theory.atom_holds c.args.atoms.now) c.args.last.now.formulas.now) c.args.sign (cond c.args.sign c.args.last.now.on c.args.last.now.off) (c.requires.samples c.args.sign) c.in-At.found c.in_ok-with_notes-in-At.field-0 (sym c.of.ensures ∙ c.in-At.is) _ c.in_ok-signs.signs (c.args.row.now.row.signs.items ++ c.args.sign ∷ []) refl c.in_ok-with_notes-in-At.ensures.0 same are
    (ok_is c.copy_value-value.result c.in_ok-with_notes-in-At.field-0.row.value c.in_ok-with_notes-in-At.ensures.1 (λ v. g.T.Theory.label_of v ≡ g.T.Theory.label_of c.in-At.found.row.value) c.copy_value-value.ensures)

pub returns-in_ok-with_notes-in-At-clause-kept : goal.returns-in_ok-with_notes-in-At-clause-kept
returns-in_ok-with_notes-in-At-clause-kept g c = refl

pub overflow_sub-number : goal.overflow_sub-number
overflow_sub-number g c = omega (arith, c.requires.lengths)

pub returns-in_err-tried-in_default-clause-found : goal.returns-in_err-tried-in_default-clause-found
returns-in_err-tried-in_default-clause-found g c = stops_by _ _ c.from_residual-in_err-tried-in_default.result Memory c.from_residual-in_err-tried-in_default.ensures.1 tt

pub returns-in_err-tried-in_default-clause-kept : goal.returns-in_err-tried-in_default-clause-kept
returns-in_err-tried-in_default-clause-kept g c = refl

pub search-verdict-requires-clause-fit : goal.search-verdict-requires-clause-fit
search-verdict-requires-clause-fit g c = c.requires.fit

pub search-verdict-requires-clause-asked : goal.search-verdict-requires-clause-asked
search-verdict-requires-clause-asked g c =
    let are : c.in_ok-signs.signs.items ≡ c.args.row.now.row.signs.items ++ c.args.sign ∷ [] = c.in_ok-signs.ensures {u = tt} ∙ ap (λ signs. signs ++ c.args.sign ∷ []) c.deref.ensures.value in
    let many = ap length are ∙ length-append c.args.row.now.row.signs.items (c.args.sign ∷ []) in
    subst (λ signs. AreAsked (length c.args.atoms.now) c.args.last.now.formulas.now signs) (sym c.deref-in_default-2.ensures.value) (record { within = c.requires.within; lengths = omega (arith, many, c.requires.lengths) })

pub returns-in_ok-tried-in_default-clause-found : goal.returns-in_ok-tried-in_default-clause-found
returns-in_ok-tried-in_default-clause-found g c =
    let are : c.in_ok-signs.signs.items ≡ c.args.row.now.row.signs.items ++ c.args.sign ∷ [] = c.in_ok-signs.ensures {u = tt} ∙ ap (λ signs. signs ++ c.args.sign ∷ []) c.deref.ensures.value in
    let M = g.T.Theory.meaning c.args.theory.now in
    let decides = subst (λ signs. IfOk c.search-verdict.result (DecidesSigns M c.args.atoms.now c.args.last.now.formulas.now signs)) c.deref-in_default-2.ensures.value c.search-verdict.ensures in
    let found = both_ways _ _ c.found_row.result
    (row_found M c.args.atoms.now c.args.last.now.formulas.now c.in_ok-signs.signs.items c.search-verdict.result decides c.found_row.result _ c.found_row.ensures)
    (row_stopped M c.args.atoms.now c.args.last.now.formulas.now c.in_ok-signs.signs.items c.search-verdict.result decides c.found_row.result _ c.found_row.ensures) in
    rw are at found

pub returns-in_ok-tried-in_default-clause-kept : goal.returns-in_ok-tried-in_default-clause-kept
returns-in_ok-tried-in_default-clause-kept g c = refl
