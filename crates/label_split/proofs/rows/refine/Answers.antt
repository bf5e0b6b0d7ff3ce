use Rattle.std.proofs.Common.{◌-◌, ◌∙◌, ap, take, length, subst, sym, arith}
use Rattle.std.proofs.lemmas.List.{map-append}
use Rattle.model_tree.specs.Label.{Label}
use Rattle.label_split.specs.declared.rows.SplitStop.TheVariants.{Memory}
use Rattle.label_split.specs.Known.{holds_at}
use Rattle.label_split.specs.Noted.{rows_of, IsSample}
use Rattle.label_split.specs.Numbers.{truths_at, number_holds}
use Rattle.label_split.specs.Signs.{signs_at}
use Rattle.label_split.specs.Split.{IsPartly, IsRow}
use Rattle.label_split.proofs.Signs.{last_sign, one_sign_more}
use Rattle.label_split.proofs.RowLists.{no_rows, popped_less, row_of_rest, partly_start, partly_more, partly_done, both_made, extends_added, ok_is, stops_by, stops_passed}
use Rattle.label_split.proofs.rows.refine.Goals as goal

pub overflow_sub-number : goal.overflow_sub-number
overflow_sub-number g c = c.requires.some

pub find_sample-requires-clause-within : goal.find_sample-requires-clause-within
find_sample-requires-clause-within g c = c.requires.within

pub find_sample-requires-clause-fit : goal.find_sample-requires-clause-fit
find_sample-requires-clause-fit g c = c.requires.fit

pub find_sample-requires-clause-some : goal.find_sample-requires-clause-some
find_sample-requires-clause-some g c = c.requires.some

pub find_sample-requires-2-clause-within : goal.find_sample-requires-2-clause-within
find_sample-requires-2-clause-within g c = c.requires.within

pub find_sample-requires-2-clause-fit : goal.find_sample-requires-2-clause-fit
find_sample-requires-2-clause-fit g c = c.requires.fit

pub find_sample-requires-2-clause-some : goal.find_sample-requires-2-clause-some
find_sample-requires-2-clause-some g c = c.requires.some

pub returns-in_err-on : goal.returns-in_err-on
returns-in_err-on g c = stops_by _ _ c.from_residual.result Memory c.from_residual.ensures.1 tt

pub rest-init : goal.rest-init
rest-init g c = subst (λ refined. IsPartly (g.T.Theory.meaning c.args.theory.now) (signs_at (number_holds g.T.Theory.atom_holds c.args.atoms.now) (take (length c.args.formulas.now - 1) c.args.formulas.now)) (signs_at (number_holds g.T.Theory.atom_holds c.args.atoms.now) c.args.formulas.now) (rows_of c.args.rows.items) (rows_of refined)) (sym c.new-refined.ensures.items) (partly_start (g.T.Theory.meaning c.args.theory.now) (signs_at (number_holds g.T.Theory.atom_holds c.args.atoms.now) (take (length c.args.formulas.now - 1) c.args.formulas.now)) (signs_at (number_holds g.T.Theory.atom_holds c.args.atoms.now) c.args.formulas.now) (rows_of c.args.rows.items) c.requires.rows)

pub offset_bounds-formulas-number : goal.offset_bounds-formulas-number
offset_bounds-formulas-number g c = omega arith

pub bounds-formulas-number : goal.bounds-formulas-number
bounds-formulas-number g c = omega (arith, c.requires.some)

pub holds_of-holds-requires-clause-fit : goal.holds_of-holds-requires-clause-fit
holds_of-holds-requires-clause-fit g c = c.requires.fit

pub holds_of-holds-requires-clause-kept : goal.holds_of-holds-requires-clause-kept
holds_of-holds-requires-clause-kept g c = (row_of_rest (IsRow (g.T.Theory.meaning c.args.theory.now) (signs_at (number_holds g.T.Theory.atom_holds c.args.atoms.now) (take (length c.args.formulas.now - 1) c.args.formulas.now))) c.rest.rows.items c.pop.new.self.items c.in-Some.row c.in-Some.ensures.items c.rest.invariant.rest_sound).0

pub longer_row-other-requires-clause-within : goal.longer_row-other-requires-clause-within
longer_row-other-requires-clause-within g c = c.requires.within

pub longer_row-other-requires-clause-fit : goal.longer_row-other-requires-clause-fit
longer_row-other-requires-clause-fit g c = c.requires.fit

pub longer_row-other-requires-clause-lengths : goal.longer_row-other-requires-clause-lengths
longer_row-other-requires-clause-lengths g c =
    let row = row_of_rest (IsRow (g.T.Theory.meaning c.args.theory.now) (signs_at (number_holds g.T.Theory.atom_holds c.args.atoms.now) (take (length c.args.formulas.now - 1) c.args.formulas.now))) c.rest.rows.items c.pop.new.self.items c.in-Some.row c.in-Some.ensures.items c.rest.invariant.rest_sound in
    one_sign_more (number_holds g.T.Theory.atom_holds c.args.atoms.now) c.args.formulas.now c.in-Some.row.row.signs.items (g.T.Theory.label_of c.in-Some.row.row.value) c.requires.some row.1

pub longer_row-other-requires-clause-samples : goal.longer_row-other-requires-clause-samples
longer_row-other-requires-clause-samples g c = both_made (IsSample (g.T.Theory.meaning c.args.theory.now) (signs_at (number_holds g.T.Theory.atom_holds c.args.atoms.now) c.args.formulas.now)) c.in_ok-on.on c.in_ok-on.off (ok_is c.find_sample.result c.in_ok-on.on c.in_ok-on.ensures.0 _ c.find_sample.ensures) (ok_is c.find_sample-2.result c.in_ok-on.off c.in_ok-on.ensures.1 _ c.find_sample-2.ensures)

pub rest-smaller : goal.rest-smaller
rest-smaller g c = popped_less c.rest.rows.items c.pop.new.self.items c.in-Some.row c.in-Some.ensures.items

pub rest-preserved : goal.rest-preserved
rest-preserved g c =
    let signs = signs_at (number_holds g.T.Theory.atom_holds c.args.atoms.now) in
    let M = g.T.Theory.meaning c.args.theory.now in
    let row = row_of_rest (IsRow M (signs (take (length c.args.formulas.now - 1) c.args.formulas.now))) c.rest.rows.items c.pop.new.self.items c.in-Some.row c.in-Some.ensures.items c.rest.invariant.rest_sound in
    let last = λ (l : Label). holds_at (truths_at g.T.Theory.atom_holds c.args.atoms.now l) c.index-formulas-number.result in
    let more = λ (l : Label). last_sign (number_holds g.T.Theory.atom_holds c.args.atoms.now) c.args.formulas.now c.index-formulas-number.result l c.requires.some c.index-formulas-number.is in
    let added = extends_added M (signs (take (length c.args.formulas.now - 1) c.args.formulas.now)) (signs c.args.formulas.now) last more c.in-Some.row.row c.longer_row-other.new.row.row c.longer_row-other.ensures.kept c.holds_of-holds.result row c.holds_of-holds.ensures c.rest.refined.items c.add_rows.new.rows.items c.longer_row-other.result _ c.longer_row-other.ensures.found c.in_ok-add_rows.ensures in
    partly_more M (signs (take (length c.args.formulas.now - 1) c.args.formulas.now)) (signs c.args.formulas.now) (rows_of c.rest.rows.items) (rows_of c.pop.new.self.items) c.in-Some.row.row (rows_of c.rest.refined.items) (rows_of c.add_rows.new.rows.items) (ap rows_of c.in-Some.ensures.items ∙ map-append (λ n. n.row) c.pop.new.self.items _) c.rest.invariant added

pub returns-in_err-add_rows : goal.returns-in_err-add_rows
returns-in_err-add_rows g c = stops_by _ _ c.from_residual-in_err-add_rows.result c.in_err-add_rows.field-0.0 c.from_residual-in_err-add_rows.ensures.1 (stops_passed _ _ tt c.longer_row-other.result c.longer_row-other.ensures.found c.in_err-add_rows.field-0.0 c.in_err-add_rows.ensures)

pub returns : goal.returns
returns g c = partly_done (g.T.Theory.meaning c.args.theory.now) (signs_at (number_holds g.T.Theory.atom_holds c.args.atoms.now) (take (length c.args.formulas.now - 1) c.args.formulas.now)) (signs_at (number_holds g.T.Theory.atom_holds c.args.atoms.now) c.args.formulas.now) (rows_of c.rest.rows.items) (rows_of c.rest.refined.items) (no_rows c.rest.rows.items (omega (arith, c.in_default.ensures.cases, c.rest.rows.ok.0))) c.rest.invariant
