use Rattle.std.proofs.Common.{◌<◌, ◌+◌, [], take, length, refl, sym, subst, arith}
use Rattle.std.proofs.lemmas.List.{take_all, length-take-le}
use Rattle.std.proofs.lemmas.List.Elements.{All-take}
use Rattle.std.proofs.lemmas.Result.{IfOk-from_err}
use Rattle.label_split.specs.Known.{IsWithin}
use Rattle.label_split.specs.Numbers.{number_holds}
use Rattle.label_split.specs.Signs.{signs_at}
use Rattle.label_split.specs.Split.{SplitsInto, HasMoreRows}
use Rattle.label_split.specs.Noted.{rows_of}
use Rattle.label_split.proofs.Signs.{signs_taken}
use Rattle.label_split.specs.declared.rows.SplitStop.TheVariants.{Memory}
use Rattle.label_split.proofs.RowLists.{few_rows, more_rows, more_by_part, stop_by_part, stops_by, front_again, long_rows, start_shown, start_stopped}
use Rattle.label_split.proofs.rows.split_numbered.Goals as goal

pub returns-then-len-most-clause-stop : goal.returns-then-len-most-clause-stop
returns-then-len-most-clause-stop g c =
    let long : c.args.most < length c.loop-i.rows.items = omega (arith, c.if-len-most.true, c.len.ensures, c.loop-i.rows.ok.0) in
    more_by_part (g.T.Theory.meaning c.args.theory.now) (signs_at (number_holds g.T.Theory.atom_holds c.args.atoms.now) (take c.loop-i.i c.args.formulas.now)) (signs_at (number_holds g.T.Theory.atom_holds c.args.atoms.now) c.args.formulas.now) (take c.loop-i.i) (signs_taken (number_holds g.T.Theory.atom_holds c.args.atoms.now) c.args.formulas.now c.loop-i.i) c.args.most
    (more_rows (g.T.Theory.meaning c.args.theory.now) (signs_at (number_holds g.T.Theory.atom_holds c.args.atoms.now) (take c.loop-i.i c.args.formulas.now)) (rows_of c.loop-i.rows.items) c.args.most c.loop-i.invariant (long_rows c.args.most c.loop-i.rows.items long))

pub returns-in_err-rows : goal.returns-in_err-rows
returns-in_err-rows g c = record {
  rows = IfOk-from_err c.from_residual.result _ c.from_residual.ensures.0;
  few = IfOk-from_err c.from_residual.result _ c.from_residual.ensures.0;
  stop = stops_by _ _ c.from_residual.result c.in_err-rows.field-0.0 c.from_residual.ensures.1 (stop_by_part (g.T.Theory.meaning c.args.theory.now) (λ _. []) (signs_at (number_holds g.T.Theory.atom_holds c.args.atoms.now) c.args.formulas.now) (λ _. []) (λ l. refl) c.args.atoms.now c.args.atoms.now (λ w over. over) (HasMoreRows (g.T.Theory.meaning c.args.theory.now) (signs_at (number_holds g.T.Theory.atom_holds c.args.atoms.now) c.args.formulas.now) c.args.most) c.in_err-rows.field-0.0 (start_stopped (g.T.Theory.meaning c.args.theory.now) c.args.atoms.now c.decide_any.result c.decide_any.ensures c.in_err-rows.field-0.0 c.in_err-rows.ensures));
}

pub refine-requires-clause-rows : goal.refine-requires-clause-rows
refine-requires-clause-rows g c = subst (λ fs. SplitsInto (g.T.Theory.meaning c.args.theory.now) (signs_at (number_holds g.T.Theory.atom_holds c.args.atoms.now) fs) (rows_of c.loop-i.rows.items)) (front_again c.args.formulas.now c.loop-i.i c.loop-i-test.true) c.loop-i.invariant

pub returns-in_err-rows-2 : goal.returns-in_err-rows-2
returns-in_err-rows-2 g c = record {
  rows = IfOk-from_err c.from_residual-in_err-rows-2.result _ c.from_residual-in_err-rows-2.ensures.0;
  few = IfOk-from_err c.from_residual-in_err-rows-2.result _ c.from_residual-in_err-rows-2.ensures.0;
  stop = stops_by _ _ c.from_residual-in_err-rows-2.result c.in_err-rows-2.field-0.0 c.from_residual-in_err-rows-2.ensures.1 (stop_by_part (g.T.Theory.meaning c.args.theory.now) (signs_at (number_holds g.T.Theory.atom_holds c.args.atoms.now) (take (c.loop-i.i + 1) c.args.formulas.now)) (signs_at (number_holds g.T.Theory.atom_holds c.args.atoms.now) c.args.formulas.now) (take (c.loop-i.i + 1)) (signs_taken (number_holds g.T.Theory.atom_holds c.args.atoms.now) c.args.formulas.now (c.loop-i.i + 1)) c.args.atoms.now c.args.atoms.now (λ w over. over) (HasMoreRows (g.T.Theory.meaning c.args.theory.now) (signs_at (number_holds g.T.Theory.atom_holds c.args.atoms.now) c.args.formulas.now) c.args.most) c.in_err-rows-2.field-0.0 c.in_err-rows-2.ensures);
}

pub returns-in_err-without_notes : goal.returns-in_err-without_notes
returns-in_err-without_notes g c = record {
  rows = IfOk-from_err c.from_residual-in_err-without_notes.result _ c.from_residual-in_err-without_notes.ensures.0;
  few = IfOk-from_err c.from_residual-in_err-without_notes.result _ c.from_residual-in_err-without_notes.ensures.0;
  stop = stops_by _ _ c.from_residual-in_err-without_notes.result Memory c.from_residual-in_err-without_notes.ensures.1 tt;
}

pub returns-clause-stop : goal.returns-clause-stop
returns-clause-stop g c =
    let long : c.args.most < length c.loop-i.rows.items = omega (arith, c.if-len-most-2.false, c.len-2.ensures, c.loop-i.rows.ok.0) in
    more_by_part (g.T.Theory.meaning c.args.theory.now) (signs_at (number_holds g.T.Theory.atom_holds c.args.atoms.now) (take c.loop-i.i c.args.formulas.now)) (signs_at (number_holds g.T.Theory.atom_holds c.args.atoms.now) c.args.formulas.now) (take c.loop-i.i) (signs_taken (number_holds g.T.Theory.atom_holds c.args.atoms.now) c.args.formulas.now c.loop-i.i) c.args.most
    (more_rows (g.T.Theory.meaning c.args.theory.now) (signs_at (number_holds g.T.Theory.atom_holds c.args.atoms.now) (take c.loop-i.i c.args.formulas.now)) (rows_of c.loop-i.rows.items) c.args.most c.loop-i.invariant (long_rows c.args.most c.loop-i.rows.items long))

pub loop-i-preserved : goal.loop-i-preserved
loop-i-preserved g c = c.in_ok-rows-2.ensures

pub returns-then-len-most-2-clause-rows : goal.returns-then-len-most-2-clause-rows
returns-then-len-most-2-clause-rows g c = subst (λ rows. SplitsInto (g.T.Theory.meaning c.args.theory.now) (signs_at (number_holds g.T.Theory.atom_holds c.args.atoms.now) c.args.formulas.now) rows) (sym c.in_ok-without_notes.ensures) (subst (λ fs. SplitsInto (g.T.Theory.meaning c.args.theory.now) (signs_at (number_holds g.T.Theory.atom_holds c.args.atoms.now) fs) (rows_of c.loop-i.rows.items)) (take_all c.loop-i.i c.args.formulas.now (omega (arith, c.loop-i-test.false))) c.loop-i.invariant)

pub loop-i-init : goal.loop-i-init
loop-i-init g c = start_shown (g.T.Theory.meaning c.args.theory.now) c.decide_any.result c.decide_any.ensures _ c.in_ok-rows.ensures

pub refine-requires-clause-within : goal.refine-requires-clause-within
refine-requires-clause-within g c = All-take (IsWithin (length c.args.atoms.now)) (c.loop-i.i + 1) c.args.formulas.now c.requires.within

pub refine-requires-clause-fit : goal.refine-requires-clause-fit
refine-requires-clause-fit g c = c.requires.fit

pub refine-requires-clause-some : goal.refine-requires-clause-some
refine-requires-clause-some g c = let many = length-take-le (c.loop-i.i + 1) c.args.formulas.now (omega arith) in omega (arith, many)

pub returns-then-len-most-2-clause-few : goal.returns-then-len-most-2-clause-few
returns-then-len-most-2-clause-few g c = few_rows c.loop-i.rows.items _ c.loop-i.rows.len c.args.most c.in_ok-without_notes.ensures c.loop-i.rows.ok.0 (omega (arith, c.if-len-most-2.true, c.len-2.ensures))

pub overflow_cast-most : goal.overflow_cast-most
overflow_cast-most g c = omega arith

pub overflow_cast-most-2 : goal.overflow_cast-most-2
overflow_cast-most-2 g c = omega arith

pub overflow_add-i : goal.overflow_add-i
overflow_add-i g c = omega (arith, c.loop-i-test.true)

pub slice_bounds-refine-end : goal.slice_bounds-refine-end
slice_bounds-refine-end g c = sym (length-take-le (c.loop-i.i + 1) c.args.formulas.now (omega (arith, c.loop-i-test.true)))
