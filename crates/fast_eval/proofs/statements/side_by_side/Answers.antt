use Rattle.fast_syntax.specs.Plain.{plain_x}
use Rattle.fast_eval.specs.Scopes.{items_in, type_in}
use Rattle.fast_eval.proofs.Judged.{found_wanted}
use Rattle.fast_eval.proofs.Ready.{operand_built, atoms_fit, same_ranks, start_low}
use Rattle.fast_eval.proofs.statements.side_by_side.Goals as goal

pub compare-requires : goal.compare-requires
compare-requires c =
    let s = c.args.scope.now in
    let x = plain_x c.args.x.now in
    let y = plain_x c.args.y.now in
    let l = c.lang_of-a.result.now in
    let m = c.lang_of-b.result.now in
    let first = operand_built (items_in s) x (type_in s) s.built.now c.in-Ok.a l c.in-Ok.ensures.built c.lang_of-a.ensures in
    let second = operand_built (items_in s) y (type_in s) s.built.now c.in-Ok-language.b m c.in-Ok-language.ensures.built c.lang_of-b.ensures in
    record {
      ranks = same_ranks (items_in s) (type_in s) x l first y m second;
      first = start_low (items_in s) (type_in s) x l first;
      second = start_low (items_in s) (type_in s) y m second;
      first_fit = atoms_fit (items_in s) (type_in s) x l first s.theory.now c.requires.scope.labels;
      second_fit = atoms_fit (items_in s) (type_in s) y m second s.theory.now c.requires.scope.labels;
    }

pub returns-in-Ok-compare : goal.returns-in-Ok-compare
returns-in-Ok-compare c place =
    let s = c.args.scope.now in
    let x = plain_x c.args.x.now in
    let y = plain_x c.args.y.now in
    let l = c.lang_of-a.result.now in
    let m = c.lang_of-b.result.now in
    let first = operand_built (items_in s) x (type_in s) s.built.now c.in-Ok.a l c.in-Ok.ensures.built c.lang_of-a.ensures in
    let second = operand_built (items_in s) y (type_in s) s.built.now c.in-Ok-language.b m c.in-Ok-language.ensures.built c.lang_of-b.ensures in
    found_wanted (items_in s) (type_in s) s.theory.now c.requires.scope.labels s.limit x l first y m second c.args.wanted place c.requires.scope.shallow c.in-Ok-compare.found c.in-Ok-compare.ensures.found
