use Rattle.std.proofs.lemmas.Result.{IfOk-weaker, IfErr-weaker}
use Rattle.model_tree.specs.Label.{Label}
use Rattle.label_core.proofs.Chains.{chain_grows}
use Rattle.label_split.specs.Numbers.{number_holds}
use Rattle.label_split.specs.Signs.{atoms_in_each, signs_at}
use Rattle.label_split.specs.Split.{SplitsInto, HasMoreRows, Stops, StopsFor}
use Rattle.label_split.proofs.Numbering.{gathered, atoms_fit, atoms_among, all_within, same_signs}
use Rattle.label_split.proofs.RowLists.{splits_as, stop_as, more_by_part, stops_by}
use Rattle.std.proofs.lemmas.Result.{IfOk-from_err}
use Rattle.label_split.specs.declared.rows.SplitStop.TheVariants.{Memory}
use Rattle.label_split.proofs.rows.split.Goals as goal

pub split_numbered-requires-clause-within : goal.split_numbered-requires-clause-within
split_numbered-requires-clause-within g c = rw (c.as_slice.ensures.keys, c.deref.ensures.value) (all_within g.T.Atom.PartialEq.eq c.in_ok-numbered.numbered.atoms.keys c.args.formulas.now c.in_ok-numbered.numbered.formulas.items c.in_ok-numbered.ensures.formulas (gathered g.T.Atom.PartialEq.eq g.met.T.Atom.Eq.laws c.args.formulas.now c.in_ok-numbered.numbered.atoms.keys c.in_ok-numbered.ensures.atoms))

pub split_numbered-requires-clause-fit : goal.split_numbered-requires-clause-fit
split_numbered-requires-clause-fit g c = rw c.as_slice.ensures.keys (atoms_fit g.T.Atom.PartialEq.eq g.met.T.Atom.Eq.laws (g.T.Theory.atom_fits c.args.theory.now) (g.met.T.Theory.equal_atoms_fit c.args.theory.now) c.args.formulas.now c.in_ok-numbered.numbered.atoms.keys c.in_ok-numbered.ensures.atoms c.requires.fit)

pub returns-clause-rows : goal.returns-clause-rows
returns-clause-rows g c =
    let atoms = c.in_ok-numbered.numbered.atoms.keys in
    let numbered = c.in_ok-numbered.numbered.formulas.items in
    let are = gathered g.T.Atom.PartialEq.eq g.met.T.Atom.Eq.laws c.args.formulas.now atoms c.in_ok-numbered.ensures.atoms in
    let same = λ (l : Label). same_signs g.T.Atom.PartialEq.eq atoms g.T.Theory.atom_holds g.met.T.Theory.equal_atoms c.args.formulas.now numbered l c.in_ok-numbered.ensures.formulas are in
    let found = rw (c.as_slice.ensures.keys, c.deref.ensures.value) at c.split_numbered.ensures.rows in
    IfOk-weaker c.split_numbered.result (λ rows. SplitsInto (g.T.Theory.meaning c.args.theory.now) (signs_at (number_holds g.T.Theory.atom_holds atoms) numbered) rows.items) (λ rows. SplitsInto (g.T.Theory.meaning c.args.theory.now) (signs_at g.T.Theory.atom_holds c.args.formulas.now) rows.items)
    (λ rows into. splits_as (g.T.Theory.meaning c.args.theory.now) (signs_at (number_holds g.T.Theory.atom_holds atoms) numbered) (signs_at g.T.Theory.atom_holds c.args.formulas.now) same rows.items into) found

pub returns-clause-stop : goal.returns-clause-stop
returns-clause-stop g c =
    let atoms = c.in_ok-numbered.numbered.atoms.keys in
    let numbered = c.in_ok-numbered.numbered.formulas.items in
    let are = gathered g.T.Atom.PartialEq.eq g.met.T.Atom.Eq.laws c.args.formulas.now atoms c.in_ok-numbered.ensures.atoms in
    let same = λ (l : Label). same_signs g.T.Atom.PartialEq.eq atoms g.T.Theory.atom_holds g.met.T.Theory.equal_atoms c.args.formulas.now numbered l c.in_ok-numbered.ensures.formulas are in
    let found = rw (c.as_slice.ensures.keys, c.deref.ensures.value) at c.split_numbered.ensures.stop in
    IfErr-weaker c.split_numbered.result (Stops (g.T.Theory.meaning c.args.theory.now) (HasMoreRows (g.T.Theory.meaning c.args.theory.now) (signs_at (number_holds g.T.Theory.atom_holds atoms) numbered) c.args.most) (signs_at (number_holds g.T.Theory.atom_holds atoms) numbered) atoms) (StopsFor (g.T.Theory.meaning c.args.theory.now) (HasMoreRows (g.T.Theory.meaning c.args.theory.now) (signs_at g.T.Theory.atom_holds c.args.formulas.now) c.args.most) c.args.formulas.now)
    (stop_as (g.T.Theory.meaning c.args.theory.now) (signs_at (number_holds g.T.Theory.atom_holds atoms) numbered) (signs_at g.T.Theory.atom_holds c.args.formulas.now) same atoms (atoms_in_each c.args.formulas.now)
    (λ w over. chain_grows (g.T.Theory.meaning c.args.theory.now) g.T.Atom.PartialEq.eq (g.met.T.Theory.equal_is_own c.args.theory.now) g.met.T.Atom.Eq.laws atoms (atoms_in_each c.args.formulas.now) w (atoms_among g.T.Atom.PartialEq.eq g.met.T.Atom.Eq.laws c.args.formulas.now atoms c.in_ok-numbered.ensures.atoms) over)
    (HasMoreRows (g.T.Theory.meaning c.args.theory.now) (signs_at (number_holds g.T.Theory.atom_holds atoms) numbered) c.args.most) (HasMoreRows (g.T.Theory.meaning c.args.theory.now) (signs_at g.T.Theory.atom_holds c.args.formulas.now) c.args.most)
    (more_by_part (g.T.Theory.meaning c.args.theory.now) (signs_at (number_holds g.T.Theory.atom_holds atoms) numbered) (signs_at g.T.Theory.atom_holds c.args.formulas.now) (λ s. s) same c.args.most))
    found

pub returns-in_err-numbered : goal.returns-in_err-numbered
returns-in_err-numbered g c = record {
  rows = IfOk-from_err c.from_residual.result _ c.from_residual.ensures.0;
  few = IfOk-from_err c.from_residual.result _ c.from_residual.ensures.0;
  stop = stops_by _ _ c.from_residual.result Memory c.from_residual.ensures.1 tt;
}

pub returns-clause-few : goal.returns-clause-few
returns-clause-few g c = c.split_numbered.ensures.few
