use Rattle.std.proofs.Common.{sym, ap, ◌∙◌}
use Rattle.std.specs.Prelude.{is_some}
use Rattle.std.proofs.lemmas.Result.{IfOk-from_err}
use Rattle.indexmap.specs.IndexSet.{insert_key}
use Rattle.label_split.specs.Numbers.{place}
use Rattle.label_split.proofs.Numbered.{some_place, atom_found, atom_put}
use Rattle.label_split.proofs.numbers.number_atom.Goals as goal

pub returns-in-Some : goal.returns-in-Some
returns-in-Some g c = atom_found g.A.PartialEq.eq g.met.A.Eq.laws c.args.atoms.now.keys c.args.atom.now c.in-Some.number (sym c.get_index_of.ensures.found ∙ ap is_some c.in-Some.is) (some_place (g.A.PartialEq.eq c.args.atom.now) c.args.atoms.now.keys c.in-Some.number (sym c.get_index_of.ensures.index ∙ c.in-Some.is))

pub returns : goal.returns
returns g c = atom_put g.A.PartialEq.eq g.met.A.Eq.laws c.args.atoms.now.keys c.insert_full.new.self.keys c.args.atom.now c.in_ok-number.number (c.in_ok-number.ensures.keys ∙ ap (insert_key g.A.PartialEq.eq c.args.atoms.now.keys) c.in_ok-copy.ensures) (c.in_ok-number.ensures.index ∙ ap (place g.A.PartialEq.eq c.args.atoms.now.keys) c.in_ok-copy.ensures)

pub returns-in_err-copy : goal.returns-in_err-copy
returns-in_err-copy g c = IfOk-from_err c.from_residual.result _ c.from_residual.ensures.0

pub returns-in_err-number : goal.returns-in_err-number
returns-in_err-number g c = IfOk-from_err c.from_residual-in_err-number.result _ c.from_residual-in_err-number.ensures.0
