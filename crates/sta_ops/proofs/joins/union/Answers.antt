use Rattle.sta_ops.proofs.Trimming.{part_made, part_owed, trimmed_reaches}
use Rattle.sta_ops.proofs.joins.union.Goals as goal

pub trimmed-requires : goal.trimmed-requires
trimmed-requires g c = c.in_ok-made.ensures.made.low

pub returns-clause-language : goal.returns-clause-language
returns-clause-language g c =
    part_made (g.T.Theory.meaning c.args.theory.now) g.T.Atom.PartialEq.eq (g.met.T.Theory.equal_is_own c.args.theory.now) g.met.T.Atom.Eq.laws (g.T.Theory.atom_fits c.args.theory.now) c.in_ok-made.made c.in_ok-part.part c.in_ok-part.ensures _ _ _ c.in_ok-made.ensures.language

pub returns-clause-made : goal.returns-clause-made
returns-clause-made g c =
    part_owed (g.T.Theory.meaning c.args.theory.now) g.T.Atom.PartialEq.eq (g.met.T.Theory.equal_is_own c.args.theory.now) g.met.T.Atom.Eq.laws (g.T.Theory.atom_fits c.args.theory.now) c.in_ok-made.made c.in_ok-part.part c.in_ok-part.ensures c.args.a.now c.args.b.now c.in_ok-made.ensures.made

pub returns-clause-reached : goal.returns-clause-reached
returns-clause-reached g c = trimmed_reaches c.in_ok-made.made c.in_ok-part.part c.in_ok-part.ensures
