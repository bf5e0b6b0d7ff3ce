use Rattle.sta_ops.proofs.Differing.{difference_is, difference_owed}
use Rattle.sta_ops.proofs.complements.difference.Goals as goal

pub returns-clause-language : goal.returns-clause-language
returns-clause-language g c =
    difference_is (g.T.Theory.meaning c.args.theory.now) g.T.Atom.PartialEq.eq (g.met.T.Theory.equal_is_own c.args.theory.now) g.met.T.Atom.Eq.laws (g.T.Theory.atom_fits c.args.theory.now) c.args.a.now c.args.b.now c.in_ok-others.others c.in_ok-made.made c.requires.ranks c.requires.second c.in_ok-others.ensures.language c.in_ok-made.ensures.language

pub returns-clause-made : goal.returns-clause-made
returns-clause-made g c =
    difference_owed (g.T.Theory.meaning c.args.theory.now) g.T.Atom.PartialEq.eq (g.met.T.Theory.equal_is_own c.args.theory.now) g.met.T.Atom.Eq.laws (g.T.Theory.atom_fits c.args.theory.now) c.args.a.now c.args.b.now c.in_ok-others.others c.in_ok-made.made c.requires.ranks c.in_ok-others.ensures.made c.in_ok-made.ensures.made

pub returns-clause-reached : goal.returns-clause-reached
returns-clause-reached g c = c.in_ok-made.ensures.reached
