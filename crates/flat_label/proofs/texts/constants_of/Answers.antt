use Rattle.std.proofs.Common.{All, take_all, take, subst}
use Rattle.std.proofs.lemmas.List.Elements.{All-more, All-weaker}
use Rattle.flat_label.specs.Sides.{AreAmong}
use Rattle.flat_label.proofs.texts.constants_of.Goals as goal

pub loop-literal-preserved : goal.loop-literal-preserved
loop-literal-preserved c =
    let before = All-weaker (λ x. AreAmong c.loop-literal.constants.keys x.atom) (λ x. AreAmong c.add_constant-in-loop-literal.new.constants.keys x.atom)
    (λ x h. (c.in_ok-add_constant-2.ensures.kept x.atom.left (c.in_ok-add_constant.ensures.kept x.atom.left h.0), c.in_ok-add_constant-2.ensures.kept x.atom.right (c.in_ok-add_constant.ensures.kept x.atom.right h.1)))
    (take c.loop-literal.literal-index c.args.literals.now) c.loop-literal.invariant in
    let here : AreAmong c.add_constant-in-loop-literal.new.constants.keys c.literal-item.result.atom = (c.in_ok-add_constant-2.ensures.kept c.literal-item.result.atom.left c.in_ok-add_constant.ensures.added, c.in_ok-add_constant-2.ensures.added) in
    All-more (λ x. AreAmong c.add_constant-in-loop-literal.new.constants.keys x.atom) c.args.literals.now c.loop-literal.literal-index c.literal-item.result c.loop-literal-test.true before
    (subst (λ x. AreAmong c.add_constant-in-loop-literal.new.constants.keys x.atom) c.literal-item.is here)

pub returns : goal.returns
returns c = subst (All (λ x. AreAmong c.loop-literal.constants.keys x.atom)) (take_all c.loop-literal.literal-index c.args.literals.now c.loop-literal-test.false) c.loop-literal.invariant
