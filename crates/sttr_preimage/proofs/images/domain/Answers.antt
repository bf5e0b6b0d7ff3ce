use Rattle.std.proofs.Common.{map, ap, ◌∙◌}
use Rattle.sta_core.specs.Machine.{plain_rule}
use Rattle.sttr_preimage.proofs.Owed.{domain_language}
use Rattle.sttr_preimage.proofs.images.domain.Goals as goal

pub returns-in-Ok-clause-language : goal.returns-in-Ok-clause-language
returns-in-Ok-clause-language g c =
    let T = g.T in
    let none = ap (λ m. m.rules) c.new-nothing.ensures ∙ ap (map (λ those. map plain_rule those.items)) c.new.ensures.items in
    domain_language T.Labels.make (T.Theory.meaning c.args.theory.now) c.args.trans.now c.in-Ok.ensures.fits c.new-nothing.result none c.new-2.result.items c.new-2.ensures.items c.in-Ok.lang c.in-Ok.ensures.built
