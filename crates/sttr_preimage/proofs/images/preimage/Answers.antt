use Rattle.std.proofs.Common.{[], ◌∷◌, ◌++◌, ap, ◌∙◌}
use Rattle.sttr_preimage.specs.Results.{HasPreImage}
use Rattle.sttr_preimage.proofs.Atoms.{ok_both}
use Rattle.sttr_preimage.proofs.Owed.{preimage_language}
use Rattle.sttr_preimage.proofs.images.preimage.Goals as goal

pub returns-clause-language : goal.returns-clause-language
returns-clause-language g c =
    let T = g.T in
    let N = T.Theory.meaning c.args.theory.now in
    let one = c.in_ok-push.ensures.items ∙ ap (λ l. l ++ c.args.lang.now.state ∷ []) c.new-all.ensures.items in
    ok_both _ (HasPreImage T.Labels.make N c.args.trans.now c.args.lang.now) _ c.image.result (λ lang built fits. preimage_language T.Labels.make N c.args.trans.now fits c.args.lang.now c.push.new.self.items one lang built) c.image.ensures.built c.image.ensures.fits
