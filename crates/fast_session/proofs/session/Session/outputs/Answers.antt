use Rattle.fast_session.proofs.Prepared.{at_more, ready_more}
use Rattle.fast_session.proofs.session.Session.outputs.Goals as goal

pub outputs_of-requires : goal.outputs_of-requires
outputs_of-requires c =
    let r = c.requires.ready in
    record { shallow = r.at.over.shallow; built = r.at.kept.built; named = r.named; known = r.known; typed = c.requires.typed; kept = c.requires.kept }

pub returns-clause-ready : goal.returns-clause-ready
returns-clause-ready c = λ kind other was. ready_more c.args.self.now c.outputs_of.new.kept c.outputs_of.ensures.more kind other was

pub returns-clause-at : goal.returns-clause-at
returns-clause-at c = λ done at. at_more c.args.self.now c.outputs_of.new.kept c.outputs_of.ensures.more done at
