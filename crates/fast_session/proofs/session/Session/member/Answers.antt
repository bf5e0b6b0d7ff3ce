use Rattle.std.proofs.Common.{◌≡◌, ◌∙◌, inl, inr, true, false, sym, ap}
use Rattle.std.specs.Prelude.{is_some}
use Rattle.fast_session.proofs.Prepared.{at_more, prepared_more}
use Rattle.fast_session.proofs.session.Session.member.Goals as goal

pub is_member-requires : goal.is_member-requires
is_member-requires c = elim c.requires.prepared [
  | inl r ↦ record { shallow = r.at.over.shallow; built = r.at.kept.built; language = r.named; known = r.known; typed = c.requires.typed; kept = c.requires.kept }
  | inr over ↦ (let bad : false ≡ true = sym (ap is_some c.in_default.is) ∙ over in absurd (cc))
]

pub returns-in-Ok-clause-prepared : goal.returns-in-Ok-clause-prepared
returns-in-Ok-clause-prepared c = λ kind other was. prepared_more c.args.self.now c.is_member.new.kept c.is_member.ensures.more kind other was

pub returns-in-Ok-clause-at : goal.returns-in-Ok-clause-at
returns-in-Ok-clause-at c = λ done at. at_more c.args.self.now c.is_member.new.kept c.is_member.ensures.more done at
