use Rattle.std.proofs.Common.{◌≡◌, ◌∙◌, inl, inr, true, false, sym, ap}
use Rattle.std.specs.Prelude.{is_some}
use Rattle.fast_session.proofs.Prepared.{at_more}
use Rattle.fast_session.proofs.session.Session.prepare.Goals as goal

pub prepare-requires : goal.prepare-requires
prepare-requires c = elim c.requires.session [
  | inl s ↦ record { shallow = s.1.over.shallow; built = s.1.kept.built }
  | inr over ↦ (let bad : false ≡ true = sym (ap is_some c.in_default.is) ∙ over in absurd (cc))
]

pub returns-in-Ok-clause-session : goal.returns-in-Ok-clause-session
returns-in-Ok-clause-session c = elim c.requires.session [
  | inl s ↦ inl (s.0, at_more c.args.self.now c.prepare.new.kept c.prepare.ensures.more s.0 s.1)
  | inr over ↦ (let bad : false ≡ true = sym (ap is_some c.in_default.is) ∙ over in absurd (cc))
]

pub returns-in-Ok-clause-at : goal.returns-in-Ok-clause-at
returns-in-Ok-clause-at c = λ done at. at_more c.args.self.now c.prepare.new.kept c.prepare.ensures.more done at

pub returns-in-Ok-clause-prepared : goal.returns-in-Ok-clause-prepared
returns-in-Ok-clause-prepared c = λ kind named. elim c.requires.session [
  | inl s ↦ inl (record { done = s.0; at = at_more c.args.self.now c.prepare.new.kept c.prepare.ensures.more s.0 s.1; named = named; known = c.in-Ok.ensures.known kind named })
  | inr over ↦ (let bad : false ≡ true = sym (ap is_some c.in_default.is) ∙ over in absurd (cc))
]

pub returns-in-Err-clause-halt : goal.returns-in-Err-clause-halt
returns-in-Err-clause-halt c = λ running. c.in-Err.ensures.halt

pub returns-in-Ok-clause-composable : goal.returns-in-Ok-clause-composable
returns-in-Ok-clause-composable c = c.in-Ok.ensures.composable
