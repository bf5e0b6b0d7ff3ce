use Rattle.std.proofs.Common.{◌≡◌, ◌∙◌, inl, inr, true, false, suc, ◌∷◌, take, drop, refl, sym, ap, subst}
use Rattle.std.specs.Prelude.{is_some}
use Rattle.fast_syntax.specs.Plain.{plain_item}
use Rattle.fast_session.specs.Answers.{given}
use Rattle.fast_session.specs.Sessions.{items_in, IsHalt, IsStep}
use Rattle.fast_eval.proofs.Labels.{splits_next}
use Rattle.fast_session.proofs.Stepping.{item_there, halt_is, at_next, step_is}
use Rattle.fast_session.proofs.session.Session.step.Goals as goal

pub do_item-requires : goal.do_item-requires
do_item-requires c =
    let items = items_in c.args.self.now in
    let n = c.args.self.now.next in
    let item = plain_item c.index-items-self.result in
    let w = item_there c.args.self.now.checked c.program.result.now c.as_slice-items.result.now n _ c.index-items-self.result c.program.ensures c.as_slice-items.ensures.value c.if-self-items.false refl c.index-items-self.is in
    record {
      ready = elim c.requires.session [
        | inl s ↦ record {
          at = record { before = take n items; behind = drop (suc n) items; is = splits_next items n item w.0 w.1 };
          kept = s.1.kept;
          outcomes = s.0;
          told = s.1.told;
          shallow = s.1.over.shallow;
        }
        | inr over ↦ (let bad : false ≡ true = sym (ap is_some c.in_default.is) ∙ over in absurd (cc))
      ];
    }

pub returns-in-Ok-clause-session : goal.returns-in-Ok-clause-session
returns-in-Ok-clause-session c =
    let n = c.args.self.now.next in
    let item = plain_item c.index-items-self.result in
    let w = item_there c.args.self.now.checked c.program.result.now c.as_slice-items.result.now n _ c.index-items-self.result c.program.ensures c.as_slice-items.ensures.value c.if-self-items.false refl c.index-items-self.is in
    elim c.requires.session [
      | inl s ↦ inl (given (items_in c.args.self.now) c.in-Ok.line ∷ s.0, at_next c.args.self.now s.0 s.1 item w.0 w.1 _ refl refl refl s.1.running (given (items_in c.args.self.now) c.in-Ok.line) (c.in-Ok.ensures {u = tt}).done)
      | inr over ↦ (let bad : false ≡ true = sym (ap is_some c.in_default.is) ∙ over in absurd (cc))
    ]

pub returns-in-Ok-clause-step : goal.returns-in-Ok-clause-step
returns-in-Ok-clause-step c done at =
    let n = c.args.self.now.next in
    let item = plain_item c.index-items-self.result in
    let w = item_there c.args.self.now.checked c.program.result.now c.as_slice-items.result.now n _ c.index-items-self.result c.program.ensures c.as_slice-items.ensures.value c.if-self-items.false refl c.index-items-self.is in
    subst (IsStep c.args.self.now _ done) (sym c.step_of.ensures) (step_is c.args.self.now done at item w.0 w.1 _ refl refl refl at.running c.in-Ok.line (c.in-Ok.ensures {u = tt}).done)

pub returns-in-Err-clause-halt : goal.returns-in-Err-clause-halt
returns-in-Err-clause-halt c done at =
    let n = c.args.self.now.next in
    let item = plain_item c.index-items-self.result in
    let w = item_there c.args.self.now.checked c.program.result.now c.as_slice-items.result.now n _ c.index-items-self.result c.program.ensures c.as_slice-items.ensures.value c.if-self-items.false refl c.index-items-self.is in
    subst (IsHalt c.args.self.now done) (sym c.halt_at-halt.ensures) (halt_is c.args.self.now done at item w.0 w.1 c.in-Err.stopped (c.in-Err.ensures {u = tt}).stopped)
