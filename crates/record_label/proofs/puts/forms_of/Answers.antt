use Rattle.std.proofs.Common.{◌≡◌, ◌++◌, ◌∷◌, [], map, sym, ap, append-nil, ◌∙◌, Vec, Global}
use Rattle.std.proofs.lemmas.List.{at_drop_all}
use Rattle.std.proofs.lemmas.Result.{IfOk-from_err}
use Rattle.model_form.specs.Form.{Form}
use Rattle.record_label.specs.Maps.{forms_of}
use Rattle.record_label.specs.PlainMaps.{plain_entry}
use Rattle.record_label.proofs.CopyFacts.{given_made}
use Rattle.record_label.proofs.PutFacts.{forms_more, forms_same}
use Rattle.record_label.proofs.puts.forms_of.Goals as goal
use Rattle.record_label.proofs.puts.forms_of.Goals.{in-Number+in_ok-added, in_default}

pub returns-in_err-added : goal.returns-in_err-added
returns-in_err-added c = IfOk-from_err c.from_residual.result _ c.from_residual.ensures.0

pub loop-entry-preserved : goal.loop-entry-preserved
loop-entry-preserved c = elim c.match-entry.branch [
  | in-Number+in_ok-added w ↦
      let own = w.in_ok-added.ensures {u = tt} in
      let same : own.0 ≡ w.in-Number.form = given_made w.copy.result (λ copy. copy ≡ w.in-Number.form) own.0 own.1 w.copy.ensures in
      forms_more c.args.entries.now c.loop-entry.entry-index c.entry-item.result c.loop-entry-test.true c.entry-item.is c.loop-entry.forms.items c.match-entry.forms.items _ w.in-Number.form w.in-Number.is (ap (λ (v : Vec Form Global). v.items) w.forms-is ∙ own.2 ∙ ap (λ f. c.loop-entry.forms.items ++ f ∷ []) same) c.loop-entry.invariant
  | in_default w ↦
      forms_same c.args.entries.now c.loop-entry.entry-index c.entry-item.result c.loop-entry-test.true c.entry-item.is c.loop-entry.forms.items c.match-entry.forms.items _ w.in_default.not-Number (ap (λ (v : Vec Form Global). v.items) w.forms-is) c.loop-entry.invariant
]

pub returns : goal.returns
returns c =
    let made = c.loop-entry.forms.items in
    sym (append-nil made) ∙ sym (at_drop_all (λ es. made ++ forms_of (map plain_entry es)) c.args.entries.now c.loop-entry.entry-index c.loop-entry-test.false) ∙ c.loop-entry.invariant
