use Rattle.std.proofs.Common.{map, sym, ap, ◌∙◌}
use Rattle.std.specs.Option.{option_map, option_and_then}
use Rattle.fast_tree.specs.Signatures.{plain_signature}
use Rattle.fast_syntax.specs.Plain.{plain_program}
use Rattle.program_check.specs.Signed.{signature_in}
use Rattle.program_check.proofs.ByHead.{lent}
use Rattle.program_check.proofs.Found.{got, signature_found, signature_missing}
use Rattle.program_check.proofs.programs.Checked.signature.Goals as goal

pub returns-in-Some-get : goal.returns-in-Some-get
returns-in-Some-get c =
    lent plain_signature c.as_ref.result c.in-Some-get.signature.now c.as_ref.ensures.value
    ∙ ap (option_and_then (λ s. s)) (sym (ap (option_map (λ x. option_map plain_signature x.now)) c.in-Some-get.is) ∙ got (λ x. x.now) (option_map plain_signature) c.deref.result.now c.in-Some.place c.get.result c.get.ensures.lookup)
    ∙ ap (λ xs. signature_in (map (option_map plain_signature) xs) c.in-Some.place) c.deref.ensures.value ∙ ap (λ ss. signature_in ss c.in-Some.place) c.args.self.now.signed
    ∙ signature_found c.args.name.now (plain_program c.args.self.now.program) c.place.result c.in-Some.place (c.place.ensures ∙ c.args.self.now.numbered.types c.args.name.now) c.in-Some.is

pub returns-in-None-get : goal.returns-in-None-get
returns-in-None-get c =
    ap (option_and_then (λ s. s)) (sym (ap (option_map (λ x. option_map plain_signature x.now)) c.in-None-get.is) ∙ got (λ x. x.now) (option_map plain_signature) c.deref.result.now c.in-Some.place c.get.result c.get.ensures.lookup)
    ∙ ap (λ xs. signature_in (map (option_map plain_signature) xs) c.in-Some.place) c.deref.ensures.value ∙ ap (λ ss. signature_in ss c.in-Some.place) c.args.self.now.signed
    ∙ signature_found c.args.name.now (plain_program c.args.self.now.program) c.place.result c.in-Some.place (c.place.ensures ∙ c.args.self.now.numbered.types c.args.name.now) c.in-Some.is

pub returns-in-None : goal.returns-in-None
returns-in-None c = signature_missing c.args.name.now (plain_program c.args.self.now.program) c.place.result (c.place.ensures ∙ c.args.self.now.numbered.types c.args.name.now) c.in-None.is
