use Rattle.std.proofs.Common.{◌≡◌, length, ap, sym, ◌∙◌, arith}
use Rattle.std.proofs.Common.{of_z}
use Rattle.std.specs.Int.{w128}
use Rattle.std.specs.Hash.{le_bytes}
use Rattle.model_form.specs.Form.{constant_of, fields_of, remainders_of, count}
use Rattle.lin_form.proofs.Hashing.{length-fields, count-remainders}
use Rattle.lin_form.proofs.same.FormHash.hash.Goals as goal

pub returns : goal.returns
returns g c =
    let v = c.self.view_is in
    let few : c.len.result ≡ length c.self.inside.fields.items = (let k = c.self.inside.fields.ok in let e = c.len.ensures in omega arith) in
    let many : c.len-2.result ≡ length c.self.inside.remainders.items = (let k = c.self.inside.remainders.ok in let e = c.len-2.ensures in omega arith) in
    let constant : constant_of c.args.self.now ≡ c.self.inside.constant = sym (ap constant_of v) in
    let fields : length (fields_of c.args.self.now) ≡ c.len.result = sym (ap (λ f. length (fields_of f)) v) ∙ length-fields c.self.inside.fields.items ∙ sym few in
    let terms : count (remainders_of c.args.self.now) ≡ c.len-2.result = sym (ap (λ f. count (remainders_of f)) v) ∙ count-remainders c.self.inside.remainders.items ∙ sym many in
    let few-terms = sym fields in
    let many-terms = sym terms in
    let W = g.H.Hasher.write in
    let first = c.hash.ensures ∙ ap (λ z. W c.args.state.now (le_bytes 16 (of_z w128 z))) (sym constant) in
    let second = c.hash-2.ensures ∙ (λ i. W (first i) (le_bytes 8 (few-terms i))) in
    c.hash-3.ensures ∙ (λ i. W (second i) (le_bytes 8 (many-terms i)))
