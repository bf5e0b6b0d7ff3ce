use Rattle.std.proofs.Common.{◌≡◌, ap, sym, ◌∙◌, subst, arith, ◌+◌, [], ◌∷◌, ◌++◌, true, false, vec_len}
use Rattle.std.proofs.lemmas.Bool.{eq-eqb}
use Rattle.lin_form.specs.declared.form.RemTerm.{RemTerm}
use Rattle.std.specs.Prelude.{pos}
use Rattle.model_form.specs.Form.{form, remainder, no_remainders}
use Rattle.model_form.specs.Sums.{remainder_form}
use Rattle.lin_form.specs.Nest.{bare, nest}
use Rattle.lin_form.specs.Whole.{IsSound}
use Rattle.lin_form.proofs.Nests.{sound_over}
use Rattle.lin_form.proofs.Wholes.{inner_low}
use Rattle.lin_form.specs.Terms.{plain_fields, plain_remainders}
use Rattle.lin_form.proofs.Outside.{remainder_is, fields_none, remainders_none}
use Rattle.lin_form.proofs.form.Form.into_remainder.Goals as goal
use Rattle.lin_form.proofs.form.Form.into_remainder.Goals.{else-is_empty-via-then-is_empty+else-is_empty-2, else-is_empty-via-else-is_empty}

pub overflow_add-depth : goal.overflow_add-depth
overflow_add-depth c = let d = c.self.invariant.depth in let l = inner_low _ c.self.invariant.inner in omega arith

pub invariant_of-result : goal.invariant_of-result
invariant_of-result c =
    let items = (c.in_ok-push.ensures {u = tt}).items in
    let one : RemTerm = record { coefficient = pos 1; inner = nest c.args.self c.new.result.items; divisor = c.args.by } in
    let same = ap (λ ks. nest c.args.self ks) c.new.ensures.items in
    let made : c.push.new.self.items ≡ one ∷ [] = items ∙ ap (λ ts. ts ++ one ∷ []) c.new-remainders.ensures.items in
    let view : bare c.args.self c.args.by ≡ form (pos 0) (plain_fields c.new-2.result.items) (plain_remainders c.push.new.self.items) =
    (λ i. form (pos 0) [] (remainder (pos 1) (sym same i) c.args.by no_remainders)) ∙ (λ i. form (pos 0) (plain_fields (sym c.new-2.ensures.items i)) (plain_remainders (sym made i))) in
    let sound = subst (IsSound c.self.inside.depth) c.self.view_is c.self.invariant in
    subst (IsSound (c.self.inside.depth + 1)) view (sound_over c.self.inside.depth c.args.self c.args.by sound (sym c.is_bare.ensures ∙ c.if-is_bare.false) (let l = c.if-depth-gt-DEEPEST.false in omega arith) c.requires.some c.requires.few)

pub returns : goal.returns
returns c =
    let items = (c.in_ok-push.ensures {u = tt}).items in
    let n : plain_fields c.self.inside.fields.items ≡ [] → plain_remainders c.self.inside.remainders.items ≡ no_remainders → ⊥ = λ p q. elim c.else-is_empty.branch [
      | else-is_empty-via-then-is_empty+else-is_empty-2 w ↦ (
          let l = remainders_none c.self.inside.remainders.items q in
          let v : vec_len c.self.inside.remainders ≡ 0 = omega arith in
          let z : true ≡ false = sym (eq-eqb (vec_len c.self.inside.remainders) 0 v) ∙ sym w.is_empty-then-is_empty.ensures ∙ w.if-is_empty-2.false in cc)
      | else-is_empty-via-else-is_empty w ↦ (
          let l = fields_none c.self.inside.fields.items p in
          let v : vec_len c.self.inside.fields ≡ 0 = omega arith in
          let z : true ≡ false = sym (eq-eqb (vec_len c.self.inside.fields) 0 v) ∙ sym c.is_empty.ensures ∙ w.if-is_empty.false in cc)
    ] in
    let t : RemTerm = record { coefficient = pos 1; inner = c.args.self; divisor = c.args.by } in
    let one : RemTerm = record { coefficient = pos 1; inner = nest c.args.self c.new.result.items; divisor = c.args.by } in
    let same : one ≡ t = ap (λ ks. record { coefficient = pos 1; inner = nest c.args.self ks; divisor = c.args.by }) c.new.ensures.items in
    let made : c.push.new.self.items ≡ t ∷ [] = items ∙ (λ i. c.new-remainders.ensures.items i ++ same i ∷ []) in
    (λ i. form (pos 0) (plain_fields (c.new-2.ensures.items i)) (plain_remainders (made i)))
    ∙ (λ i. form (pos 0) [] (remainder (pos 1) (sym c.self.view_is i) c.args.by no_remainders))
    ∙ sym (remainder_is c.self.inside.constant (plain_fields c.self.inside.fields.items) (plain_remainders c.self.inside.remainders.items) c.args.by n)
    ∙ ap (λ f. remainder_form f c.args.by) c.self.view_is
