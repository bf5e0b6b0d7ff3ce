use Rattle.std.proofs.Common.{inl, ℕ, List}
use Rattle.std.proofs.lemmas.Result.{IfOk-weaker, IfErr-weaker}
use Rattle.fast_syntax.specs.Plain.{plain_x}
use Rattle.fast_build.specs.Items.{items_of}
use Rattle.model_names.specs.Kinds.{language}
use Rattle.fast_eval.specs.Counted.{IsCounted}
use Rattle.fast_eval.specs.Forms.{IsMadeOn}
use Rattle.fast_eval.specs.Scopes.{items_in, type_in, count_of, IsOperandOf}
use Rattle.fast_eval.specs.Stops.{StopsExpression}
use Rattle.fast_eval.proofs.Scoped.{made_there, named_there, operand_back, counted_back, stop_back}
use Rattle.fast_eval.proofs.definitions.value.Goals as goal

pub language-requires : goal.language-requires
language-requires c =
    let k = c.args.checked.now in
    let b = c.args.built.now in
    let x = plain_x c.args.x.now in
    let s = c.scope_of-scope.result in
    let is = c.scope_of-scope.ensures.of in
    record {
      scope = c.scope_of-scope.ensures.scope;
      made = made_there k b c.args.limit x s is c.requires.made.0 (inl c.requires.made.1) x c.requires.made.1;
      named = named_there k b c.args.limit x s is language x c.requires.named;
    }

pub returns-clause-built : goal.returns-clause-built
returns-clause-built c =
    let k = c.args.checked.now in
    let b = c.args.built.now in
    let x = plain_x c.args.x.now in
    let s = c.scope_of-scope.result in
    let is = c.scope_of-scope.ensures.of in
    IfOk-weaker c.language.result (IsOperandOf (items_in s) x (type_in s) s.built.now) (λ o. (type : List ℕ) → IsMadeOn (items_of k) type x → IsOperandOf (items_of k) x type b o) (λ o h type made. operand_back k b c.args.limit x s is type made o h) c.language.ensures.built

pub returns-clause-counted : goal.returns-clause-counted
returns-clause-counted c =
    let k = c.args.checked.now in
    let x = plain_x c.args.x.now in
    let s = c.scope_of-scope.result in
    IfOk-weaker c.language.result (λ o. IsCounted (items_in s) x (count_of o)) (λ o. IsCounted (items_of k) x (count_of o)) (λ o h. counted_back k c.args.built.now c.args.limit x s c.scope_of-scope.ensures.of (count_of o) h) c.language.ensures.counted

pub returns-clause-stop : goal.returns-clause-stop
returns-clause-stop c =
    let k = c.args.checked.now in
    let b = c.args.built.now in
    let x = plain_x c.args.x.now in
    let s = c.scope_of-scope.result in
    let is = c.scope_of-scope.ensures.of in
    IfErr-weaker c.language.result (StopsExpression (items_in s) x s.limit) (StopsExpression (items_of k) x c.args.limit) (stop_back k b c.args.limit x s is) c.language.ensures.stop
