use Rattle.std.proofs.Common.{inl, ◌≡◌, ◌↔◌, true}
use Rattle.std.proofs.lemmas.Result.{IfOk-weaker, IfErr-weaker}
use Rattle.model_tree.specs.Tree.{relabel}
use Rattle.fast_tree.specs.Entries.{label_meaning}
use Rattle.fast_syntax.specs.Plain.{plain_x}
use Rattle.model_meaning.specs.Meaning.{IsInLanguage}
use Rattle.fast_build.specs.Items.{items_of}
use Rattle.model_names.specs.Kinds.{language}
use Rattle.fast_eval.specs.Scopes.{items_in}
use Rattle.fast_eval.specs.Stops.{StopsExpression}
use Rattle.fast_eval.proofs.Scoped.{made_there, named_there, typed_in, inside_back, stop_back}
use Rattle.fast_eval.proofs.witnesses.belongs.Goals as goal

pub returns-in_err-build_names-clause-built : goal.returns-in_err-build_names-clause-built
returns-in_err-build_names-clause-built c = c.build_names.ensures.built c.requires.built

pub scope_of-scope-requires-clause-built : goal.scope_of-scope-requires-clause-built
scope_of-scope-requires-clause-built c = c.build_names.ensures.built c.requires.built

pub is_inside-requires : goal.is_inside-requires
is_inside-requires c =
    let k = c.args.checked.now in
    let b = c.build_names.new.built in
    let y = plain_x c.args.y.now in
    let s = c.scope_of-scope.result in
    let is = c.scope_of-scope.ensures.of in
    record {
      scope = c.scope_of-scope.ensures.scope;
      made = made_there k b c.args.limit y s is c.requires.made.0 (inl c.requires.made.1) y c.requires.made.1;
      named = named_there k b c.args.limit y s is language y (c.in_ok-build_names.ensures {u = tt}).named;
      typed = typed_in k b c.args.limit y s is y (relabel label_meaning c.args.tree.now) c.requires.typed;
      kept = c.requires.kept;
    }

pub returns-clause-inside : goal.returns-clause-inside
returns-clause-inside c =
    let k = c.args.checked.now in
    let y = plain_x c.args.y.now in
    let s = c.scope_of-scope.result in
    let t = relabel label_meaning c.args.tree.now in
    IfOk-weaker c.is_inside.result (λ inside. (inside ≡ true) ↔ IsInLanguage (items_in s) y t) (λ inside. (inside ≡ true) ↔ IsInLanguage (items_of k) y t)
    (inside_back k c.build_names.new.built c.args.limit y s c.scope_of-scope.ensures.of y t) c.is_inside.ensures.inside

pub returns-clause-stop : goal.returns-clause-stop
returns-clause-stop c =
    let k = c.args.checked.now in
    let y = plain_x c.args.y.now in
    let s = c.scope_of-scope.result in
    IfErr-weaker c.is_inside.result (StopsExpression (items_in s) y s.limit) (StopsExpression (items_of k) y c.args.limit) (stop_back k c.build_names.new.built c.args.limit y s c.scope_of-scope.ensures.of) c.is_inside.ensures.stop

pub returns-clause-built : goal.returns-clause-built
returns-clause-built c = c.build_names.ensures.built c.requires.built
