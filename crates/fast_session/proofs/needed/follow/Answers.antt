use Rattle.std.proofs.Common.{refl, sym, ◌∙◌}
use Rattle.fast_syntax.specs.Plain.{plain_item, plain_def}
use Rattle.fast_build.proofs.Grown.{there_by_test}
use Rattle.fast_eval.proofs.Places.{on_ok}
use Rattle.fast_session.proofs.Following.{is_def, is_no_def, nothing_followed, other_def, def_followed}
use Rattle.fast_session.proofs.needed.follow.Goals as goal

pub returns-in_default : goal.returns-in_default
returns-in_default c = nothing_followed (plain_item c.args.item.now).body c.args.names.now.keys c.args.names.now.keys refl (λ d is at. is_no_def (plain_item c.args.item.now).body c.in_default.ensures d is)

pub returns-then-not-contains : goal.returns-then-not-contains
returns-then-not-contains c =
    let body = (plain_item c.args.item.now).body in
    let own = plain_def c.in-Some.own.now in
    other_def body c.args.names.now.keys own (is_def body own c.in-Some.ensures) (sym c.contains.ensures ∙ c.if-not-contains.true)

pub add_names-requires : goal.add_names-requires
add_names-requires c = c.requires (plain_def c.in-Some.own.now) (is_def (plain_item c.args.item.now).body (plain_def c.in-Some.own.now) c.in-Some.ensures)

pub returns : goal.returns
returns c =
    let body = (plain_item c.args.item.now).body in
    let own = plain_def c.in-Some.own.now in
    let is = is_def body own c.in-Some.ensures in
    on_ok c.add_names.result (λ grown. def_followed body c.args.names.now.keys c.add_names.new.names.keys own is (c.requires own is) (there_by_test c.args.names.now.keys own.name.text (sym c.contains.ensures ∙ c.if-not-contains.false)) grown) c.add_names.ensures
