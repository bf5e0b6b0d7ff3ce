use Rattle.std.proofs.Common.{ap, arith, sym, subst}
use Rattle.model_names.specs.Kinds.{taken_first}
use Rattle.fast_syntax.specs.Plain.{plain_x}
use Rattle.fast_build.specs.Items.{items_of}
use Rattle.fast_eval.specs.Forms.{plain_taken, AreReady, AreNamed}
use Rattle.fast_eval.proofs.Keeping.{more_twice, named_grown, all_ready_grown}
use Rattle.fast_eval.proofs.Places.{on_ok}
use Rattle.fast_eval.proofs.Sizes.{size_of}
use Rattle.fast_eval.proofs.names.+build_names.Goals as goal

pub build_names-requires : goal.build_names-requires
build_names-requires t c =
    let items = items_of c.args.checked.now in
    let b = c.args.built.now in
    let known = subst (AreReady (plain_taken c.args.taken) items b) (ap plain_x c.in-One.is) c.requires.known in
    let whole = ap (λ v. size_of (plain_x v)) c.in-One.is in
    let inside = ap (λ v. size_of (plain_x v)) c.deref.ensures in
    (omega (arith, whole, inside, c.decreases), subst (λ v. AreReady (plain_taken c.taken_by_one.result) items b (plain_x v)) (sym c.deref.ensures) (subst (λ k. AreReady k items b (plain_x c.in-One.inside.value)) (sym c.taken_by_one.ensures) known))

pub build_names-requires-in-Two : goal.build_names-requires-in-Two
build_names-requires-in-Two t c =
    let items = items_of c.args.checked.now in
    let b = c.args.built.now in
    let known = subst (AreReady (plain_taken c.args.taken) items b) (ap plain_x c.in-Two.is) c.requires.known in
    let whole = ap (λ v. size_of (plain_x v)) c.in-Two.is in
    let first = ap (λ v. size_of (plain_x v)) c.deref-in-Two.ensures in
    (omega (arith, whole, first, c.decreases), subst (λ v. AreReady (plain_taken c.taken_first.result) items b (plain_x v)) (sym c.deref-in-Two.ensures) (subst (λ k. AreReady k items b (plain_x c.in-Two.first.value)) (sym c.taken_first.ensures) known.0))

pub build_names-requires-in-Two-2 : goal.build_names-requires-in-Two-2
build_names-requires-in-Two-2 t c =
    let items = items_of c.args.checked.now in
    let b = c.args.built.now in
    let mid = c.build_names-in-Two.new.built in
    let known = subst (AreReady (plain_taken c.args.taken) items b) (ap plain_x c.in-Two.is) c.requires.known in
    let whole = ap (λ v. size_of (plain_x v)) c.in-Two.is in
    let second = ap (λ v. size_of (plain_x v)) c.deref-in-Two-2.ensures in
    let grown = all_ready_grown (plain_taken c.taken_second.result) items b mid c.build_names-in-Two.ensures.grown (plain_x c.in-Two.second.value) (subst (λ k. AreReady k items b (plain_x c.in-Two.second.value)) (sym c.taken_second.ensures) known.1) in
    (omega (arith, whole, second, c.decreases), subst (λ v. AreReady (plain_taken c.taken_second.result) items mid (plain_x v)) (sym c.deref-in-Two-2.ensures) grown)

pub returns-in_ok-build_names-in-Two-clause-built : goal.returns-in_ok-build_names-in-Two-clause-built
returns-in_ok-build_names-in-Two-clause-built t c = λ are. c.build_names-in-Two-2.ensures.built (c.build_names-in-Two.ensures.built are)

pub returns-in_ok-build_names-in-Two-clause-named : goal.returns-in_ok-build_names-in-Two-clause-named
returns-in_ok-build_names-in-Two-clause-named t c =
    let mid = c.build_names-in-Two.new.built in
    let new = c.build_names-in-Two-2.new.built in
    let x = plain_x c.in-Two.first.value in
    let y = plain_x c.in-Two.second.value in
    let first = subst (λ k. AreNamed k mid x) c.taken_first.ensures (subst (λ v. AreNamed (plain_taken c.taken_first.result) mid (plain_x v)) c.deref-in-Two.ensures (c.in_ok-build_names-in-Two.ensures {u = tt}).named) in
    on_ok c.build_names-in-Two-2.result
    (λ named. subst (AreNamed (plain_taken c.args.taken) new) (sym (ap plain_x c.in-Two.is)) (named_grown (taken_first c.in-Two.op) mid new c.build_names-in-Two-2.ensures.grown x first, subst (λ k. AreNamed k new y) c.taken_second.ensures (subst (λ v. AreNamed (plain_taken c.taken_second.result) new (plain_x v)) c.deref-in-Two-2.ensures named)))
    c.build_names-in-Two-2.ensures.named

pub returns-in_ok-build_names-in-Two-clause-grown : goal.returns-in_ok-build_names-in-Two-clause-grown
returns-in_ok-build_names-in-Two-clause-grown t c = more_twice c.args.built.now c.build_names-in-Two.new.built c.build_names-in-Two-2.new.built c.build_names-in-Two.ensures.grown c.build_names-in-Two-2.ensures.grown
