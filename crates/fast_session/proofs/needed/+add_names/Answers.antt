use Rattle.std.proofs.Common.{◌≡◌, ap, arith, sym, subst, true}
use Rattle.fast_syntax.specs.Plain.{plain_x}
use Rattle.meaning_laws.specs.Shapes.{has_automaton_shape}
use Rattle.fast_build.specs.Reached.{IsGrown}
use Rattle.fast_build.proofs.Grown.{grown_twice}
use Rattle.fast_eval.proofs.Places.{on_ok}
use Rattle.fast_eval.proofs.Sizes.{size_of}
use Rattle.fast_session.specs.Needed.{names_in}
use Rattle.fast_session.proofs.Following.{inside_form, both_forms}
use Rattle.fast_session.proofs.needed.+add_names.Goals as goal

pub add_names-requires : goal.add_names-requires
add_names-requires t c =
    let whole = ap (λ v. size_of (plain_x v)) c.in-One.is in
    let inside = ap (λ v. size_of (plain_x v)) c.deref.ensures in
    (omega (arith, whole, inside, c.decreases), subst (λ v. has_automaton_shape (plain_x v) ≡ true) (sym c.deref.ensures) (inside_form (plain_x c.args.x.now) _ _ (plain_x c.in-One.inside.value) (ap plain_x c.in-One.is) c.requires))

pub add_names-requires-in-Two : goal.add_names-requires-in-Two
add_names-requires-in-Two t c =
    let whole = ap (λ v. size_of (plain_x v)) c.in-Two.is in
    let first = ap (λ v. size_of (plain_x v)) c.deref-in-Two.ensures in
    let forms = both_forms (plain_x c.args.x.now) _ _ (plain_x c.in-Two.first.value) (plain_x c.in-Two.second.value) (ap plain_x c.in-Two.is) c.requires in
    (omega (arith, whole, first, c.decreases), subst (λ v. has_automaton_shape (plain_x v) ≡ true) (sym c.deref-in-Two.ensures) forms.0)

pub add_names-requires-in-Two-2 : goal.add_names-requires-in-Two-2
add_names-requires-in-Two-2 t c =
    let whole = ap (λ v. size_of (plain_x v)) c.in-Two.is in
    let second = ap (λ v. size_of (plain_x v)) c.deref-in-Two-2.ensures in
    let forms = both_forms (plain_x c.args.x.now) _ _ (plain_x c.in-Two.first.value) (plain_x c.in-Two.second.value) (ap plain_x c.in-Two.is) c.requires in
    (omega (arith, whole, second, c.decreases), subst (λ v. has_automaton_shape (plain_x v) ≡ true) (sym c.deref-in-Two-2.ensures) forms.1)

pub returns-in_ok-add_names-in-Two : goal.returns-in_ok-add_names-in-Two
returns-in_ok-add_names-in-Two t c =
    let old = c.args.names.now.keys in
    let mid = c.add_names-in-Two.new.names.keys in
    let new = c.add_names-in-Two-2.new.names.keys in
    let x = c.in-Two.first.value in
    let y = c.in-Two.second.value in
    let first = subst (λ v. IsGrown old mid (names_in (plain_x v))) c.deref-in-Two.ensures c.in_ok-add_names-in-Two.ensures in
    on_ok c.add_names-in-Two-2.result
    (λ more. subst (λ v. IsGrown old new (names_in (plain_x v))) (sym c.in-Two.is) (grown_twice old mid new (names_in (plain_x x)) (names_in (plain_x y)) first (subst (λ v. IsGrown mid new (names_in (plain_x v))) c.deref-in-Two-2.ensures more)))
    c.add_names-in-Two-2.ensures
