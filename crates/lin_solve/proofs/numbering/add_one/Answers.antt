use Rattle.std.proofs.Common.{◌≡◌, ◌++◌, ◌∷◌, [], ap, ◌∙◌, arith}
use Rattle.model_chain.specs.Literals.{place}
use Rattle.lin_solve.specs.declared.numbering.Remainder.{Remainder}
use Rattle.lin_solve.specs.Plain.{plain_known, plain_term, plain_remainder}
use Rattle.lin_solve.proofs.Numbered.{with_known, with_new, known_push, positive_push, known_length}
use Rattle.lin_solve.proofs.numbering.add_one.Goals as goal

pub returns-then-place_of-len : goal.returns-then-place_of-len
returns-then-place_of-len c =
    let K = c.args.known.now.items in
    let n = known_length K in
    let at = c.place_of.ensures ∙ ap (λ l. place (plain_term c.args.term.now) (plain_known l)) c.deref.ensures.value in
    let v = c.args.known.now.ok in
    (with_known (plain_term c.args.term.now) (plain_known K) (omega arith), λ h. h)

pub returns : goal.returns
returns c =
    let K = c.args.known.now.items in
    let n = known_length K in
    let at = c.place_of.ensures ∙ ap (λ l. place (plain_term c.args.term.now) (plain_known l)) c.deref.ensures.value in
    let v = c.args.known.now.ok in
    let r : Remainder = record { inner = c.in_ok-inner.inner; divisor = c.args.term.now.divisor } in
    let same : plain_remainder r ≡ plain_term c.args.term.now = λ i. record { inner = c.in_ok-inner.ensures {u = tt} i; divisor = c.args.term.now.divisor } in
    let push = (c.in_ok-push.ensures {u = tt}).items in (
      known_push K c.push.new.self.items r push ∙ ap (λ x. plain_known K ++ x ∷ []) same ∙ with_new (plain_term c.args.term.now) (plain_known K) (omega arith),
      positive_push K c.push.new.self.items r push c.requires,
    )
