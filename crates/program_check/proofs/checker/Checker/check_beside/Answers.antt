use Rattle.std.proofs.Common.{ℕ, Option, None, sym, subst}
use Rattle.fast_syntax.specs.Plain.{plain_x}
use Rattle.model_names.specs.Kinds.{language}
use Rattle.model_checks.specs.Expressions.{type_as}
use Rattle.program_check.specs.Contexts.{items_of, before_of}
use Rattle.program_check.specs.Typed.{IsType}
use Rattle.program_check.proofs.Noting.{next}
use Rattle.program_check.proofs.Typing.{untyped, only_is}
use Rattle.program_check.specs.declared.expressions.Kind.TheVariants.{Language}
use Rattle.program_check.proofs.checker.Checker.check_beside.Goals as goal

pub returns-clause-noted : goal.returns-clause-noted
returns-clause-noted c h =
    let items = items_of c.args.context.now in
    let s = c.check_as-first.result in
    let is = c.check_as-first.ensures.standing in
    let wanted = subst (λ (p : Option ℕ). IsType items p (type_as items (before_of c.args.context.now) language (plain_x c.args.language.now))) (sym c.only_as-wanted.ensures) (only_is items Language s.kind s.input _ _ is.kind is.input) in
    let last = c.check_as.ensures.noted _ wanted h in
    next (c.check_as-first.ensures.noted None (untyped items) last.had) last

pub returns-clause-standing : goal.returns-clause-standing
returns-clause-standing c = c.check_as.ensures.standing
