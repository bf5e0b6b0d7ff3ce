use Rattle.std.proofs.Common.{map}
use Rattle.fast_syntax.specs.View.{plain_ctor}
use Rattle.model_program.specs.Syntax.{CtorItem}
use Rattle.model_checks.specs.Types.{is_leaf}
use Rattle.program_check.proofs.Searching.{any_found, any_more, any_none}
use Rattle.program_check.proofs.ctors.has_leaf.Goals as goal

pub returns-then-is_leaf : goal.returns-then-is_leaf
returns-then-is_leaf c h = any_found (λ (k : CtorItem). is_leaf (map plain_ctor c.args.ctors.now) k.name.text) plain_ctor c.args.ctors.now c.ctors.ctor-index c.ctor-item.result c.is_leaf.result _ c.ctors-test.true c.ctor-item.is (c.is_leaf.ensures h) c.if-is_leaf.true (c.ctors.invariant h)

pub ctors-preserved : goal.ctors-preserved
ctors-preserved c h = any_more (λ (k : CtorItem). is_leaf (map plain_ctor c.args.ctors.now) k.name.text) plain_ctor c.args.ctors.now c.ctors.ctor-index c.ctor-item.result c.is_leaf.result _ c.ctors-test.true c.ctor-item.is (c.is_leaf.ensures h) c.if-is_leaf.false (c.ctors.invariant h)

pub returns : goal.returns
returns c h = any_none (λ (k : CtorItem). is_leaf (map plain_ctor c.args.ctors.now) k.name.text) plain_ctor c.args.ctors.now c.ctors.ctor-index _ c.ctors-test.false (c.ctors.invariant h)
