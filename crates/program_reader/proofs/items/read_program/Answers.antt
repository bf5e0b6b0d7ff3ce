use Rattle.read_forms.specs.Reads.{anything}
use Rattle.model_grammar.specs.Grammar.{IsItem}
use Rattle.read_forms.proofs.Lists.{many_more, many_more_fails}
use Rattle.label_reader.proofs.Exits.{exit, shorter}
use Rattle.program_reader.proofs.ItemForms.{program_begins, program_ends, some_token, no_token, item_starts}
use Rattle.program_reader.proofs.items.read_program.Goals as goal

pub items-init : goal.items-init
items-init c = program_begins _ c.requires

pub returns-in_err-item-clause-read : goal.returns-in_err-item-clause-read
returns-in_err-item-clause-read c = exit _ _ _ _ c.from_residual.result c.from_residual.ensures.1 (many_more_fails IsItem _ c.items.invariant (some_token _ _ c.count_left.ensures c.items-test.true) c.in_err-item.ensures)

pub items-smaller : goal.items-smaller
items-smaller c = shorter anything _ _ item_starts c.in_ok-item.ensures

pub items-preserved : goal.items-preserved
items-preserved c = many_more IsItem (λ l. l) _ _ c.items.invariant (some_token _ _ c.count_left.ensures c.items-test.true) c.in_ok-item.ensures c.in_ok-add.ensures

pub returns-clause-read : goal.returns-clause-read
returns-clause-read c = program_ends _ c.items.invariant (no_token _ _ c.count_left.ensures c.items-test.false)

pub returns-clause-whole : goal.returns-clause-whole
returns-clause-whole c = no_token _ _ c.count_left.ensures c.items-test.false
