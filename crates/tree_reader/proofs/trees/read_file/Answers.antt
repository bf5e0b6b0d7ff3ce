use Rattle.std.proofs.Common.{map, ap, ◌∙◌, ◌++◌, ◌∷◌, []}
use Rattle.std.proofs.lemmas.List.{map-append}
use Rattle.read_forms.specs.Reads.{anything}
use Rattle.model_grammar.specs.TreeFiles.{IsTree}
use Rattle.read_forms.proofs.Lists.{many_more, many_more_fails}
use Rattle.tree_reader.specs.Plain.{plain_tree}
use Rattle.label_reader.proofs.Exits.{exit, shorter}
use Rattle.label_reader.proofs.Keeping.{told_read, told_fails}
use Rattle.program_reader.proofs.ItemForms.{some_token, no_token}
use Rattle.tree_reader.proofs.TreeForms.{file_begins, file_ends, some_starts}
use Rattle.tree_reader.proofs.trees.read_file.Goals as goal

pub items-init : goal.items-init
items-init c = file_begins _ (ap (λ l. map plain_tree l) c.new-all.ensures.items)

pub returns-in_err-so_far-clause-read : goal.returns-in_err-so_far-clause-read
returns-in_err-so_far-clause-read c = exit _ _ _ _ c.from_residual.result c.from_residual.ensures.1 (many_more_fails IsTree _ c.items.invariant (some_token _ _ c.count_left.ensures c.items-test.true) (told_fails _ _ _ c.in_err-so_far.ensures c.read_tree.ensures))

pub items-smaller : goal.items-smaller
items-smaller c = shorter anything _ _ some_starts (told_read _ _ _ c.in_ok-so_far.ensures.1 c.read_tree.ensures)

pub items-preserved : goal.items-preserved
items-preserved c = let k = c.in_ok-so_far.ensures in many_more IsTree (λ l. l) _ _ c.items.invariant (some_token _ _ c.count_left.ensures c.items-test.true) (told_read _ _ _ k.1 c.read_tree.ensures)
    (ap (λ l. map plain_tree l) c.in_ok-push.ensures.items ∙ map-append plain_tree c.in_ok-so_far.so_far.items (c.in_ok-so_far.next ∷ []) ∙ ap (λ v. map plain_tree v.items ++ plain_tree c.in_ok-so_far.next ∷ []) k.0)

pub returns-clause-read : goal.returns-clause-read
returns-clause-read c = file_ends _ c.items.invariant (no_token _ _ c.count_left.ensures c.items-test.false)

pub returns-clause-whole : goal.returns-clause-whole
returns-clause-whole c = no_token _ _ c.count_left.ensures c.items-test.false
