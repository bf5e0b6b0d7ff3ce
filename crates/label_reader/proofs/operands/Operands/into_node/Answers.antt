use Rattle.std.proofs.Common.{sym, ap, ◌∙◌}
use Rattle.fast_syntax.proofs.Rows.{plain_or, plain_and, plain_sum_of, plain_product_of}
use Rattle.model_grammar.specs.declared.Chain.TheVariants.{Disjunction, Conjunction, Sum, Product}
use Rattle.model_grammar.specs.Syntax.{chain}
use Rattle.label_reader.specs.Operands.{kind_of, marked, parts_from}
use Rattle.label_reader.proofs.Wholes.{operands_are, sums_are, products_are}
use Rattle.label_reader.proofs.operands.Operands.into_node.Goals as goal

pub returns-in-Or : goal.returns-in-Or
returns-in-Or c = λ place. plain_or place c.in-Or.all ∙ ap (λ l. chain Disjunction place l) (operands_are _) ∙ ap (λ s. chain (kind_of s) place (parts_from (marked s))) (sym c.in-Or.is)

pub returns-in-And : goal.returns-in-And
returns-in-And c = λ place. plain_and place c.in-And.all ∙ ap (λ l. chain Conjunction place l) (operands_are _) ∙ ap (λ s. chain (kind_of s) place (parts_from (marked s))) (sym c.in-And.is)

pub returns-in-Sum : goal.returns-in-Sum
returns-in-Sum c = λ place. plain_sum_of place c.in-Sum.all ∙ ap (λ l. chain Sum place l) (sums_are _) ∙ ap (λ s. chain (kind_of s) place (parts_from (marked s))) (sym c.in-Sum.is)

pub returns-in-Prod : goal.returns-in-Prod
returns-in-Prod c = λ place. plain_product_of place c.in-Prod.all ∙ ap (λ l. chain Product place l) (products_are _) ∙ ap (λ s. chain (kind_of s) place (parts_from (marked s))) (sym c.in-Prod.is)
