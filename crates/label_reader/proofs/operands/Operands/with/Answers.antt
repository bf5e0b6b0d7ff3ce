use Rattle.std.proofs.Common.{false, ap, ◌∙◌, map, ◌∷◌, []}
use Rattle.std.proofs.lemmas.List.{map-append}
use Rattle.fast_syntax.specs.Plain.{plain_expr}
use Rattle.label_reader.specs.Operands.{plain_part, plain_factor}
use Rattle.label_reader.proofs.Wholes.{one_more}
use Rattle.label_reader.proofs.operands.Operands.with.Goals as goal

pub returns-in_ok-push-in-Or : goal.returns-in_ok-push-in-Or
returns-in_ok-push-in-Or c = one_more c.args.self _ _ c.in_ok-before.ensures c.in-Or.is (ap (λ l. map (λ e. (false, plain_expr e)) l) c.in_ok-push-in-Or.ensures.items ∙ map-append (λ e. (false, plain_expr e)) c.in-Or.all.items (c.in_ok-before.part ∷ []))

pub returns-in_ok-push-in-And : goal.returns-in_ok-push-in-And
returns-in_ok-push-in-And c = one_more c.args.self _ _ c.in_ok-before.ensures c.in-And.is (ap (λ l. map (λ e. (false, plain_expr e)) l) c.in_ok-push-in-And.ensures.items ∙ map-append (λ e. (false, plain_expr e)) c.in-And.all.items (c.in_ok-before.part ∷ []))

pub returns-in_ok-push-in-Sum : goal.returns-in_ok-push-in-Sum
returns-in_ok-push-in-Sum c = one_more c.args.self _ _ c.in_ok-before.ensures c.in-Sum.is (ap (λ l. map plain_part l) c.in_ok-push-in-Sum.ensures.items ∙ map-append plain_part c.in-Sum.all.items _)

pub returns-in_ok-push-in-Prod : goal.returns-in_ok-push-in-Prod
returns-in_ok-push-in-Prod c = one_more c.args.self _ _ c.in_ok-before.ensures c.in-Prod.is (ap (λ l. map plain_factor l) c.in_ok-push-in-Prod.ensures.items ∙ map-append plain_factor c.in-Prod.all.items _)
