use Rattle.std.proofs.Common.{sym, ap, ◌∙◌}
use Rattle.model_grammar.specs.Syntax.{negation, minus}
use Rattle.fast_syntax.specs.Plain.{plain_expr, plain_node}
use Rattle.label_reader.specs.Operands.{prefixed}
use Rattle.label_reader.proofs.levels.prefixed.Goals as goal
use Rattle.label_reader.proofs.levels.prefixed.Goals.{in-Not, in-Minus}

pub returns : goal.returns
returns c = let place = c.args.place in let inside = c.in_ok-read.field-0 in (
  inside,
  c.in_ok-read.was,
  elim c.match-prefix.branch [
    | in-Not w ↦ ap (λ n. plain_node n place) w.node-is ∙ ap (λ x. negation place (plain_expr x)) c.in_ok-inside.ensures.ok ∙ ap (λ p. prefixed p place (plain_expr inside)) (sym w.in-Not.is)
    | in-Minus w ↦ ap (λ n. plain_node n place) w.node-is ∙ ap (λ x. minus place (plain_expr x)) c.in_ok-inside.ensures.ok ∙ ap (λ p. prefixed p place (plain_expr inside)) (sym w.in-Minus.is)
  ],
)
