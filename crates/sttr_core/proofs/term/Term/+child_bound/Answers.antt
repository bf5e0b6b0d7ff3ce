use Rattle.std.proofs.Common.{map, ap, sym, ◌∙◌}
use Rattle.sttr_core.specs.Terms.{plain_term}
use Rattle.sttr_core.specs.Uses.{use_count, uses_in}
use Rattle.sttr_core.proofs.Parts.{parts_of}
use Rattle.sttr_core.proofs.Uses.{uses_of_parts}
use Rattle.sttr_core.proofs.term.Term.+child_bound.Goals as goal

pub parts-init : goal.parts-init
parts-init g t c =
    λ j h. ap (λ x. use_count j (plain_term x)) c.in-Node.is ∙ uses_of_parts j c.in-Node.parts ∙ ap (λ xs. uses_in j (parts_of (map plain_term xs))) (sym c.deref-part-items.ensures.value)
