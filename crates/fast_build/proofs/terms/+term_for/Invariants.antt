use Rattle.std.proofs.Common.{map, take}
use Rattle.fast_tree.specs.Signatures.{plain_signature}
use Rattle.fast_syntax.specs.View.{plain_name}
use Rattle.fast_syntax.specs.Plain.{plain_out}
use Rattle.model_sta.specs.Pairwise.{Pairwise}
use Rattle.sttr_core.specs.Terms.{plain_term}
use Rattle.fast_build.specs.Numbers.{number_in}
use Rattle.fast_build.specs.Terms.{IsTermFor}
use Rattle.fast_build.proofs.TermParts.{out_size}
use Rattle.fast_build.proofs.terms.+term_for.Given as goal

abbrev pub decreases-term_for : goal.decreases-term_for
decreases-term_for l = out_size (plain_out l.out.now)

abbrev pub invariant-parts : goal.invariant-parts
invariant-parts l =
    Pairwise (λ p o. IsTermFor (plain_signature l.from) (plain_signature l.into) (number_in l.names.keys) (map plain_name l.vars) o p) (map plain_term l.made.items) (map plain_out (take l.part-index l.part-items))
