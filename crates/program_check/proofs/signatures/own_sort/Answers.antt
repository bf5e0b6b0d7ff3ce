use Rattle.std.proofs.Common.{sym, ap, ◌∙◌}
use Rattle.std.specs.Option.{option_map, option_map_or}
use Rattle.model_tree.specs.Signature.{texts}
use Rattle.fast_tree.specs.Signatures.{plain_sort}
use Rattle.program_check.proofs.signatures.own_sort.Goals as goal

pub returns-in-Some : goal.returns-in-Some
returns-in-Some c = ap (λ o. option_map_or (λ sort. sort) o texts) (sym (ap (option_map plain_sort) c.in-Some.is) ∙ c.sort_named.ensures)

pub returns-in-None : goal.returns-in-None
returns-in-None c = ap (λ o. option_map_or (λ sort. sort) o texts) (sym (ap (option_map plain_sort) c.in-None.is) ∙ c.sort_named.ensures)
