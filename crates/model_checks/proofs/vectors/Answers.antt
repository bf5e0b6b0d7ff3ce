use Rattle.std.proofs.Common.{refl}
use Rattle.model_checks.proofs.vectors.Goals as goal

pub returns : goal.returns
returns c = record { duplicate_type = refl; no_leaf = refl; duplicate_name = refl; unknown_name = refl; wrong_kind = refl; wrong_type = refl; wrong_rank = refl; duplicate_variable = refl; unknown_field = refl; wrong_sort = refl; not_linear = refl; bad_modulus = refl; number_range = refl; used_too_early = refl; too_many = refl }
