use Rattle.std.proofs.Common.{refl}
use lib.Utf8.{encode}
use Rattle.model_checks.proofs.examples_are_judged.Goals as goal

pub returns : goal.returns
unfolding encode
returns c = record { good = refl; earlier_place = refl; lesser_code = refl; no_language = refl; no_constructor = refl; no_form = refl }
