use Rattle.sttr_theory.specs.Results.{Told}
use Rattle.sttr_theory.proofs.Linear.{restriction_linear, out_restriction_linear, composition_linear}
use Rattle.sttr_theory.proofs.results_are_linear.Goals as goal

pub returns : goal.returns
returns g c = record {
  restriction = λ ranks d f a looks c b. restriction_linear ranks (Told d) f a looks c b;
  out_restriction = λ ranks d f a looks names c b. out_restriction_linear ranks (Told d) f a looks names c b;
  composition = λ ranks d f g looks names c b. composition_linear ranks (Told d) f g looks names c b;
}
