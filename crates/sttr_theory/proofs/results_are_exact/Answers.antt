use Rattle.sttr_theory.specs.Results.{Told}
use Rattle.sttr_theory.proofs.Records.{domain_owed, preimage_owed, out_restriction_owed, composition_owed}
use Rattle.sttr_theory.proofs.Restriction.{restriction_owed}
use Rattle.sttr_theory.proofs.results_are_exact.Goals as goal

pub returns : goal.returns
returns g c = record {
  domain = λ ranks d f names c ok b. domain_owed ranks (Told d) f ok names c b;
  pre_image = λ ranks d f a names c ok b. preimage_owed ranks (Told d) f ok a names c b;
  restriction = λ ranks d f a looks c ok b. restriction_owed ranks (Told d) f a looks c ok b;
  out_restriction = λ ranks d f a looks names c ok b. out_restriction_owed ranks (Told d) f ok a looks names c b;
  composition = λ ranks d f g looks names c ok can b. composition_owed ranks (Told d) f ok g looks names c can b;
}
