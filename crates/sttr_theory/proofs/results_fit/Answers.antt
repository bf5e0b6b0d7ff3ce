use Rattle.model_sttr.specs.Operations.{asking}
use Rattle.sttr_theory.specs.Results.{Told}
use Rattle.sttr_theory.proofs.Fits.{looks_own, built_fits, restriction_fits}
use Rattle.sttr_theory.proofs.results_fit.Goals as goal

pub returns : goal.returns
returns g c = record {
  pre_image = λ ranks d f rules all names c b. looks_own ranks (Told d) f.sttr (asking rules) names c.rules b.built;
  restriction = λ ranks d f a looks c ok b. restriction_fits ranks (Told d) f a looks c ok b;
  out_restriction = λ ranks d f a looks names c ok b. built_fits ranks (Told d) f.sttr (asking a.rules) ok looks names c.sttr b.built;
  composition = λ ranks d f g looks names c ok b. built_fits ranks (Told d) f.sttr g.sttr ok looks names c.sttr b.built;
}
