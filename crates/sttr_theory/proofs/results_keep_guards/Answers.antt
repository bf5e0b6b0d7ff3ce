use Rattle.std.proofs.Common.{Some, [], ◌∷◌, ◌≡◌}
use Rattle.model_sttr.specs.Transducer.{IsHead, identity, run}
use Rattle.model_sttr.specs.Operations.{asking}
use Rattle.sttr_theory.specs.Results.{Told}
use Rattle.sttr_theory.proofs.Guards.{built_agrees, domain_guards, preimage_guards, out_restriction_maps, composition_maps, restriction_guards, restriction_maps}
use Rattle.sttr_theory.proofs.results_keep_guards.Goals as goal

pub returns : goal.returns
returns g c = record {
  domain = λ ranks d f names c b. domain_guards ranks (Told d) f names c b;
  pre_image = λ ranks d f a names c b l m dl dm agree. preimage_guards ranks (Told d) f a.rules (a.start ∷ []) names c b l m dl dm agree;
  restriction = λ ranks d f a looks c b l m dl dm on_f on_a. restriction_guards ranks (Told d) f a looks c b l m dl dm on_f on_a;
  out_restriction = λ ranks d f a looks names c b l m dl dm agree. built_agrees ranks (Told d) f.sttr (asking a.rules) l m dl dm agree (λ h. h ≡ identity) (record { first = run f.start; all = a.start ∷ []; second = Some identity }) looks names c b;
  composition = λ ranks d f g looks names c b l m dl dm agree. built_agrees ranks (Told d) f.sttr g.sttr l m dl dm agree (IsHead g.sttr) (record { first = run f.start; all = []; second = Some (run g.start) }) looks names c b;
  restriction_maps = λ ranks d f a looks c b. restriction_maps ranks (Told d) f a looks c b;
  out_restriction_maps = λ ranks d f a looks names c b. out_restriction_maps ranks (Told d) f a looks names c b;
  composition_maps = λ ranks d f g looks names c b. composition_maps ranks (Told d) f g looks names c b;
}
