use Rattle.std.proofs.Common.{◌≡◌, true}
use Rattle.model_sta.specs.Sets.{Fits}
use Rattle.model_sttr.specs.Transducer.{run}
use Rattle.model_sttr.proofs.Heads.{as_identity}
use Rattle.model_sttr.proofs.Single.{one_output, output_fits, restriction_functional, out_restriction_functional, composition_functional}
use Rattle.model_sttr.proofs.results_are_functional.Goals as goal

pub returns : goal.returns
returns g c = record {
  plain = λ ranks d f plain q t u v typed. one_output ranks (λ l. d l ≡ true) f plain t typed (run q) u v;
  restriction = λ ranks d f a c made functional. restriction_functional (Fits ranks (λ l. d l ≡ true)) f functional c a made;
  out_restriction = λ ranks d f a c made functional. out_restriction_functional (Fits ranks (λ l. d l ≡ true)) f functional c a made;
  composition = λ ranks into d e f g c makes same made first second. composition_functional (Fits ranks (λ l. d l ≡ true)) f first c (Fits into (λ l. e l ≡ true))
      (λ h is t u typed gives. output_fits ranks (λ l. d l ≡ true) f.sttr into (λ l. e l ≡ true) makes same t typed h (as_identity f.sttr h is) u gives) g second made;
}
