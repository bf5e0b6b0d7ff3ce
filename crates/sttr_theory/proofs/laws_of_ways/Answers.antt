use Rattle.std.proofs.Common.{◌≡◌}
use Rattle.model_sttr.specs.Transducer.{IsHead, identity}
use Rattle.sttr_theory.specs.Results.{Told}
use Rattle.sttr_theory.proofs.Exact.{ways_exact}
use Rattle.sttr_theory.proofs.Names.{asked_fits, called_fits, no_heads}
use Rattle.sttr_theory.proofs.Alike.{covers_are_ways, made_are_ways}
use Rattle.sttr_theory.proofs.States.{ways_same}
use Rattle.sttr_theory.proofs.Copies.{copied_are_rules}
use Rattle.sttr_theory.proofs.laws_of_ways.Goals as goal

pub returns : goal.returns
returns g c = record {
  are_ways = λ f g into d p x ok low. ways_exact f g into ok (Told d) p x low;
  covers = λ f g d p x ys zs. covers_are_ways f g (Told d) p x ys zs;
  made = λ f g into d p x ys ok low. made_are_ways f g into ok (Told d) p x low ys;
  states = λ d g p Z W k same. ways_same (Told d) g p Z W k same;
  copied = λ ranks d f g looks names rs q ok of_ranks are. copied_are_rules ranks (Told d) f g q ok of_ranks looks names rs are;
  asked_fit = λ ranks d f g ok. asked_fits ranks (Told d) f g ok;
  called_fit = λ ranks d f g ok. called_fits ranks (Told d) f g ok (IsHead g) (λ h is. is);
  called_unchanged = λ ranks d f g ok e. called_fits ranks (Told d) f g ok (λ h. h ≡ identity) (λ h is. absurd (no_heads g e h is));
}
