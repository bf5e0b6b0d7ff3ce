use Rattle.model_sta.proofs.Equiv.{accepts_from_test, test_from_accepts}
use Rattle.model_sta.proofs.Sets.{set_is_accepted, step_agree, set_by_children}
use Rattle.model_sta.proofs.laws_of_acceptance.Goals as goal

pub returns : goal.returns
returns g c = record {
  test_is_fact = λ rules t s. (accepts_from_test rules t s, test_from_accepts rules t s);
  set_is_accepted = set_is_accepted;
  step_agrees = λ rules k l m qs. step_agree k l m qs rules;
  by_children = set_by_children;
}
