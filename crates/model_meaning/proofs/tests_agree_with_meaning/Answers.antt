use Rattle.model_meaning.proofs.Rules.{tests_agree}
use Rattle.model_meaning.proofs.tests_agree_with_meaning.Goals as goal

pub returns : goal.returns
returns c = tests_agree
