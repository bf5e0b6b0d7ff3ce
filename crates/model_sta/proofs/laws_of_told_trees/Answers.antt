use Rattle.std.proofs.Common.{IsTrue}
use Rattle.model_sta.proofs.Told.{more_told}
use Rattle.model_sta.proofs.Beside.{first_accepts, second_accepts, told_by_either, both_agree}
use Rattle.model_sta.proofs.laws_of_told_trees.Goals as goal

pub returns : goal.returns
returns g c = record {
  sets_are_told = λ ranks d rules. more_told ranks (λ l. IsTrue (d l)) rules;
  together = λ first second rules own other is. record {
    firsts = first_accepts first second rules own other is;
    seconds = second_accepts first second rules own other is;
    told = told_by_either first second rules own other is;
    agree = both_agree first second rules own other is;
  };
}
