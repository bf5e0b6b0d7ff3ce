use Rattle.std.proofs.Common.{IsTrue, suc, arith}
use Rattle.model_sta.proofs.Reached.{closed_is_complete, step_reached}
use Rattle.model_sta.proofs.Least.{found_or_large, witness}
use Rattle.model_sta.proofs.laws_of_classes.Goals as goal

pub returns : goal.returns
returns g c = record {
  closed_is_complete = λ ranks d rules values known covers closed. closed_is_complete ranks (λ l. IsTrue (d l)) rules values known covers closed;
  step_is_reached = λ ranks d rules. step_reached ranks (λ l. IsTrue (d l)) rules;
  least_bound = λ cap ranks d rules values found m covers least bound. found_or_large cap ranks (λ l. IsTrue (d l)) rules values found m covers least bound;
  has_witness = λ cap ranks d rules found made k low.
      let (t, w) = witness cap ranks (λ l. IsTrue (d l)) rules found made (suc k) k (omega arith) low in (t, w.fits, w.set_is, w.count, w.shallow);
}
