use Rattle.std.proofs.Common.{IsTrue}
use Rattle.model_sta.specs.Sets.{Fits}
use Rattle.sta_theory.proofs.Complement.{is_complement}
use Rattle.sta_theory.proofs.Guards.{doubled_keeps}
use Rattle.sta_theory.proofs.Joined.{is_union, is_intersection, union_keeps, intersection_keeps, is_difference, difference_keeps}
use Rattle.sta_theory.proofs.Equal.{starts_same, starts_differ}
use Rattle.sta_theory.proofs.Beside.{has_both}
use Rattle.sta_theory.proofs.Parts.{part_accepts, part_agrees}
use Rattle.sta_theory.proofs.operations_are_right.Goals as goal

pub returns : goal.returns
returns g c = record {
  complement = λ opp ranks d known a b own complete is low start. (is_complement opp ranks (λ l. IsTrue (d l)) known a b own complete is low start, doubled_keeps opp ranks known a b is);
  union = λ ranks d a b e own_a own_b is. (is_union (Fits ranks (λ l. IsTrue (d l))) a b e own_a own_b is, union_keeps a b e is);
  intersection = λ ranks d a b e own_a own_b is. (is_intersection (Fits ranks (λ l. IsTrue (d l))) a b e own_a own_b is, intersection_keeps a b e is);
  difference = λ ranks d a b k e low complement keeps both_of keeps_both. (is_difference (Fits ranks (λ l. IsTrue (d l))) a b k e low complement both_of, difference_keeps a b k e keeps keeps_both);
  equality = λ ranks d known a b rules own_a own_b beside a_low b_low.
      (starts_same ranks (λ l. IsTrue (d l)) known a b rules own_a own_b (has_both beside) a_low b_low, starts_differ ranks (λ l. IsTrue (d l)) known a b rules own_a own_b (has_both beside) a_low b_low);
  part = λ old whole part is. (part_accepts old whole part is, part_agrees old whole part is);
}
