use Rattle.std.proofs.lemmas.Int.{to_z-of_z}
use Rattle.wide_num.proofs.Answered.{gcd_answer}
use Rattle.wide_num.proofs.gcd.Goals as goal

pub returns : goal.returns
returns c =
    let fa = c.ranges.a in
    let fb = c.ranges.b in
    gcd_answer c.args.a c.args.b _ _ _ _ (simp to_z-of_z at c.unsigned_abs.ensures.value) (simp to_z-of_z at c.unsigned_abs-2.ensures.value) c.gcd_natural.ensures c.to_signed.ensures
