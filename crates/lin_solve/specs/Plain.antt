-- Comparisons, literals and remainders as plain data.
use Rattle.std.specs.Prelude.{◌≡◌, ℕ, ℤ, ◌<◌, ◌≤◌, List, map, unsigned_abs, slice_index_or, Bool}
use Rattle.std.specs.List.{All}
use Rattle.math_cooper.specs.Line.{AtLeastZero}
use Rattle.math_cooper.specs.System.{Condition}
use Rattle.model_form.specs.Form.{Form}
use Rattle.model_form.specs.Sums.{sign}
use Rattle.model_chain.specs.Literals as plain
use Rattle.label_core.specs.declared.theory.Lit.{Lit}
use Rattle.lin_form.specs.declared.form.RemTerm.{RemTerm}
use Rattle.lin_form.specs.Nest.{nest_front, base_of, divisors_of}
use Rattle.lin_solve.specs.declared.compare.Relation.{Relation}
use Rattle.lin_solve.specs.declared.compare.Relation.TheVariants.{Less, AtMost, Equal}
use Rattle.lin_solve.specs.declared.compare.Compare.{Compare}
use Rattle.lin_solve.specs.declared.numbering.Remainder.{Remainder}

abbrev pub plain_relation : Relation → plain.Relation
plain_relation Less = plain.less
plain_relation AtMost = plain.at_most
plain_relation Equal = plain.equal

abbrev pub plain_compare : Compare → plain.Compare
plain_compare c = record { left = c.left; relation = plain_relation c.relation; right = c.right }

abbrev pub plain_literal : Lit Compare → plain.Literal
plain_literal l = record { compare = plain_compare l.atom; positive = l.sign }

abbrev pub plain_literals : List (Lit Compare) → List plain.Literal
plain_literals ls = map plain_literal ls

abbrev pub plain_remainder : Remainder → plain.Remainder
plain_remainder r = record { inner = r.inner; divisor = r.divisor }

abbrev pub plain_known : List Remainder → List plain.Remainder
plain_known rs = map plain_remainder rs

abbrev pub plain_term : RemTerm → plain.Remainder
plain_term t = record { inner = t.inner; divisor = t.divisor }

-- the remainder by the divisor with this number, of those that the form is nothing but, the innermost first
abbrev pub front_remainder : ℕ → Form → plain.Remainder
front_remainder i f = record { inner = nest_front i (base_of f) (divisors_of f); divisor = slice_index_or (divisors_of f) i 0 }

abbrev pub ArePositive : List Remainder → Type 0
ArePositive rs = All (λ r. 0 < r.divisor) rs

-- they are the remainders of the literals
abbrev pub AreTheirs : List (Lit Compare) → List Remainder → Type 0
AreTheirs ls known = (plain_known known ≡ plain.remainders_in (plain_literals ls)) × ArePositive known

-- each number is at most so great
abbrev pub Within : ℕ → List ℤ → Type 0
Within b row = All (λ z. unsigned_abs z ≤ b) row

-- so many times one variable, and a constant, is at least 0
abbrev pub single : List plain.Remainder → ℕ → Bool → ℤ → Condition
single R n minus k = record { kind = AtLeastZero; constant = k; coefficients = plain.add_at n (sign minus) (plain.zeros R) }
