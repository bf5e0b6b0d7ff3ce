use Rattle.std.proofs.Common.{refl, arith, [], ◌∷◌}
use Rattle.std.specs.Str.{chars}
use Rattle.model_program.specs.Quotes.{plain, short, long, unit, no_units, AreUnits}
use Rattle.text_tests.proofs.tokens.reads_values.Goals as goal

pub number_value-requires-clause-all : goal.number_value-requires-clause-all
unfolding chars
number_value-requires-clause-all c d = (refl, tt)

pub number_value-requires-clause-few : goal.number_value-requires-clause-few
unfolding chars
number_value-requires-clause-few c d = omega arith

pub number_value-requires-2-clause-all : goal.number_value-requires-2-clause-all
unfolding chars
number_value-requires-2-clause-all c d = (refl, (refl, (refl, (refl, (refl, tt)))))

pub number_value-requires-2-clause-few : goal.number_value-requires-2-clause-few
unfolding chars
number_value-requires-2-clause-few c d = omega arith

units : AreUnits (97 ∷ 92 ∷ 110 ∷ 92 ∷ 117 ∷ 123 ∷ 50 ∷ 50 ∷ 48 ∷ 56 ∷ 125 ∷ []) (97 ∷ 10 ∷ 8712 ∷ [])
units = unit (97 ∷ []) (92 ∷ 110 ∷ 92 ∷ 117 ∷ 123 ∷ 50 ∷ 50 ∷ 48 ∷ 56 ∷ 125 ∷ []) 97 (10 ∷ 8712 ∷ []) (plain 97 refl)
    (unit (92 ∷ 110 ∷ []) (92 ∷ 117 ∷ 123 ∷ 50 ∷ 50 ∷ 48 ∷ 56 ∷ 125 ∷ []) 10 (8712 ∷ []) (short 110 10 refl)
    (unit (92 ∷ 117 ∷ 123 ∷ 50 ∷ 50 ∷ 48 ∷ 56 ∷ 125 ∷ []) [] 8712 [] (long (123 ∷ 50 ∷ 50 ∷ 48 ∷ 56 ∷ 125 ∷ []) 8712 (record {
      digits = 50 ∷ 50 ∷ 48 ∷ 56 ∷ [];
      braces = refl;
      hexadecimal = (refl, (refl, (refl, (refl, tt))));
      some = omega arith;
      few = omega arith;
      amounts = refl;
      scalar = refl;
    })) no_units))

pub quoted_value-value-requires : goal.quoted_value-value-requires
unfolding chars
quoted_value-value-requires c d = record { values = 97 ∷ 10 ∷ 8712 ∷ []; is = record { inside = 97 ∷ 92 ∷ 110 ∷ 92 ∷ 117 ∷ 123 ∷ 50 ∷ 50 ∷ 48 ∷ 56 ∷ 125 ∷ []; quotes = refl; units = units } }
