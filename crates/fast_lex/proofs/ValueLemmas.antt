-- How escapes are replaced.
use Rattle.std.proofs.Common.{◌≡◌, ℕ, List, [], ◌∷◌, ◌++◌, refl, sym, ap, ◌∙◌, append_assoc}
use Rattle.std.specs.Prelude.{encode_utf8, encode_utf8_all}
use Rattle.std.specs.Str.{chars, IsUtf8}
use Rattle.std.proofs.lemmas.List.{append-nil}
use Rattle.std.proofs.lemmas.Str.{encodes-append, chars_from_encodes}
use Rattle.model_program.specs.Quotes.{AreUnits, no_units, unit, plain_from, quoted_value}
use Rattle.model_program.proofs.QuoteLaws.{same_unit, unit_no_quote, unit_stands_for}
use Rattle.fast_lex.specs.Units.{IsNextUnit, HasNoUnit, IsInsideOf}

-- what has been replaced, and the units that are left
pub record IsReplacing (text rest written : List ℕ) : Type 0 where
  pub done : List ℕ
  pub bytes : written ≡ encode_utf8_all done
  pub so_far : quoted_value (chars text) ≡ done ++ plain_from (chars rest)
  pub inside : List ℕ
  pub values : List ℕ
  pub units : AreUnits inside values
  pub split : chars rest ≡ inside ++ 34 ∷ []

pub replacing_starts : (text rest : List ℕ) → IsInsideOf (chars text) (chars rest) → IsReplacing text rest []
replacing_starts text rest is = record { done = []; bytes = refl; so_far = ap quoted_value is.quotes; inside = is.inside; values = is.values; units = is.units; split = is.split }

pub replacing_more : (text rest after written new : List ℕ) (c : ℕ) → IsReplacing text rest written → IsNextUnit c rest after → new ≡ written ++ encode_utf8 c → IsReplacing text after new
replacing_more text rest after written new c now next is_new = step now.inside now.values now.units now.split
  where
    step : (inside values : List ℕ) → AreUnits inside values → chars rest ≡ inside ++ 34 ∷ [] → IsReplacing text after new
    step inside values no_units split = absurd (unit_no_quote next.front (chars after) [] c next.is (sym next.behind.characters ∙ split))
    step inside values (unit f b v vs is are) split =
        let e = same_unit next.front f (chars after) (b ++ 34 ∷ []) c v next.is is (sym next.behind.characters ∙ split ∙ append_assoc f b (34 ∷ [])) in
        record {
          done = now.done ++ c ∷ [];
          bytes = is_new ∙ ap (λ l. l ++ encode_utf8 c) now.bytes ∙ ap (λ l. encode_utf8_all now.done ++ l) (sym (append-nil (encode_utf8 c))) ∙ sym (encodes-append now.done (c ∷ []));
          so_far = now.so_far ∙ ap (λ l. now.done ++ plain_from l) next.behind.characters ∙ ap (λ l. now.done ++ l) (unit_stands_for next.front (chars after) c next.is) ∙ sym (append_assoc now.done (c ∷ []) (plain_from (chars after)));
          inside = b;
          values = vs;
          units = are;
          split = e.1;
        }

pub replacing_ends : (text rest written : List ℕ) → IsReplacing text rest written → HasNoUnit (chars rest) → IsUtf8 written → chars written ≡ quoted_value (chars text)
replacing_ends text rest written now none utf8 = sym (chars_from_encodes now.done written utf8 (sym now.bytes)) ∙ ended now.inside now.values now.units now.split
  where
    ended : (inside values : List ℕ) → AreUnits inside values → chars rest ≡ inside ++ 34 ∷ [] → now.done ≡ quoted_value (chars text)
    ended inside values no_units split = sym (now.so_far ∙ ap (λ l. now.done ++ plain_from l) split ∙ append-nil now.done)
    ended inside values (unit f b v vs is are) split = absurd (none f (b ++ 34 ∷ []) v (split ∙ append_assoc f b (34 ∷ [])) is)
