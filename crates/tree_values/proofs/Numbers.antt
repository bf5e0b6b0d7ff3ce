-- The number of a constructor is its place in the type.
use Rattle.std.proofs.Common.{◌≡◌, ℕ, suc, ◌+◌, ◌<◌, Bool, true, false, cond, List, [], ◌∷◌, Some, None, map, length, refl, ap, ◌∙◌, arith}
use Rattle.std.specs.Prelude.{not, nat_lt, position}
use Rattle.std.specs.List.{position_or_len}
use Rattle.std.specs.Option.{option_map}
use Rattle.std.proofs.lemmas.Bool.Decides.{nat_tests}
use Rattle.model_tree.specs.Signature.{PlainConstructor}
use Rattle.model_names.specs.Declared.{same_text}
use Rattle.model_meaning.specs.Outputs.{number_named}
use Rattle.fast_tree.specs.declared.signature.CtorOf as code
use Rattle.fast_tree.specs.Signatures.{plain_constructor}

abbrev names : List code.CtorOf → List (List ℕ)
names ctors = map (λ (c : PlainConstructor). c.name) (map plain_constructor ctors)

module _ (name : List ℕ) where
  abbrev is_it : code.CtorOf → Bool
  is_it c = same_text c.name name

  found_at : (ctors : List code.CtorOf) → position_or_len is_it ctors < length ctors → number_named (names ctors) name ≡ Some (position_or_len is_it ctors)
  found_at [] low = absurd (omega (arith, low))
  found_at (c ∷ ctors) low = by (is_it c) low (found_at ctors)
    where
      one_more : (n : ℕ) → suc n ≡ 1 + n
      one_more n = omega arith

      by : (b : Bool) → cond (not b) (1 + position_or_len is_it ctors) 0 < suc (length ctors) → (position_or_len is_it ctors < length ctors → number_named (names ctors) name ≡ Some (position_or_len is_it ctors))
          → cond b (Some 0) (option_map (λ k. suc k) (number_named (names ctors) name)) ≡ Some (cond (not b) (1 + position_or_len is_it ctors) 0)
      by true low later = refl
      by false low later = ap (option_map (λ k. suc k)) (later (omega (arith, low))) ∙ ap Some (one_more (position_or_len is_it ctors))

  found_nowhere : (ctors : List code.CtorOf) → (position_or_len is_it ctors < length ctors → ⊥) → number_named (names ctors) name ≡ None
  found_nowhere [] high = refl
  found_nowhere (c ∷ ctors) high = by (is_it c) high (found_nowhere ctors)
    where
      by : (b : Bool) → (cond (not b) (1 + position_or_len is_it ctors) 0 < suc (length ctors) → ⊥) → ((position_or_len is_it ctors < length ctors → ⊥) → number_named (names ctors) name ≡ None)
          → cond b (Some 0) (option_map (λ k. suc k) (number_named (names ctors) name)) ≡ None
      by true high later = absurd (high (omega arith))
      by false high later = ap (option_map (λ k. suc k)) (later (λ low. high (omega (arith, low))))

  pub number_is_place : (ctors : List code.CtorOf) → number_named (names ctors) name ≡ position is_it ctors
  number_is_place ctors = by (nat_lt (position_or_len is_it ctors) (length ctors)) refl
    where
      by : (b : Bool) → nat_lt (position_or_len is_it ctors) (length ctors) ≡ b → number_named (names ctors) name ≡ cond b (Some (position_or_len is_it ctors)) None
      by true e = found_at ctors (grind (arith, nat_tests))
      by false e = found_nowhere ctors (λ low. grind (arith, nat_tests))
