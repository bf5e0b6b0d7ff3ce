-- The first wrong token is one.
use Rattle.std.proofs.Common.{◌≡◌, ℕ, ◌+◌, ◌<◌, ◌≤◌, zero, suc, List, [], ◌∷◌, ◌++◌, length, take, drop, refl, sym, ap, subst, append_assoc, arith, ◌⊎◌, inl, inr}
use Rattle.std.proofs.lemmas.List.{take-append-drop}
use Rattle.std.proofs.lemmas.Bool.{cases_lt}
use Rattle.model_program.specs.Lexeme.{Lexeme}
use Rattle.model_grammar.specs.Wrong.{Begins, IsFirstWrong}

-- a longer front of a list is a shorter one with more behind it
pub longer_front : (m k : ℕ) (l : List Lexeme) → m ≤ k → (rest : List Lexeme) × (take k l ≡ take m l ++ rest)
longer_front zero k l small = (take k l, refl)
longer_front (suc m) zero l small = absurd (omega arith)
longer_front (suc m) (suc k) [] small = ([], refl)
longer_front (suc m) (suc k) (t ∷ ts) small = let later = longer_front m k ts (omega arith) in (later.0, ap (λ l. t ∷ l) later.1)

-- tokens that begin a value begin it with fewer of them too
pub begins_shorter : {A : Type 0} (form : A → List Lexeme → Type 0) (tokens front back : List Lexeme) → tokens ≡ front ++ back → Begins form tokens → Begins form front
begins_shorter form tokens front back split begins = record {
  value = begins.value;
  more = back ++ begins.more;
  spelled = subst (form begins.value) (append_assoc front back begins.more) (subst (λ (l : List Lexeme). form begins.value (l ++ begins.more)) split begins.spelled);
}

-- no token before the first wrong one is wrong
not_later : {A : Type 0} (form : A → List Lexeme → Type 0) (tokens : List Lexeme) (j k : ℕ) → IsFirstWrong form tokens j → IsFirstWrong form tokens k → j < k → ⊥
not_later form tokens j k one two less =
    let in_range = two.in_range in
    let longer = longer_front (j + 1) k tokens (omega arith) in
    one.with_it (omega arith) (begins_shorter form (take k tokens) (take (j + 1) tokens) longer.0 longer.1 two.before)

pub one_first_wrong : (A : Type 0) (form : A → List Lexeme → Type 0) (tokens : List Lexeme) (j k : ℕ) → IsFirstWrong form tokens j → IsFirstWrong form tokens k → j ≡ k
one_first_wrong A form tokens j k one two = by (cases_lt j k) (cases_lt k j)
  where
    by : (j < k) ⊎ (k ≤ j) → (k < j) ⊎ (j ≤ k) → j ≡ k
    by (inl less) _ = absurd (not_later form tokens j k one two less)
    by _ (inl less) = absurd (not_later form tokens k j two one less)
    by (inr a) (inr b) = omega arith

-- what spells a value isn't wrong
pub none_wrong : (A : Type 0) (form : A → List Lexeme → Type 0) (tokens : List Lexeme) (k : ℕ) (value : A) → IsFirstWrong form tokens k → form value tokens → ⊥
none_wrong A form tokens k value wrong spelled = by (cases_lt k (length tokens))
  where
    by : (k < length tokens) ⊎ (length tokens ≤ k) → ⊥
    by (inl less) = wrong.with_it less (record { value = value; more = drop (k + 1) tokens; spelled = subst (form value) (sym (take-append-drop (k + 1) tokens)) spelled })
    by (inr most) = let in_range = wrong.in_range in wrong.at_end (omega arith) value spelled
