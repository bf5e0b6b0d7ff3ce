-- Words that are numbers.
use Rattle.std.proofs.Common.{◌≡◌, ◌≤◌, ◌<◌, ◌+◌, ◌/◌, ◌%◌, ◌^◌, ℕ, List, [], ◌∷◌, ◌++◌, Result, Ok, length, refl, sym, ap, ◌∙◌, arith}
use Rattle.std.specs.Prelude.{decimal}
use Rattle.std.specs.Str.Parse.{ParsesUnsigned}
use Rattle.std.proofs.lemmas.Fmt.{decimal_digit, decimal_step, decimal_by_steps, decimal_nonempty, parse-decimal}
use Rattle.fast_tool.specs.Commands.{IsNumber}

-- lists with one more behind them are one where both parts are
nothing_longer : (ys : List ℕ) (b : ℕ) → ¬ ([] ≡ ys ++ b ∷ [])
nothing_longer [] b e = cc
nothing_longer (y ∷ ys) b e = cc

last_same : (xs ys : List ℕ) (a b : ℕ) → xs ++ a ∷ [] ≡ ys ++ b ∷ [] → (xs ≡ ys) × (a ≡ b)
last_same [] [] a b e = (refl, cc)
last_same [] (y ∷ ys) a b e = let rest : [] ≡ ys ++ b ∷ [] = cc in absurd (nothing_longer ys b rest)
last_same (x ∷ xs) [] a b e = let rest : [] ≡ xs ++ a ∷ [] = cc in absurd (nothing_longer xs a rest)
last_same (x ∷ xs) (y ∷ ys) a b e =
    let rest : xs ++ a ∷ [] ≡ ys ++ b ∷ [] = cc in
    let r = last_same xs ys a b rest in
    let first : x ≡ y = cc in
    ((λ i. first i ∷ r.0 i), r.1)

-- the last digit of a number
ends : (n : ℕ) → n < 2 ^ 64 → (front : List ℕ) × (decimal n ≡ front ++ (48 + n % 10) ∷ [])
ends n low = decimal_by_steps (λ k ds. (front : List ℕ) × (ds ≡ front ++ (48 + k % 10) ∷ []))
    (λ k small. ([], ap (λ d. (48 + d) ∷ []) (omega (arith, small))))
    (λ k ds large before. (ds, refl))
    n low

pub other_digit : (n last : ℕ) (digits front : List ℕ) → n < 2 ^ 64 → digits ≡ front ++ last ∷ [] → (last ≡ 48 + n % 10 → ⊥) → digits ≡ decimal n → ⊥
other_digit n last digits front low is other e = let d = ends n low in other (last_same front d.0 last (48 + n % 10) (sym is ∙ e ∙ d.1)).1

pub one_digit : (n last : ℕ) (digits front : List ℕ) → n < 10 → digits ≡ front ++ last ∷ [] → last ≡ 48 + n % 10 → front ≡ [] → digits ≡ decimal n
one_digit n last digits front low is last_is none =
    let small : n % 10 ≡ n = omega (arith, low) in
    is ∙ ap (λ f. f ++ last ∷ []) none ∙ ap (λ d. d ∷ []) (last_is ∙ ap (λ k. 48 + k) small) ∙ sym (decimal_digit n low)

pub other_front : (n last : ℕ) (digits front : List ℕ) → 10 ≤ n → n < 2 ^ 64 → digits ≡ front ++ last ∷ [] → (front ≡ decimal (n / 10) → ⊥) → digits ≡ decimal n → ⊥
other_front n last digits front high low is other e = other (last_same front (decimal (n / 10)) last (48 + n % 10) (sym is ∙ e ∙ decimal_step n high low)).0

-- an empty list by its length
pub none_by_length : (xs : List ℕ) → length xs ≡ 0 → xs ≡ []
none_by_length [] e = refl
none_by_length (x ∷ xs) e = absurd (omega (arith, e))

-- a number that may stand there is parsed as what it is
pub parsed : {E : Type 0} (word : List ℕ) (r : Result ℕ E) (most n : ℕ) → most < 2 ^ 32 → IsNumber most word n → ParsesUnsigned 32 10 word r → r ≡ Ok n
parsed word r most n low is parses = parse-decimal 32 n word r (omega (arith, is.1, low)) (omega (arith, is.1, low)) is.2 parses

pub ruleset on_digits = (decimal_digit, decimal_step, decimal_nonempty)
