-- The words have one form at most.
use Rattle.std.proofs.Common.{◌≡◌, ℕ, ◌≤◌, List, [], Option, Some, None, get_or, length, decimal, sym, ap, ◌∙◌, arith}
use Rattle.std.proofs.lemmas.Fmt.{decimal_injective}
use Rattle.model_tree.specs.Limits.{most_classes}
use Rattle.model_run.specs.Words.{CommandForm, check_form, run_form, apply_form, accepts_form, self_form, AreWordsOf}

-- the word with this number
abbrev word : ℕ → List (List ℕ) → List ℕ
word k words = get_or words k []

-- the second letter of the first word
abbrev letter : List (List ℕ) → ℕ
letter words = get_or (word 0 words) 1 0

abbrev letter_of : CommandForm → ℕ
letter_of (check_form file) = 104
letter_of (run_form file limit) = 117
letter_of (apply_form file name trees) = 112
letter_of (accepts_form file name trees) = 99
letter_of (self_form n) = 101

has_letter : (words : List (List ℕ)) (form : CommandForm) → AreWordsOf words form → letter words ≡ letter_of form
has_letter words (check_form file) (n, e) = ap letter e
has_letter words (run_form file None) (n, e) = ap letter e
has_letter words (run_form file (Some limit)) (n, low, high, e) = ap letter e
has_letter words (apply_form file name trees) (n, m, k, e) = ap letter e
has_letter words (accepts_form file name trees) (n, m, k, e) = ap letter e
has_letter words (self_form k) (low, high, e) = ap letter e

one_number : (m n : ℕ) → m ≤ most_classes → n ≤ most_classes → decimal m ≡ decimal n → m ≡ n
one_number m n low high e = decimal_injective m n (omega arith) (omega arith) e

-- two forms of one kind with the same words are the same
same_check : (words : List (List ℕ)) (x y : List ℕ) → AreWordsOf words (check_form x) → AreWordsOf words (check_form y) → check_form x ≡ check_form y
same_check words x y (n, e) (m, h) = ap (λ ws. check_form (word 1 ws)) (sym e ∙ h)

same_run : (words : List (List ℕ)) (x y : List ℕ) (a b : Option ℕ) → AreWordsOf words (run_form x a) → AreWordsOf words (run_form y b) → run_form x a ≡ run_form y b
same_run words x y None None (n, e) (m, h) = ap (λ ws. run_form (word 1 ws) None) (sym e ∙ h)
same_run words x y None (Some b) (n, e) (m, low, high, h) = absurd (let bad : 2 ≡ 4 = ap length (sym e ∙ h) in omega (arith, bad))
same_run words x y (Some a) None (n, low, high, e) (m, h) = absurd (let bad : 4 ≡ 2 = ap length (sym e ∙ h) in omega (arith, bad))
same_run words x y (Some a) (Some b) (n, low, high, e) (m, below, above, h) =
    let file : x ≡ y = ap (word 1) (sym e ∙ h) in
    let number = one_number a b high above (ap (word 3) (sym e ∙ h)) in
    λ i. run_form (file i) (Some (number i))

same_apply : (words : List (List ℕ)) (x y n m t u : List ℕ) → AreWordsOf words (apply_form x n t) → AreWordsOf words (apply_form y m u) → apply_form x n t ≡ apply_form y m u
same_apply words x y n m t u (a, b, c, e) (p, q, r, h) = ap (λ ws. apply_form (word 1 ws) (word 2 ws) (word 3 ws)) (sym e ∙ h)

same_accepts : (words : List (List ℕ)) (x y n m t u : List ℕ) → AreWordsOf words (accepts_form x n t) → AreWordsOf words (accepts_form y m u) → accepts_form x n t ≡ accepts_form y m u
same_accepts words x y n m t u (a, b, c, e) (p, q, r, h) = ap (λ ws. accepts_form (word 1 ws) (word 2 ws) (word 3 ws)) (sym e ∙ h)

same_self : (words : List (List ℕ)) (m n : ℕ) → AreWordsOf words (self_form m) → AreWordsOf words (self_form n) → self_form m ≡ self_form n
same_self words m n (low, high, e) (below, above, h) = ap self_form (one_number m n (omega arith) (omega arith) (ap (word 1) (sym e ∙ h)))

by_letter : (words : List (List ℕ)) (f g : CommandForm) → AreWordsOf words f → AreWordsOf words g → letter_of f ≡ letter_of g
by_letter words f g p q = sym (has_letter words f p) ∙ has_letter words g q

pub one_form : (words : List (List ℕ)) (f g : CommandForm) → AreWordsOf words f → AreWordsOf words g → f ≡ g
one_form words (check_form x) (check_form y) p q = same_check words x y p q
one_form words (check_form x) (run_form y b) p q = absurd (let bad = by_letter words (check_form x) (run_form y b) p q in omega (arith, bad))
one_form words (check_form x) (apply_form y m u) p q = absurd (let bad = by_letter words (check_form x) (apply_form y m u) p q in omega (arith, bad))
one_form words (check_form x) (accepts_form y m u) p q = absurd (let bad = by_letter words (check_form x) (accepts_form y m u) p q in omega (arith, bad))
one_form words (check_form x) (self_form k) p q = absurd (let bad = by_letter words (check_form x) (self_form k) p q in omega (arith, bad))
one_form words (run_form x a) (check_form y) p q = absurd (let bad = by_letter words (run_form x a) (check_form y) p q in omega (arith, bad))
one_form words (run_form x a) (run_form y b) p q = same_run words x y a b p q
one_form words (run_form x a) (apply_form y m u) p q = absurd (let bad = by_letter words (run_form x a) (apply_form y m u) p q in omega (arith, bad))
one_form words (run_form x a) (accepts_form y m u) p q = absurd (let bad = by_letter words (run_form x a) (accepts_form y m u) p q in omega (arith, bad))
one_form words (run_form x a) (self_form k) p q = absurd (let bad = by_letter words (run_form x a) (self_form k) p q in omega (arith, bad))
one_form words (apply_form x n t) (check_form y) p q = absurd (let bad = by_letter words (apply_form x n t) (check_form y) p q in omega (arith, bad))
one_form words (apply_form x n t) (run_form y b) p q = absurd (let bad = by_letter words (apply_form x n t) (run_form y b) p q in omega (arith, bad))
one_form words (apply_form x n t) (apply_form y m u) p q = same_apply words x y n m t u p q
one_form words (apply_form x n t) (accepts_form y m u) p q = absurd (let bad = by_letter words (apply_form x n t) (accepts_form y m u) p q in omega (arith, bad))
one_form words (apply_form x n t) (self_form k) p q = absurd (let bad = by_letter words (apply_form x n t) (self_form k) p q in omega (arith, bad))
one_form words (accepts_form x n t) (check_form y) p q = absurd (let bad = by_letter words (accepts_form x n t) (check_form y) p q in omega (arith, bad))
one_form words (accepts_form x n t) (run_form y b) p q = absurd (let bad = by_letter words (accepts_form x n t) (run_form y b) p q in omega (arith, bad))
one_form words (accepts_form x n t) (apply_form y m u) p q = absurd (let bad = by_letter words (accepts_form x n t) (apply_form y m u) p q in omega (arith, bad))
one_form words (accepts_form x n t) (accepts_form y m u) p q = same_accepts words x y n m t u p q
one_form words (accepts_form x n t) (self_form k) p q = absurd (let bad = by_letter words (accepts_form x n t) (self_form k) p q in omega (arith, bad))
one_form words (self_form j) (check_form y) p q = absurd (let bad = by_letter words (self_form j) (check_form y) p q in omega (arith, bad))
one_form words (self_form j) (run_form y b) p q = absurd (let bad = by_letter words (self_form j) (run_form y b) p q in omega (arith, bad))
one_form words (self_form j) (apply_form y m u) p q = absurd (let bad = by_letter words (self_form j) (apply_form y m u) p q in omega (arith, bad))
one_form words (self_form j) (accepts_form y m u) p q = absurd (let bad = by_letter words (self_form j) (accepts_form y m u) p q in omega (arith, bad))
one_form words (self_form j) (self_form k) p q = same_self words j k p q
