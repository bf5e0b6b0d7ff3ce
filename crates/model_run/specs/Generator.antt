-- The program that `self N` makes and runs.
use Rattle.std.specs.Prelude.{ℕ, zero, suc, ◌==◌, List, [], ◌∷◌, ◌++◌, cond, codes, decimal}
use Rattle.std.specs.List.{flat_map}

-- the text with one number for each K and the next one for each M
abbrev pub with_number : ℕ → List ℕ → List ℕ
with_number k = flat_map (λ c. cond (c == 75) (decimal k) (cond (c == 77) (decimal (suc k)) (c ∷ [])))

-- one type and one language
abbrev pub first_lines : List ℕ
first_lines = codes "type L[i : Int]{nil(0), cons(1)}\n" ++ codes "lang all : L { nil() | cons(y) given (all y) }\n"

-- for each number: the lists of multiples, a transformation that adds, one that keeps multiples, their composition, and four statements
abbrev pub lines_for : ℕ → List ℕ
lines_for k =
    with_number k (codes "lang mK : L { nil() | cons(y) where i % M = 0 given (mK y) }\n")
    ++ (with_number k (codes "trans tK : L -> L { nil() to (nil [0]) | cons(y) to (cons [(i + K) % M] (tK y)) }\n")
    ++ (with_number k (codes "trans fK : L -> L { nil() to (nil [0]) | cons(y) where i % M = 0 to (cons [i] (fK y)) | cons(y) where i % M != 0 to (fK y) }\n")
    ++ (with_number k (codes "def dK : L -> L := (compose tK fK)\n")
    ++ (with_number k (codes "assert-true (type-check all fK mK)\n")
    ++ (with_number k (codes "assert-true (type-check all dK mK)\n")
    ++ (with_number k (codes "assert-false (is-empty dK)\n")
    ++ with_number k (codes "assert-false mK == all\n")))))))

-- the lines for the numbers from 1 on, so many
abbrev pub lines_up_to : ℕ → List ℕ
lines_up_to zero = []
lines_up_to (suc n) = lines_up_to n ++ lines_for (suc n)

abbrev pub self_text : ℕ → List ℕ
self_text n = first_lines ++ lines_up_to n
