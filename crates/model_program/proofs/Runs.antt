-- Runs of characters of a class, and fronts of one text.
use Rattle.std.proofs.Common.{◌≡◌, ℕ, ◌≤◌, Bool, true, false, List, [], ◌∷◌, ◌++◌, length, refl, sym, ap, ◌∙◌, arith}
use Rattle.model_program.specs.Characters.{AllIn, LeavesOff}

-- fronts of one text that are as long are the same
pub same_front : (a b c d : List ℕ) → a ++ b ≡ c ++ d → length a ≡ length c → (a ≡ c) × (b ≡ d)
same_front [] b [] d same len = (refl, same)
same_front [] b (y ∷ c) d same len = absurd (omega arith)
same_front (x ∷ a) b [] d same len = absurd (omega arith)
same_front (x ∷ a) b (y ∷ c) d same len =
    let e : x ∷ (a ++ b) ≡ y ∷ (c ++ d) = same in let f : a ++ b ≡ c ++ d = cc in let g : length a ≡ length c = omega arith in
    let h = same_front a b c d f g in let i : x ≡ y = cc in (λ j. i j ∷ h.0 j, h.1)

-- what is all of a class goes no further than a run of it
pub run_longest : (class : ℕ → Bool) (run rest front behind : List ℕ) → AllIn class front → LeavesOff class rest → run ++ rest ≡ front ++ behind → length front ≤ length run
run_longest class run rest [] behind all ends same = omega arith
run_longest class [] [] (c ∷ front) behind all ends same = let e : [] ≡ c ∷ front ++ behind = same in cc
run_longest class [] (d ∷ rest) (c ∷ front) behind all ends same = let e : d ∷ rest ≡ c ∷ front ++ behind = same in let f : d ≡ c = cc in let g : true ≡ false = sym all.0 ∙ ap class (sym f) ∙ ends in absurd (cc)
run_longest class (d ∷ run) rest (c ∷ front) behind all ends same = let e : d ∷ (run ++ rest) ≡ c ∷ (front ++ behind) = same in let f : run ++ rest ≡ front ++ behind = cc in let shorter = run_longest class run rest front behind all.1 ends f in omega arith

-- the whole run at the front of a text is one
pub same_run : (class : ℕ → Bool) (run rest other more : List ℕ) → AllIn class run → LeavesOff class rest → AllIn class other → LeavesOff class more → run ++ rest ≡ other ++ more → (run ≡ other) × (rest ≡ more)
same_run class run rest other more all ends all2 ends2 same =
    let a = run_longest class run rest other more all2 ends same in let b = run_longest class other more run rest all ends2 (sym same) in
    same_front run rest other more same (let e : length run ≡ length other = omega arith in e)

-- the same front taken off one text leaves the same
pub same_behind : (front a b : List ℕ) → front ++ a ≡ front ++ b → a ≡ b
same_behind front a b same = (same_front front a front b same refl).1
