-- Constructors that are numbered one after another.
use Rattle.std.proofs.Common.{◌≡◌, ℕ, suc, ◌+◌, ◌<◌, ◌≤◌, Bool, true, false, cond, List, [], ◌∷◌, ◌++◌, length, map, take, get_or, Option, Some, None, refl, sym, ap, ap₂, ◌∙◌, arith}
use Rattle.std.specs.Option.{option_map}
use Rattle.std.proofs.lemmas.List.{take_all, take_more, length-take-le}
use Rattle.model_tree.specs.Signature.{PlainConstructor}
use Rattle.model_names.specs.Declared.{same_text}
use Rattle.model_meaning.specs.Outputs.{number_named}
use Rattle.fast_tree.specs.declared.signature.CtorOf.{CtorOf}
use Rattle.fast_tree.specs.Signatures.{plain_constructor}
use Rattle.tree_files.specs.declared.types.Numbers.{Numbers}
use Rattle.tree_files.specs.Types.{or_else, Adds, AreNumbered}

moved : (a : Option ℕ) (b : Bool) (n : ℕ) → option_map (λ k. suc k) (or_else a (cond b (Some n) None)) ≡ or_else (option_map (λ k. suc k) a) (cond b (Some (suc n)) None)
moved None true n = refl
moved None false n = refl
moved (Some k) b n = refl

-- one more name behind
number_behind : (names : List (List ℕ)) (x name : List ℕ) → number_named (names ++ x ∷ []) name ≡ or_else (number_named names name) (cond (same_text x name) (Some (length names)) None)
number_behind [] x name = refl
number_behind (n ∷ names) x name = by (same_text n name) (ap (option_map (λ k. suc k)) (number_behind names x name) ∙ moved (number_named names name) (same_text x name) (length names))
  where
    by : (b : Bool) → option_map (λ k. suc k) (number_named (names ++ x ∷ []) name) ≡ or_else (option_map (λ k. suc k) (number_named names name)) (cond (same_text x name) (Some (suc (length names))) None)
        → cond b (Some 0) (option_map (λ k. suc k) (number_named (names ++ x ∷ []) name)) ≡ or_else (cond b (Some 0) (option_map (λ k. suc k) (number_named names name))) (cond (same_text x name) (Some (suc (length names))) None)
    by true later = refl
    by false later = later

abbrev names : List CtorOf → List (List ℕ)
names cs = map (λ (c : PlainConstructor). c.name) (map plain_constructor cs)

names_behind : (cs : List CtorOf) (c : CtorOf) → names (cs ++ c ∷ []) ≡ names cs ++ c.name ∷ []
names_behind [] c = refl
names_behind (x ∷ cs) c = ap (λ l. x.name ∷ l) (names_behind cs c)

length_names : (cs : List CtorOf) → length (names cs) ≡ length cs
length_names [] = refl
length_names (c ∷ cs) = ap suc (length_names cs)

pub numbered_more : (cs : List CtorOf) (i : ℕ) (c : CtorOf) (old new : Numbers) → i < length cs → c ≡ get_or cs i c → Adds old new c.name i → AreNumbered (map plain_constructor (take i cs)) old → AreNumbered (map plain_constructor (take (i + 1) cs)) new
numbered_more cs i c old new low is adds so_far name =
    let n : length (names (take i cs)) ≡ i = length_names (take i cs) ∙ length-take-le i cs (omega (arith, low)) in
    let taken : take (i + 1) cs ≡ take i cs ++ c ∷ [] = take_more cs i c low ∙ ap (λ x. take i cs ++ x ∷ []) (sym is) in
    adds.same name ∙ ap₂ (λ o k. or_else o (cond (same_text c.name name) (Some k) None)) (so_far name) (sym n)
    ∙ sym (number_behind (names (take i cs)) c.name name) ∙ ap (λ ns. number_named ns name) (sym (names_behind (take i cs) c)) ∙ ap (λ xs. number_named (names xs) name) (sym taken)

pub numbered_all : (cs : List CtorOf) (i : ℕ) (numbers : Numbers) → length cs ≤ i → AreNumbered (map plain_constructor (take i cs)) numbers → AreNumbered (map plain_constructor cs) numbers
numbered_all cs i numbers end so_far name = so_far name ∙ ap (λ xs. number_named (names xs) name) (take_all i cs end)
