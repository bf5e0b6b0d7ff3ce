-- Elements of a list that a loop goes over.
use Rattle.std.proofs.Common.{◌≡◌, Bool, true, ◌&&◌, List, [], ◌∷◌, ◌++◌, map, take, length, get_or, drop, drop-cons, add-one, ℕ, ◌+◌, ◌<◌, suc, sym, ap, ap₂, ◌∙◌}
use Rattle.std.proofs.lemmas.List.{take_more, map-append}
use Rattle.std.specs.List.{list_all}

-- the tests of those that are left: the next one passes
pub all_next : {X : Type 0} (test : X → Bool) (xs : List X) (i : ℕ) (x : X) → i < length xs → x ≡ get_or xs i x → test x ≡ true → list_all test (drop i xs) ≡ list_all test (drop (i + 1) xs)
all_next test xs i x low is passes = rw add-one (ap (list_all test) (drop-cons xs i x low ∙ ap (λ y. y ∷ drop (suc i) xs) (sym is)) ∙ ap (λ b. b && list_all test (drop (suc i) xs)) passes)

-- what is made of those that were taken: one more is made of the next one
pub made_more : {X Y Z : Type 0} (p : X → Z) (q : Y → Z) (xs : List X) (i : ℕ) (x : X) → i < length xs → x ≡ get_or xs i x → (made new : List Y) (y : Y) → new ≡ made ++ y ∷ [] → map q made ≡ map p (take i xs) → q y ≡ p x → map q new ≡ map p (take (i + 1) xs)
made_more p q xs i x low is made new y pushed before same =
    ap (map q) pushed
    ∙ map-append q made (y ∷ [])
    ∙ ap₂ (λ zs z. zs ++ z ∷ []) before same
    ∙ sym (map-append p (take i xs) (x ∷ []))
    ∙ sym (ap (map p) (take_more xs i x low ∙ ap (λ z. take i xs ++ z ∷ []) (sym is)))
