-- Demands and choices, place by place.
use Rattle.std.proofs.Common.{ℕ, suc, ◌+◌, ◌≡◌, ◌<◌, ◌↔◌, ◌==◌, ◌&&◌, inl, inr, Vec, Bool, true, false, cond, nat_lt, List, [], ◌∷◌, ◌++◌, take, get_or, length, Contains, refl, sym, ap, subst, ◌∙◌, arith}
use Rattle.std.proofs.lemmas.Bool.{cases_lt}
use Rattle.std.proofs.lemmas.Bool.Decides.{nat_tests}
use Rattle.std.proofs.lemmas.List.{length-take-le, take_more}
use Rattle.std.proofs.lemmas.List.Elements.{Contains-append_left, Contains-push, Contains-push_cases}
use Rattle.sta_classes.specs.Plain.{PlainTable, kind_count}
use Rattle.sta_classes.specs.Rows.{lists_of}
use Rattle.sta_theory.specs.Built.{keys}
use Rattle.sta_theory.proofs.Lists.{none_in}
use Rattle.sta_min.specs.Demands.{is_free, AreFreePlaces, AreChoices}
use Rattle.sta_min.proofs.Made.{AreMade, made_more, lists_made}

below : (n m : ℕ) → n < m → nat_lt n m ≡ true
below n m low = grind (arith, nat_tests)

pub free_more : {A V : Type 0} (t : PlainTable A V) (c n : ℕ) (free more : List Bool) (b : Bool) → AreFreePlaces t c n free → n < get_or t.machine.ranks c 0 → b ≡ (kind_count t c n == 1) → more ≡ free ++ b ∷ [] → AreFreePlaces t c (n + 1) more
free_more t c n free more b are low is put =
    let here : b ≡ is_free t c n = is ∙ sym (ap (λ x. x && (kind_count t c n == 1)) (below n (get_or t.machine.ranks c 0) low)) in
    let made : AreMade false (λ j x. x ≡ is_free t c j) (n + 1) more = made_more false (λ j x. x ≡ is_free t c j) n free more b (record { many = are.many; each = are.each }) here put in
    record { many = made.many; each = made.each }

pub keys_push : (free : ℕ → Bool) (ks : List ℕ) (k : ℕ) → keys free (ks ++ k ∷ []) ≡ keys free ks ++ cond (free (length ks)) [] (k ∷ []) ∷ []
keys_push free [] k = refl
keys_push free (x ∷ ks) k = ap (λ l. cond (free 0) [] (x ∷ []) ∷ l) (keys_push (λ j. free (suc j)) ks k)

pub numbers_none : (made : List ℕ) → made ≡ [] → (k : ℕ) → Contains made k ↔ (k < 0)
numbers_none made is k = ((λ at. absurd (none_in k (subst (λ l. Contains l k) is at))), (λ low. absurd (omega (arith, low))))

pub numbers_more : (n : ℕ) (made more : List ℕ) → ((k : ℕ) → Contains made k ↔ (k < n)) → more ≡ made ++ n ∷ [] → (k : ℕ) → Contains more k ↔ (k < n + 1)
numbers_more n made more are put k =
    subst (λ l. Contains l k ↔ (k < n + 1)) (sym put) (
      (λ at. elim (Contains-push_cases made n k at) [ inl old ↦ (let low : k < n = (are k).0 old in omega arith) | inr e ↦ omega (arith, e) ]),
      (λ low. elim (cases_lt k n) [ inl before ↦ Contains-append_left made (n ∷ []) k ((are k).1 before) | inr after ↦ (let last : n ≡ k = omega (arith, low, after) in subst (Contains (made ++ n ∷ [])) last (Contains-push made n)) ]),
    )

pub choices_more : {G : Type 0} (free : ℕ → Bool) (count n : ℕ) (old new : List (Vec ℕ G)) (v : Vec ℕ G) → AreChoices free count n (lists_of old) → ((k : ℕ) → Contains v.items k ↔ (k < cond (free n) 1 count)) → new ≡ old ++ v ∷ [] → AreChoices free count (n + 1) (lists_of new)
choices_more free count n old new v are here put =
    let P : ℕ → List ℕ → Type 0 = λ j l. (k : ℕ) → Contains l k ↔ (k < cond (free j) 1 count) in
    let made : AreMade [] P (n + 1) (lists_of new) = lists_made P n old new v (record { many = are.many; each = are.each }) here put in
    record { many = made.many; each = made.each }

-- the demands, one child more
pub keys_next : (free : ℕ → Bool) (blocks : List ℕ) (j : ℕ) → j < length blocks → (old new : List (List ℕ)) (those : List ℕ) → old ≡ keys free (take j blocks) → new ≡ old ++ those ∷ [] → (b : Bool) → free j ≡ b → those ≡ cond b [] (get_or blocks j 0 ∷ []) → new ≡ keys free (take (j + 1) blocks)
keys_next free blocks j low old new those so_far put b is are =
    let long : length (take j blocks) ≡ j = length-take-le j blocks (omega (arith, low)) in
    put ∙ ap (λ l. l ++ those ∷ []) so_far ∙ ap (λ x. keys free (take j blocks) ++ x ∷ []) (are ∙ ap (λ t. cond t [] (get_or blocks j 0 ∷ [])) (sym is ∙ ap free (sym long)))
    ∙ sym (ap (keys free) (take_more blocks j 0 low) ∙ keys_push free (take j blocks) (get_or blocks j 0))
