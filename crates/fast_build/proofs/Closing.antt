-- Rounds in which what some names give is added to them, and each of them is found.
use Rattle.std.proofs.Common.{◌≡◌, ℕ, suc, ◌+◌, ◌<◌, ◌≤◌, true, List, [], ◌∷◌, ◌++◌, Option, Some, map, take, length, get_or, All, Contains, sym, ap, subst, ◌∙◌, add-one, arith}
use Rattle.std.specs.Prelude.{is_some}
use Rattle.std.specs.List.{IsDistinct}
use Rattle.std.specs.Cmp.{IsEquivalence}
use Rattle.std.proofs.lemmas.List.{length-append, length-map, map-append, take-append-le}
use Rattle.std.proofs.lemmas.List.Elements.{All-nil, All-cons, All-append, Contains-append_left, All-contains}
use Rattle.std.proofs.lemmas.Map.Made.{length-le_from_is_member}
use Rattle.std.proofs.Math.Seq.{take-suc}
use Rattle.model_grammar.specs.Syntax.{Item}
use Rattle.model_names.specs.Declared.{same_text, find_item}
use Rattle.fast_build.specs.Reached.{IsGrown}
use Rattle.fast_build.proofs.Declaring.{own_text, item_declared}
use Rattle.fast_build.proofs.Grown.{test_by_there, there_by_test}

-- the names of the old ones are names of the new ones
pub still_there : (old new more xs : List (List ℕ)) → IsGrown old new more → All (Contains old) xs → All (Contains new) xs
still_there old new more xs g all k d low = subst (λ ns. Contains ns (get_or xs k d)) (sym g.is) (Contains-append_left old g.added (get_or xs k d) (all k d low))

pub round_taken : (old new more : List (List ℕ)) (k : ℕ) (n : List ℕ) → k < length old → n ≡ get_or old k n → IsGrown old new more → take (k + 1) new ≡ take k old ++ n ∷ []
round_taken old new more k n low is g =
    ap (λ j. take j new) (add-one k) ∙ ap (take (suc k)) g.is ∙ take-append-le (suc k) old g.added (omega (arith, low)) ∙ take-suc old k n low ∙ ap (λ x. take k old ++ x ∷ []) (sym is)

-- what holds of the old ones, and of what is added, holds of the new ones
pub all_grown : (P : List ℕ → Type 0) (old new more : List (List ℕ)) → IsGrown old new more → All P old → ((n : List ℕ) → Contains more n → P n) → All P new
all_grown P old new more g all each = subst (All P) (sym g.is) (All-append P old g.added all (λ k d low. each (get_or g.added k d) (g.of_more k d low)))

module _ (G : List ℕ → List (List ℕ)) where
  -- what each of these gives is among the names
  abbrev pub IsClosedBy : List (List ℕ) → List (List ℕ) → Type 0
  IsClosedBy names these = All (λ n. All (Contains names) (G n)) these

  pub closed_more : (old new : List (List ℕ)) (k : ℕ) (n : List ℕ) → k < length old → n ≡ get_or old k n → IsClosedBy old (take k old) → IsGrown old new (G n) → IsClosedBy new (take (k + 1) new)
  closed_more old new k n low is closed g =
      subst (IsClosedBy new) (sym (round_taken old new (G n) k n low is g))
      (All-append (λ m. All (Contains new) (G m)) (take k old) (n ∷ []) (λ j d below. still_there old new (G n) (G (get_or (take k old) j d)) g (closed j d below))
      (All-cons (λ m. All (Contains new) (G m)) n [] g.all (All-nil (λ m. All (Contains new) (G m)))))

module _ {D X : Type 0} (find : List ℕ → Option D) (f : X → D) where
  pub found_more : (old new more : List (List ℕ)) (held after : List X) (n : List ℕ) (x : X) → length held < length old → n ≡ get_or old (length held) n → IsGrown old new more → after ≡ held ++ x ∷ [] → find n ≡ Some (f x)
      → map find (take (length held) old) ≡ map (λ y. Some (f y)) held → map find (take (length after) new) ≡ map (λ y. Some (f y)) after
  found_more old new more held after n x low is g grown found so_far =
      ap (λ j. map find (take j new)) (ap length grown ∙ length-append held (x ∷ []))
      ∙ ap (map find) (round_taken old new more (length held) n low is g)
      ∙ map-append find (take (length held) old) (n ∷ [])
      ∙ (λ i. so_far i ++ found i ∷ []) ∙ sym (ap (map (λ y. Some (f y))) grown ∙ map-append (λ y. Some (f y)) held (x ∷ []))

-- names that are declared are not more than the items
pub not_more_than_items : (items : List Item) (laws : IsEquivalence same_text) (names : List (List ℕ)) → All (λ n. is_some (find_item items n) ≡ true) names → IsDistinct same_text names → length names ≤ length items
not_more_than_items items laws names declared apart =
    subst (λ n. length names ≤ n) (length-map items own_text)
    (length-le_from_is_member laws names (map own_text items) apart (λ q h. test_by_there (map own_text items) q (item_declared items q (All-contains (λ n. is_some (find_item items n) ≡ true) names q declared (there_by_test names q h)))))
