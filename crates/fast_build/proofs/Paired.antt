-- Lists that go together place by place.
use Rattle.std.proofs.Common.{◌≡◌, ℕ, zero, suc, ◌<◌, List, [], ◌∷◌, Option, Some, map, length, get_or, refl, ap, subst, arith}
use Rattle.std.specs.Prelude.{All, Contains}
use Rattle.std.proofs.lemmas.List.{get_or_default}
use Rattle.std.proofs.lemmas.List.Elements.{All-tail}
use Rattle.model_sta.specs.Pairwise.{Pairwise}
use Rattle.model_sta.specs.Sets.{Each}
use Rattle.sta_classes.proofs.Rows.{all_each}

-- what goes together of lists of lists goes together at each place
pub paired_at : {X Y : Type 0} (R : X → Y → Type 0) (xss : List (List X)) (yss : List (List Y)) (k : ℕ) → Pairwise (Pairwise R) xss yss → Pairwise R (get_or xss k []) (get_or yss k [])
paired_at R [] [] k are = tt
paired_at R [] (ys ∷ yss) k are = absurd are
paired_at R (xs ∷ xss) [] k are = absurd are
paired_at R (xs ∷ xss) (ys ∷ yss) zero are = are.0
paired_at R (xs ∷ xss) (ys ∷ yss) (suc k) are = paired_at R xss yss k are.1

pub paired_many : {X Y : Type 0} (R : X → Y → Type 0) (xs : List X) (ys : List Y) → Pairwise R xs ys → length xs ≡ length ys
paired_many R [] [] are = refl
paired_many R [] (y ∷ ys) are = absurd are
paired_many R (x ∷ xs) [] are = absurd are
paired_many R (x ∷ xs) (y ∷ ys) are = ap suc (paired_many R xs ys are.1)

-- with what each of the first ones goes
pub paired_with : {X Y : Type 0} (R : X → Y → Type 0) (xs : List X) (ys : List Y) (x : X) → Pairwise R xs ys → Contains xs x → (y : Y) × Contains ys y × R x y
paired_with R [] ys x are (k, low, is) = absurd (omega arith)
paired_with R (z ∷ xs) [] x are at = absurd are
paired_with R (z ∷ xs) (y ∷ ys) x are (zero, low, is) = (y, (zero, omega arith, refl), subst (λ w. R w y) is are.0)
paired_with R (z ∷ xs) (y ∷ ys) x are (suc k, low, is) =
    let w = paired_with R xs ys x are.1 (k, omega arith, is) in
    (w.0, (suc w.1.0, omega (arith, w.1.1), w.1.2), w.2)

pub paired_like : {X Y Z : Type 0} (R : X → Y → Type 0) (S : Z → Y → Type 0) (f : X → Z) (xs : List X) (ys : List Y) → ((x : X) (y : Y) → Contains ys y → R x y → S (f x) y) → Pairwise R xs ys → Pairwise S (map f xs) ys
paired_like R S f [] [] each are = tt
paired_like R S f [] (y ∷ ys) each are = absurd are
paired_like R S f (x ∷ xs) [] each are = absurd are
paired_like R S f (x ∷ xs) (y ∷ ys) each are = (each x y (zero, omega arith, refl) are.0, paired_like R S f xs ys (λ u v at. each u v (suc at.0, omega (arith, at.1), at.2)) are.1)

pub paired_weaker : {X Y : Type 0} (R S : X → Y → Type 0) → ((x : X) (y : Y) → R x y → S x y) → (xs : List X) (ys : List Y) → Pairwise R xs ys → Pairwise S xs ys
paired_weaker R S weaker [] [] are = tt
paired_weaker R S weaker [] (y ∷ ys) are = absurd are
paired_weaker R S weaker (x ∷ xs) [] are = absurd are
paired_weaker R S weaker (x ∷ xs) (y ∷ ys) are = (weaker x y are.0, paired_weaker R S weaker xs ys are.1)

-- what holds of each element holds at each place
pub each_all : {X : Type 0} (P : X → Type 0) (xs : List X) → ((x : X) → Contains xs x → P x) → All P xs
each_all P xs each k d low = each (get_or xs k d) (k, low, get_or_default xs k (get_or xs k d) d low)

pub each_each_all : {X : Type 0} (P : X → Type 0) (xss : List (List X)) → All (λ xs. All P xs) xss → Each (λ xs. Each P xs) xss
each_each_all P [] all = tt
each_each_all P (xs ∷ xss) all = (all_each P xs (all zero xs (omega arith)), each_each_all P xss (All-tail (λ ys. All P ys) xs xss all))

-- what holds of each element of each list
pub each_place : {X : Type 0} (P : X → Type 0) (xss : List (List X)) → ((k : ℕ) (x : X) → k < length xss → Contains (get_or xss k []) x → P x) → All (λ xs. All P xs) xss
each_place P xss each k d low = each_all P (get_or xss k d) (λ x at. each k x low (subst (λ xs. Contains xs x) (get_or_default xss k d [] low) at))

-- a place with an element is one of the places
pub place_low : {X : Type 0} (xss : List (List X)) (q : ℕ) (x : X) → Contains (get_or xss q []) x → q < length xss
place_low [] q x (k, low, is) = absurd (omega arith)
place_low (xs ∷ xss) zero x at = omega arith
place_low (xs ∷ xss) (suc q) x at = let below = place_low xss q x at in omega arith

-- what is found of names gives what it has
pub listed : {N D Y : Type 0} (find : N → Option D) (has : N → Y) (own : D → Y) (gives : (n : N) (d : D) → find n ≡ Some d → has n ≡ own d) (ns : List N) (ds : List D) → map find ns ≡ map (λ d. Some d) ds → map has ns ≡ map own ds
listed find has own gives [] [] e = refl
listed find has own gives [] (d ∷ ds) e = cc
listed find has own gives (n ∷ ns) [] e = cc
listed find has own gives (n ∷ ns) (d ∷ ds) e =
    let first : find n ≡ Some d = cc in
    let rest : map find ns ≡ map (λ x. Some x) ds = cc in
    λ i. gives n d first i ∷ listed find has own gives ns ds rest i
