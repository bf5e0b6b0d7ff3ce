-- Facts on rows.
use Rattle.std.proofs.Common.{ℕ, zero, suc, Vec, ◌≡◌, ◌≤◌, ◌<◌, ◌+◌, ◌⊎◌, inl, inr, Bool, true, false, Contains, All, get_or, ◌++◌, arith, List, [], ◌∷◌, map, length, drop, take, refl, sym, ap, ap₂, ◌∙◌, drop_of_length-le}
use Rattle.std.proofs.lemmas.Simd.{map-map}
use Rattle.std.proofs.lemmas.List.{get_or-map, map-append, take_more}
use Rattle.model_sta.specs.Sets.{Row, Each, rows_meet}
use Rattle.model_tree.specs.Label.{Label}
use Rattle.model_sta.specs.Least.{rows_of, counts_of}
use Rattle.sta_classes.specs.Rows.{lists_of, found_of, founds, class_rows}
use Rattle.sta_classes.specs.declared.class.Class.{Class}

rows_meet_none : (qs : List Row) → rows_meet qs [] ≡ true
rows_meet_none [] = refl
rows_meet_none (q ∷ qs) = refl

-- where no demands are left
pub rows_meet_done : {X : Type 0} (f : X → List ℕ) (qs : List Row) (ds : List X) (i : ℕ) → length ds ≤ i → rows_meet qs (map f (drop i ds)) ≡ true
rows_meet_done f qs ds i h = ap (λ es. rows_meet qs (map f es)) (drop_of_length-le ds h) ∙ rows_meet_none qs

pub lists_push : {X A : Type 0} (vs : List (Vec X A)) (v : Vec X A) → lists_of (vs ++ v ∷ []) ≡ lists_of vs ++ v.items ∷ []
lists_push vs v = map-append (λ w. w.items) vs (v ∷ [])

pub list_at : {X A : Type 0} (vs : List (Vec X A)) (i : ℕ) (v : Vec X A) (w : List X) → i < length vs → v ≡ get_or vs i v → w ≡ v.items → w ≡ get_or (lists_of vs) i []
list_at vs i v w l at is = is ∙ ap (λ u. u.items) at ∙ sym (get_or-map (λ u. u.items) vs i v [] l)

pub each_all : {X : Type 0} (P : X → Type 0) (xs : List X) → Each P xs → All P xs
each_all P [] h k d l = absurd (omega arith)
each_all P (x ∷ xs) h zero d l = h.0
each_all P (x ∷ xs) h (suc k) d l = each_all P xs h.1 k d (omega arith)

pub all_each : {X : Type 0} (P : X → Type 0) (xs : List X) → All P xs → Each P xs
all_each P [] h = tt
all_each P (x ∷ xs) h = (h 0 x (omega arith), all_each P xs (λ k d l. h (suc k) d (omega arith)))

-- truth values are decided, and so are rows
pub same_bit : (a b : Bool) → (a ≡ b) ⊎ ¬ (a ≡ b)
same_bit true true = inl refl
same_bit true false = inr (λ e. cc)
same_bit false true = inr (λ e. cc)
same_bit false false = inl refl

pub same_or_not : (q r : Row) → (q ≡ r) ⊎ ¬ (q ≡ r)
same_or_not [] [] = inl refl
same_or_not [] (b ∷ r) = inr (λ e. cc)
same_or_not (a ∷ q) [] = inr (λ e. cc)
same_or_not (a ∷ q) (b ∷ r) = elim (same_bit a b) [
  | inl s ↦ elim (same_or_not q r) [ inl t ↦ inl (ap₂ (λ x y. x ∷ y) s t) | inr n ↦ inr (λ e. n cc) ]
  | inr n ↦ inr (λ e. n cc)
]

head_known : (x : Row) (known : List Row) (q : Row) → x ≡ q → Contains (x ∷ known) q
head_known x known q e = (0, omega arith, e)

tail_known : (x : Row) (known : List Row) (q : Row) → Contains known q → Contains (x ∷ known) q
tail_known x known q h = (suc h.0, omega (arith, h.1), h.2)

neither : (x : Row) (known : List Row) (q : Row) → ¬ (x ≡ q) → ¬ Contains known q → ¬ Contains (x ∷ known) q
neither x known q n m (zero, low, is) = n is
neither x known q n m (suc k, low, is) = m (k, omega arith, is)

pub known_or_new : (known : List Row) (q : Row) → Contains known q ⊎ ¬ Contains known q
known_or_new [] q = inr (λ h. let low : h.0 < 0 = h.1 in omega arith)
known_or_new (x ∷ known) q = elim (same_or_not x q) [
  | inl e ↦ inl (head_known x known q e)
  | inr n ↦ elim (known_or_new known q) [ inl h ↦ inl (tail_known x known q h) | inr m ↦ inr (neither x known q n m) ]
]

-- one more of a list that a loop goes over
pub map_more : {X Y : Type 0} (f : X → Y) (xs : List X) (i : ℕ) (x : X) (old new : List Y) (y : Y) → i < length xs → x ≡ get_or xs i x → new ≡ old ++ y ∷ [] → y ≡ f x → old ≡ map f (take i xs) → new ≡ map f (take (i + 1) xs)
map_more f xs i x old new y low at is e h =
    is ∙ ap₂ (λ a b. a ++ b ∷ []) h e ∙ sym (map-append f (take i xs) (x ∷ [])) ∙ ap (map f) (ap (λ z. take i xs ++ z ∷ []) at ∙ sym (take_more xs i x low))

-- the rows and the counts of classes over labels are those of the classes
pub rows_are : {V : Type 0} (label : V → Label) (cs : List (Class V)) → rows_of (founds label cs) ≡ class_rows cs
rows_are label cs = map-map (λ f. f.row) (found_of label) cs

pub counts_are : {V : Type 0} (label : V → Label) (cs : List (Class V)) → counts_of (founds label cs) ≡ map (λ c. c.nodes) cs
counts_are label cs = map-map (λ f. f.nodes) (found_of label) cs
