-- Fields and values that are looked at one by one.
use Rattle.std.proofs.Common.{◌≡◌, ℕ, zero, suc, ◌+◌, ◌-◌, ◌<◌, ◌≤◌, Bool, true, false, cond, List, ◌∷◌, Option, Some, map, length, drop, get_or, refl, ap, sym, ◌∙◌, arith}
use Rattle.std.specs.List.{slice_get}
use Rattle.std.proofs.lemmas.List.{drop_more}
use denote.Enum.Bare.{sameb}
use Rattle.fast_tree.proofs.Printing.{drop_at}
use Rattle.fast_tree.specs.contracts.signature.Sort.{the_type}
use Rattle.fast_tree.specs.declared.signature.FieldOf.{FieldOf}
use Rattle.fast_tree.specs.declared.signature.Sort.{Sort}
use Rattle.fast_tree.specs.declared.signature.Sort.TheVariants.{Int, Bool as Truth, Text}
use Rattle.fast_tree.specs.Signatures.{plain_sort, plain_field}
use Rattle.model_label.specs.Fields.{same_name, same_sort, is_field_of, sort_at, has_field, number_at}
use Rattle.record_label.specs.Rows.{count_of}

same : (x y : Sort) → sameb the_type x y ≡ same_sort (plain_sort x) (plain_sort y)
same Int Int = refl
same Int Truth = refl
same Int Text = refl
same Truth Int = refl
same Truth Truth = refl
same Truth Text = refl
same Text Int = refl
same Text Truth = refl
same Text Text = refl

-- one more is counted, if it is one
one_more : (b c : Bool) (n m i rest at total : ℕ) → b ≡ c → m ≡ cond b (n + 1) n → at ≡ cond c (suc rest) rest → (n ≤ i) × (n + at ≡ total) → (m ≤ i + 1) × (m + rest ≡ total)
one_more true true n m i rest at total e now is h = let low = h.0 in let all = h.1 in (omega arith, omega arith)
one_more true false n m i rest at total e now is h = cc
one_more false true n m i rest at total e now is h = cc
one_more false false n m i rest at total e now is h = let low = h.0 in let all = h.1 in (omega arith, omega arith)

pub count_more : (ss : List Sort) (i : ℕ) (s : Sort) (b : Bool) (n m total : ℕ) → i < length ss → b ≡ sameb the_type (get_or ss i Int) s → m ≡ cond b (n + 1) n → (n ≤ i) × (n + count_of (plain_sort s) (map plain_sort (drop i ss)) ≡ total) → (m ≤ i + 1) × (m + count_of (plain_sort s) (map plain_sort (drop (i + 1) ss)) ≡ total)
count_more ss i s b n m total low is now = one_more b (same_sort (plain_sort (get_or ss i Int)) (plain_sort s)) n m i (count_of (plain_sort s) (map plain_sort (drop (i + 1) ss))) (count_of (plain_sort s) (map plain_sort (drop i ss))) total (is ∙ same (get_or ss i Int) s) now (ap (λ left. count_of (plain_sort s) (map plain_sort left)) (drop_more ss i Int low))

module _ (fs : List FieldOf) (i : ℕ) (f : FieldOf) (sort : Sort) (name : List ℕ) (low : i < length fs) (f_is : f ≡ get_or fs i f) where
  here : number_at (map plain_field (drop i fs)) (plain_sort sort) name ≡ cond (same_name f.name name) 0 (cond (same_sort (plain_sort f.sort) (plain_sort sort)) (suc (number_at (map plain_field (drop (i + 1) fs)) (plain_sort sort) name)) (number_at (map plain_field (drop (i + 1) fs)) (plain_sort sort) name))
  here = ap (λ left. number_at (map plain_field left) (plain_sort sort) name) (drop_at fs i f low f_is)

  pub number_here : (n total : ℕ) → true ≡ same_name f.name name → (n ≤ i) × (n + number_at (map plain_field (drop i fs)) (plain_sort sort) name ≡ total) → n ≡ total
  number_here n total is h =
      let rest = number_at (map plain_field (drop (i + 1) fs)) (plain_sort sort) name in
      let none : number_at (map plain_field (drop i fs)) (plain_sort sort) name ≡ 0 = here ∙ ap (λ b. cond b 0 (cond (same_sort (plain_sort f.sort) (plain_sort sort)) (suc rest) rest)) (sym is) in
      let all = h.1 in omega arith

  pub number_more : (b : Bool) (n m total : ℕ) → false ≡ same_name f.name name → b ≡ sameb the_type f.sort sort → m ≡ cond b (n + 1) n → (n ≤ i) × (n + number_at (map plain_field (drop i fs)) (plain_sort sort) name ≡ total) → (m ≤ i + 1) × (m + number_at (map plain_field (drop (i + 1) fs)) (plain_sort sort) name ≡ total)
  number_more b n m total other is now =
      let rest = number_at (map plain_field (drop (i + 1) fs)) (plain_sort sort) name in
      one_more b (same_sort (plain_sort f.sort) (plain_sort sort)) n m i rest (number_at (map plain_field (drop i fs)) (plain_sort sort) name) total (is ∙ same f.sort sort) now
      (here ∙ ap (λ b. cond b 0 (cond (same_sort (plain_sort f.sort) (plain_sort sort)) (suc rest) rest)) (sym other))

  has_here : (b : Bool) → b ≡ same_name f.name name → has_field (map plain_field (drop i fs)) (plain_sort sort) name ≡ is_field_of (plain_sort sort) (cond b (Some (plain_sort f.sort)) (sort_at (map plain_field (drop (i + 1) fs)) name))
  has_here b is = ap (λ left. has_field (map plain_field left) (plain_sort sort) name) (drop_at fs i f low f_is) ∙ ap (λ c. is_field_of (plain_sort sort) (cond c (Some (plain_sort f.sort)) (sort_at (map plain_field (drop (i + 1) fs)) name))) (sym is)

  pub has_this : (b all : Bool) → true ≡ same_name f.name name → b ≡ sameb the_type f.sort sort → has_field (map plain_field (drop i fs)) (plain_sort sort) name ≡ all → b ≡ all
  has_this b all named is before = is ∙ same f.sort sort ∙ sym (has_here true named) ∙ before

  pub has_other : (all : Bool) → false ≡ same_name f.name name → has_field (map plain_field (drop i fs)) (plain_sort sort) name ≡ all → has_field (map plain_field (drop (i + 1) fs)) (plain_sort sort) name ≡ all
  has_other all other before = sym (has_here false other) ∙ before

-- ---- what is of one kind among other things

module _ {W X : Type 0} (of_kind : List W → List X) (ws : List W) (i : ℕ) (w : W) (low : i < length ws) (is : w ≡ get_or ws i w) where
  pub one_there : (x : X) → ((rest : List W) → of_kind (w ∷ rest) ≡ x ∷ of_kind rest) → of_kind (drop i ws) ≡ x ∷ of_kind (drop (i + 1) ws)
  one_there x step = ap of_kind (drop_at ws i w low is) ∙ step (drop (i + 1) ws)

  pub none_there : ((rest : List W) → of_kind (w ∷ rest) ≡ of_kind rest) → of_kind (drop i ws) ≡ of_kind (drop (i + 1) ws)
  none_there step = ap of_kind (drop_at ws i w low is) ∙ step (drop (i + 1) ws)

pub past_one : {X : Type 0} (xs : List X) (x d : X) (k : ℕ) → (k ≡ 0 → ⊥) → get_or (x ∷ xs) k d ≡ get_or xs (k - 1) d
past_one xs x d zero some = absurd (some refl)
past_one xs x d (suc k) some = let one : suc k - 1 ≡ k = omega arith in ap (λ j. get_or xs j d) (sym one)

pub got_past : {X : Type 0} (xs : List X) (x : X) (k : ℕ) → (k ≡ 0 → ⊥) → slice_get (x ∷ xs) k ≡ slice_get xs (k - 1)
got_past xs x zero some = absurd (some refl)
got_past xs x (suc k) some = let one : suc k - 1 ≡ k = omega arith in ap (slice_get xs) (sym one)

-- going over things, of which those of one kind are sought by their number
module _ {W X : Type 0} (of_kind : List W → List X) (ws : List W) (i : ℕ) (w : W) (low : i < length ws) (is : w ≡ get_or ws i w) (k : ℕ) (all : Option X) (before : slice_get (of_kind (drop i ws)) k ≡ all) where
  pub sought_past : (x : X) (m : ℕ) → ((rest : List W) → of_kind (w ∷ rest) ≡ x ∷ of_kind rest) → (k ≡ 0 → ⊥) → m ≡ k - 1 → slice_get (of_kind (drop (i + 1) ws)) m ≡ all
  sought_past x m step later next = ap (slice_get (of_kind (drop (i + 1) ws))) next ∙ sym (got_past (of_kind (drop (i + 1) ws)) x k later) ∙ sym (ap (λ xs. slice_get xs k) (one_there of_kind ws i w low is x step)) ∙ before

  pub sought_other : (m : ℕ) → ((rest : List W) → of_kind (w ∷ rest) ≡ of_kind rest) → m ≡ k → slice_get (of_kind (drop (i + 1) ws)) m ≡ all
  sought_other m step next = ap (slice_get (of_kind (drop (i + 1) ws))) next ∙ sym (ap (λ xs. slice_get xs k) (none_there of_kind ws i w low is step)) ∙ before
