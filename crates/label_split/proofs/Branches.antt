-- Which labels a search has still to look at.
use Rattle.std.proofs.Common.{◌≡◌, Bool, true, false, not, Option, Some, None, List, [], ◌∷◌, ◌++◌, length, ℕ, zero, suc, ◌+◌, ◌<◌, ◌≤◌, ◌⊎◌, inl, inr, refl, sym, ap, ◌∙◌, subst, All, Result, Ok, Err, IfOk, IfSome, MatchResult, replicate, rules, arith}
use Rattle.std.proofs.Math.ListN.{set}
use Rattle.std.proofs.lemmas.List.{map-append, length-set, length-replicate}
use Rattle.model_tree.specs.Label.{Label}
use Rattle.label_core.specs.Meaning.{Meaning, IsChainOver}
use Rattle.label_core.specs.Verdict.{Decides}
use Rattle.label_core.specs.declared.theory.Verdict.{Verdict}
use Rattle.label_core.specs.declared.theory.Verdict.TheVariants.{Sat, Unsat, Wide}
use Rattle.label_split.specs.Known.{known_at, truth_at, Agrees, Follows, Forces}
use Rattle.label_split.specs.Numbers.{truths_at}
use Rattle.label_split.specs.declared.known.Known.{Known}
use Rattle.label_split.specs.Search.{branch_lists, with_both_signs, Answers, Covers, IsFollowed, IsLeft, IsLooked, IsNearer, IsTaken, Looks, MayFollow}
use Rattle.label_split.specs.declared.search.Look.{Look}
use Rattle.label_split.specs.declared.search.Look.TheVariants.{Found, Closed, TooWide, Again, Turn}
use Rattle.label_split.specs.Weights.{count_open, open_weight, weight}
use Rattle.label_split.proofs.Forcing.{forces_one}
use Rattle.label_split.proofs.Weights.{weight_append, weight_falls, weight_falls_more, weight_pos, open_falls, open_falls_more, open_set}
use Rattle.std.proofs.lemmas.List.Elements.{All-nil, All-cons, All-append}

-- the branch at the end, and the others
pub covers_last : (xs : List (List (Option Bool))) (known : List (Option Bool)) (truths : List Bool) → Covers (xs ++ known ∷ []) truths → Follows known truths ⊎ Covers xs truths
covers_last [] known truths (inl f) = inl f
covers_last [] known truths (inr n) = absurd n
covers_last (x ∷ xs) known truths (inl f) = inr (inl f)
covers_last (x ∷ xs) known truths (inr c) = by (covers_last xs known truths c)
  where
    by : Follows known truths ⊎ Covers xs truths → Follows known truths ⊎ (Follows x truths ⊎ Covers xs truths)
    by (inl f) = inl f
    by (inr r) = inr (inr r)

pub covers_more : (xs : List (List (Option Bool))) (known : List (Option Bool)) (truths : List Bool) → Follows known truths ⊎ Covers xs truths → Covers (xs ++ known ∷ []) truths
covers_more [] known truths (inl f) = inl f
covers_more [] known truths (inr n) = absurd n
covers_more (x ∷ xs) known truths (inl f) = inr (covers_more xs known truths (inl f))
covers_more (x ∷ xs) known truths (inr (inl f)) = inl f
covers_more (x ∷ xs) known truths (inr (inr c)) = inr (covers_more xs known truths (inr c))

one_sign : (b s : Bool) → (b ≡ s) ⊎ (b ≡ not s)
one_sign true true = inl refl
one_sign true false = inr refl
one_sign false true = inr refl
one_sign false false = inl refl

-- an atom has one of the two signs
pub covers_two : (xs : List (List (Option Bool))) (known : List (Option Bool)) (k : ℕ) (s : Bool) (truths : List Bool) → k < length known → known_at known k ≡ None → Follows known truths ⊎ Covers xs truths
    → Covers ((xs ++ set known k (Some (not s)) ∷ []) ++ set known k (Some s) ∷ []) truths
covers_two xs known k s truths low unknown (inr c) = covers_more (xs ++ set known k (Some (not s)) ∷ []) (set known k (Some s)) truths (inr (covers_more xs (set known k (Some (not s))) truths (inr c)))
covers_two xs known k s truths low unknown (inl f) = by (one_sign (truth_at truths k) s)
  where
    with_sign : (b : Bool) → truth_at truths k ≡ b → Follows (set known k (Some b)) truths
    with_sign b e = (forces_one (λ ts. truth_at ts k ≡ b) known k b low unknown (λ ts e. e)).follow truths e f

    by : (truth_at truths k ≡ s) ⊎ (truth_at truths k ≡ not s) → Covers ((xs ++ set known k (Some (not s)) ∷ []) ++ set known k (Some s) ∷ []) truths
    by (inl e) = covers_more (xs ++ set known k (Some (not s)) ∷ []) (set known k (Some s)) truths (inl (with_sign s e))
    by (inr e) = covers_more (xs ++ set known k (Some (not s)) ∷ []) (set known k (Some s)) truths (inr (covers_more xs (set known k (Some (not s))) truths (inl (with_sign (not s) e))))

only_rest : {F R : Type 0} → ¬ F → F ⊎ R → R
only_rest n (inl f) = absurd (n f)
only_rest n (inr r) = r

module _ {A V W : Type 0} {label_of : V → Label} {holds : A → Label → Bool} (M : Meaning label_of holds W) (kept : (l : Label) → M.keeps l → M.has l) (atoms : List A) (asked : Label → Type 0) where
  -- the labels that are as asked are among others
  pub left_by : (left new : Label → Type 0) (w : Option W) → ((l : Label) → M.has l → asked l → left l → new l) → IsLeft M atoms asked w left → IsLeft M atoms asked w new
  left_by left new None to h = λ l m s. to l m s (h l m s)
  left_by left new (Some w) to h = (h.0, λ f. let both = h.1 f in (both.0, λ l k s. to l (kept l k) s (both.1 l k s)))

  -- a chain more
  pub left_wide : (left new : Label → Type 0) (first : Option W) (second w : W) → Answers M atoms asked left new (Wide second) → IsNearer M.is_far first second w → IsLeft M atoms asked first left → IsLeft M atoms asked (Some w) new
  left_wide left new None second w d is h = subst (λ x. IsLeft M atoms asked (Some x) new) (sym is)
      (d.0, λ f. let only = d.1 f in (only.0, λ l k s. only.1 l k s (h l (kept l k) s)))
  left_wide left new (Some first) second w d (inl (is, far)) h = subst (λ x. IsLeft M atoms asked (Some x) new) (sym is)
      (d.0, λ f. let only = d.1 f in (only.0, λ l k s. only.1 l k s ((h.1 far).1 l k s)))
  left_wide left new (Some first) second w d (inr (is, n)) h = subst (λ x. IsLeft M atoms asked (Some x) new) (sym is) (h.0, λ f. absurd (n f))

  -- no label is left
  pub none_left : (left : Label → Type 0) (w : Option W) → w ≡ None → ((l : Label) → ¬ left l) → IsLeft M atoms asked w left → Decides M asked (IsChainOver M atoms) Unsat
  none_left left None e nothing h = λ l has s. nothing l (h l has s)
  none_left left (Some w) e nothing h = cc

  pub wide_left : (left : Label → Type 0) (w : Option W) (chain : W) → w ≡ Some chain → ((l : Label) → ¬ left l) → IsLeft M atoms asked w left → Decides M asked (IsChainOver M atoms) (Wide chain)
  wide_left left None chain e nothing h = cc
  wide_left left (Some w) chain e nothing h = subst (λ x. IsLeft M atoms asked x left → Decides M asked (IsChainOver M atoms) (Wide chain)) (sym e) (λ k. (k.0, λ f. let only = k.1 f in (only.0, λ l kp s. nothing l (only.1 l kp s)))) h

-- ---- as lists of vectors

pub pushed : (old new : List Known) (v : Known) (x : List (Option Bool)) → new ≡ old ++ v ∷ [] → v.signs.items ≡ x → branch_lists new ≡ branch_lists old ++ x ∷ []
pushed old new v x e is = ap branch_lists e ∙ map-append (λ known. known.signs.items) old (v ∷ []) ∙ ap (λ y. branch_lists old ++ y ∷ []) is

pub pushed_two : (old mid new : List Known) (v w : Known) (x y : List (Option Bool)) → mid ≡ old ++ v ∷ [] → new ≡ mid ++ w ∷ [] → v.signs.items ≡ x → w.signs.items ≡ y → branch_lists new ≡ (branch_lists old ++ x ∷ []) ++ y ∷ []
pushed_two old mid new v w x y d e is at = pushed mid new w y e at ∙ ap (λ xs. xs ++ y ∷ []) (pushed old mid v x d is)

-- of the branches so many atoms
many_last : (n : ℕ) (xs : List (List (Option Bool))) (x : List (Option Bool)) → All (λ k. length k ≡ n) (xs ++ x ∷ []) → All (λ k. length k ≡ n) xs × (length x ≡ n)
many_last n [] x h = (All-nil (λ k. length k ≡ n), h 0 x (omega arith))
many_last n (y ∷ ys) x h =
    let rest = many_last n ys x (λ k d b. h (suc k) d (omega (arith, b))) in
    (All-cons (λ k. length k ≡ n) y ys (h 0 y (omega arith)) rest.0, rest.1)

pub last_many : (n : ℕ) (all rest : List Known) (one : Known) → all ≡ rest ++ one ∷ [] → All (λ k. length k ≡ n) (branch_lists all) → length one.signs.items ≡ n
last_many n all rest one e many = (many_last n (branch_lists rest) one.signs.items (subst (All (λ k. length k ≡ n)) (pushed rest all one one.signs.items e refl) many)).1

pub many_more : (n : ℕ) (xs : List (List (Option Bool))) (x : List (Option Bool)) → All (λ k. length k ≡ n) xs → length x ≡ n → All (λ k. length k ≡ n) (xs ++ x ∷ [])
many_more n xs x h e = All-append (λ k. length k ≡ n) xs (x ∷ []) h (All-cons (λ k. length k ≡ n) x [] e (All-nil (λ k. length k ≡ n)))

pub two_weight : (xs : List (List (Option Bool))) (known : List (Option Bool)) (k : ℕ) (s : Bool) → k < length known → known_at known k ≡ None → weight ((xs ++ set known k (Some (not s)) ∷ []) ++ set known k (Some s) ∷ []) < weight xs + open_weight known
two_weight xs known k s low unknown =
    let one = weight_append (xs ++ set known k (Some (not s)) ∷ []) (set known k (Some s)) in
    let other = weight_append xs (set known k (Some (not s))) in
    let first : count_open (set known k (Some s)) < count_open known = omega (arith, open_set known k s low unknown) in
    let second : count_open (set known k (Some (not s))) < count_open known = omega (arith, open_set known k (not s) low unknown) in
    let p = weight_falls_more known (set known k (Some s)) first in
    let q = weight_falls_more known (set known k (Some (not s))) second in
    let r = weight_pos known in
    omega arith

-- a branch that was looked at
pub looked_weight : (xs : List (List (Option Bool))) (known : List (Option Bool)) (all : List (List (Option Bool))) → all ≡ xs ++ known ∷ [] → weight all ≡ weight xs + open_weight known
looked_weight xs known all e = ap weight e ∙ weight_append xs known

module _ (P : List Bool → Type 0) (xs : List (List (Option Bool))) (old new : List (Option Bool)) (f : Forces P old new) where
  pub same_or_less : open_weight new ≤ open_weight old
  same_or_less = weight_falls old new (open_falls old new f.many f.grown)

  pub again_less : (k : ℕ) → known_at old k ≡ None → (known_at new k ≡ None → ⊥) → weight (xs ++ new ∷ []) < weight xs + open_weight old
  again_less k was now =
      let e = weight_append xs new in
      let l = weight_falls_more old new (open_falls_more old new k f.many f.grown was now) in
      let r = weight_pos new in
      omega arith

  pub none_less : weight xs < weight xs + open_weight old
  none_less = let r = weight_pos old in omega arith

  -- the labels that are asked for are still covered
  pub covers_again : (all : List (List (Option Bool))) → all ≡ xs ++ old ∷ [] → (truths : List Bool) → P truths → Covers all truths → Follows new truths ⊎ Covers xs truths
  covers_again all e truths p c = by (covers_last xs old truths (subst (λ ys. Covers ys truths) e c))
    where
      by : Follows old truths ⊎ Covers xs truths → Follows new truths ⊎ Covers xs truths
      by (inl h) = inl (f.follow truths p h)
      by (inr h) = inr h

pub rest_covers : (known : List (Option Bool)) (xs : List (List (Option Bool))) (truths : List Bool) → ¬ Follows known truths → Follows known truths ⊎ Covers xs truths → Covers xs truths
rest_covers known xs truths n c = only_rest n c

-- what is left of branches of which the last one is taken, and looked at
module _ {A V W : Type 0} {label_of : V → Label} {holds : A → Label → Bool} (M : Meaning label_of holds W) (atoms : List A) (P : List Bool → Type 0) where
  abbrev At : Label → Type 0
  At l = P (truths_at holds atoms l)

  pub may_follow : (old known : List (Option Bool)) (look : Look V W) → IsLooked M atoms P old known look → MayFollow known look
  may_follow old known (Found v) h = tt
  may_follow old known Closed h = tt
  may_follow old known (TooWide w) h = tt
  may_follow old known (Again n a) h = tt
  may_follow old known (Turn n a s) h = h.looks.0

  module _ (all xs : List (List (Option Bool))) (old known : List (Option Bool)) (e : all ≡ xs ++ old ∷ []) (many : All (λ k. length k ≡ length atoms) all) (f : Forces P old known) where
    was : weight all ≡ weight xs + open_weight old
    was = looked_weight xs old all e

    apart : All (λ k. length k ≡ length atoms) xs × (length old ≡ length atoms)
    apart = many_last (length atoms) xs old (subst (All (λ k. length k ≡ length atoms)) e many)

    known_many : length known ≡ length atoms
    known_many = f.many ∙ apart.1

    again : (l : Label) → At l → Covers all (truths_at holds atoms l) → Follows known (truths_at holds atoms l) ⊎ Covers xs (truths_at holds atoms l)
    again l = covers_again P xs old known f all e (truths_at holds atoms l)

    none_more : weight xs < weight all
    none_more = let less = none_less P xs old known f in let before = was in omega arith

    taken_found : (v : V) → Looks M atoms At old known (Found v) → IsTaken M atoms At all xs (Sat v)
    taken_found v h = record { less = none_more; many = apart.0; answers = h }

    taken_closed : Looks M atoms At old known Closed → IsTaken M atoms At all xs Unsat
    taken_closed h = record { less = none_more; many = apart.0; answers = λ l has s c. rest_covers known xs (truths_at holds atoms l) (λ follows. h l has follows s) (again l s c) }

    taken_wide : (w : W) → Looks M atoms At old known (TooWide w) → IsTaken M atoms At all xs (Wide w)
    taken_wide w h = record {
      less = none_more;
      many = apart.0;
      answers = (h.0, λ far. let only = h.1 far in ((only.0.0, only.0.1, only.0.2.1), λ l k s c. rest_covers known xs (truths_at holds atoms l) (λ follows. only.1 l k (follows, s)) (again l s c)));
    }

    taken_again : (n k : ℕ) → Looks M atoms At old known (Again n k) → IsTaken M atoms At all (xs ++ known ∷ []) Unsat
    taken_again n k h = record {
      less = let less = again_less P xs old known f k h.0 h.1 in let before = was in omega arith;
      many = many_more (length atoms) xs known apart.0 known_many;
      answers = λ l has s c. covers_more xs known (truths_at holds atoms l) (again l s c);
    }

    taken_turn : (n k : ℕ) (sign : Bool) → Looks M atoms At old known (Turn n k sign) → IsTaken M atoms At all (with_both_signs xs known k sign) Unsat
    taken_turn n k sign h = record {
      less = let less = two_weight xs known k sign h.0 h.1 in let down = same_or_less P xs old known f in let before = was in omega arith;
      many = many_more (length atoms) (xs ++ set known k (Some (not sign)) ∷ []) (set known k (Some sign)) (many_more (length atoms) xs (set known k (Some (not sign))) apart.0 (length-set known k (Some (not sign)) ∙ known_many)) (length-set known k (Some sign) ∙ known_many);
      answers = λ l has s c. covers_two xs known k sign (truths_at holds atoms l) h.0 h.1 (again l s c);
    }

    same_taken : (new same : List (List (Option Bool))) (verdict is : Verdict V W) → (verdict ≡ is) × (new ≡ same) → IsTaken M atoms At all same is → IsTaken M atoms At all new verdict
    same_taken new same verdict is (v, s) h = subst (λ x. IsTaken M atoms At all x verdict) (sym s) (subst (IsTaken M atoms At all same) (sym v) h)

    pub taken : (new : List (List (Option Bool))) (look : Look V W) → Looks M atoms At old known look → (verdict : Verdict V W) → IsFollowed known xs new look verdict → IsTaken M atoms At all new verdict
    taken new (Found v) h verdict is = same_taken new xs verdict (Sat v) is (taken_found v h)
    taken new Closed h verdict is = same_taken new xs verdict Unsat is (taken_closed h)
    taken new (TooWide w) h verdict is = same_taken new xs verdict (Wide w) is (taken_wide w h)
    taken new (Again n k) h verdict is = same_taken new (xs ++ known ∷ []) verdict Unsat is (taken_again n k h)
    taken new (Turn n k sign) h verdict is = same_taken new (with_both_signs xs known k sign) verdict Unsat is (taken_turn n k sign h)

  -- the same in lists of branches, where a look may have failed
  pub turned : {E : Type 0} (all rest : List Known) (one : Known) (known : List (Option Bool)) → all ≡ rest ++ one ∷ [] → All (λ k. length k ≡ length atoms) (branch_lists all)
      → (look : Result (Look V W) E) → IfOk look (IsLooked M atoms P one.signs.items known) → (new : List Known) (verdict : Verdict V W)
      → MatchResult look (λ found. IsFollowed known (branch_lists rest) (branch_lists new) found verdict) (λ _. ⊥) → IsTaken M atoms At (branch_lists all) (branch_lists new) verdict
  turned all rest one known e many (Err stop) h new verdict is = absurd is
  turned all rest one known e many (Ok found) h new verdict is = taken (branch_lists all) (branch_lists rest) one.signs.items known (pushed rest all one one.signs.items e refl) many h.forces (branch_lists new) found h.looks verdict is

-- what a search has left after such a turn
module _ {A V W : Type 0} {label_of : V → Label} {holds : A → Label → Bool} (M : Meaning label_of holds W) (kept : (l : Label) → M.keeps l → M.has l) (atoms : List A) (P : List Bool → Type 0) where
  abbrev Asked : Label → Type 0
  Asked l = P (truths_at holds atoms l)

  abbrev Among : List (List (Option Bool)) → Label → Type 0
  Among lists l = Covers lists (truths_at holds atoms l)

  pub left_same : (old new : List (List (Option Bool))) (w : Option W) (verdict : Verdict V W) → verdict ≡ Unsat → IsTaken M atoms Asked old new verdict → IsLeft M atoms Asked w (Among old) → IsLeft M atoms Asked w (Among new)
  left_same old new w verdict is taken h = left_by M kept atoms Asked (Among old) (Among new) w (subst (Answers M atoms Asked (Among old) (Among new)) is taken.answers) h

  pub left_nearer : (old new : List (List (Option Bool))) (first : Option W) (second w : W) (verdict : Verdict V W) → verdict ≡ Wide second → IsTaken M atoms Asked old new verdict → IsNearer M.is_far first second w → IsLeft M atoms Asked first (Among old) → IsLeft M atoms Asked (Some w) (Among new)
  left_nearer old new first second w verdict is taken near h = left_wide M kept atoms Asked (Among old) (Among new) first second w (subst (Answers M atoms Asked (Among old) (Among new)) is taken.answers) near h

  pub left_found : (old new : List (List (Option Bool))) (v : V) (verdict : Verdict V W) → verdict ≡ Sat v → IsTaken M atoms Asked old new verdict → Decides M Asked (IsChainOver M atoms) (Sat v)
  left_found old new v verdict is taken = subst (Answers M atoms Asked (Among old) (Among new)) is taken.answers

  pub passes_left : (w : Option W) (left : Label → Type 0) → IsLeft M atoms Asked w left → IfSome w M.passes
  passes_left None left h = tt
  passes_left (Some w) left h = h.0.1

-- a look that was made
module _ {V W E : Type 0} (known : List (Option Bool)) (old new : List (List (Option Bool))) (look : Result (Look V W) E) (found is : Look V W) (was : look ≡ Ok found) (same : found ≡ is) where
  pub followed : (verdict : Verdict V W) → IsFollowed known old new is verdict → MatchResult look (λ one. IsFollowed known old new one verdict) (λ _. ⊥)
  followed verdict h = subst (λ r. MatchResult r (λ one. IsFollowed known old new one verdict) (λ _. ⊥)) (sym was) (subst (λ one. IsFollowed known old new one verdict) (sym same) h)

  pub may_be_followed : IfOk look (MayFollow known) → MayFollow known is
  may_be_followed h = let at_ok : MayFollow known found = subst (λ r. IfOk r (MayFollow known)) was h in subst (MayFollow known) same at_ok

-- ---- before the first turn, and after the last

unknown_all : (n i : ℕ) → known_at (replicate n None) i ≡ None
unknown_all zero i = search rules
unknown_all (suc n) zero = search rules
unknown_all (suc n) (suc i) = unknown_all n i

pub covers_all : (n : ℕ) (lists : List (List (Option Bool))) → lists ≡ replicate n None ∷ [] → (truths : List Bool) → Covers lists truths
covers_all n lists e truths = subst (λ xs. Covers xs truths) (sym e) (inl (λ i. subst (λ o. Agrees o (truth_at truths i)) (sym (unknown_all n i)) tt))

pub many_in_one : (n : ℕ) (lists : List (List (Option Bool))) → lists ≡ replicate n None ∷ [] → All (λ k. length k ≡ n) lists
many_in_one n lists e = subst (All (λ k. length k ≡ n)) (sym e) (All-cons (λ k. length k ≡ n) (replicate n None) [] (length-replicate n None) (All-nil (λ k. length k ≡ n)))

pub no_branch : (branches : List Known) → length branches ≡ 0 → (truths : List Bool) → ¬ Covers (branch_lists branches) truths
no_branch [] e truths = λ h. h
no_branch (x ∷ branches) e truths = absurd (omega arith)
