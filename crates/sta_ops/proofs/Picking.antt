-- Sets of keys that grow, and classes that are picked by them.
use Rattle.std.proofs.Common.{ℕ, zero, suc, ◌+◌, ◌≡◌, ◌<◌, ◌≤◌, ◌⊎◌, inl, inr, Bool, true, false, not, cond, if◌then◌else◌, List, [], ◌∷◌, ◌++◌, map, length, Contains, refl, sym, ap, subst, ◌∙◌, arith}
use Rattle.std.specs.List.{list_any}
use Rattle.std.proofs.lemmas.List.Elements.{Contains-append_left, Contains-push, Contains-push_cases}
use Rattle.indexmap.specs.IndexSet.{insert_key}
use Rattle.indexmap.proofs.CallerLemmas.{Contains-list_any}
use Rattle.model_sta.specs.Sets.{Row, has}
use Rattle.sta_classes.specs.Grow.{Grown}
use Rattle.sta_classes.proofs.Grown.{grown_push, grown_there}
use Rattle.sta_theory.proofs.Lists.{any_member, none_in}
use Rattle.sta_ops.specs.Opposites.{row_at, ArePicked}

-- a key more
pub grown_key : {K : Type 0} (eq : K → K → Bool) → ((x y : K) → eq x y ≡ true → x ≡ y) → (ks new : List K) (k : K) → new ≡ insert_key eq ks k → Grown ks new (λ p. k ≡ p)
grown_key eq same ks new k is = subst (λ l. Grown ks l (λ p. k ≡ p)) (sym is) (by (list_any (eq k) ks) refl)
  where
    by : (b : Bool) → list_any (eq k) ks ≡ b → Grown ks (if b then ks else ks ++ k ∷ []) (λ p. k ≡ p)
    by true e = grown_there ks k (Contains-list_any eq same ks k e)
    by false e = grown_push ks k

-- two lists of tests that agree do so at each element
pub map_agrees : {X Y : Type 0} (f g : X → Y) (xs : List X) → map f xs ≡ map g xs → (x : X) → Contains xs x → f x ≡ g x
map_agrees f g [] e x at = absurd (none_in x at)
map_agrees f g (y ∷ xs) e x (zero, low, is) = (let h : f y ≡ g y = cc in subst (λ z. f z ≡ g z) is h)
map_agrees f g (y ∷ xs) e x (suc k, low, is) = map_agrees f g xs (cc) x (k, omega arith, is)

-- of the first so many classes one is picked for each combination of these states, and the keys are those of the picked
pub record ArePickedBelow {K : Type 0} (rows : List Row) (states : List ℕ) (count : ℕ) (picked : List ℕ) (keys : List K) (view : K → Row) : Type 0 where
  pub low : (k : ℕ) → Contains picked k → k < count
  pub keyed : (key : K) → Contains keys key → (k : ℕ) × Contains picked k × (view key ≡ map (has (row_at rows k)) states)
  pub all : (u : ℕ) → u < count → (k : ℕ) × Contains picked k × (map (has (row_at rows k)) states ≡ map (has (row_at rows u)) states)

module _ {K : Type 0} (rows : List Row) (states : List ℕ) (view : K → Row) where
  pub none_picked : (count : ℕ) → count ≡ 0 → ArePickedBelow rows states count [] [] view
  none_picked count e = record { low = λ k at. absurd (none_in k at); keyed = λ key at. absurd (none_in key at); all = λ u low. absurd (omega (arith, low, e)) }

  module _ (count : ℕ) (picked : List ℕ) (keys : List K) (h : ArePickedBelow rows states count picked keys view) (value : K) (is : view value ≡ map (has (row_at rows count)) states) where
    -- a class more that has a combination which a picked one has
    pub same_picked : (eq : K → K → Bool) → ((x y : K) → eq x y ≡ true → view x ≡ view y) → list_any (eq value) keys ≡ true → ArePickedBelow rows states (count + 1) picked keys view
    same_picked eq same found =
        let (key, at_key, equal) = any_member (eq value) keys found in
        let (k, at_k, of_key) = h.keyed key at_key in
        record {
          low = λ j at. omega (arith, h.low j at);
          keyed = h.keyed;
          all = λ u low. elim (split u low) [
            | inl less ↦ h.all u less
            | inr last ↦ (k, at_k, sym of_key ∙ sym (same value key equal) ∙ is ∙ sym (ap (λ j. map (has (row_at rows j)) states) last))
          ];
        }
      where
        split : (u : ℕ) → u < count + 1 → (u < count) ⊎ (u ≡ count)
        split u low = cases u count (omega (arith, low))
          where
            cases : (m n : ℕ) → m < suc n → (m < n) ⊎ (m ≡ n)
            cases zero zero l = inr refl
            cases zero (suc n) l = inl (omega arith)
            cases (suc m) zero l = absurd (omega arith)
            cases (suc m) (suc n) l = elim (cases m n (omega arith)) [ inl h ↦ inl (omega arith) | inr e ↦ inr (ap suc e) ]

    -- and one that is picked
    pub new_picked : ArePickedBelow rows states (count + 1) (picked ++ count ∷ []) (keys ++ value ∷ []) view
    new_picked = record {
      low = λ k at. elim (Contains-push_cases picked count k at) [ inl old ↦ omega (arith, h.low k old) | inr e ↦ omega (arith, e) ];
      keyed = λ key at. elim (Contains-push_cases keys value key at) [
        | inl old ↦ (let (k, at_k, of_key) = h.keyed key old in (k, Contains-append_left picked (count ∷ []) k at_k, of_key))
        | inr e ↦ (count, Contains-push picked count, ap view (sym e) ∙ is)
      ];
      all = λ u low. elim (split u low) [
        | inl less ↦ (let (k, at_k, same) = h.all u less in (k, Contains-append_left picked (count ∷ []) k at_k, same))
        | inr last ↦ (count, Contains-push picked count, sym (ap (λ j. map (has (row_at rows j)) states) last))
      ];
    }
      where
        split : (u : ℕ) → u < count + 1 → (u < count) ⊎ (u ≡ count)
        split u low = cases u count (omega (arith, low))
          where
            cases : (m n : ℕ) → m < suc n → (m < n) ⊎ (m ≡ n)
            cases zero zero l = inr refl
            cases zero (suc n) l = inl (omega arith)
            cases (suc m) zero l = absurd (omega arith)
            cases (suc m) (suc n) l = elim (cases m n (omega arith)) [ inl h ↦ inl (omega arith) | inr e ↦ inr (ap suc e) ]

  -- by a set of the keys
  pub next_picked : (count : ℕ) (picked : List ℕ) (keys : List K) → ArePickedBelow rows states count picked keys view → (value : K) → view value ≡ map (has (row_at rows count)) states
      → (eq : K → K → Bool) → ((x y : K) → eq x y ≡ true → view x ≡ view y) → (new : Bool) (picked' : List ℕ) (keys' : List K) → new ≡ not (list_any (eq value) keys) → keys' ≡ insert_key eq keys value → picked' ≡ cond new (picked ++ count ∷ []) picked
      → ArePickedBelow rows states (count + 1) picked' keys' view
  next_picked count picked keys h value is eq same new picked' keys' added put noted = by (list_any (eq value) keys) refl
    where
      by : (b : Bool) → list_any (eq value) keys ≡ b → ArePickedBelow rows states (count + 1) picked' keys' view
      by true e =
          subst (λ p. ArePickedBelow rows states (count + 1) p keys' view) (sym (noted ∙ ap (λ b. cond b (picked ++ count ∷ []) picked) (added ∙ ap not e)))
          (subst (λ ks. ArePickedBelow rows states (count + 1) picked ks view) (sym (put ∙ ap (λ b. if b then keys else keys ++ value ∷ []) e)) (same_picked count picked keys h value is eq same e))
      by false e =
          subst (λ p. ArePickedBelow rows states (count + 1) p keys' view) (sym (noted ∙ ap (λ b. cond b (picked ++ count ∷ []) picked) (added ∙ ap not e)))
          (subst (λ ks. ArePickedBelow rows states (count + 1) (picked ++ count ∷ []) ks view) (sym (put ∙ ap (λ b. if b then keys else keys ++ value ∷ []) e)) (new_picked count picked keys h value is))

  -- the picked ones of all classes
  pub are_picked : (count : ℕ) (picked : List ℕ) (keys : List K) → length rows ≤ count → count ≤ length rows → ArePickedBelow rows states count picked keys view → ArePicked rows states picked
  are_picked count picked keys above below h = record {
    low = λ k at. omega (arith, h.low k at, below);
    all = λ u low. (let (k, at_k, same) = h.all u (omega (arith, low, above)) in (k, at_k, λ s at_s. map_agrees (has (row_at rows k)) (has (row_at rows u)) states same s at_s));
  }
